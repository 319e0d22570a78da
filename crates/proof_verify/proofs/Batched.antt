-- Places that are evaluated side by side, and how far the sweep is then.
use Rattle.std.proofs.Common.{◌≡◌, ℕ, ◌+◌, ◌-◌, ◌<◌, ◌≤◌, min, true, List, [], ◌++◌, None, length, map, take, drop}
use Rattle.std.proofs.Common.{refl, sym, ap, ap₂, ◌∙◌, subst, ⊎_elim, arith}
use Rattle.std.specs.Prelude.{count_by, cond, take_while}
use Rattle.std.specs.List.{prefix_len}
use Rattle.std.proofs.Math.Seq.{take-add}
use Rattle.std.proofs.lemmas.Bool.{cases_lt, and_parts, and_from, ltb-true, lt-ltb, false≢true}
use Rattle.std.proofs.lemmas.List.{length-take, length-take-le, length-drop, length-map, length-append, take-take, take_min}
use Rattle.std.proofs.lemmas.List.{get_or-take, get_or-drop, get_or_append_left, get_or-append_right, get_or-map}
use Rattle.std.proofs.lemmas.List.Sums.{prefix_len-le-length, prefix_len_passes, prefix_len_stops, sum_by-append}
use Rattle.std.proofs.lemmas.List.Folds.{length-prefix_len}
use Rattle.uo_digest.specs.declared.digest.Digest.{Digest}
use Rattle.proof_verify.specs.PlaceSources.{source_at}
use Rattle.proof_verify.specs.PlaceNodes.{join_nodes, node_at, half_node, node_from, IsHalfWithin, IsWithin, CanEvaluate, is_inner, AreEvaluated}
use Rattle.proof_verify.specs.Batches.{is_half_below, is_below, batch_at, AreWithin}
use Rattle.proof_verify.specs.declared.place_node.PlaceNode.{PlaceNode}
use Rattle.proof_verify.specs.declared.place_source.Half.{Half}
use Rattle.proof_verify.specs.declared.place_source.Half.TheVariants.{Covered, Needed}
use Rattle.proof_verify.specs.declared.place_source.PlaceSource.{PlaceSource}
use Rattle.proof_verify.specs.declared.place_source.PlaceSource.TheVariants.{Target, Halves}

pub first_taken : (os : List PlaceSource) (k : ℕ) → k ≡ min 8 (length os) → take k os ≡ take 8 os
first_taken os k e = ap (λ n. take n os) e ∙ take_min 8 os

module _ (leaves hashes m : ℕ) where
  half_below : (x : Half) → IsHalfWithin m hashes x → is_half_below m x ≡ true
  half_below (Covered k) w = lt-ltb k m w
  half_below (Needed j) w = refl

  below_from : (o : PlaceSource) → IsWithin m leaves hashes o → is_below m o ≡ true
  below_from (Target i) w = refl
  below_from (Halves x y) w = and_from (is_half_below m x) (is_half_below m y) (half_below x w.0) (half_below y w.1)

  half_within : (k : ℕ) (x : Half) → is_half_below m x ≡ true → IsHalfWithin k hashes x → IsHalfWithin m hashes x
  half_within k (Covered j) e w = ltb-true j m e
  half_within k (Needed j) e w = w

  within_from : (k : ℕ) (o : PlaceSource) → is_below m o ≡ true → IsWithin k leaves hashes o → IsWithin m leaves hashes o
  within_from k (Target i) e w = w
  within_from k (Halves x y) e w =
      let both = and_parts (is_half_below m x) (is_half_below m y) e in
      (half_within k x both.0 w.0, half_within k y both.1 w.1)

module _ (os : List PlaceSource) (m : ℕ) where
  abbrev next : List PlaceSource
  next = take 8 (drop m os)

  abbrev count : ℕ
  count = prefix_len (is_below m) next

  long : length (batch_at os m) ≡ count
  long = length-prefix_len (is_below m) next

  within : count ≤ length next
  within = prefix_len-le-length (is_below m) next

  next_long : length next ≡ min 8 (length os - m)
  next_long = length-take 8 (drop m os) ∙ ap (min 8) (length-drop m os)

  pub batch_few : length (batch_at os m) ≤ 8
  batch_few = omega (arith, long, within, next_long)

  pub batch_within : m ≤ length os → m + length (batch_at os m) ≤ length os
  batch_within le = omega (arith, le, long, within, next_long)

  next_place : (i : ℕ) → i < 8 → source_at next i ≡ source_at os (m + i)
  next_place i lt = get_or-take 8 (drop m os) i (Target 0) lt ∙ get_or-drop m os i (Target 0)

  place : (i : ℕ) → i < length (batch_at os m) → source_at (batch_at os m) i ≡ source_at os (m + i)
  place i lt =
      let few = batch_few in
      let e = long in
      get_or-take count next i (Target 0) (omega (arith, lt, e)) ∙ next_place i (omega (arith, lt, few))

  -- none but the first place can be left for later
  pub batch_some : (leaves hashes : ℕ) → CanEvaluate os leaves hashes → m < length os → 0 < length (batch_at os m)
  batch_some leaves hashes can lt =
      let e = long in
      let n = next_long in
      ⊎_elim
      (λ some. omega (arith, some, e))
      (λ none.
      let stops = prefix_len_stops (is_below m) next (Target 0) (omega (arith, none, n, lt)) in
      let first : count ≡ 0 = omega (arith, none) in
      let same : source_at next count ≡ source_at os m =
      ap (source_at next) first ∙ (next_place 0 (omega arith) ∙ ap (source_at os) (omega arith)) in
      absurd (false≢true (sym stops ∙ (ap (is_below m) same ∙ below_from leaves hashes m (source_at os m) (can m lt)))))
      (cases_lt 0 count)

  pub batch_can : (leaves hashes : ℕ) → CanEvaluate os leaves hashes → AreWithin m leaves hashes (batch_at os m)
  batch_can leaves hashes can i lt =
      let e = long in
      let few = batch_few in
      let w = within in
      let n = next_long in
      let below : is_below m (source_at os (m + i)) ≡ true =
      ap (is_below m) (sym (next_place i (omega (arith, lt, few)))) ∙ prefix_len_passes (is_below m) next i (Target 0) (omega (arith, lt, e)) in
      subst (λ o. IsWithin m leaves hashes o) (sym (place i lt))
      (within_from leaves hashes m (m + i) (source_at os (m + i)) below (can (m + i) (omega (arith, lt, e, w, n))))

  -- the inner places of the batch are counted behind those before it
  pub batch_counted : count_by is_inner (take (m + length (batch_at os m)) os) ≡ count_by is_inner (take m os) + count_by is_inner (batch_at os m)
  batch_counted =
      let few = batch_few in
      let e = long in
      let same : batch_at os m ≡ take (length (batch_at os m)) (drop m os) =
      take-take count 8 (drop m os) (omega (arith, few, e)) ∙ ap (λ k. take k (drop m os)) (sym e) in
      ap (count_by is_inner) (take-add m (length (batch_at os m)) os)
      ∙ (sum_by-append (λ o. cond (is_inner o) 1 0) (take m os) (take (length (batch_at os m)) (drop m os))
      ∙ ap (λ l. count_by is_inner (take m os) + count_by is_inner l) (sym same))

-- how a batch is taken
pub batch_told : (os : List PlaceSource) (m n : ℕ) (rest next batch : List PlaceSource) → rest ≡ drop m os → next ≡ take 8 rest
    → n ≡ prefix_len (is_below m) next → batch ≡ take n next → batch ≡ batch_at os m
batch_told os m n rest next batch a b c d =
    d ∙ (ap (λ k. take k next) c ∙ ap (λ l. take_while (is_below m) l) (b ∙ ap (take 8) a))

abbrev nothing : PlaceNode
nothing = record { digest = record { 0 = [] }; left = None }

module _ (H : List ℕ → Digest) (os : List PlaceSource) (leaves hashes : List Digest) where
  alike_half : (xs ys : List PlaceNode) (m : ℕ) → ((k : ℕ) → k < m → node_at xs k ≡ node_at ys k) → (x : Half) → IsHalfWithin m (length hashes) x
      → half_node xs hashes x ≡ half_node ys hashes x
  alike_half xs ys m same (Covered k) w = same k w
  alike_half xs ys m same (Needed j) w = refl

  -- what a place is made of tells its node
  alike : (xs ys : List PlaceNode) (m : ℕ) → ((k : ℕ) → k < m → node_at xs k ≡ node_at ys k) → (o : PlaceSource)
      → IsWithin m (length leaves) (length hashes) o → node_from H leaves hashes xs o ≡ node_from H leaves hashes ys o
  alike xs ys m same (Target i) w = refl
  alike xs ys m same (Halves x y) w = ap₂ (join_nodes H) (alike_half xs ys m same x w.0) (alike_half xs ys m same y w.1)

  module _ (m : ℕ) (nodes below part rest : List PlaceNode) where
    abbrev all : List PlaceNode
    all = below ++ (part ++ rest)

    abbrev batch : List PlaceSource
    batch = batch_at os m

    module _ (can : CanEvaluate os (length leaves) (length hashes)) (lt : m < length os) (e : AreEvaluated H os leaves hashes m nodes)
        (is : below ≡ take m nodes) (made : part ≡ map (node_from H leaves hashes below) (batch_at os m)) where
      front : length below ≡ m
      front = let long = e.long in ap length is ∙ length-take-le m nodes (omega (arith, long, lt))

      part_long : length part ≡ length batch
      part_long = ap length made ∙ length-map batch (node_from H leaves hashes below)

      kept : (k : ℕ) → k < m → node_at all k ≡ node_at below k
      kept k low = let f = front in get_or_append_left below (part ++ rest) nothing k (omega (arith, low, f))

      same : (k : ℕ) → k < m → node_at all k ≡ node_at nodes k
      same k low = kept k low ∙ (ap (λ l. node_at l k) is ∙ get_or-take m nodes k nothing low)

      old : (j : ℕ) → j < m → node_at all j ≡ node_from H leaves hashes all (source_at os j)
      old j low =
          same j low
          ∙ (e.nodes_are j low
          ∙ sym (alike all nodes j (λ k a. same k (omega (arith, a, low))) (source_at os j) (can j (omega (arith, low, lt)))))

      new : (j : ℕ) → j < m + length batch → m ≤ j → node_at all j ≡ node_from H leaves hashes all (source_at os j)
      new j high ge =
          let inside : j - m < length batch = omega (arith, high, ge) in
          let long = part_long in
          get_or-append_right below (part ++ rest) m j nothing front ge
          ∙ (get_or_append_left part rest nothing (j - m) (omega (arith, inside, long))
          ∙ (ap (λ l. node_at l (j - m)) made
          ∙ (get_or-map (node_from H leaves hashes below) batch (j - m) (Target 0) nothing inside
          ∙ (alike below all m (λ k a. sym (kept k a)) (source_at batch (j - m)) (batch_can os m (length leaves) (length hashes) can (j - m) inside)
          ∙ ap (node_from H leaves hashes all) (place os m (j - m) inside ∙ ap (source_at os) (omega (arith, ge)))))))

      evaluated_at : length all ≡ length os → AreEvaluated H os leaves hashes (m + length batch) all
      evaluated_at whole = record { long = whole; nodes_are = λ j l. ⊎_elim (old j) (new j l) (cases_lt j m) }

  -- the nodes of a batch stand behind those before it, and what stands behind them stays
  pub evaluated_on : (m : ℕ) (batch : List PlaceSource) (nodes below part above : List PlaceNode) → CanEvaluate os (length leaves) (length hashes)
      → m < length os → AreEvaluated H os leaves hashes m nodes → batch ≡ batch_at os m → below ≡ take m nodes
      → part ≡ map (node_from H leaves hashes below) batch → length above + m ≡ length nodes
      → AreEvaluated H os leaves hashes (m + length batch) (below ++ (part ++ drop (length batch) above))
  evaluated_on m batch nodes below part above can lt e told is made left =
      let long = e.long in
      let front = ap length is ∙ length-take-le m nodes (omega (arith, long, lt)) in
      let some : length part ≡ length batch = ap length made ∙ length-map batch (node_from H leaves hashes below) in
      let count : length batch ≡ length (batch_at os m) = ap length told in
      let within = batch_within os m (omega (arith, lt)) in
      let behind : length (drop (length batch) above) ≡ length above - length batch = length-drop (length batch) above in
      let outer : length (below ++ (part ++ drop (length batch) above)) ≡ length below + length (part ++ drop (length batch) above) =
      length-append below (part ++ drop (length batch) above) in
      let inner : length (part ++ drop (length batch) above) ≡ length part + length (drop (length batch) above) =
      length-append part (drop (length batch) above) in
      subst (λ (l : List PlaceSource). AreEvaluated H os leaves hashes (m + length l) (below ++ (part ++ drop (length batch) above))) (sym told)
      (evaluated_at m nodes below part (drop (length batch) above) can lt e is (made ∙ ap (map (node_from H leaves hashes below)) told)
      (omega (arith, long, front, some, count, within, behind, outer, inner, left)))
