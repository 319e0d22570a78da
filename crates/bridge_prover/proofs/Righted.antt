-- What is told of a message by forest and index is what the history tells: which entries it shows, and whether it is right.
use Rattle.std.proofs.Common.{◌≡◌, ◌≢◌, ℕ, zero, suc, ◌+◌, ◌<◌, ◌≤◌, Bool, true, false, List, [], ◌∷◌, ◌++◌, map, length, take, drop, get_or, filter}
use Rattle.std.proofs.Common.{Option, Some, None, refl, sym, ap, ap₂, ◌∙◌, subst, arith, eq-eqb}
use Rattle.std.specs.Prelude.{◌&&◌, slice_get, is_some, is_none, option_map, if◌then◌else◌}
use Rattle.std.specs.Global.{Vec}
use Rattle.std.proofs.lemmas.Bool.{and_from}
use Rattle.std.proofs.lemmas.List.{length-map, length-drop, map-append, take_all, drop_more}
use Rattle.std.proofs.lemmas.Option.{none-some, same_Some, slice_get-get_or, slice_get-map}
use Rattle.uo_base.proofs.Lists.{one_more}
use Rattle.uo_digest.specs.declared.digest.Digest.{Digest}
use Rattle.forest_place.specs.declared.place.Place.{Place}
use Rattle.forest_place.proofs.Ascending.{distinct_from_ascending}
use Rattle.forest_model.specs.Content.{Tree, leaf, inner}
use Rattle.forest_model.specs.Cover.{need}
use Rattle.forest_model.specs.Standing.{tree_at, digest_at}
use Rattle.forest_model.specs.Evaluation.{asked}
use Rattle.forest_model.specs.Right.{entries}
use Rattle.forest_model.proofs.Lists.{need_ascending}
use Rattle.forest_model.proofs.Unique.{tree_at-leaves}
use Rattle.leaf_record.specs.Leaf.{Rest, Leaf, leaf_text}
use Rattle.leaf_record.specs.History.{somes, History}
use Rattle.leaf_record.proofs.HistoryLaws.{somes-map}
use Rattle.proof_wire.specs.BlockProof.{rests_of}
use Rattle.proof_shape.specs.Targeted.{Targeted}
use Rattle.block_rules.specs.declared.chain.Outside.{Outside}
use Rattle.node_rules.specs.Messages.{Message, targets, point_of, points_of, claimed, known_to}
use Rattle.node_rules.specs.Reading.{read}
use Rattle.node_rules.specs.Right.{leaf_number, entry_number_at, is_leaf, is_live, stands_for, all_stand, same_digests}
use Rattle.node_rules.specs.Judging.{is_right_message}
use Rattle.node_rules.specs.Judging as judging
use Rattle.node_rules.specs.Judged.{AreNamed, AreHashes}
use Rattle.node_rules.specs.Filled.{filled}
use Rattle.node_rules.proofs.Filling.{filled_is}
use Rattle.node_rules.proofs.Judging.{known_is}
use Rattle.node_rules.proofs.Righting.{got, got_entry, digests_from, digests_back}
use Rattle.cache_model.specs.Known.{known_at}
use Rattle.output_index.specs.Held.{Held, leaf_at, NumbersRise}
use Rattle.output_index.specs.Indexed.{IsIndexOf}
use Rattle.output_index.proofs.Standing.{there_is_live}
use Rattle.node_rules.proofs.ClaimedLeaves.{claim_at, claims-long}
use Rattle.bridge_prover.specs.Shown.{IsHistory, if_claimed, claimed_at, all_claimed, AreAllOf, Shows}

-- ---- the loop over the spends

pub shown-next : (es : List (Option Digest)) (hs : List Held) (ts : List Place) (claims : List Leaf) (i : ℕ) (d : Place) (claim : Leaf)
    → i < length ts → slice_get claims i ≡ Some claim → slice_get (all_claimed es hs ts claims) i ≡ Some (claimed_at es hs (get_or ts i d) claim)
shown-next es hs [] claims i d claim lt got = absurd (omega (arith, lt))
shown-next es hs (p ∷ ts) [] i d claim lt got = absurd (none-some claim got)
shown-next es hs (p ∷ ts) (c ∷ claims) zero d claim lt got = ap (λ x. Some (claimed_at es hs p x)) (same_Some c claim got)
shown-next es hs (p ∷ ts) (c ∷ claims) (suc i) d claim lt got = shown-next es hs ts claims i d claim (omega (arith, lt)) got

-- the next one
pub shown-here : (es : List (Option Digest)) (hs : List Held) (ts : List Place) (ext : List Outside) (rests : List Rest) (i : ℕ) (d : Outside)
    (e : Place) (rest : Rest) (claim : Leaf) (number : Option ℕ) → i < length ext → length ts ≡ length ext → slice_get rests i ≡ Some rest →
    claim ≡ record { point = point_of (get_or ext i d); rest = rest } → number ≡ claimed_at es hs (get_or ts i e) claim
    → slice_get (all_claimed es hs ts (claimed (points_of ext) rests)) i ≡ Some number
shown-here es hs ts ext rests i d e rest claim number lt long got is shown =
    shown-next es hs ts (claimed (points_of ext) rests) i e claim (omega (arith, lt, long))
    (claim_at ext rests i (get_or ext i d) rest (slice_get-get_or ext i d lt) got ∙ ap Some (sym is)) ∙ ap Some (sym shown)

pub shown-more : (shown : List (Option ℕ)) (i : ℕ) (number : ℕ) (old new : List ℕ) → slice_get shown i ≡ Some (Some number)
    → map Some old ≡ take i shown → new ≡ old ++ number ∷ [] → map Some new ≡ take (i + 1) shown
shown-more shown i number old new got was e = one_more _ _ _ _ _ got was (ap (map Some) e ∙ map-append Some old (number ∷ []))

shown-long : (es : List (Option Digest)) (hs : List Held) (ts : List Place) (claims : List Leaf) → length ts ≡ length claims
    → length (all_claimed es hs ts claims) ≡ length ts
shown-long es hs [] claims e = refl
shown-long es hs (p ∷ ts) [] e = absurd (omega (arith, e))
shown-long es hs (p ∷ ts) (c ∷ claims) e = ap suc (shown-long es hs ts claims (omega (arith, e)))

pub shown-end : (es : List (Option Digest)) (hs : List Held) (ts : List Place) (ext : List Outside) (rests : List Rest) (i : ℕ) (numbers : List ℕ)
    → length ts ≡ length ext → length rests ≡ length ext → length ext ≤ i →
    map Some numbers ≡ take i (all_claimed es hs ts (claimed (points_of ext) rests))
    → map Some numbers ≡ all_claimed es hs ts (claimed (points_of ext) rests)
shown-end es hs ts ext rests i numbers long count le is =
    is ∙ take_all i _ (let a = shown-long es hs ts (claimed (points_of ext) rests) (long ∙ sym (claims-long ext rests count)) in
    omega (arith, a, long, le))

-- ---- the loop over the hashes

-- one that stands where it should
pub hash-more : (hashes : List Digest) (found : List (Option Digest)) (i : ℕ) (hash : Digest) → slice_get hashes i ≡ Some hash
    → slice_get found i ≡ Some (Some hash) → map Some (take i hashes) ≡ take i found → map Some (take (i + 1) hashes) ≡ take (i + 1) found
hash-more [] found i hash got there was = absurd (none-some hash got)
hash-more (x ∷ hashes) [] i hash got there was = absurd (none-some _ there)
hash-more (x ∷ hashes) (y ∷ found) zero hash got there was = ap (λ z. z ∷ []) (ap Some (same_Some x hash got) ∙ sym (same_Some y (Some hash) there))
hash-more (x ∷ hashes) (y ∷ found) (suc i) hash got there was =
    let next : suc i + 1 ≡ suc (i + 1) = omega arith in
    let head : Some x ≡ y = cc in
    let tail : map Some (take i hashes) ≡ take i found = cc in
    rw next (ap₂ (λ (z : Option Digest) zs. z ∷ zs) head (hash-more hashes found i hash got there tail))

-- and one that does not
pub hash-other : (hashes : List Digest) (found : List (Option Digest)) (i : ℕ) (hash : Digest) (there : Option Digest)
    → slice_get hashes i ≡ Some hash → slice_get found i ≡ Some there → there ≢ Some hash → map Some hashes ≡ found → ⊥
hash-other hashes found i hash there got at differ same =
    let e : slice_get (map Some hashes) i ≡ Some (Some hash) = slice_get-map Some hashes i ∙ ap (option_map Some) got in
    differ (same_Some there (Some hash) (sym at ∙ (ap (λ xs. slice_get xs i) (sym same) ∙ e)))

-- ---- the hashes of all needed places are those that stand there exactly where the given ones are, as what is known is so

module _ (f there : Place → Option Digest) (knows : (p : Place) (d : Digest) → f p ≡ Some d → there p ≡ Some d) where
  abbrev asked_of : List Place → List Place
  asked_of ps = filter (λ p. is_none (f p)) ps

  abbrev front : List Digest → ℕ → Digest
  front hs next = get_or hs next (record { 0 = [] })

  -- behind a place that is asked for
  one_less : (p : Place) (ps : List Place) (hs : List Digest) (next : ℕ) → f p ≡ None → length (drop next hs) ≡ length (asked_of (p ∷ ps))
      → (drop next hs ≡ front hs next ∷ drop (suc next) hs) × (length (drop (suc next) hs) ≡ length (asked_of ps))
  one_less p ps hs next e count =
      let keep : asked_of (p ∷ ps) ≡ p ∷ asked_of ps = rw e refl in
      let many : length (drop next hs) ≡ suc (length (asked_of ps)) = count ∙ ap length keep in
      let n = length-drop next hs in
      let n' = length-drop (suc next) hs in
      let lt : next < length hs = omega (arith, many, n) in
      let one : next + 1 ≡ suc next = omega arith in
      (drop_more hs next (record { 0 = [] }) lt ∙ ap (λ k. front hs next ∷ drop k hs) one, omega (arith, many, n, n'))

  pub filled-stand : (ps : List Place) (hs : List Digest) (next : ℕ) → length (drop next hs) ≡ length (asked_of ps)
      → map Some (drop next hs) ≡ map there (asked_of ps) → map Some (filled hs next (map f ps)) ≡ map there ps
  filled-stand [] hs next count same = refl
  filled-stand (p ∷ ps) hs next count same = by (λ k. filled-stand ps hs k) (f p) refl
    where
      by : ((k : ℕ) → length (drop k hs) ≡ length (asked_of ps) → map Some (drop k hs) ≡ map there (asked_of ps)
          → map Some (filled hs k (map f ps)) ≡ map there ps) → (x : Option Digest) → f p ≡ x
          → map Some (filled hs next (f p ∷ map f ps)) ≡ map there (p ∷ ps)
      by later (Some d) e =
          let skip : asked_of (p ∷ ps) ≡ asked_of ps = rw e refl in
          ap (λ x. map Some (filled hs next (x ∷ map f ps))) e
          ∙ ap₂ (λ (y : Option Digest) ys. y ∷ ys) (sym (knows p d e)) (later next (count ∙ ap length skip) (same ∙ ap (map there) skip))
      by later None e =
          let keep : asked_of (p ∷ ps) ≡ p ∷ asked_of ps = rw e refl in
          let less = one_less p ps hs next e count in
          let both : Some (front hs next) ∷ map Some (drop (suc next) hs) ≡ there p ∷ map there (asked_of ps) =
          sym (ap (map Some) less.0) ∙ (same ∙ ap (map there) keep) in
          let head : Some (front hs next) ≡ there p = cc in
          let tail : map Some (drop (suc next) hs) ≡ map there (asked_of ps) = cc in
          ap (λ x. map Some (filled hs next (x ∷ map f ps))) e
          ∙ ap₂ (λ (y : Option Digest) ys. y ∷ ys) head (later (suc next) less.1 tail)

  pub given-stand : (ps : List Place) (hs : List Digest) (next : ℕ) → length (drop next hs) ≡ length (asked_of ps)
      → map Some (filled hs next (map f ps)) ≡ map there ps → map Some (drop next hs) ≡ map there (asked_of ps)
  given-stand [] hs next count same = ap (map Some) (none_left (drop next hs) count)
    where
      none_left : (ds : List Digest) → length ds ≡ 0 → ds ≡ []
      none_left [] e = refl
      none_left (d ∷ ds) e = absurd (omega (arith, e))
  given-stand (p ∷ ps) hs next count same = by (λ k. given-stand ps hs k) (f p) refl
    where
      by : ((k : ℕ) → length (drop k hs) ≡ length (asked_of ps) → map Some (filled hs k (map f ps)) ≡ map there ps
          → map Some (drop k hs) ≡ map there (asked_of ps)) → (x : Option Digest) → f p ≡ x → map Some (drop next hs) ≡ map there (asked_of (p ∷ ps))
      by later (Some d) e =
          let skip : asked_of (p ∷ ps) ≡ asked_of ps = rw e refl in
          let both : Some d ∷ map Some (filled hs next (map f ps)) ≡ there p ∷ map there ps =
          sym (ap (λ x. map Some (filled hs next (x ∷ map f ps))) e) ∙ same in
          let tail : map Some (filled hs next (map f ps)) ≡ map there ps = cc in
          later next (count ∙ ap length skip) tail ∙ sym (ap (map there) skip)
      by later None e =
          let keep : asked_of (p ∷ ps) ≡ p ∷ asked_of ps = rw e refl in
          let less = one_less p ps hs next e count in
          let both : Some (front hs next) ∷ map Some (filled hs (suc next) (map f ps)) ≡ there p ∷ map there ps =
          sym (ap (λ x. map Some (filled hs next (x ∷ map f ps))) e) ∙ same in
          let head : Some (front hs next) ≡ there p = cc in
          let tail : map Some (filled hs (suc next) (map f ps)) ≡ map there ps = cc in
          ap (map Some) less.0
          ∙ (ap₂ (λ (y : Option Digest) ys. y ∷ ys) head (later (suc next) less.1 tail) ∙ sym (ap (map there) keep))

-- ---- by the history

module _ (H : List ℕ → Digest) (hs : List Held) (us : History) (rise : NumbersRise hs) (index : IsIndexOf hs us) where
  abbrev es : List (Option Digest)
  es = entries H leaf_text us

  -- the output of a live entry is the one that is held
  leaf-same : (i : ℕ) (d : Digest) → get_or es i None ≡ Some d → leaf_at i hs ≡ get_or us i None
  leaf-same i d e = by (get_or us i None) refl (sym (got_entry (λ r. H (leaf_text r)) us i) ∙ e)
    where
      by : (u : Option Leaf) → get_or us i None ≡ u → option_map (λ r. H (leaf_text r)) u ≡ Some d → leaf_at i hs ≡ u
      by None e f = absurd (none-some d f)
      by (Some r) e f = (there_is_live i r hs us rise index (got us i r e)).1

  is_some-if : (i : ℕ) (b : Bool) → is_some (if b then Some i else None) ≡ b
  is_some-if i true = refl
  is_some-if i false = refl

  shown-same : (p : Place) (claim : Leaf) → is_some (claimed_at es hs p claim) ≡ stands_for H us (Some p) claim
  shown-same p claim = by (tree_at es p.row p.off) refl
    where
      by : (x : Option Tree) → tree_at es p.row p.off ≡ x → is_some (if_claimed hs claim (leaf_number x)) ≡ is_live us claim (leaf_number x)
      by None e = refl
      by (Some (inner a b)) e = refl
      by (Some (leaf i d)) e = is_some-if i (is_leaf claim (leaf_at i hs))
          ∙ ap (is_leaf claim) (leaf-same i d (tree_at-leaves es p.row p.off (leaf i d) e))

  if-some : (i j : ℕ) (b : Bool) → (if b then Some j else None) ≡ Some i → Some j ≡ Some i
  if-some i j true e = e
  if-some i j false e = absurd (none-some i e)

  shown-number : (claim : Leaf) (i : ℕ) (x : Option ℕ) → if_claimed hs claim x ≡ Some i → x ≡ Some i
  shown-number claim i None e = absurd (none-some i e)
  shown-number claim i (Some j) e = if-some i j (is_leaf claim (leaf_at j hs)) e

  all-shown : (ts : List Place) (claims : List Leaf) (ns : List ℕ) → length ts ≡ length claims → map Some ns ≡ all_claimed es hs ts claims →
      (all_stand H us (map Some ts) claims ≡ true) × (ns ≡ somes (map (entry_number_at es) ts))
  all-shown [] [] [] long e = (refl, refl)
  all-shown [] [] (n ∷ ns) long e = absurd (cc)
  all-shown [] (c ∷ claims) ns long e = absurd (omega (arith, long))
  all-shown (p ∷ ts) [] ns long e = absurd (omega (arith, long))
  all-shown (p ∷ ts) (c ∷ claims) [] long e = absurd (cc)
  all-shown (p ∷ ts) (c ∷ claims) (n ∷ ns) long e =
      let head : Some n ≡ claimed_at es hs p c = cc in
      let tail : map Some ns ≡ all_claimed es hs ts claims = cc in
      let rest = all-shown ts claims ns (omega (arith, long)) tail in
      let number : entry_number_at es p ≡ Some n = shown-number c n (entry_number_at es p) (sym head) in (
        and_from (stands_for H us (Some p) c) (all_stand H us (map Some ts) claims) (sym (shown-same p c) ∙ ap is_some (sym head)) rest.0,
        ap (λ xs. n ∷ xs) rest.1 ∙ ap (λ x. somes (x ∷ map (entry_number_at es) ts)) (sym number),
      )

  and-false : (a b : Bool) → b ≡ false → (a && b) ≡ false
  and-false true b e = e
  and-false false b e = refl

  one-missing : (ts : List Place) (claims : List Leaf) (i : ℕ) → slice_get (all_claimed es hs ts claims) i ≡ Some None → length ts ≡ length claims
      → all_stand H us (map Some ts) claims ≡ false
  one-missing [] claims i e long = absurd (none-some None e)
  one-missing (p ∷ ts) [] i e long = absurd (none-some None e)
  one-missing (p ∷ ts) (c ∷ claims) zero e long =
      ap (λ x. x && all_stand H us (map Some ts) claims) (sym (shown-same p c) ∙ ap is_some (same_Some _ None e))
  one-missing (p ∷ ts) (c ∷ claims) (suc i) e long = and-false (stands_for H us (Some p) c) _ (one-missing ts claims i e (omega (arith, long)))

  module _ (ext : List Outside) (m : Message) (t : Targeted) (count : length m.proof.spends ≡ length ext) (are : AreNamed (length us) m t)
      (scripts : List (List ℕ)) where
    abbrev claims : List Leaf
    claims = claimed (points_of ext) (rests_of m.proof.spends)

    abbrev shown : List (Option ℕ)
    shown = all_claimed es hs t.targets claims

    abbrev known : ℕ → ℕ → Option Digest
    known = known_to m.lean (known_at H scripts us)

    abbrev stands : Place → Option Digest
    stands p = digest_at H es p.row p.off

    -- what stands at the places whose hashes the message gives
    abbrev given : List (Option Digest)
    given = map stands (asked (length us) (targets (length us) m) known)

    targets-are : targets (length us) m ≡ t.targets
    targets-are = ap somes are.places ∙ somes-map t.targets

    right-is : is_right_message H scripts us ext (read m)
        ≡ (all_stand H us (map Some t.targets) claims && same_digests m.proof.hashes given)
    right-is =
        ap₂ (λ (a b : Bool). a && b) (eq-eqb (length m.proof.spends) (length (points_of ext)) (count ∙ sym (length-map ext point_of)))
        (ap (λ xs. all_stand H us xs claims && same_digests m.proof.hashes given) are.places)

    long : length t.targets ≡ length claims
    long =
        sym (length-map t.targets Some) ∙ (ap length (sym are.places)
        ∙ (length-map _ _ ∙ (length-map m.proof.spends (λ s. s.target)
        ∙ (count ∙ sym (claims-long ext (rests_of m.proof.spends) (length-map m.proof.spends (λ s. s.rest) ∙ count))))))

    pub entry-missing : (i : ℕ) → slice_get shown i ≡ Some None → is_right_message H scripts us ext (read m) ≡ false
    entry-missing i e = right-is ∙ ap (λ b. b && same_digests m.proof.hashes given) (one-missing t.targets claims i e long)

    module _ (hashes : List Digest) (full : AreHashes m t (known_at H scripts us) hashes) where
      abbrev f : Place → Option Digest
      f p = known p.row p.off

      knows : (p : Place) (d : Digest) → f p ≡ Some d → stands p ≡ Some d
      knows p d e = known_is H scripts us m.lean p.row p.off d e

      hashes-are : hashes ≡ filled m.proof.hashes 0 (map f (need t.leaves t.targets))
      hashes-are = full.hashes_are H ∙ sym (filled_is (H []) f (need t.leaves t.targets) m.proof.hashes 0
          (distinct_from_ascending (need t.leaves t.targets) (need_ascending t.leaves t.targets)) full.count)

      asked-are : asked t.leaves t.targets known ≡ asked (length us) (targets (length us) m) known
      asked-are = ap₂ (λ n ts. asked n ts known) are.leaves (sym targets-are)

      all-given : map Some hashes ≡ map stands (need t.leaves t.targets) → map Some m.proof.hashes ≡ given
      all-given e = given-stand f stands knows (need t.leaves t.targets) m.proof.hashes 0 full.count (sym (ap (map Some) hashes-are) ∙ e)
          ∙ ap (map stands) asked-are

      all-filled : map Some m.proof.hashes ≡ given → map Some hashes ≡ map stands (need t.leaves t.targets)
      all-filled e = ap (map Some) hashes-are ∙ filled-stand f stands knows (need t.leaves t.targets) m.proof.hashes 0 full.count
          (e ∙ sym (ap (map stands) asked-are))

      pub is-right : (ns : List ℕ) → map Some ns ≡ shown → map Some hashes ≡ map stands (need t.leaves t.targets)
          → (is_right_message H scripts us ext (read m) ≡ true) × (ns ≡ judging.entries_shown H us (read m))
      is-right ns e there =
          let all = all-shown t.targets claims ns long e in (
            right-is ∙ and_from _ _ all.0 (subst (λ xs. same_digests m.proof.hashes xs ≡ true) (all-given there) (digests_back m.proof.hashes)),
            all.1 ∙ ap (λ ts. somes (map (entry_number_at es) ts)) (sym targets-are),
          )

      pub hash-missing : (map Some hashes ≡ map stands (need t.leaves t.targets) → ⊥) → is_right_message H scripts us ext (read m) ≡ false
      hash-missing differ = right-is ∙ and-false _ _ (by (same_digests m.proof.hashes given) refl)
        where
          by : (b : Bool) → same_digests m.proof.hashes given ≡ b → same_digests m.proof.hashes given ≡ false
          by true e = absurd (differ (all-filled (digests_from m.proof.hashes given e)))
          by false e = e

-- ---- as the calls answer it

module _ (H : List ℕ → Digest) (es' : List (Option Digest)) (hs : List Held) (us : History) (scripts : List (List ℕ))
    (h : IsHistory H es' hs us) (ext : List Outside) (m : Message) (t : Targeted)
    (count : length m.proof.spends ≡ length ext) (are : AreNamed (length es') m t) (places : List Place) (at : places ≡ t.targets) where
  entries-long : length es' ≡ length us
  entries-long = ap length h.entries_are ∙ length-map us (option_map (λ r. H (leaf_text r)))

  named-so : AreNamed (length us) m t
  named-so = subst (λ n. AreNamed n m t) entries-long are

  shown-so : all_claimed es' hs places (claimed (points_of ext) (rests_of m.proof.spends))
      ≡ all_claimed (entries H leaf_text us) hs t.targets (claimed (points_of ext) (rests_of m.proof.spends))
  shown-so = ap₂ (λ x ps. all_claimed x hs ps (claimed (points_of ext) (rests_of m.proof.spends))) h.entries_are at

  pub none_shown : (x : Option (Vec ℕ)) → x ≡ None
      → AreAllOf (all_claimed es' hs places (claimed (points_of ext) (rests_of m.proof.spends))) (option_map (λ all. all.items) x)
      → is_right_message H scripts us ext (read m) ≡ false
  none_shown x e a =
      let b = subst (λ (y : Option (Vec ℕ)). AreAllOf (all_claimed es' hs places (claimed (points_of ext) (rests_of m.proof.spends)))
      (option_map (λ all. all.items) y)) e a in
      entry-missing H hs us h.rise h.index ext m t count named-so scripts b.0 (ap (λ xs. slice_get xs b.0) (sym shown-so) ∙ b.1)

  module _ (hashes : List Digest) (full : AreHashes m t (known_at H scripts us) hashes) (needed : List Place)
      (need_is : needed ≡ need t.leaves t.targets) where
    there-so : map (λ p. digest_at H es' p.row p.off) needed ≡ map (λ p. digest_at H (entries H leaf_text us) p.row p.off) (need t.leaves t.targets)
    there-so = ap₂ (λ x ps. map (λ p. digest_at H x p.row p.off) ps) h.entries_are need_is

    pub hash_wrong : (map Some hashes ≡ map (λ p. digest_at H es' p.row p.off) needed → ⊥) → is_right_message H scripts us ext (read m) ≡ false
    hash_wrong differ = hash-missing H hs us h.rise h.index ext m t count named-so scripts hashes full (λ e. differ (e ∙ sym there-so))

    pub all_right : (x : Option (Vec ℕ)) (numbers : Vec ℕ) → x ≡ Some numbers
        → AreAllOf (all_claimed es' hs places (claimed (points_of ext) (rests_of m.proof.spends))) (option_map (λ all. all.items) x)
        → map Some hashes ≡ map (λ p. digest_at H es' p.row p.off) needed →
        Shows H scripts us ext (read m) (Some numbers.items)
    all_right x numbers e a stand =
        let b = subst (λ (y : Option (Vec ℕ)). AreAllOf (all_claimed es' hs places (claimed (points_of ext) (rests_of m.proof.spends)))
        (option_map (λ all. all.items) y)) e a in
        is-right H hs us h.rise h.index ext m t count named-so scripts hashes full numbers.items (b ∙ shown-so) (stand ∙ there-so)
