-- What a message shows.
use Rattle.std.proofs.Common.{◌≡◌, ℕ, zero, suc, ◌+◌, ◌*◌, ◌^◌, ◌<◌, ◌≤◌, Bool, true, false, List, [], ◌∷◌, ◌++◌, map, length, take, get_or, All}
use Rattle.std.proofs.Common.{Option, Some, None, refl, sym, ap, ap₂, ◌∙◌, subst, arith}
use Rattle.std.specs.Prelude.{◌==◌, ◌&&◌, option_map, unwrap_or, is_some, not, IsSome, if◌then◌else◌}
use Rattle.std.specs.List.{AllByRecursion, filter, filter_map, flat_map}
use Rattle.std.specs.List.Sorted.{IsPermutation}
use Rattle.std.proofs.Math.Path.{fun_ext}
use Rattle.std.proofs.lemmas.List.{append-nil, append_assoc, get_or-map, length-map, take_more, map-append}
use Rattle.std.proofs.lemmas.List.Concat.{flat_map-append, flat_map-cons}
use Rattle.std.proofs.lemmas.List.Elements.{filter-append, recursion_from_All}
use Rattle.std.proofs.lemmas.List.Sorted.{All-permutation, list_any-IsPermutation}
use Rattle.std.proofs.lemmas.Bool.{false≢true}
use Rattle.std.proofs.lemmas.Option.{same_Some}
use Rattle.uo_digest.specs.declared.digest.Digest.{Digest}
use Rattle.forest_place.specs.declared.place.Place.{Place}
use Rattle.forest_place.specs.Forest.{InForest, is_root, sibling_off}
use Rattle.forest_place.specs.Places.{has_place, places}
use Rattle.forest_place.proofs.Listed.{same_Bools}
use Rattle.forest_place.specs.declared.naming.Naming.TheVariants.{FixedPosition}
use Rattle.forest_place.specs.Named.{place_by}
use Rattle.forest_place.proofs.NamedLaws.{place_by-number}
use Rattle.forest_model.specs.Content.{Tree, leaf}
use Rattle.forest_model.specs.Standing.{tree_at, digest_at}
use Rattle.forest_model.specs.EntryPlace.{entry_place}
use Rattle.forest_model.specs.Cover.{target, cover_of_halves, cover, need}
use Rattle.forest_model.proofs.Climbs.{tree_at-forest}
use Rattle.forest_model.proofs.Covers.{some_from_test}
use Rattle.forest_model.proofs.Deleting.{is_spent, target_entry, spent_is_target}
use Rattle.forest_model.proofs.Living.{entry_found}
use Rattle.leaf_record.specs.Leaf.{Leaf, Rest}
use Rattle.leaf_record.specs.History.{somes}
use Rattle.proof_wire.specs.BlockProof.{BlockProof, targets_of, spends_of}
use Rattle.cache_model.specs.Known.{is_known}
use Rattle.node_rules.specs.Messages.{sent, number_of, targets}
use Rattle.live_forest.specs.State.{is_live}
use Rattle.live_forest.specs.Proving.{places_of, standing, proof_of}
use Rattle.live_forest.specs.declared.batch.Sibling.{Sibling}
use Rattle.live_forest.proofs.Slotted.{stand_there}
use Rattle.output_index.specs.Held.{Held, held_at, leaf_at, is_live as is_held_live}
use Rattle.output_index.proofs.HeldLaws.{live_is_held}
use Rattle.bridge_prover.specs.Bridge.{target_of, spend_of, spends_by}
use Rattle.bridge_prover.specs.Own.{leaves_in}
use Rattle.bridge_prover.specs.Draft.{hashes_unknown}
use Rattle.bridge_prover.proofs.Gathering.{mapped_more}

pub live_within : (es : List (Option Digest)) (i : ℕ) (p : Place) → is_some (get_or es i None) ≡ true
    → tree_at es p.row p.off ≡ option_map (leaf i) (get_or es i None) → InForest (length es) p.row p.off
live_within es i p live stands = by_entry (get_or es i None) live stands
  where
    by_entry : (x : Option Digest) → is_some x ≡ true → tree_at es p.row p.off ≡ option_map (leaf i) x → InForest (length es) p.row p.off
    by_entry None l s = absurd (false≢true l)
    by_entry (Some d) l s = tree_at-forest es p.row p.off (leaf i d) s

-- ---- the spends

pub placed_within : (es : List (Option Digest)) (n i : ℕ) (place : Place) → n ≡ length es → is_live es i ≡ true → entry_place es i ≡ Some place
    → InForest n place.row place.off
placed_within es n i place count live there =
    let d = some_from_test (get_or es i None) live in
    let found = entry_found es i d.0 d.1 in
    let same : found.0 ≡ place = same_Some found.0 place (sym found.1 ∙ there) in
    subst (λ m. InForest m place.row place.off) (sym count)
    (subst (λ (p : Place). InForest (length es) p.row p.off) same (tree_at-forest es found.0.row found.0.off _ found.2))

pub placed_at : (es : List (Option Digest)) (numbers : List ℕ) (places : List Place) (i : ℕ) (d : Place)
    → map Some places ≡ map (entry_place es) numbers → i < length numbers → entry_place es (get_or numbers i 0) ≡ Some (get_or places i d)
placed_at es numbers places i d are lt =
    let long : length places ≡ length numbers = sym (length-map places Some) ∙ (ap length are ∙ length-map numbers (entry_place es)) in
    sym (get_or-map (entry_place es) numbers i 0 None lt)
    ∙ (ap (λ xs. get_or xs i None) (sym are) ∙ get_or-map Some places i d None (omega (arith, lt, long)))

-- a place more, by its number
pub targeted_more : (es : List (Option Digest)) (numbers : List ℕ) (i : ℕ) (number : ℕ) (place : Place) (old new : List ℕ) → i < length numbers
    → entry_place es (get_or numbers i 0) ≡ Some place → number ≡ number_of place → old ≡ map (target_of es) (take i numbers)
    → new ≡ old ++ number ∷ [] → new ≡ map (target_of es) (take (i + 1) numbers)
targeted_more es numbers i number place old new lt there is was e =
    let here : number ≡ target_of es (get_or numbers i 0) = is ∙ sym (ap (λ p. unwrap_or (option_map number_of p) 0) there) in
    e ∙ (ap₂ (λ xs x. xs ++ x ∷ []) was here ∙ sym (mapped_more (target_of es) numbers i 0 lt))

leaf_of_live : (i : ℕ) (hs : List Held) → is_held_live i hs ≡ true → (output : Leaf) × (leaf_at i hs ≡ Some output)
leaf_of_live i hs live = by (held_at i hs) refl (live_is_held i hs live)
  where
    by : (x : Option Held) → held_at i hs ≡ x → IsSome x → (output : Leaf) × (leaf_at i hs ≡ Some output)
    by None e some = absurd (false≢true some)
    by (Some h) e some = (h.leaf, ap (option_map (λ (x : Held). x.leaf)) e)

-- the rests of live entries that are held, each with the number of its place
module _ (es : List (Option Digest)) (hs : List Held) where
  shown_all : (numbers : List ℕ) → AllByRecursion (λ i. is_held_live i hs ≡ true) numbers
      → spends_of (map (target_of es) numbers) (map (λ (leaf : Leaf). leaf.rest) (leaves_in hs numbers)) ≡ spends_by es hs numbers
  shown_all [] held = refl
  shown_all (i ∷ is) held =
      let output = leaf_of_live i hs held.0 in
      let shown : leaf_at i hs ≡ Some output.0 = output.1 in
      rw (shown) (ap (λ xs. spend_of es i output.0 ∷ xs) (shown_all is held.1))

  leaves_all : (numbers : List ℕ) → AllByRecursion (λ i. is_held_live i hs ≡ true) numbers → length (leaves_in hs numbers) ≡ length numbers
  leaves_all [] held = refl
  leaves_all (i ∷ is) held =
      let output = leaf_of_live i hs held.0 in
      let shown : leaf_at i hs ≡ Some output.0 = output.1 in
      rw (shown) (ap suc (leaves_all is held.1))

-- as many rests as entries
pub rests_each : (hs : List Held) (numbers : List ℕ) (rests : List Rest) → All (λ i. is_held_live i hs ≡ true) numbers
    → rests ≡ map (λ leaf. leaf.rest) (leaves_in hs numbers) → length rests ≡ length numbers
rests_each hs numbers rests held are = ap length are ∙ (length-map (leaves_in hs numbers) (λ (leaf : Leaf). leaf.rest)
    ∙ leaves_all [] hs numbers (recursion_from_All (λ i. is_held_live i hs ≡ true) numbers held))

-- ---- the hashes

unknown-append : (n : ℕ) (kept : List Place) (xs ys : List Sibling)
    → hashes_unknown n kept (xs ++ ys) ≡ hashes_unknown n kept xs ++ hashes_unknown n kept ys
unknown-append n kept xs ys =
    let free = λ (s : Sibling). not (is_known n kept s.place) in
    ap (map (λ (s : Sibling). s.digest)) (filter-append free xs ys) ∙ map-append (λ (s : Sibling). s.digest) (filter free xs) (filter free ys)

-- a sibling more
pub unknown_more : (n : ℕ) (kept : List Place) (siblings : List Sibling) (i : ℕ) (d : Sibling) → i < length siblings
    → hashes_unknown n kept (take (i + 1) siblings) ≡ hashes_unknown n kept (take i siblings) ++ hashes_unknown n kept (get_or siblings i d ∷ [])
unknown_more n kept siblings i d lt = ap (hashes_unknown n kept) (take_more siblings i d lt)
    ∙ unknown-append n kept (take i siblings) (get_or siblings i d ∷ [])

known_alone : (n : ℕ) (kept : List Place) (s : Sibling) → is_known n kept s.place ≡ true → hashes_unknown n kept (s ∷ []) ≡ []
known_alone n kept s is = rw is refl

unknown_alone : (n : ℕ) (kept : List Place) (s : Sibling) → is_known n kept s.place ≡ false → hashes_unknown n kept (s ∷ []) ≡ s.digest ∷ []
unknown_alone n kept s is = rw is refl

module _ (n : ℕ) (kept : List Place) (siblings : List Sibling) (i : ℕ) (s : Sibling) (here : s ≡ get_or siblings i s) (lt : i < length siblings)
    (before old : List Digest) (was : old ≡ before ++ hashes_unknown n kept (take i siblings)) where
  pub left_out : is_known n kept s.place ≡ true → old ≡ before ++ hashes_unknown n kept (take (i + 1) siblings)
  left_out is =
      let none : hashes_unknown n kept (get_or siblings i s ∷ []) ≡ [] = ap (λ (x : Sibling). hashes_unknown n kept (x ∷ [])) (sym here)
      ∙ known_alone n kept s is in
      was ∙ ap (λ xs. before ++ xs) (sym (unknown_more n kept siblings i s lt
      ∙ (ap (λ xs. hashes_unknown n kept (take i siblings) ++ xs) none ∙ append-nil (hashes_unknown n kept (take i siblings)))))

  pub given : (new : List Digest) → is_known n kept s.place ≡ false → new ≡ old ++ s.digest ∷ []
      → new ≡ before ++ hashes_unknown n kept (take (i + 1) siblings)
  given new is more =
      let one : hashes_unknown n kept (get_or siblings i s ∷ []) ≡ s.digest ∷ [] = ap (λ (x : Sibling). hashes_unknown n kept (x ∷ [])) (sym here)
      ∙ unknown_alone n kept s is in
      more ∙ (ap (λ xs. xs ++ s.digest ∷ []) was
      ∙ (append_assoc before (hashes_unknown n kept (take i siblings)) (s.digest ∷ [])
      ∙ ap (λ xs. before ++ xs) (ap (λ xs. hashes_unknown n kept (take i siblings) ++ xs) (sym one) ∙ sym (unknown_more n kept siblings i s lt))))

-- a row more
pub row_more : (n : ℕ) (kept : List Place) (rows : List (List Sibling)) (i : ℕ) (d : List Sibling) (old new : List Digest) → i < length rows
    → old ≡ hashes_unknown n kept (flat_map (λ row. row) (take i rows)) → new ≡ old ++ hashes_unknown n kept (get_or rows i d)
    → new ≡ hashes_unknown n kept (flat_map (λ row. row) (take (i + 1) rows))
row_more n kept rows i d old new lt was more =
    let row : List Sibling = get_or rows i d in
    let front = take i rows in
    more ∙ (ap (λ xs. xs ++ hashes_unknown n kept row) was
    ∙ (sym (unknown-append n kept (flat_map (λ r. r) front) row)
    ∙ ap (hashes_unknown n kept) (sym (ap (flat_map (λ r. r)) (take_more rows i d lt)
    ∙ (flat_map-append (λ (r : List Sibling). r) front (row ∷ [])
    ∙ ap (λ xs. flat_map (λ r. r) front ++ xs) (flat_map-cons (λ (r : List Sibling). r) row [] ∙ append-nil row))))))

-- what holds of all in the rows holds of all in one
pub all_in_row : {X : Type 0} (P : X → Type 0) (rows : List (List X)) (i : ℕ) (d : List X) → i < length rows
    → AllByRecursion P (flat_map (λ row. row) rows) → AllByRecursion P (get_or rows i d)
all_in_row P [] i d lt all = absurd (omega (arith, lt))
all_in_row P (row ∷ rows) zero d lt all = (parts_of row (flat_map (λ r. r) rows) (subst (AllByRecursion P) (flat_map-cons (λ r. r) row rows) all)).0
  where
    parts_of : (xs ys : List _) → AllByRecursion P (xs ++ ys) → AllByRecursion P xs × AllByRecursion P ys
    parts_of [] ys a = (tt, a)
    parts_of (x ∷ xs) ys a = let more = parts_of xs ys a.1 in ((a.0, more.0), more.1)
all_in_row P (row ∷ rows) (suc i) d lt all =
    all_in_row P rows i d (omega (arith, lt)) (behind row (flat_map (λ r. r) rows) (subst (AllByRecursion P) (flat_map-cons (λ r. r) row rows) all))
  where
    behind : (xs ys : List _) → AllByRecursion P (xs ++ ys) → AllByRecursion P ys
    behind [] ys a = a
    behind (x ∷ xs) ys a = behind xs ys a.1

-- the places of siblings are in the forest
pub siblings_within : (H : List ℕ → Digest) (es : List (Option Digest)) (ps : List Place)
    → AllByRecursion (λ s. InForest (length es) s.place.row s.place.off) (filter_map (standing H es) ps)
siblings_within H es [] = tt
siblings_within H es (p ∷ ps) = by (tree_at es p.row p.off) refl (siblings_within H es ps)
  where
    by : (x : Option Tree) → tree_at es p.row p.off ≡ x → AllByRecursion (λ s. InForest (length es) s.place.row s.place.off)
        (filter_map (standing H es) ps) → AllByRecursion (λ s. InForest (length es) s.place.row s.place.off) (filter_map (standing H es) (p ∷ ps))
    by None e rest = rw e rest
    by (Some t) e rest = rw e (tree_at-forest es p.row p.off t e, rest)

-- those that prove entries among them
pub proof_within : (H : List ℕ → Digest) (es : List (Option Digest)) (spent : List ℕ) (n : ℕ) (siblings : List Sibling) → n ≡ length es
    → siblings ≡ proof_of H es spent → AllByRecursion (λ s. InForest n s.place.row s.place.off) siblings
proof_within H es spent n siblings count are =
    subst (λ m. AllByRecursion (λ s. InForest m s.place.row s.place.off) siblings) (sym count)
    (subst (AllByRecursion (λ s. InForest (length es) s.place.row s.place.off)) (sym are)
    (siblings_within H es (need (length es) (places_of es spent))))

abbrev pub at : (List ℕ → Digest) → List (Option Digest) → Place → Option Digest
at H es p = digest_at H es p.row p.off

-- what was found at one of the places
pub found_at : {X : Type 0} (f : Place → Option X) (ps : List Place) (xs : List (Option X)) (i : ℕ) (d : Place) (x : Option X) → xs ≡ map f ps
    → i < length ps → get_or xs i x ≡ f (get_or ps i d)
found_at f ps xs i d x e lt = ap (λ ys. get_or ys i x) e ∙ get_or-map f ps i d x lt

-- of all needed places those that are not known give their hashes
unknown_are : (H : List ℕ → Digest) (es : List (Option Digest)) (kept ps : List Place)
    → hashes_unknown (length es) kept (filter_map (standing H es) ps) ≡ somes (map (at H es) (filter (λ p. not (is_known (length es) kept p)) ps))
unknown_are H es kept [] = refl
unknown_are H es kept (p ∷ ps) = by (at H es p) (is_known (length es) kept p) refl refl (unknown_are H es kept ps)
  where
    by : (x : Option Digest) (b : Bool) → at H es p ≡ x → is_known (length es) kept p ≡ b
        → hashes_unknown (length es) kept (filter_map (standing H es) ps) ≡ somes (map (at H es) (filter (λ q. not (is_known (length es) kept q)) ps))
        →
        hashes_unknown (length es) kept (filter_map (standing H es) (p ∷ ps))
        ≡ somes (map (at H es) (filter (λ q. not (is_known (length es) kept q)) (p ∷ ps)))
    by None true e k rest = rw (e, k) rest
    by None false e k rest = rw (k, e) rest
    by (Some d) true e k rest = rw (e, k) rest
    by (Some d) false e k rest = rw (e, k, e) (ap (λ xs. d ∷ xs) rest)

-- ---- what is needed hangs on which places are targets, in whatever order

same_cover : (ts us : List Place) → ((r o : ℕ) → has_place ts r o ≡ has_place us r o) → (r o : ℕ) → cover ts r o ≡ cover us r o
same_cover ts us same zero o = ap (λ b. if b then Some (target zero o) else None) (same zero o)
same_cover ts us same (suc r) o =
    ap (λ b. if b then Some (target (suc r) o) else cover_of_halves r o (cover ts r (2 * o)) (cover ts r (2 * o + 1))) (same (suc r) o)
    ∙ ap₂ (λ x y. if has_place us (suc r) o then Some (target (suc r) o) else cover_of_halves r o x y) (same_cover ts us same r (2 * o))
    (same_cover ts us same r (2 * o + 1))

same_need : (n : ℕ) (ts us : List Place) → ((r o : ℕ) → has_place ts r o ≡ has_place us r o) → need n ts ≡ need n us
same_need n ts us same =
    ap (λ (f : Place → Bool). filter f (places n))
    (fun_ext (λ p. ap₂ (λ x y. not (is_root n p.row p.off) && not (is_some x) && is_some y) (same_cover ts us same p.row p.off)
    (same_cover ts us same p.row (sibling_off p.off))))

module _ (es : List (Option Digest)) (numbers spent : List ℕ) (live : All (λ i. is_live es i ≡ true) numbers)
    (perm : IsPermutation numbers spent) where
  pub live_too : All (λ i. is_live es i ≡ true) spent
  live_too = All-permutation (λ i. is_live es i ≡ true) numbers spent perm live

  same_spent : (i : ℕ) → is_spent numbers i ≡ is_spent spent i
  same_spent i = list_any-IsPermutation (λ j. j == i) numbers spent perm

  same_places : (r o : ℕ) → has_place (places_of es spent) r o ≡ has_place (places_of es numbers) r o
  same_places r o =
      same_Bools _ _
      (λ h. let w = target_entry es (places_of es spent) spent r o (stand_there es spent live_too) h in
      sym (spent_is_target es (places_of es numbers) numbers (stand_there es numbers live) r o w.0 w.1 w.2) ∙ (same_spent w.0 ∙ w.3))
      (λ h. let w = target_entry es (places_of es numbers) numbers r o (stand_there es numbers live) h in
      sym (spent_is_target es (places_of es spent) spent (stand_there es spent live_too) r o w.0 w.1 w.2) ∙ (sym (same_spent w.0) ∙ w.3))

-- the proof of these entries, without the hashes that are known where the kept entries stand at these places
abbrev pub proof_beside : (List ℕ → Digest) → List Place → List (Option Digest) → List Held → List ℕ → BlockProof
proof_beside H kept es hs numbers =
    let spends = spends_by es hs numbers in
    let ts = targets (length es) (sent false (record { spends = spends; hashes = [] })) in
    record {
      spends = spends;
      hashes = somes
          (map (λ p. digest_at H es p.row p.off) (filter (λ p. not (is_known (length es) kept p)) (need (length es) ts)));
    }

-- the targets of what is shown of live entries that are held are their places
targets_placed : (es : List (Option Digest)) → length es ≤ 2 ^ 40 → (hs : List Held) (numbers : List ℕ)
    → AllByRecursion (λ i. is_live es i ≡ true) numbers → AllByRecursion (λ i. is_held_live i hs ≡ true) numbers
    → somes (map (place_by FixedPosition (length es)) (targets_of (spends_by es hs numbers))) ≡ places_of es numbers
targets_placed es few hs [] live held = refl
targets_placed es few hs (i ∷ is) live held =
    let d = some_from_test (get_or es i None) live.0 in
    let found = entry_found es i d.0 d.1 in
    let place : entry_place es i ≡ Some found.0 = found.1 in
    let output = leaf_of_live i hs held.0 in
    let shown : leaf_at i hs ≡ Some output.0 = output.1 in
    let there : place_by FixedPosition (length es) (number_of found.0) ≡ Some found.0 =
    place_by-number FixedPosition (length es) found.0 few (tree_at-forest es found.0.row found.0.off _ found.2) in
    rw (shown, place, there) (ap (λ ps. found.0 ∷ ps) (targets_placed es few hs is live.1 held.1))

pub whole_proof : (H : List ℕ → Digest) (es : List (Option Digest)) → length es ≤ 2 ^ 40
    → (hs : List Held) (kept : List Place) (lean : Bool) (numbers spent : List ℕ) (rests : List Rest) → All (λ i. is_live es i ≡ true) numbers
    → All (λ i. is_held_live i hs ≡ true) numbers → IsPermutation numbers spent → rests ≡ map (λ leaf. leaf.rest) (leaves_in hs numbers) →
    (let p : BlockProof = record {
      spends = spends_of (map (target_of es) numbers) rests;
      hashes =
          hashes_unknown (length es) kept (proof_of H es spent);
    } in sent lean p) ≡ sent lean (proof_beside H kept es hs numbers)
whole_proof H es few hs kept lean numbers spent rests live held perm shown =
    let held' = recursion_from_All (λ i. is_held_live i hs ≡ true) numbers held in
    let ts = somes (map (place_by FixedPosition (length es)) (targets_of (spends_by es hs numbers))) in
    let placed : ts ≡ places_of es numbers = targets_placed es few hs numbers (recursion_from_All (λ i. is_live es i ≡ true) numbers live) held' in
    let needed : need (length es) (places_of es spent) ≡ need (length es) ts =
    same_need (length es) (places_of es spent) (places_of es numbers) (same_places es numbers spent live perm)
    ∙ ap (need (length es)) (sym placed) in
    let hashes : hashes_unknown (length es) kept (proof_of H es spent)
    ≡ somes (map (at H es) (filter (λ p. not (is_known (length es) kept p)) (need (length es) ts))) =
    unknown_are H es kept (need (length es) (places_of es spent))
    ∙ ap (λ ps. somes (map (at H es) (filter (λ p. not (is_known (length es) kept p)) ps))) needed in
    let spends : spends_of (map (target_of es) numbers) rests ≡ spends_by es hs numbers = ap (spends_of (map (target_of es) numbers)) shown
    ∙ shown_all es hs numbers held' in
    ap₂ (λ xs ys. (let p : BlockProof = record { spends = xs; hashes = ys } in sent lean p)) spends hashes
