-- The lists of a history are of the roots that stand for it.
use Rattle.std.proofs.Common.{◌≡◌, ℕ, suc, ◌+◌, ◌-◌, ◌*◌, ◌/◌, ◌^◌, ◌<◌, true, List, [], ◌∷◌, length, get_or, Option, Some, None, is_some, refl, sym}
use Rattle.std.proofs.Common.{ap, ap₂, ◌∙◌, subst, ⊎_elim, All, arith, ltb-true, eqb-true}
use Rattle.std.specs.Prelude.{option_map, nat_lt, ◌==◌}
use Rattle.std.proofs.lemmas.Bool.{cases_Bool, or_cases, and_parts, false≢true, false_from_ne_true}
use Rattle.std.proofs.lemmas.List.Elements.{All-nil, All-cons, All-head, All-tail}
use Rattle.std.proofs.lemmas.Option.{none-some, same_Some}
use Rattle.uo_digest.specs.declared.digest.Digest.{Digest}
use Rattle.leaf_record.specs.Leaf.{Leaf, leaf_text}
use Rattle.leaf_record.specs.History.{History}
use Rattle.forest_place.specs.declared.place.Place.{Place}
use Rattle.forest_place.specs.Forest.{is_slot, root_off, IsSlotOf}
use Rattle.forest_place.specs.Places.{is_at, has_place, IsDistinct, places}
use Rattle.forest_place.proofs.Listed.{same_from_is_at, places_had}
use Rattle.forest_place.proofs.Parts.{root_off-is_root}
use Rattle.forest_place.proofs.Slots.{slot_of_root, slot_of_child, one_slot}
use Rattle.forest_model.specs.Content.{Tree, leaf, content, digest_of}
use Rattle.forest_model.specs.Standing.{tree_at, digest_at}
use Rattle.forest_model.specs.EntryPlace.{entry_place}
use Rattle.forest_model.specs.Cover.{is_above, HasShape}
use Rattle.forest_model.specs.Right.{entries}
use Rattle.forest_model.proofs.Climbs.{tree_at-forest, nothing_beneath, all_trees}
use Rattle.forest_model.proofs.Living.{entry_found}
use Rattle.forest_roots.specs.Stump.{Stump, root_in, StandsFor}
use Rattle.cache_model.specs.declared.kept.Kept.{Kept}
use Rattle.cache_model.specs.Cache.{held_at}
use Rattle.cache_model.specs.Known.{kept, kept_places}
use Rattle.cache_model.specs.Lists.{IsCacheOf, kept_leaf, kept_leaf_of, leaf_places, leaf_key, AscendByNumber}
use Rattle.cache_model.specs.Undo.{find, is_same_number}
use Rattle.cache_model.proofs.Deleted.{held_at_some}
use Rattle.cache_model.proofs.Histories.{is_ordered}
use Rattle.cache_model.proofs.Keeping.{live_within}
use Rattle.cache_model.proofs.Lists.{entry_at}
use Rattle.cache_model.proofs.Undoing.{number_order}
use Rattle.cache_update.specs.Beside.{IsRooted, AreOfRoots}
use Rattle.cache_update.proofs.Shaped.{IsPlaceIn, each_from}
use Rattle.cache_update.proofs.Within.{IsHeldIn, passed}

module _ (es : List (Option Digest)) where
  -- the root of its slot has what stands in the forest
  record HasTop (row off : ℕ) (t : Tree) : Type 0 where
    h : ℕ
    of_slot : IsSlotOf (length es) row off h
    tree : Tree
    top : content es h (root_off (length es) h) ≡ Some tree

  child_slot : (row off p h : ℕ) → p / 2 ≡ off → IsSlotOf (length es) (suc row) off h → IsSlotOf (length es) row p h
  child_slot row off p h e s = slot_of_child (length es) row p h (subst (λ x. IsSlotOf (length es) (suc row) x h) (sym e) s)

  has_top : (row off : ℕ) (t : Tree) → tree_at es row off ≡ Some t → HasTop row off t
  has_top = all_trees es HasTop
      (λ row off t top e. record {
        h = row;
        of_slot = slot_of_root (length es) row off top;
        tree = t;
        top = ap (content es row) (sym (root_off-is_root (length es) row off top).0) ∙ e;
      })
      (λ row off l r up s p. record {
        h = p.h;
        of_slot = (let z : (2 * off) / 2 ≡ off = omega arith in child_slot row off (2 * off) p.h z p.of_slot);
        tree = p.tree;
        top = p.top;
      })
      (λ row off l r up s p. record {
        h = p.h;
        of_slot =
            (let z : (2 * off + 1) / 2 ≡ off = omega arith in child_slot row off (2 * off + 1) p.h z p.of_slot);
        tree = p.tree;
        top = p.top;
      })

  -- where a kept entry stands
  abbrev pub Stands : Kept → Type 0
  Stands k = tree_at es k.place.row k.place.off ≡ Some (leaf k.number k.digest)

  -- one of some entries that stands at a place
  record IsOneOf (ks : List Kept) (p : Place) : Type 0 where
    entry : Kept
    found : (v : Kept) × (find is_same_number leaf_key entry.number ks ≡ Some v)
    stands : tree_at es p.row p.off ≡ Some (leaf entry.number entry.digest)

  one_of : (ks : List Kept) → All Stands ks → (p : Place) → has_place (leaf_places ks) p.row p.off ≡ true → IsOneOf ks p
  one_of [] a p h = absurd (false≢true h)
  one_of (k ∷ ks) a p h =
      ⊎_elim
      (λ here. record {
        entry = k;
        found = (let t : is_same_number k.number k.number ≡ true = number_order.itself k.number in (k, rw t refl));
        stands = subst (λ (q : Place). tree_at es q.row q.off ≡ Some (leaf k.number k.digest)) (same_from_is_at p.row p.off k.place here)
            (All-head Stands k ks a);
      })
      (λ there.
      let w = one_of ks (All-tail Stands k ks a) p there in
      record { entry = w.entry; found = later w.entry.number w.found.0 w.found.1; stands = w.stands })
      (or_cases (is_at p.row p.off k.place) (has_place (leaf_places ks) p.row p.off) h)
    where
      later : (i : ℕ) (v : Kept) → find is_same_number leaf_key i ks ≡ Some v → (u : Kept) × (find is_same_number leaf_key i (k ∷ ks) ≡ Some u)
      later i v e = ⊎_elim (λ t. (k, rw t refl)) (λ t. (v, rw t e)) (cases_Bool (is_same_number i k.number))

  distinct : (ks : List Kept) → AscendByNumber ks → All Stands ks → IsDistinct (leaf_places ks)
  distinct [] up a = tt
  distinct (k ∷ ks) up a = (
    false_from_ne_true (has_place (leaf_places ks) k.place.row k.place.off) (λ again.
        let w = one_of ks (All-tail Stands k ks a) k.place again in
        let same : Some (leaf k.number k.digest) ≡ Some (leaf w.entry.number w.entry.digest) = sym (All-head Stands k ks a) ∙ w.stands in
        let n : k.number ≡ w.entry.number = cc in
        let lt : k.number < w.entry.number = ltb-true k.number w.entry.number (up.0 w.entry.number w.found.0 w.found.1) in
        omega (arith, n, lt)),
    distinct ks up.1 (All-tail Stands k ks a),
  )

  shape : (ks : List Kept) → AscendByNumber ks → All Stands ks → HasShape (length es) (leaf_places ks)
  shape ks up a = record {
    within = λ p h. let w = one_of ks a p h in tree_at-forest es p.row p.off _ w.stands;
    distinct = distinct ks up a;
    apart = λ p q hp hq. false_from_ne_true (is_above p q) (λ above.
        let both = and_parts (nat_lt q.row p.row) (q.off / 2 ^ (p.row - q.row) == p.off) above in
        let lt : q.row < p.row = ltb-true _ _ both.0 in
        let at : q.off / 2 ^ (p.row - q.row) ≡ p.off = eqb-true _ _ both.1 in
        let high = one_of ks a p hp in
        let low = one_of ks a q hq in
        let k = p.row - q.row - 1 in
        let e : p.row - q.row ≡ suc k = omega (arith, lt) in
        let f : p.row ≡ q.row + suc k = omega (arith, lt) in
        let g : q.off / 2 ^ suc k ≡ p.off = subst (λ j. q.off / 2 ^ j ≡ p.off) e at in
        let s : tree_at es (q.row + suc k) (q.off / 2 ^ suc k) ≡ Some (leaf high.entry.number high.entry.digest) =
        ap₂ (tree_at es) (sym f) g ∙ high.stands in
        none-some _ (sym (nothing_beneath es k q.row q.off _ _ s) ∙ low.stands));
  }

module _ (H : List ℕ → Digest) (scripts : List (List ℕ)) (us : History) (f : Stump) (ks : List Kept)
    (hs : List (Place × Digest)) (standing : StandsFor H (entries H leaf_text us) f) (s : IsCacheOf H scripts us ks hs) where
  abbrev es : List (Option Digest)
  es = entries H leaf_text us

  count : f.leaves ≡ length es
  count = standing.leaves

  abbrev IsOne : Kept → Type 0
  IsOne k = Stands es k × (k.number < length es)

  as_one : (i : ℕ) (x : Option Leaf) (y : Option Place) (k : Kept) → get_or us i None ≡ x → entry_place es i ≡ y
      → kept_leaf_of (λ r. H (leaf_text r)) i x y ≡ Some k → IsOne k
  as_one i None y k a b e = absurd (none-some k e)
  as_one i (Some r) None k a b e = absurd (none-some k e)
  as_one i (Some r) (Some p) k a b e =
      let live : get_or es i None ≡ Some (H (leaf_text r)) = entry_at H us i ∙ ap (option_map (λ x. H (leaf_text x))) a in
      let w = entry_found es i (H (leaf_text r)) live in
      let same : w.0 ≡ p = same_Some w.0 p (sym w.1 ∙ b) in
      subst IsOne (same_Some _ k e) (
        subst (λ (q : Place). tree_at es q.row q.off ≡ Some (leaf i (H (leaf_text r)))) same w.2,
        live_within es i (H (leaf_text r)) live,
      )

  each_one : All IsOne ks
  each_one =
      subst (All IsOne) (sym s.of_kept)
      (passed (λ (i : ℕ). Unit {0}) IsOne (kept_leaf H us) (λ i k u e. as_one i (get_or us i None) (entry_place es i) k refl refl e)
      (kept scripts us) (any (kept scripts us)))
    where
      any : (xs : List ℕ) → All (λ (i : ℕ). Unit {0}) xs
      any [] = All-nil (λ (i : ℕ). Unit {0})
      any (x ∷ xs) = All-cons (λ (i : ℕ). Unit {0}) x xs tt (any xs)

  weaker : (P Q : Kept → Type 0) → ((k : Kept) → P k → Q k) → (xs : List Kept) → All P xs → All Q xs
  weaker P Q g [] a = All-nil Q
  weaker P Q g (x ∷ xs) a = All-cons Q x xs (g x (All-head P x xs a)) (weaker P Q g xs (All-tail P x xs a))

  rooted : (k : Kept) → IsOne k → IsRooted f k.place
  rooted k one row t =
      let w = has_top es k.place.row k.place.off (leaf k.number k.digest) one.0 in
      let same : row ≡ w.h = one_slot (length es) k.place.row k.place.off row w.h (subst (λ n. IsSlotOf n k.place.row k.place.off row) count t)
      w.of_slot in
      ap (λ x. is_some (root_in f x)) same
      ∙ (ap is_some (standing.roots w.h (ap (λ n. is_slot n w.h) count ∙ w.of_slot.slot)) ∙ ap (λ x. is_some (option_map (digest_of H) x)) w.top)

  held_within : All (IsHeldIn (length es)) hs
  held_within =
      subst (All (IsHeldIn (length es))) (sym s.of_held)
      (passed (IsPlaceIn (length es)) (IsHeldIn (length es)) (held_at (digest_at H es) (length es) (kept_places H scripts us))
      (λ p x h e. subst (IsPlaceIn (length es)) (sym (held_at_some (digest_at H es) (length es) (kept_places H scripts us) p x e).0) h)
      (places (length es)) (each_from (IsPlaceIn (length es)) (places (length es)) (λ q h. places_had (length es) q.row q.off h)))

  pub of_its_roots : AreOfRoots f ks hs
  of_its_roots = record {
    numbers = weaker IsOne (λ (k : Kept). k.number < f.leaves) (λ k one. subst (λ n. k.number < n) (sym count) one.1) ks each_one;
    shape = subst (λ n. HasShape n (leaf_places ks)) (sym count)
        (shape es ks (is_ordered H scripts us ks hs s).0 (weaker IsOne (Stands es) (λ k one. one.0) ks each_one));
    rooted = weaker IsOne (λ (k : Kept). IsRooted f k.place) rooted ks each_one;
    held = subst (λ n. All (IsHeldIn n) hs) (sym count) held_within;
  }
