-- From parts to what stands at places.
use Rattle.std.proofs.Common.{◌≡◌, ℕ, zero, suc, ◌+◌, ◌-◌, ◌*◌, ◌/◌, ◌%◌, ◌<◌, ◌≤◌, Bool, true, false, List, length, get_or, Option, Some, None}
use Rattle.std.proofs.Common.{refl, sym, ap, ap₂, ◌∙◌, subst, ⊎_elim, ◌⊎◌, inl, inr, arith}
use Rattle.std.specs.Prelude.{option_map, is_some}
use Rattle.std.proofs.lemmas.Bool.{true≢false, false≢true, cases_eq}
use Rattle.uo_digest.specs.declared.digest.Digest.{Digest}
use Rattle.forest_place.specs.declared.place.Place.{Place}
use Rattle.forest_model.specs.Content.{Tree, leaf, inner, join, content, digest_of}
use Rattle.forest_place.specs.Forest.{InForest, is_root, sibling_off}
use Rattle.forest_model.specs.Standing.{half, tree_at}
use Rattle.forest_model.specs.EntryPlace.{entry_place}
use Rattle.forest_model.proofs.EntryPlaces.{entry_place-leaf}
use Rattle.forest_place.proofs.Parts.{InForest-left, InForest-right, InForest-up}
use Rattle.forest_place.proofs.Siblings.{sibling_cases, sibling_off-left, sibling_off-right}
use Rattle.forest_model.proofs.Climbs.{tree_at-root, tree_at-up, tree_at-forest}
use Rattle.forest_model.proofs.Moving.{child_stands}
use Rattle.forest_model.proofs.Unique.{tree_at-rows}
use Rattle.forest_model.proofs.Deleting.{join-none}
use Rattle.live_forest.specs.Stores.{StoreState}
use Rattle.live_forest.specs.Parts.{AreParts, kept}
use Rattle.live_forest.specs.Lookups.{AreAlike, IsSmallest, IsPartAt}
use Rattle.live_forest.proofs.Refreshing.{kept_right}

-- that something is kept is a test
pub none_of : (b : Bool) (x : Option Digest) → b ≡ is_some x → b ≡ false → None ≡ x
none_of b None e gone = refl
none_of b (Some d) e gone = absurd (false≢true (sym gone ∙ e))

pub some_of : (b : Bool) (x : Option Digest) → b ≡ is_some x → b ≡ true → (d : Digest) × (Some d ≡ x)
some_of b None e there = absurd (true≢false (sym there ∙ e))
some_of b (Some d) e there = (d, refl)

pub tree_above : (es : List (Option Digest)) (row off : ℕ) → 0 < row
    → content es row off ≡ join (content es (row - 1) (2 * off)) (content es (row - 1) (2 * off + 1))
tree_above es zero off h = absurd (omega arith)
tree_above es (suc row) off h =
    let e : suc row - 1 ≡ row = omega arith in
    ap (λ r. join (content es r (2 * off)) (content es r (2 * off + 1))) (sym e)

pub within_left : (n row off : ℕ) → 0 < row → InForest n row off → InForest n (row - 1) (2 * off)
within_left n zero off h w = absurd (omega arith)
within_left n (suc row) off h w = let e : suc row - 1 ≡ row = omega arith in subst (λ r. InForest n r (2 * off)) (sym e) (InForest-left n row off w)

pub within_right : (n row off : ℕ) → 0 < row → InForest n row off → InForest n (row - 1) (2 * off + 1)
within_right n zero off h w = absurd (omega arith)
within_right n (suc row) off h w = let e : suc row - 1 ≡ row = omega arith in
    subst (λ r. InForest n r (2 * off + 1)) (sym e) (InForest-right n row off w)

is_some-map : (H : List ℕ → Digest) (x : Option Tree) → is_some (option_map (digest_of H) x) ≡ is_some x
is_some-map H None = refl
is_some-map H (Some t) = refl

pub alike : (H : List ℕ → Digest) (es : List (Option Digest)) (parts : StoreState) → AreParts H (length es) es parts → AreAlike es parts
alike H es parts right = record {
  is = λ row off h. ap is_some (kept_right H (length es) es parts row off right h)
      ∙ is_some-map H (content es row off);
}

some_from : (x : Option Tree) → true ≡ is_some x → (t : Tree) × (x ≡ Some t)
some_from None e = absurd (true≢false e)
some_from (Some t) e = (t, refl)

none_from : (x : Option Tree) → false ≡ is_some x → x ≡ None
none_from None e = refl
none_from (Some t) e = absurd (true≢false (sym e))

none_kept : (x : Option Digest) → (x ≡ None → ⊥) → true ≡ is_some x
none_kept None h = absurd (h refl)
none_kept (Some d) h = refl

module _ (es : List (Option Digest)) (parts : StoreState) (right : AreAlike es parts) where
  pub tree_some : (row off : ℕ) (d : Digest) → InForest (length es) row off → Some d ≡ kept es parts row off
      → (t : Tree) × (content es row off ≡ Some t)
  tree_some row off d h e = some_from (content es row off) (ap is_some e ∙ right.is row off h)

  pub tree_none : (row off : ℕ) → InForest (length es) row off → None ≡ kept es parts row off → content es row off ≡ None
  tree_none row off h e = none_from (content es row off) (let f : None ≡ kept es parts row off = e in ap is_some f ∙ right.is row off h)

  pub tree_not_none : (row off : ℕ) → InForest (length es) row off → (kept es parts row off ≡ None → ⊥) → (t : Tree) × (content es row off ≡ Some t)
  tree_not_none row off h ne = some_from (content es row off) (none_kept (kept es parts row off) ne ∙ right.is row off h)

  pub kept_not_none : (row off : ℕ) (t : Tree) → InForest (length es) row off → content es row off ≡ Some t → kept es parts row off ≡ None → ⊥
  kept_not_none row off t h e f = true≢false (sym (ap is_some e) ∙ sym (right.is row off h) ∙ ap is_some f)

  -- the left half is nothing
  pub smallest_right : (row off : ℕ) (q : Place) → 0 < row → InForest (length es) row off → None ≡ kept es parts (row - 1) (2 * off)
      → IsSmallest es (row - 1) (2 * off + 1) q → IsSmallest es row off q
  smallest_right row off q some h e s =
      record {
        within = s.within;
        same = tree_above es row off some ∙ ap (λ x. join x (content es (row - 1) (2 * off + 1)))
            (tree_none (row - 1) (2 * off) (within_left (length es) row off some h) e) ∙ s.same;
        split = s.split;
      }

  -- the right half is nothing
  pub smallest_left : (row off : ℕ) (q : Place) → 0 < row → InForest (length es) row off → None ≡ kept es parts (row - 1) (2 * off + 1)
      → IsSmallest es (row - 1) (2 * off) q → IsSmallest es row off q
  smallest_left row off q some h e s =
      record {
        within = s.within;
        same = tree_above es row off some ∙ ap (join (content es (row - 1) (2 * off)))
            (tree_none (row - 1) (2 * off + 1) (within_right (length es) row off some h) e) ∙ join-none (content es (row - 1) (2 * off)) ∙ s.same;
        split = s.split;
      }

  -- neither is nothing
  pub smallest_here : (row off : ℕ) (x y : Digest) → 0 < row → InForest (length es) row off → Some x ≡ kept es parts (row - 1) (2 * off)
      → Some y ≡ kept es parts (row - 1) (2 * off + 1) → IsSmallest es row off (record { row = row; off = off })
  smallest_here row off x y some h e f =
      record {
        within = h;
        same = refl;
        split = λ _.
            let l = tree_some (row - 1) (2 * off) x (within_left (length es) row off some h) e in
            let r = tree_some (row - 1) (2 * off + 1) y (within_right (length es) row off some h) f in
            (l.0, r.0, l.1, r.1);
      }

  pub part_at_root : (row off : ℕ) (d : Digest) → is_root (length es) row off ≡ true → InForest (length es) row off → Some d ≡ kept es parts row off
      → IsPartAt es row off (record { row = row; off = off })
  part_at_root row off d root h e = record { within = h; is = tree_at-root es row off root; some = tree_some row off d h e }

  pub nothing_at_root : (row off : ℕ) → is_root (length es) row off ≡ true → InForest (length es) row off → None ≡ kept es parts row off
      → tree_at es row off ≡ None
  nothing_at_root row off root h e = tree_at-root es row off root ∙ tree_none row off h e

  -- a part and its place go up and down together
  pub up_code : (row off : ℕ) → InForest (length es) row off → is_root (length es) row off ≡ false → InForest (length es) (row + 1) (off / 2)
  up_code row off h other = let e : suc row ≡ row + 1 = omega arith in
      subst (λ r. InForest (length es) r (off / 2)) e (InForest-up (length es) row off h other)

  standing-above : (row off : ℕ) → InForest (length es) row off → is_root (length es) row off ≡ false
      → tree_at es row off ≡ half (off % 2) (tree_at es (row + 1) (off / 2))
  standing-above row off h other =
      let e : suc row ≡ row + 1 = omega arith in
      tree_at-up es row off (InForest-up (length es) row off h other) ∙ ap (λ r. half (off % 2) (tree_at es r (off / 2))) e

  -- nothing above, or an entry above
  pub nothing_below : (row off : ℕ) → InForest (length es) row off → is_root (length es) row off ≡ false → tree_at es (row + 1) (off / 2) ≡ None
      → tree_at es row off ≡ None
  nothing_below row off h other e = standing-above row off h other ∙ ap (half (off % 2)) e

  half_leaf : (side i : ℕ) (x : Option Digest) → half side (option_map (leaf i) x) ≡ None
  half_leaf side i None = refl
  half_leaf side i (Some d) = refl

  pub entry_above : (row off : ℕ) (p q : Place) → InForest (length es) row off → is_root (length es) row off ≡ false
      → IsPartAt es (row + 1) (off / 2) p → IsSmallest es p.row p.off q → q.row ≡ 0 → tree_at es row off ≡ None
  entry_above row off p q h other a s low =
      standing-above row off h other ∙ ap (half (off % 2)) (a.is ∙ s.same ∙ ap (λ r. content es r q.off) low)
      ∙ half_leaf (off % 2) q.off (get_or es q.off None)

  -- an inner node above: its half on this side
  half_side : (side : ℕ) (x y : Option Tree) (l r : Tree) → side < 2 → x ≡ Some l → y ≡ Some r → (t : Tree) × (half side (join x y) ≡ Some t)
      × ((side ≡ 0 → x ≡ Some t) × (side ≡ 1 → y ≡ Some t))
  half_side zero x y l r lt e f = (l, ap₂ (λ a b. half 0 (join a b)) e f, ((λ _. e), (λ z. absurd (omega (arith, z)))))
  half_side (suc k) x y l r lt e f = (r, ap₂ (λ a b. half (suc k) (join a b)) e f, ((λ z. absurd (omega (arith, z))), (λ _. f)))

  pub node_above : (row off : ℕ) (p q : Place) → InForest (length es) row off → is_root (length es) row off ≡ false
      → IsPartAt es (row + 1) (off / 2) p → IsSmallest es p.row p.off q → 0 < q.row
      → IsPartAt es row off (record { row = q.row - 1; off = 2 * q.off + off % 2 })
  node_above row off p q h other a s high =
      let b = s.split high in
      let side : off % 2 < 2 = omega arith in
      let w = half_side (off % 2) (content es (q.row - 1) (2 * q.off)) (content es (q.row - 1) (2 * q.off + 1)) b.0 b.1 side b.2 b.3 in
      let stands : tree_at es row off ≡ Some w.0 =
      standing-above row off h other ∙ ap (half (off % 2)) (a.is ∙ s.same ∙ tree_above es q.row q.off high) ∙ w.1 in
      ⊎_elim
      (λ even.
      let o : 2 * q.off ≡ 2 * q.off + off % 2 = omega (arith, even) in
      let t : content es (q.row - 1) (2 * q.off + off % 2) ≡ Some w.0 = ap (content es (q.row - 1)) (sym o) ∙ w.2.0 even in
      record {
        within = subst (λ x. InForest (length es) (q.row - 1) x) o (within_left (length es) q.row q.off high s.within);
        is = stands ∙ sym t;
        some = (w.0, t);
      })
      (λ ne.
      let odd : off % 2 ≡ 1 = omega (arith, ne, side) in
      let o : 2 * q.off + 1 ≡ 2 * q.off + off % 2 = omega (arith, odd) in
      let t : content es (q.row - 1) (2 * q.off + off % 2) ≡ Some w.0 = ap (content es (q.row - 1)) (sym o) ∙ w.2.1 odd in
      record {
        within = subst (λ x. InForest (length es) (q.row - 1) x) o (within_right (length es) q.row q.off high s.within);
        is = stands ∙ sym t;
        some = (w.0, t);
      })
      (cases_eq (off % 2) 0)

  -- nothing stands outside the forest
  pub outside : (row off : ℕ) → (InForest (length es) row off → ⊥) → tree_at es row off ≡ None
  outside row off h = by_tree (tree_at es row off) refl
    where
      by_tree : (x : Option Tree) → tree_at es row off ≡ x → x ≡ None
      by_tree None e = refl
      by_tree (Some t) e = absurd (h (tree_at-forest es row off t e))

  -- the part above is this part and the one beside it
  pub halves_even : (row off : ℕ) → off % 2 ≡ 0 → content es (row + 1) (off / 2) ≡ join (content es row off) (content es row (sibling_off off))
  halves_even row off even =
      let e : row + 1 ≡ suc row = omega arith in
      let l : 2 * (off / 2) ≡ off = omega (arith, even) in
      let r : 2 * (off / 2) + 1 ≡ sibling_off off = ⊎_elim (λ a. omega (arith, a)) (λ a. absurd (omega (arith, a, even))) (sibling_cases off) in
      ap (λ k. content es k (off / 2)) e ∙ ap₂ (λ a b. join (content es row a) (content es row b)) l r

  pub halves_odd : (row off : ℕ) → off % 2 ≡ 1 → content es (row + 1) (off / 2) ≡ join (content es row (sibling_off off)) (content es row off)
  halves_odd row off odd =
      let e : row + 1 ≡ suc row = omega arith in
      let l : 2 * (off / 2) ≡ sibling_off off = ⊎_elim (λ a. absurd (omega (arith, a, odd))) (λ a. omega (arith, a)) (sibling_cases off) in
      let r : 2 * (off / 2) + 1 ≡ off = omega (arith, odd) in
      ap (λ k. content es k (off / 2)) e ∙ ap₂ (λ a b. join (content es row a) (content es row b)) l r

  joined_left : (x y : Option Tree) (t : Tree) → x ≡ Some t → (s : Tree) × (join x y ≡ Some s)
  joined_left x None t e = (t, join-none x ∙ e)
  joined_left x (Some r) t e = (inner t r, ap (λ z. join z (Some r)) e)

  joined_right : (x y : Option Tree) (t : Tree) → y ≡ Some t → (s : Tree) × (join x y ≡ Some s)
  joined_right None y t e = (t, e)
  joined_right (Some l) y t e = (inner l t, ap (join (Some l)) e)

  odd_or_even : (off : ℕ) → (off % 2 ≡ 0) ⊎ (off % 2 ≡ 1)
  odd_or_even off = ⊎_elim (λ e. inl e) (λ ne. inr (omega (arith, ne))) (cases_eq (off % 2) 0)

  pub kept_above_some : (row off : ℕ) → InForest (length es) row off → InForest (length es) (row + 1) (off / 2) → (kept es parts row off ≡ None → ⊥)
      → kept es parts (row + 1) (off / 2) ≡ None → ⊥
  kept_above_some row off h up ne =
      let t = tree_not_none row off h ne in
      let beside = content es row (sibling_off off) in
      let above : (s : Tree) × (content es (row + 1) (off / 2) ≡ Some s) =
      ⊎_elim
      (λ even. let w = joined_left (content es row off) beside t.0 t.1 in (w.0, halves_even row off even ∙ w.1))
      (λ odd. let w = joined_right beside (content es row off) t.0 t.1 in (w.0, halves_odd row off odd ∙ w.1))
      (odd_or_even off) in
      kept_not_none (row + 1) (off / 2) above.0 up above.1

  -- with nothing beside it, it stands where the part above does
  pub place_same : (row off : ℕ) (q : Place) → InForest (length es) row (sibling_off off) → tree_at es q.row q.off ≡ content es (row + 1) (off / 2)
      → None ≡ kept es parts row (sibling_off off) → tree_at es q.row q.off ≡ content es row off
  place_same row off q within s e =
      let beside = tree_none row (sibling_off off) within e in
      s ∙ ⊎_elim
      (λ even. halves_even row off even ∙ ap (join (content es row off)) beside ∙ join-none (content es row off))
      (λ odd. halves_odd row off odd ∙ ap (λ x. join x (content es row off)) beside)
      (odd_or_even off)

  -- else it stands at a child
  pub node_high : (q : Place) (l r : Tree) → tree_at es q.row q.off ≡ Some (inner l r) → 1 ≤ q.row
  node_high q l r s = by_row q.row refl
    where
      by_row : (row : ℕ) → q.row ≡ row → 1 ≤ q.row
      by_row zero e = absurd (tree_at-rows es 0 q.off (inner l r) (subst (λ k. tree_at es k q.off ≡ Some (inner l r)) e s))
      by_row (suc row) e = omega arith

  -- and with its sibling there
  pub record AreChildren (row off : ℕ) (q : Place) : Type 0 where
    pub high : 1 ≤ q.row
    pub here : tree_at es (q.row - 1) (2 * q.off + off % 2) ≡ content es row off
    pub beside : tree_at es (q.row - 1) (sibling_off (2 * q.off + off % 2)) ≡ content es row (sibling_off off)

  pub place_children : (row off : ℕ) (q : Place) (d : Digest) → InForest (length es) row off → InForest (length es) row (sibling_off off)
      → (kept es parts row off ≡ None → ⊥) → tree_at es q.row q.off ≡ content es (row + 1) (off / 2) → Some d ≡ kept es parts row (sibling_off off)
      → AreChildren row off q
  place_children row off q d h within ne s e =
      let t = tree_not_none row off h ne in
      let b = tree_some row (sibling_off off) d within e in
      ⊎_elim
      (λ even.
      let stands : tree_at es q.row q.off ≡ Some (inner t.0 b.0) = s ∙ halves_even row off even ∙ ap₂ join t.1 b.1 in
      let o : 2 * q.off + off % 2 ≡ 2 * q.off + 0 = omega (arith, even) in
      let r : sibling_off (2 * q.off + off % 2) ≡ 2 * q.off + 1 = ap sibling_off (let z : 2 * q.off + off % 2 ≡ 2 * q.off = omega (arith, even) in z)
      ∙ sibling_off-left q.off in
      let two = child_stands es q t.0 b.0 stands in
      record {
        high = node_high q t.0 b.0 stands;
        here = ap (tree_at es (q.row - 1)) o ∙ two.0 ∙ sym t.1;
        beside =
            ap (tree_at es (q.row - 1)) r ∙ two.1 ∙ sym b.1;
      })
      (λ odd.
      let stands : tree_at es q.row q.off ≡ Some (inner b.0 t.0) = s ∙ halves_odd row off odd ∙ ap₂ join b.1 t.1 in
      let o : 2 * q.off + off % 2 ≡ 2 * q.off + 1 = omega (arith, odd) in
      let r : sibling_off (2 * q.off + off % 2) ≡ 2 * q.off + 0 = ap sibling_off o ∙ sibling_off-right q.off
      ∙ (let z : 2 * q.off ≡ 2 * q.off + 0 = omega arith in z) in
      let two = child_stands es q b.0 t.0 stands in
      record {
        high = node_high q b.0 t.0 stands;
        here = ap (tree_at es (q.row - 1)) o ∙ two.1 ∙ sym t.1;
        beside =
            ap (tree_at es (q.row - 1)) r ∙ two.0 ∙ sym b.1;
      })
      (odd_or_even off)

  pub place_child_within : (row off : ℕ) (q : Place) → tree_at es q.row q.off ≡ content es row off → InForest (length es) row off
      → (kept es parts row off ≡ None → ⊥) → InForest (length es) q.row q.off
  place_child_within row off q s h ne = let t = tree_not_none row off h ne in tree_at-forest es q.row q.off t.0 (s ∙ t.1)

-- a live entry that stands at a place has it as its place
pub entry_place-stands : (es : List (Option Digest)) (i : ℕ) (p : Place) → is_some (get_or es i None) ≡ true
    → tree_at es p.row p.off ≡ option_map (leaf i) (get_or es i None) → entry_place es i ≡ Some p
entry_place-stands es i p live s = by_entry (get_or es i None) refl live
  where
    by_entry : (x : Option Digest) → get_or es i None ≡ x → is_some x ≡ true → entry_place es i ≡ Some p
    by_entry None e l = absurd (true≢false (sym l))
    by_entry (Some d) e l = entry_place-leaf es i p.row p.off d (s ∙ ap (option_map (leaf i)) e)
