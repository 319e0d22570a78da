-- Where a deletion and an addition move places, as such rules.
use Rattle.std.proofs.Common.{◌≡◌, ℕ, zero, suc, ◌+◌, ◌-◌, ◌*◌, ◌/◌, ◌%◌, ◌^◌, ◌<◌, ◌≤◌, Bool, true, false, cond, List, Option, Some, None, refl, sym}
use Rattle.std.proofs.Common.{ap, ◌∙◌, subst, ⊎_elim, inl, inr, arith, eqb-true}
use Rattle.std.specs.Prelude.{◌⊎◌, ◌==◌}
use Rattle.std.proofs.lemmas.Bool.{cases_Bool, cases_lt, true≢false}
use Rattle.std.proofs.lemmas.Option.{none-some, same_Some}
use Rattle.forest_place.specs.declared.place.Place.{Place}
use Rattle.forest_place.specs.Forest.{InForest, is_root, is_slot, root_off, sibling_off}
use Rattle.forest_place.specs.Places.{child}
use Rattle.forest_place.proofs.Listed.{place}
use Rattle.forest_place.proofs.Parts.{InForest-up, InForest-root, is_root-root_off, whole_parts}
use Rattle.forest_model.specs.Addition.{all_slots, carried_place}
use Rattle.forest_model.specs.Deletion.{is_gone, moved, child_place}
use Rattle.forest_model.proofs.Moving.{moved-step, moved-root, moved_stays}
use Rattle.cache_model.specs.Cache.{raised}
use Rattle.cache_model.proofs.Raising.{raised-step, raised-joined, raised-same}
use Rattle.cache_update.proofs.Moves.{goes_within}
use Rattle.cache_update.proofs.Within.{carried_in, raised_in}
use Rattle.cache_update.proofs.Spans.{high, IsIn, AreApart, in_itself, in_in, apart_in, apart_turned, child_in_span, halves_apart, root_last}

-- different roots
pub roots_apart : (n r h : ℕ) → r < h → is_slot n r ≡ true → is_slot n h ≡ true → AreApart (place r (root_off n r)) (place h (root_off n h))
roots_apart n r h lt a b =
    let top = is_root-root_off n r a in
    let in_h = InForest-root n h (root_off n h) (is_root-root_off n h b) in
    inr (root_last n r (root_off n r) h (root_off n h) top in_h (omega (arith, lt)) (λ same _. omega (arith, same, lt)))

-- ---- a deletion

-- what is no root and moves goes where its parent goes, or to its side of there
record HasParent (n : ℕ) (ts : List Place) (r o : ℕ) (q : Place) : Type 0 where
  parent : Place
  goes : moved n ts (suc r) (o / 2) ≡ Some parent
  to : ((is_gone ts r (sibling_off o) ≡ true) × (q ≡ parent)) ⊎ (q ≡ child (o % 2) parent)

module _ (n : ℕ) (ts : List Place) where
  has_parent : (r o : ℕ) (q : Place) → InForest n r o → is_root n r o ≡ false → moved n ts r o ≡ Some q → HasParent n ts r o q
  has_parent r o q h not_root e =
      let kept = moved_stays n ts r o q h e in
      let z : child_place (is_gone ts r (sibling_off o)) (o % 2) (moved n ts (suc r) (o / 2)) ≡ Some q =
      rw (kept, not_root) at (sym (moved-step n ts r o h) ∙ e) in
      by_child (is_gone ts r (sibling_off o)) refl (moved n ts (suc r) (o / 2)) refl z
    where
      by_child : (g : Bool) → is_gone ts r (sibling_off o) ≡ g → (m : Option Place) → moved n ts (suc r) (o / 2) ≡ m
          → child_place g (o % 2) m ≡ Some q → HasParent n ts r o q
      by_child g a None b e = absurd (none-some q e)
      by_child true a (Some p) b e = record { parent = p; goes = b; to = inl (a, sym (same_Some p q e)) }
      by_child false a (Some p) b e = record { parent = p; goes = b; to = inr (sym (same_Some (child (o % 2) p) q e)) }

  within_parent : (r o : ℕ) (q : Place) → InForest n r o → is_root n r o ≡ false → (w : HasParent n ts r o q) → IsIn q w.parent
  within_parent r o q h not_root w =
      let at = goes_within n ts (n - suc r) (suc r) (o / 2) w.parent refl (InForest-up n r o h not_root) w.goes in
      let some : 0 < w.parent.row = omega (arith, at.0) in
      ⊎_elim
      (λ s. subst (λ (x : Place). IsIn x w.parent) (sym s.1) (in_itself w.parent))
      (λ s. subst (λ (x : Place). IsIn x w.parent) (sym s) (child_in_span (o % 2) w.parent some (omega arith)))
      w.to

  pub moved_up : (r o : ℕ) (q : Place) → InForest n r o → is_root n r o ≡ false → moved n ts r o ≡ Some q
      → (p : Place) × (moved n ts (suc r) (o / 2) ≡ Some p) × IsIn q p
  moved_up r o q h not_root e = let w = has_parent r o q h not_root e in (w.parent, w.goes, within_parent r o q h not_root w)

  beside : (o u : ℕ) → o / 2 ≡ u / 2 → (o ≡ u → ⊥) → sibling_off o ≡ u
  beside o u e ne = ⊎_elim
      (λ even. let a : o % 2 ≡ 0 = eqb-true _ _ even in rw even (let z : o + 1 ≡ u = omega (arith, a, e, ne) in z))
      (λ odd. let a : o % 2 ≡ 0 → ⊥ = (λ x. true≢false (sym (even_is o x) ∙ odd)) in rw odd (let z : o - 1 ≡ u = omega (arith, a, e, ne) in z))
      (cases_Bool (o % 2 == 0))
    where
      even_is : (o : ℕ) → o % 2 ≡ 0 → (o % 2 == 0) ≡ true
      even_is o x = rw x refl

  pub moved_halves : (r o u : ℕ) (p q : Place) → InForest n r o → InForest n r u → is_root n r o ≡ false → is_root n r u ≡ false → o / 2 ≡ u / 2
      → (o ≡ u → ⊥) → moved n ts r o ≡ Some p → moved n ts r u ≡ Some q → AreApart p q
  moved_halves r o u p q h i not_root not_root' e ne a b =
      let v = has_parent r o p h not_root a in
      let w = has_parent r u q i not_root' b in
      let same : v.parent ≡ w.parent = same_Some v.parent w.parent (sym v.goes ∙ (ap (moved n ts (suc r)) e ∙ w.goes)) in
      let left : p ≡ child (o % 2) v.parent = to_side r o u p h i e ne a q b v in
      let right : q ≡ child (u % 2) w.parent = to_side r u o q i h (sym e) (λ x. ne (sym x)) b p a w in
      subst (λ (x : Place). AreApart x q) (sym left)
      (subst (λ (y : Place). AreApart (child (o % 2) v.parent) y) (sym right)
      (subst (λ (z : Place). AreApart (child (o % 2) v.parent) (child (u % 2) z)) same
      (halves_apart (o % 2) (u % 2) v.parent (omega arith) (omega arith) (λ x. ne (omega (arith, x, e))))))
    where
      to_side : (r o u : ℕ) (p : Place) → InForest n r o → InForest n r u → o / 2 ≡ u / 2 → (o ≡ u → ⊥) → moved n ts r o ≡ Some p → (q : Place)
          → moved n ts r u ≡ Some q → (v : HasParent n ts r o p) → p ≡ child (o % 2) v.parent
      to_side r o u p h i e ne a q b v =
          ⊎_elim
          (λ s. absurd (true≢false (sym s.0 ∙ (ap (is_gone ts r) (beside o u e ne) ∙ moved_stays n ts r u q i b))))
          (λ s. s)
          v.to

  -- roots that stay keep their places
  pub moved_root_is : (h : ℕ) (q : Place) → is_slot n h ≡ true → moved n ts h (root_off n h) ≡ Some q → q ≡ place h (root_off n h)
  moved_root_is h q slot e =
      let top = is_root-root_off n h slot in
      let kept = moved_stays n ts h (root_off n h) q (InForest-root n h (root_off n h) top) e in
      same_Some q (place h (root_off n h)) (sym e ∙ moved-root n ts h (root_off n h) kept top)

  pub moved_roots : (r h : ℕ) (p q : Place) → r < h → is_slot n r ≡ true → is_slot n h ≡ true → Unit {0} → Unit {0}
      → moved n ts r (root_off n r) ≡ Some p → moved n ts h (root_off n h) ≡ Some q → AreApart p q
  moved_roots r h p q lt a b _ _ e g =
      subst (λ (x : Place). AreApart x q) (sym (moved_root_is r p a e))
      (subst (λ (y : Place). AreApart (place r (root_off n r)) y) (sym (moved_root_is h q b g)) (roots_apart n r h lt a b))

-- ---- an addition

-- m rows are joined, of which e says whose roots are empty
module _ (e : ℕ → Bool) (n m : ℕ) (all : all_slots n m ≡ true) where
  -- where a place goes
  abbrev pub rise : ℕ → ℕ → Option Place
  rise r o = Some (raised e n m r o)

  -- a joined root that is not empty, or a root that is not joined
  abbrev pub IsMet : ℕ → Type 0
  IsMet h = h < m → e h ≡ false

  row_is : (k row : ℕ) → row + k ≡ m → row ≤ (carried_place e n k row).row
  row_is k row f = (carried_in e n m all k row f).0

  -- what is carried to a row stands within what is carried to a row above
  carried_step : (k row : ℕ) → suc row + k ≡ m → IsIn (carried_place e n (suc k) row) (carried_place e n k (suc row))
  carried_step k row f =
      let le = row_is k (suc row) f in
      by_empty (e row) (let z : 0 < (carried_place e n k (suc row)).row = omega (arith, le) in z)
    where
      by_empty : (b : Bool) → 0 < (carried_place e n k (suc row)).row
          → IsIn (cond b (carried_place e n k (suc row)) (child 1 (carried_place e n k (suc row)))) (carried_place e n k (suc row))
      by_empty true lt = in_itself (carried_place e n k (suc row))
      by_empty false lt = child_in_span 1 (carried_place e n k (suc row)) lt (omega arith)

  carried_chain : (d a k row up : ℕ) → a ≡ k + d → up ≡ row + d → up + k ≡ m → IsIn (carried_place e n a row) (carried_place e n k up)
  carried_chain zero a k row up f g h =
      let x : k ≡ a = omega (arith, f) in
      let y : up ≡ row = omega (arith, g) in
      subst (λ i. IsIn (carried_place e n i row) (carried_place e n k up)) x
      (subst (λ i. IsIn (carried_place e n k i) (carried_place e n k up)) y (in_itself (carried_place e n k up)))
  carried_chain (suc d) a k row up f g h =
      let x : suc (k + d) ≡ a = omega (arith, f) in
      let next = carried_chain d (k + d) k (suc row) up refl (omega (arith, g)) h in
      subst (λ i. IsIn (carried_place e n i row) (carried_place e n k up)) x
      (in_in (carried_place e n (suc (k + d)) row) (carried_place e n (k + d) (suc row)) (carried_place e n k up)
      (carried_step (k + d) row (omega (arith, g, h))) next)

  -- what is carried to a row
  abbrev pub carried : ℕ → Place
  carried row = carried_place e n (m - row) row

  pub carried_below : (row up : ℕ) → row ≤ up → up ≤ m → IsIn (carried row) (carried up)
  carried_below row up a b = carried_chain (up - row) (m - row) (m - up) row up (omega (arith, a, b)) (omega (arith, a)) (omega (arith, b))

  carried_top : carried m ≡ place m (n / 2 ^ m)
  carried_top = let z : m - m ≡ 0 = omega arith in ap (λ k. carried_place e n k m) z

  -- where a root that is joined goes
  joined_at : (r : ℕ) → r < m → is_slot n r ≡ true → raised e n m r (root_off n r) ≡ child 0 (carried (suc r))
  joined_at r lt slot = raised-joined e n m r (root_off n r) (is_root-root_off n r slot) lt

  side_up : (s r : ℕ) → r < m → s < 2 → IsIn (child s (carried (suc r))) (carried (suc r))
  side_up s r lt b = let le = row_is (m - suc r) (suc r) (omega (arith, lt)) in child_in_span s (carried (suc r)) (omega (arith, le)) b

  -- beside a joined root that is not empty stands what was carried there
  carried_beside : (r : ℕ) → r < m → e r ≡ false → carried r ≡ child 1 (carried (suc r))
  carried_beside r lt not_root =
      let z : m - r ≡ suc (m - suc r) = omega (arith, lt) in
      ap (λ k. carried_place e n k r) z ∙ rw not_root refl

  pub joined_apart : (r : ℕ) (p : Place) → r < m → e r ≡ false → IsIn p (carried r) → AreApart p (child 0 (carried (suc r)))
  joined_apart r p lt not_root i =
      apart_in p (child 1 (carried (suc r))) (child 0 (carried (suc r))) (subst (IsIn p) (carried_beside r lt not_root) i)
      (halves_apart 1 0 (carried (suc r)) (omega arith) (omega arith) (λ x. omega (arith, x)))

  -- and roots that are not joined stand in front of it
  pub high_above : (h : ℕ) (p : Place) → m ≤ h → is_slot n h ≡ true → IsIn p (carried m) → AreApart (place h (root_off n h)) p
  high_above h p le slot i =
      let odd : n / 2 ^ h % 2 ≡ 1 = eqb-true _ _ slot in
      let last : root_off n h + 1 ≡ n / 2 ^ h = omega (arith, odd) in
      let w = whole_parts n m h le in
      let at : high (place h (root_off n h)) ≤ n / 2 ^ m * 2 ^ m = subst (λ x. x * 2 ^ h ≤ n / 2 ^ m * 2 ^ m) (sym last) w in
      let from : IsIn p (place m (n / 2 ^ m)) = subst (IsIn p) carried_top i in
      inl (omega (arith, at, from.0))

  raised_child : (r o : ℕ) → InForest n r o → is_root n r o ≡ false → raised e n m r o ≡ child (o % 2) (raised e n m (suc r) (o / 2))
  raised_child r o h not_root = raised-step e n m r o h ∙ rw not_root refl

  pub raised_up : (r o : ℕ) (q : Place) → InForest n r o → is_root n r o ≡ false → rise r o ≡ Some q → (p : Place) × (rise (suc r) (o / 2) ≡ Some p)
      × IsIn q p
  raised_up r o q h not_root g = (
    raised e n m (suc r) (o / 2),
    refl,
    (let at = raised_in e n m all (n - suc r) (suc r) (o / 2) refl (InForest-up n r o h not_root) in
        let some : 0 < (raised e n m (suc r) (o / 2)).row = omega (arith, at.0) in
        subst (λ (x : Place). IsIn x (raised e n m (suc r) (o / 2))) (sym (raised_child r o h not_root) ∙ same_Some (raised e n m r o) q g)
        (child_in_span (o % 2) (raised e n m (suc r) (o / 2)) some (omega arith))),
  )

  pub raised_halves : (r o u : ℕ) (p q : Place) → InForest n r o → InForest n r u → is_root n r o ≡ false → is_root n r u ≡ false → o / 2 ≡ u / 2
      → (o ≡ u → ⊥) → rise r o ≡ Some p → rise r u ≡ Some q → AreApart p q
  raised_halves r o u p q h i not_root not_root' f ne a b =
      let top = raised e n m (suc r) (o / 2) in
      let left : child (o % 2) top ≡ p = sym (raised_child r o h not_root) ∙ same_Some (raised e n m r o) p a in
      let right : child (u % 2) top ≡ q = ap (λ x. child (u % 2) (raised e n m (suc r) x)) f
      ∙ (sym (raised_child r u i not_root') ∙ same_Some (raised e n m r u) q b) in
      subst (λ (x : Place). AreApart x q) left (subst (λ (y : Place). AreApart (child (o % 2) top) y) right
      (halves_apart (o % 2) (u % 2) top (omega arith) (omega arith) (λ x. ne (omega (arith, x, f)))))

  pub raised_roots : (r h : ℕ) (p q : Place) → r < h → is_slot n r ≡ true → is_slot n h ≡ true → IsMet r → IsMet h → rise r (root_off n r) ≡ Some p
      → rise h (root_off n h) ≡ Some q → AreApart p q
  raised_roots r h p q lt a b fr fh g k =
      subst (λ (x : Place). AreApart x q) (same_Some (raised e n m r (root_off n r)) p g)
      (subst (λ (y : Place). AreApart (raised e n m r (root_off n r)) y) (same_Some (raised e n m h (root_off n h)) q k)
      (by_rows (cases_lt r m) (cases_lt h m)))
    where
      by_rows : (r < m) ⊎ (m ≤ r) → (h < m) ⊎ (m ≤ h) → AreApart (raised e n m r (root_off n r)) (raised e n m h (root_off n h))
      by_rows (inl x) (inl y) =
          subst (λ (z : Place). AreApart z (raised e n m h (root_off n h))) (sym (joined_at r x a))
          (subst (λ (z : Place). AreApart (child 0 (carried (suc r))) z) (sym (joined_at h y b))
          (joined_apart h (child 0 (carried (suc r))) y (fh y) (in_in (child 0 (carried (suc r))) (carried (suc r)) (carried h)
          (side_up 0 r x (omega arith)) (carried_below (suc r) h (omega (arith, lt)) (omega (arith, y))))))
      by_rows (inl x) (inr y) =
          subst (λ (z : Place). AreApart z (raised e n m h (root_off n h))) (sym (joined_at r x a))
          (subst (λ (z : Place). AreApart (child 0 (carried (suc r))) z) (sym (raised-same e n m h (root_off n h) (is_root-root_off n h b) y))
          (apart_turned (place h (root_off n h)) (child 0 (carried (suc r)))
          (high_above h (child 0 (carried (suc r))) y b (in_in (child 0 (carried (suc r))) (carried (suc r)) (carried m) (side_up 0 r x (omega arith))
          (carried_below (suc r) m (omega (arith, x)) (omega arith))))))
      by_rows (inr x) (inl y) = absurd (omega (arith, lt, x, y))
      by_rows (inr x) (inr y) =
          subst (λ (z : Place). AreApart z (raised e n m h (root_off n h))) (sym (raised-same e n m r (root_off n r) (is_root-root_off n r a) x))
          (subst (λ (z : Place). AreApart (place r (root_off n r)) z) (sym (raised-same e n m h (root_off n h) (is_root-root_off n h b) y))
          (roots_apart n r h lt a b))

  -- where a root goes: beneath the tree that is made, if it is joined
  pub root_in_made : (r : ℕ) → r < m → is_slot n r ≡ true → IsIn (raised e n m r (root_off n r)) (place m (n / 2 ^ m))
  root_in_made r lt slot =
      subst (λ (z : Place). IsIn z (place m (n / 2 ^ m))) (sym (joined_at r lt slot))
      (subst (IsIn (child 0 (carried (suc r)))) carried_top (in_in (child 0 (carried (suc r))) (carried (suc r)) (carried m)
      (side_up 0 r lt (omega arith)) (carried_below (suc r) m (omega (arith, lt)) (omega arith))))

  pub last_in_made : IsIn (carried 0) (place m (n / 2 ^ m))
  last_in_made = subst (IsIn (carried 0)) carried_top (carried_below 0 m (omega arith) (omega arith))

  -- the new entry is apart from where each root goes that is met
  pub root_beside_last : (r : ℕ) → is_slot n r ≡ true → IsMet r → AreApart (raised e n m r (root_off n r)) (carried 0)
  root_beside_last r slot met =
      ⊎_elim
      (λ lt. subst (λ (z : Place). AreApart z (carried 0)) (sym (joined_at r lt slot))
      (apart_turned (carried 0) (child 0 (carried (suc r)))
      (joined_apart r (carried 0) lt (met lt) (carried_below 0 r (omega arith) (omega (arith, lt))))))
      (λ le. subst (λ (z : Place). AreApart z (carried 0)) (sym (raised-same e n m r (root_off n r) (is_root-root_off n r slot) le))
      (high_above r (carried 0) le slot (carried_below 0 m (omega arith) (omega arith))))
      (cases_lt r m)
