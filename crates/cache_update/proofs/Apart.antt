-- Places that go elsewhere by one rule: what goes up with its parent, and is apart at the roots, is apart.
use Rattle.std.proofs.Common.{◌≡◌, ℕ, zero, suc, ◌+◌, ◌-◌, ◌/◌, ◌^◌, ◌<◌, ◌≤◌, true, false, Option, Some, refl, sym, ap, ◌∙◌, subst, ⊎_elim, inl, inr}
use Rattle.std.proofs.Common.{arith, lt-ltb, eq-eqb}
use Rattle.std.specs.Prelude.{◌⊎◌, ◌==◌, nat_lt}
use Rattle.std.proofs.lemmas.Bool.{cases_Bool, cases_order, cases_lt, cases_eq, and_from, true≢false}
use Rattle.forest_place.specs.declared.place.Place.{Place}
use Rattle.forest_place.specs.Forest.{InForest, is_root, is_slot, root_off, IsSlotOf}
use Rattle.forest_place.proofs.Parts.{row_below, half_pow, InForest-up, root_off-is_root}
use Rattle.forest_place.proofs.Slots.{slot_of_root, slot_of_child}
use Rattle.forest_model.specs.Cover.{is_above}
use Rattle.cache_update.proofs.Spans.{IsIn, AreApart, in_itself, in_in, apart_turned, apart_in}

-- neither is the other, nor above it
abbrev pub AreFree : Place → Place → Type 0
AreFree p q = (p.row ≡ q.row → p.off ≡ q.off → ⊥) × (is_above p q ≡ false) × (is_above q p ≡ false)

pub free_turned : (p q : Place) → AreFree p q → AreFree q p
free_turned p q f = (λ a b. f.0 (sym a) (sym b), f.2, f.1)

free_climbs : (p q : Place) → p.row ≤ q.row → AreFree p q → p.off / 2 ^ (q.row - p.row) ≡ q.off → ⊥
free_climbs p q le f e = by_order (cases_order p.row q.row)
  where
    by_order : (p.row ≡ q.row) ⊎ ((p.row < q.row) ⊎ (q.row < p.row)) → ⊥
    by_order (inl same) =
        let z : q.row - p.row ≡ 0 = omega (arith, same) in
        let g : p.off / 1 ≡ q.off = subst (λ j. p.off / 2 ^ j ≡ q.off) z e in
        let one : p.off / 1 ≡ p.off = omega arith in
        f.0 same (sym one ∙ g)
    by_order (inr (inl lt)) = true≢false (sym
        (and_from (nat_lt p.row q.row) (p.off / 2 ^ (q.row - p.row) == q.off) (lt-ltb p.row q.row lt) (eq-eqb _ _ e)) ∙ f.2)
    by_order (inr (inr gt)) = omega (arith, le, gt)

-- a rule by which places go elsewhere, where Fine says of which slots
module _ (n : ℕ) (go : ℕ → ℕ → Option Place) (Fine : ℕ → Type 0)
    (up : (r o : ℕ) (q : Place) → InForest n r o → is_root n r o ≡ false → go r o ≡ Some q → (p : Place) × (go (suc r) (o / 2) ≡ Some p) × IsIn q p)
    (halves : (r o u : ℕ) (p q : Place) → InForest n r o → InForest n r u → is_root n r o ≡ false → is_root n r u ≡ false → o / 2 ≡ u / 2
    → (o ≡ u → ⊥) → go r o ≡ Some p → go r u ≡ Some q → AreApart p q)
    (roots : (r h : ℕ) (p q : Place) → r < h → is_slot n r ≡ true → is_slot n h ≡ true → Fine r → Fine h → go r (root_off n r) ≡ Some p
    → go h (root_off n h) ≡ Some q → AreApart p q) where
  -- where a place goes is within where its slot's root goes
  pub record GoesWithRoot (r o : ℕ) (q : Place) : Type 0 where
    pub h : ℕ
    pub of_slot : IsSlotOf n r o h
    pub to : Place
    pub goes : go h (root_off n h) ≡ Some to
    pub within : IsIn q to

  at_root : (r o : ℕ) (q : Place) → is_root n r o ≡ true → go r o ≡ Some q → GoesWithRoot r o q
  at_root r o q top e =
      record { h = r; of_slot = slot_of_root n r o top; to = q; goes = ap (go r) (sym (root_off-is_root n r o top).0) ∙ e; within = in_itself q }

  below_root : (r o : ℕ) (q p : Place) → IsIn q p → GoesWithRoot (suc r) (o / 2) p → GoesWithRoot r o q
  below_root r o q p i w = record {
    h = w.h;
    of_slot = slot_of_child n r o w.h w.of_slot;
    to = w.to;
    goes = w.goes;
    within =
        in_in q p w.to i w.within;
  }

  with_root_within : (k r o : ℕ) (q : Place) → n - r ≡ k → InForest n r o → go r o ≡ Some q → GoesWithRoot r o q
  with_root_within zero r o q f h e = let lt = row_below n r o h in absurd (omega (arith, lt, f))
  with_root_within (suc k) r o q f h e =
      ⊎_elim
      (λ top. at_root r o q top e)
      (λ not_root. let w = up r o q h not_root e in
      below_root r o q w.0 w.2 (with_root_within k (suc r) (o / 2) w.0 (omega (arith, f)) (InForest-up n r o h not_root) w.1))
      (cases_Bool (is_root n r o))

  pub with_root : (r o : ℕ) (q : Place) → InForest n r o → go r o ≡ Some q → GoesWithRoot r o q
  with_root r o q h e = with_root_within (n - r) r o q refl h e

  abbrev IsFine : ℕ → ℕ → Type 0
  IsFine r o = (h : ℕ) → IsSlotOf n r o h → Fine h

  fine_up : (r o : ℕ) → IsFine r o → IsFine (suc r) (o / 2)
  fine_up r o f h s = f h (slot_of_child n r o h s)

  -- a root's way is apart from that of any other place in its row or above
  root_apart : (r o s u : ℕ) (p q : Place) → is_root n r o ≡ true → InForest n s u → r ≤ s → (r ≡ s → o ≡ u → ⊥) → IsFine r o → IsFine s u
      → go r o ≡ Some p → go s u ≡ Some q → AreApart p q
  root_apart r o s u p q top h le other fp fq e g =
      let top_is = root_off-is_root n r o top in
      let w = with_root s u q h g in
      let lt : r < w.h = by_order w (cases_order r w.h) in
      apart_turned q p (apart_in q w.to p w.within (apart_turned p w.to
      (roots r w.h p w.to lt top_is.1 w.of_slot.slot (fp r (slot_of_root n r o top)) (fq w.h w.of_slot) (ap (go r) (sym top_is.0) ∙ e) w.goes)))
    where
      by_order : (w : GoesWithRoot s u q) → (r ≡ w.h) ⊎ ((r < w.h) ⊎ (w.h < r)) → r < w.h
      by_order w (inl same) =
          let up_to : s ≤ w.h = w.of_slot.up in
          let row : r ≡ s = omega (arith, same, up_to, le) in
          let z : w.h - s ≡ 0 = omega (arith, same, up_to, le) in
          let b : u / 1 ≡ root_off n w.h = subst (λ j. u / 2 ^ j ≡ root_off n w.h) z w.of_slot.beneath in
          let one : u / 1 ≡ u = omega arith in
          absurd (other row ((root_off-is_root n r o top).0 ∙ (ap (root_off n) same ∙ (sym b ∙ one))))
      by_order w (inr (inl lt)) = lt
      by_order w (inr (inr gt)) = let up_to : s ≤ w.h = w.of_slot.up in absurd (omega (arith, gt, up_to, le))

  abbrev AllApart : ℕ → Type 0
  AllApart k = (r o s u : ℕ) (p q : Place) → (n - r) + (n - s) ≤ k → r ≤ s → InForest n r o → InForest n s u → (o / 2 ^ (s - r) ≡ u → ⊥) → IsFine r o
      → IsFine s u → go r o ≡ Some p → go s u ≡ Some q → AreApart p q

  -- two different places of one row
  one_row : (k : ℕ) → AllApart k → (r o u : ℕ) (p q : Place) → (n - r) + (n - r) ≤ suc k → InForest n r o → InForest n r u → (o ≡ u → ⊥) → IsFine r o
      → IsFine r u → go r o ≡ Some p → go r u ≡ Some q → AreApart p q
  one_row k rest r o u p q m h i other fp fq e g =
      ⊎_elim
      (λ top. root_apart r o r u p q top i (omega arith) (λ _ x. other x) fp fq e g)
      (λ not_root. ⊎_elim
      (λ top. apart_turned q p (root_apart r u r o q p top h (omega arith) (λ _ x. other (sym x)) fq fp g e))
      (λ not_root'. by_parents not_root not_root' (cases_eq (o / 2) (u / 2)))
      (cases_Bool (is_root n r u)))
      (cases_Bool (is_root n r o))
    where
      by_parents : is_root n r o ≡ false → is_root n r u ≡ false → (o / 2 ≡ u / 2) ⊎ (o / 2 ≡ u / 2 → ⊥) → AreApart p q
      by_parents not_root not_root' (inl same) = halves r o u p q h i not_root not_root' same other e g
      by_parents not_root not_root' (inr ne) =
          let w = up r o p h not_root e in
          let v = up r u q i not_root' g in
          let lt = row_below n r o h in
          let z : suc r - suc r ≡ 0 = omega arith in
          let one : o / 2 / 1 ≡ o / 2 = omega arith in
          let both = rest (suc r) (o / 2) (suc r) (u / 2) w.0 v.0 (omega (arith, m, lt)) (omega arith) (InForest-up n r o h not_root)
          (InForest-up n r u i not_root')
          (λ x. ne (sym one ∙ subst (λ j. o / 2 / 2 ^ j ≡ u / 2) z x)) (fine_up r o fp) (fine_up r u fq) w.1 v.1 in
          apart_in p w.0 q w.2 (apart_turned q w.0 (apart_in q v.0 w.0 v.2 (apart_turned w.0 v.0 both)))

  step : (k : ℕ) → AllApart k → AllApart (suc k)
  step k rest r o s u p q m le h i other fp fq e g = by_order (cases_order r s)
    where
      same_row : r ≡ s → (o ≡ u → ⊥)
      same_row same x =
          let z : s - r ≡ 0 = omega (arith, same) in
          let one : o / 1 ≡ o = omega arith in
          other (ap (λ j. o / 2 ^ j) z ∙ (one ∙ x))

      by_root : r < s → (is_root n r o ≡ true) ⊎ (is_root n r o ≡ false) → AreApart p q
      by_root lt (inl top) = root_apart r o s u p q top i le (λ same _. omega (arith, same, lt)) fp fq e g
      by_root lt (inr not_root) =
          let w = up r o p h not_root e in
          let below = row_below n r o h in
          let z : s - r ≡ suc (s - suc r) = omega (arith, lt) in
          apart_in p w.0 q w.2
          (rest (suc r) (o / 2) s u w.0 q (omega (arith, m, below)) (omega (arith, lt)) (InForest-up n r o h not_root) i
          (λ x. other (ap (λ j. o / 2 ^ j) z ∙ (half_pow o (s - suc r) ∙ x))) (fine_up r o fp) fq w.1 g)

      by_order : (r ≡ s) ⊎ ((r < s) ⊎ (s < r)) → AreApart p q
      by_order (inl same) =
          one_row k rest r o u p q (subst (λ x. (n - r) + (n - x) ≤ suc k) (sym same) m) h (subst (λ x. InForest n x u) (sym same) i) (same_row same)
          fp
          (subst (λ x. IsFine x u) (sym same) fq) e (subst (λ x. go x u ≡ Some q) (sym same) g)
      by_order (inr (inl lt)) = by_root lt (cases_Bool (is_root n r o))
      by_order (inr (inr gt)) = absurd (omega (arith, le, gt))

  all_apart : (k : ℕ) → AllApart k
  all_apart zero = λ r o s u p q m le h i other fp fq e g. let lt = row_below n r o h in absurd (omega (arith, m, lt))
  all_apart (suc k) = step k (all_apart k)

  -- places that are free of each other go apart
  pub free_apart : (p q to to' : Place) → InForest n p.row p.off → InForest n q.row q.off → AreFree p q → IsFine p.row p.off → IsFine q.row q.off
      → go p.row p.off ≡ Some to → go q.row q.off ≡ Some to' → AreApart to to'
  free_apart p q to to' h i free fp fq e g =
      ⊎_elim
      (λ lt. let le : q.row ≤ p.row = omega (arith, lt) in
      apart_turned to' to (all_apart ((n - q.row) + (n - p.row)) q.row q.off p.row p.off to' to (omega arith) le i h
      (free_climbs q p le (free_turned p q free)) fq fp g e))
      (λ le. all_apart ((n - p.row) + (n - q.row)) p.row p.off q.row q.off to to' (omega arith) le h i (free_climbs p q le free) fp fq e g)
      (cases_lt q.row p.row)
