-- A climb over all places above one.
use Rattle.std.proofs.Common.{◌≡◌, ℕ, suc, ◌+◌, ◌-◌, ◌/◌, ◌^◌, ◌<◌, ◌≤◌, true, false, List, sym, ap, ap₂, ◌∙◌, subst, ⊎_elim, inl, arith, eq-eqb}
use Rattle.std.proofs.Common.{eqb-true}
use Rattle.std.specs.Prelude.{◌==◌, nat_lt}
use Rattle.std.proofs.lemmas.Bool.{cases_lt, cases_eq, and_from, and_parts, true≢false, false_from_ne_true, lt-ltb, ltb-true}
use Rattle.std.proofs.lemmas.Nat.{shr-shr}
use Rattle.forest_place.specs.declared.place.Place.{Place}
use Rattle.forest_place.specs.Forest.{InForest, is_root}
use Rattle.forest_place.specs.Position.{position}
use Rattle.forest_place.proofs.Parts.{InForest-up, InForest-beneath, not_root-down, half_pow}
use Rattle.forest_place.proofs.Positions.{position_rises}
use Rattle.forest_model.specs.Cover.{is_above}
use Rattle.proof_shape.specs.Shape.{has_number}
use Rattle.proof_shape.specs.Found.{HasOneAbove, HasNoneAbove, IsPast}

-- no place of the forest stands above a root
pub nothing_above : (n r o k : ℕ) → is_root n r o ≡ true → InForest n (r + suc k) (o / 2 ^ suc k) → ⊥
nothing_above n r o k top h =
    let e : r + suc k ≡ suc r + k = omega arith in
    let up : InForest n (suc r) (o / 2) = InForest-beneath n k (suc r) (o / 2)
    (subst (λ x. InForest n (suc r + k) x) (half_pow o k) (subst (λ x. InForest n x (o / 2 ^ suc k)) e h)) in
    true≢false (sym top ∙ not_root-down n r o up)

-- the place above p at which a climb from p has arrived, where no place up to it has a position of the list
pub record IsClimbing (n : ℕ) (xs : List ℕ) (p a : Place) : Type 0 where
  pub up : p.row ≤ a.row
  pub above : a.off ≡ p.off / 2 ^ (a.row - p.row)
  pub within : InForest n a.row a.off
  pub clear : (q : Place) → InForest n q.row q.off → is_above q p ≡ true → q.row ≤ a.row → has_number xs (position n q.row q.off) ≡ false

above_parts : (q p : Place) → is_above q p ≡ true → (p.row < q.row) × (p.off / 2 ^ (q.row - p.row) ≡ q.off)
above_parts q p h = let w = and_parts (nat_lt p.row q.row) (p.off / 2 ^ (q.row - p.row) == q.off) h in (ltb-true _ _ w.0, eqb-true _ _ w.1)

pub climb_begins : (n : ℕ) (xs : List ℕ) (p : Place) → InForest n p.row p.off → IsClimbing n xs p p
climb_begins n xs p h = record {
  up = omega arith;
  above = (let e : p.row - p.row ≡ 0 = omega arith in let f : p.off ≡ p.off / 1 = omega arith in f ∙ ap (λ k. p.off / 2 ^ k) (sym e));
  within = h;
  clear = λ q i a le. let w = above_parts q p a in absurd (omega (arith, w.0));
}

module _ (n : ℕ) (xs : List ℕ) (p a b : Place) (c : IsClimbing n xs p a) (other : is_root n a.row a.off ≡ false) (row : b.row ≡ a.row + 1)
    (off : b.off ≡ a.off / 2) where
  next_within : InForest n b.row b.off
  next_within =
      let e : suc a.row ≡ b.row = omega (arith, row) in
      subst (λ x. InForest n b.row x) (sym off) (subst (λ x. InForest n x (a.off / 2)) e (InForest-up n a.row a.off c.within other))

  next_off : b.off ≡ p.off / 2 ^ (b.row - p.row)
  next_off =
      let up = c.up in
      let e : a.row - p.row + 1 ≡ b.row - p.row = omega (arith, row, up) in
      off ∙ (ap (λ x. x / 2) c.above ∙ (shr-shr p.off (a.row - p.row) 1 ∙ ap (λ k. p.off / 2 ^ k) e))

  next_above : is_above b p ≡ true
  next_above =
      let up = c.up in
      and_from (nat_lt p.row b.row) (p.off / 2 ^ (b.row - p.row) == b.off) (lt-ltb _ _ (omega (arith, row, up))) (eq-eqb _ _ (sym next_off))

  pub in_next : InForest n b.row b.off
  in_next = next_within

  pub climb_finds : has_number xs (position n b.row b.off) ≡ true → HasOneAbove n xs p
  climb_finds h = (b, next_within, next_above, h)

  pub climb_goes_on : has_number xs (position n b.row b.off) ≡ false → IsClimbing n xs p b
  climb_goes_on none =
      let up = c.up in
      record {
        up = omega (arith, row, up);
        above = next_off;
        within = next_within;
        clear = λ q i ab le.
            ⊎_elim
            (λ same.
            let w = above_parts q p ab in
            let at : q.off ≡ b.off = sym w.1 ∙ (ap (λ k. p.off / 2 ^ (k - p.row)) same ∙ sym next_off) in
            ap (λ k. has_number xs (position n k q.off)) same ∙ (ap (λ k. has_number xs (position n b.row k)) at ∙ none))
            (λ differ. c.clear q i ab (omega (arith, row, le, differ)))
            (cases_eq q.row b.row);
      }

  -- positions rise on the way up
  pub climb_passes : IsPast xs (position n b.row b.off) → HasNoneAbove n xs p
  climb_passes past q i ab = ⊎_elim (λ gt. false_from_ne_true _ (λ h. beyond (past (position n q.row q.off) h) (higher gt))) (λ le. c.clear q i ab le)
      (cases_lt a.row q.row)
    where
      same_off : q.row ≡ b.row → q.off ≡ b.off
      same_off same = sym (above_parts q p ab).1 ∙ (ap (λ k. p.off / 2 ^ (k - p.row)) same ∙ sym next_off)

      higher : a.row < q.row → position n b.row b.off ≤ position n q.row q.off
      higher gt =
          ⊎_elim
          (λ same. let e : position n b.row b.off ≡ position n q.row q.off = ap₂ (position n) (sym same) (sym (same_off same)) in omega (arith, e))
          (λ differ. let lt : b.row < q.row = omega (arith, row, gt, differ) in let up = position_rises n b q next_within i (inl lt) in
          omega (arith, up))
          (cases_eq q.row b.row)

      beyond : position n q.row q.off < position n b.row b.off → position n b.row b.off ≤ position n q.row q.off → ⊥
      beyond lt le = omega (arith, lt, le)

pub climb_ends : (n : ℕ) (xs : List ℕ) (p a : Place) → IsClimbing n xs p a → is_root n a.row a.off ≡ true → HasNoneAbove n xs p
climb_ends n xs p a c top q i ab =
    ⊎_elim
    (λ gt.
    let up = c.up in
    let w = above_parts q p ab in
    let k = q.row - a.row - 1 in
    let high : a.row + suc k ≡ q.row = omega (arith, gt) in
    let split : a.row - p.row + suc k ≡ q.row - p.row = omega (arith, gt, up) in
    let at : a.off / 2 ^ suc k ≡ q.off = ap (λ x. x / 2 ^ suc k) c.above
    ∙ (shr-shr p.off (a.row - p.row) (suc k) ∙ (ap (λ j. p.off / 2 ^ j) split ∙ w.1)) in
    absurd (nothing_above n a.row a.off k top
    (subst (λ x. InForest n x (a.off / 2 ^ suc k)) (sym high) (subst (λ x. InForest n q.row x) (sym at) i))))
    (λ le. c.clear q i ab le)
    (cases_lt a.row q.row)
