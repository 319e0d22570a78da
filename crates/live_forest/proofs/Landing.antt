-- Where the digests of parts lie in a page.
use Rattle.std.proofs.Common.{◌≡◌, ◌≢◌, ℕ, zero, suc, ◌+◌, ◌-◌, ◌*◌, ◌/◌, ◌%◌, ◌^◌, ◌<◌, ◌≤◌, Bool, true, false, sym, ap, ◌∙◌}
use Rattle.std.proofs.Common.{⊎_elim, inl, inr, ◌⊎◌, arith}
use Rattle.std.specs.Prelude.{◌==◌, if◌then◌else◌}
use Rattle.std.proofs.lemmas.Bool.{cases_Bool, cases_eq, cases_lt, or_cases, true≢false, eq-eqb, ne_eqb}
use Rattle.std.proofs.lemmas.Nat.{pow_pos, shr-shr, div_below}
use Rattle.forest_place.specs.Forest.{sibling_off}
use Rattle.forest_place.proofs.Parts.{parts-suc}
use Rattle.forest_place.proofs.Siblings.{sibling_cases}
use Rattle.live_forest.specs.declared.spots.Spot.{Spot}
use Rattle.live_forest.specs.Sets.{has_part, rank}
use Rattle.live_forest.specs.Pages.{middle, IsBranch, spot_beneath, spot}
use Rattle.live_forest.proofs.Ranks.{rank_above, right_rank, left_rank, branch_one, part_with, rank_most}

-- ---- the numbers of a part

pub part_number : (s : ℕ → Bool) (row off : ℕ) → has_part s row off ≡ true → (i : ℕ) × (s i ≡ true) × (i / 2 ^ row ≡ off)
part_number s zero off h = (off, h, (let z : off / 1 ≡ off = omega arith in z))
part_number s (suc row) off h =
    ⊎_elim
    (λ l.
    let n = part_number s row (2 * off) l in
    let z : n.0 / 2 ^ suc row ≡ off = omega (arith, parts-suc n.0 row, n.2) in
    (n.0, n.1, z))
    (λ r.
    let n = part_number s row (2 * off + 1) r in
    let z : n.0 / 2 ^ suc row ≡ off = omega (arith, parts-suc n.0 row, n.2) in
    (n.0, n.1, z))
    (or_cases (has_part s row (2 * off)) (has_part s row (2 * off + 1)) h)

pub part_has : (s : ℕ → Bool) (row off i : ℕ) → s i ≡ true → i / 2 ^ row ≡ off → has_part s row off ≡ true
part_has s row off i e here = ap (has_part s row) (sym here) ∙ part_with s i row e

pub part_bare : (s : ℕ → Bool) (row off : ℕ) → ((i : ℕ) → s i ≡ true → i / 2 ^ row ≡ off → ⊥) → has_part s row off ≡ false
part_bare s row off none =
    ⊎_elim (λ some. let n = part_number s row off some in absurd (none n.0 n.1 n.2)) (λ e. e) (cases_Bool (has_part s row off))

-- a number that is in a part and not in the half of it at an offset is in the half beside that
pub other_half : (i row off : ℕ) → i / 2 ^ suc row ≡ off / 2 → i / 2 ^ row ≢ off → i / 2 ^ row ≡ sibling_off off
other_half i row off here other =
    ⊎_elim
    (λ even. omega (arith, parts-suc i row, here, other, even))
    (λ odd. omega (arith, parts-suc i row, here, other, odd))
    (sibling_cases off)

-- where both halves of a part have numbers
pub branch_of : (s : ℕ → Bool) (row off : ℕ) → has_part s row off ≡ true → has_part s row (sibling_off off) ≡ true → IsBranch s row (off / 2)
branch_of s row off own other =
    ⊎_elim
    (λ even. record {
      left = ap (has_part s row) (let z : 2 * (off / 2) ≡ off = omega (arith, even) in z) ∙ own;
      right = ap (has_part s row) (let z : 2 * (off / 2) + 1 ≡ sibling_off off = omega (arith, even) in z) ∙ other;
    })
    (λ odd. record {
      left = ap (has_part s row) (let z : 2 * (off / 2) ≡ sibling_off off = omega (arith, odd) in z) ∙ other;
      right = ap (has_part s row) (let z : 2 * (off / 2) + 1 ≡ off = omega (arith, odd) in z) ∙ own;
    })
    (sibling_cases off)

-- ---- one step of the way up

pub spot_whole : (s : ℕ → Bool) (row off : ℕ) → 7 ≤ row → spot s row off ≡ record { cell = 0; right = true }
unfolding spot_beneath
spot_whole s row off high = ap (λ k. spot_beneath s k row off) (let z : 7 - row ≡ 0 = omega (arith, high) in z)

pub spot_beside : (s : ℕ → Bool) (row off : ℕ) → row < 7 → has_part s row (sibling_off off) ≡ true
    → spot s row off ≡ record { cell = rank s (middle row (off / 2)); right = off % 2 == 1 }
unfolding spot_beneath
spot_beside s row off low some =
    ap (λ k. spot_beneath s k row off) (let z : 7 - row ≡ suc (6 - row) = omega (arith, low) in z)
    ∙ ap
    (λ b. if b then record { cell = rank s (middle row (off / 2)); right = off % 2 == 1 } else spot_beneath s (6 - row) (suc row) (off / 2))
    some

pub spot_alone : (s : ℕ → Bool) (row off : ℕ) → row < 7 → has_part s row (sibling_off off) ≡ false → spot s row off ≡ spot s (suc row) (off / 2)
unfolding spot_beneath
spot_alone s row off low none =
    ap (λ k. spot_beneath s k row off) (let z : 7 - row ≡ suc (6 - row) = omega (arith, low) in z)
    ∙ ap
    (λ b. if b then record { cell = rank s (middle row (off / 2)); right = off % 2 == 1 } else spot_beneath s (6 - row) (suc row) (off / 2))
    none
    ∙ ap (λ k. spot_beneath s k (suc row) (off / 2)) (let z : 6 - row ≡ 7 - suc row = omega (arith, low) in z)

-- ---- one spot for one set of numbers

-- where the way up from a part ends: at a part with the same numbers of the set, which has all of them, or beside which there are others
pub record Lands (s : ℕ → Bool) (row off : ℕ) : Type 0 where
  pub at_row : ℕ
  pub at_off : ℕ
  pub to : (i : ℕ) → s i ≡ true → i / 2 ^ row ≡ off → i / 2 ^ at_row ≡ at_off
  pub from : (i : ℕ) → s i ≡ true → i / 2 ^ at_row ≡ at_off → i / 2 ^ row ≡ off
  pub ends : ((7 ≤ at_row) × (spot s row off ≡ record { cell = 0; right = true }))
      ⊎ ((has_part s at_row (sibling_off at_off) ≡ true)
      × (spot s row off ≡ record { cell = rank s (middle at_row (at_off / 2)); right = at_off % 2 == 1 }))

pub lands : (s : ℕ → Bool) (rows row off : ℕ) → 7 ≤ row + rows → Lands s row off
lands s zero row off high = record {
  at_row = row;
  at_off = off;
  to = λ i e h. h;
  from = λ i e h. h;
  ends = inl (omega (arith, high), spot_whole s row off (omega (arith, high)));
}
lands s (suc rows) row off high =
    ⊎_elim
    (λ lt. ⊎_elim
    (λ some. record {
      at_row = row;
      at_off = off;
      to = λ i e h. h;
      from = λ i e h. h;
      ends = inr (some, spot_beside s row off lt some);
    })
    (λ none.
    let up = lands s rows (suc row) (off / 2) (omega (arith, high)) in
    record {
      at_row = up.at_row;
      at_off = up.at_off;
      to = λ i e h. up.to i e (parts-suc i row ∙ ap (λ x. x / 2) h);
      from = λ i e h.
          ⊎_elim
          (λ own. own)
          (λ other. absurd (true≢false (sym (part_has s row (sibling_off off) i e (other_half i row off (up.from i e h) other)) ∙ none)))
          (cases_eq (i / 2 ^ row) off);
      ends = ⊎_elim
          (λ z. inl (z.0, spot_alone s row off lt none ∙ z.1))
          (λ z. inr (z.0, spot_alone s row off lt none ∙ z.1))
          up.ends;
    })
    (cases_Bool (has_part s row (sibling_off off))))
    (λ ge. record {
      at_row = row;
      at_off = off;
      to = λ i e h. h;
      from = λ i e h. h;
      ends = inl (ge, spot_whole s row off ge);
    })
    (cases_lt row 7)

above : (s : ℕ → Bool) (row off : ℕ) → Lands s row off
above s row off = lands s 7 row off (omega arith)

pub same_above : (a b i j : ℕ) → i ≤ j → a / 2 ^ i ≡ b / 2 ^ i → a / 2 ^ j ≡ b / 2 ^ j
same_above a b i j le e =
    let up : i + (j - i) ≡ j = omega (arith, le) in
    ap (λ k. a / 2 ^ k) (sym up) ∙ sym (shr-shr a i (j - i)) ∙ ap (λ x. x / 2 ^ (j - i)) e ∙ shr-shr b i (j - i) ∙ ap (λ k. b / 2 ^ k) up

-- a number below 128 is in the first part of each row from that of a page on
pub first_part : (i row : ℕ) → i < 128 → 7 ≤ row → i / 2 ^ row ≡ 0
first_part i row low high =
    let e : 7 + (row - 7) ≡ row = omega (arith, high) in
    let none : i / 2 ^ 7 ≡ 0 = omega (arith, low) in
    let below = div_below 0 (2 ^ (row - 7)) 1 (pow_pos (row - 7)) (omega (arith, pow_pos (row - 7))) in
    let rest : 0 / 2 ^ (row - 7) ≡ 0 = omega (arith, below) in
    ap (λ k. i / 2 ^ k) (sym e) ∙ sym (shr-shr i 7 (row - 7)) ∙ ap (λ x. x / 2 ^ (row - 7)) none ∙ rest

one_odd : (a b : ℕ) → (a % 2 == 1) ≡ (b % 2 == 1) → a % 2 ≡ b % 2
one_odd a b same =
    ⊎_elim
    (λ l. ⊎_elim (λ r. l ∙ sym r) (λ r. absurd (true≢false (sym (eq-eqb (a % 2) 1 l) ∙ same ∙ ne_eqb (b % 2) 1 r))) (cases_eq (b % 2) 1))
    (λ l. ⊎_elim
    (λ r. absurd (true≢false (sym (eq-eqb (b % 2) 1 r) ∙ sym same ∙ ne_eqb (a % 2) 1 l)))
    (λ r. omega (arith, l, r))
    (cases_eq (b % 2) 1))
    (cases_eq (a % 2) 1)

module _ (s : ℕ → Bool) (few : (i : ℕ) → s i ≡ true → i < 128) where
  -- a branch has numbers in its left half, so its cell is not the first
  pub branch_cell : (row off : ℕ) → IsBranch s row off → 0 < rank s (middle row off)
  branch_cell row off b = omega (arith, left_rank s row off b)

  pub branch_inside : (row off : ℕ) → IsBranch s row off → rank s (middle row off) < rank s 128
  branch_inside row off b = omega (arith, right_rank s row off b, rank_most s 128 few (middle row off + 2 ^ row))

  -- where a part lands, both halves above have numbers
  landed : (row off : ℕ) (l : Lands s row off) → has_part s row off ≡ true → has_part s l.at_row (sibling_off l.at_off) ≡ true
      → IsBranch s l.at_row (l.at_off / 2)
  landed row off l own other =
      let n = part_number s row off own in
      branch_of s l.at_row l.at_off (part_has s l.at_row l.at_off n.0 n.1 (l.to n.0 n.1 n.2)) other

  -- two parts whose digests lie at one spot have the same numbers
  pub one_spot : (r o q p : ℕ) → has_part s r o ≡ true → has_part s q p ≡ true → spot s r o ≡ spot s q p
      → (i : ℕ) → s i ≡ true → i / 2 ^ r ≡ o → i / 2 ^ q ≡ p
  one_spot r o q p some_a some_b same i e here =
      let a = above s r o in
      let b = above s q p in
      let there = a.to i e here in
      ⊎_elim
      (λ x. ⊎_elim
      (λ y.
      let n = part_number s q p some_b in
      let other = b.to n.0 n.1 n.2 in
      b.from i e (first_part i b.at_row (few i e) y.0 ∙ sym (first_part n.0 b.at_row (few n.0 n.1) y.0) ∙ other))
      (λ y.
      let cell = ap (λ (z : Spot). z.cell) (sym x.1 ∙ same ∙ y.1) in
      absurd (omega (arith, cell, branch_cell b.at_row (b.at_off / 2) (landed q p b some_b y.0))))
      b.ends)
      (λ x. ⊎_elim
      (λ y.
      let cell = ap (λ (z : Spot). z.cell) (sym x.1 ∙ same ∙ y.1) in
      absurd (omega (arith, cell, branch_cell a.at_row (a.at_off / 2) (landed r o a some_a x.0))))
      (λ y.
      let eq = sym x.1 ∙ same ∙ y.1 in
      let one = branch_one s a.at_row (a.at_off / 2) b.at_row (b.at_off / 2) (landed r o a some_a x.0) (landed q p b some_b y.0)
      (ap (λ (z : Spot). z.cell) eq) in
      let side = one_odd a.at_off b.at_off (ap (λ (z : Spot). z.right) eq) in
      let off : a.at_off ≡ b.at_off = omega (arith, one.1, side) in
      b.from i e (ap (λ k. i / 2 ^ k) (sym one.0) ∙ there ∙ off))
      b.ends)
      a.ends

  -- the cell is there
  pub spot_within : (row off : ℕ) → has_part s row off ≡ true → (spot s row off).cell < rank s 128
  spot_within row off some =
      let l = above s row off in
      let n = part_number s row off some in
      ⊎_elim
      (λ x. let cell = ap (λ (z : Spot). z.cell) x.1 in omega (arith, cell, rank_above s n.0 128 n.1 (few n.0 n.1)))
      (λ x.
      let cell = ap (λ (z : Spot). z.cell) x.1 in
      omega (arith, cell, branch_inside l.at_row (l.at_off / 2) (landed row off l some x.0)))
      l.ends
