-- A number gets a cell, and its cell is taken out.
use Rattle.std.proofs.Common.{◌≡◌, ◌≢◌, ℕ, zero, suc, ◌+◌, ◌-◌, ◌*◌, ◌/◌, ◌%◌, ◌^◌, ◌<◌, ◌≤◌, Bool, true, false, refl, sym, ap, ap₂, ◌∙◌, subst}
use Rattle.std.proofs.Common.{⊎_elim, ◌⊎◌, inl, inr, arith}
use Rattle.std.proofs.Common.{List, [], ◌∷◌, ◌++◌, length, get_or, Some, None, length-append}
use Rattle.std.specs.Prelude.{◌==◌, if◌then◌else◌, MatchOption, Option}
use Rattle.std.specs.List.{remove}
use Rattle.std.proofs.lemmas.Bool.{cases_Bool, cases_eq, cases_lt, cases_order, true≢false, ne_eqb}
use Rattle.std.proofs.lemmas.Nat.{pow_pos, le-div, div_below, mod_below, shr-shr, shr_split}
use Rattle.std.proofs.lemmas.List.{get_or_append_left, get_or_push}
use Rattle.std.proofs.lemmas.List.Edits.{get_or-remove_below, get_or-remove_above}
use Rattle.uo_digest.specs.declared.digest.Digest.{Digest}
use Rattle.forest_place.specs.Forest.{InForest, sibling_off}
use Rattle.forest_place.specs.declared.place.Place.{Place}
use Rattle.forest_place.proofs.Parts.{parts-suc, InForest-beneath}
use Rattle.forest_place.proofs.Siblings.{sibling_cases, sibling_twice, sibling_half}
use Rattle.live_forest.specs.declared.cell.Cell.{Cell}
use Rattle.live_forest.specs.declared.spots.Spot.{Spot}
use Rattle.live_forest.specs.Sets.{is_bit, has_part, rank, IsWith, IsWithout}
use Rattle.live_forest.specs.Pages.{PageState, IsPage, no_cell, middle, IsBranch, when, spot, digest_in, digest_at, told, IsPut}
use Rattle.live_forest.specs.Pages.{IsNearest, IsBeside, IsAlone, IsLifted, AreOfHalves}
use Rattle.live_forest.proofs.Ranks.{rank_above, rank_rises, right_rank, branch_one, part_other, part_subset, part_none, part_with, rank-out}
use Rattle.live_forest.proofs.Ranks.{rank_low, rank_high, rank_most}
use Rattle.live_forest.proofs.Landing.{part_number, part_has, part_bare, branch_of, spot_whole, spot_beside, spot_alone, one_spot}
use Rattle.live_forest.proofs.Landing.{same_above, first_part, other_half, branch_cell, branch_inside}
use Rattle.live_forest.proofs.Parting.{parts_rise}
use Rattle.live_forest.proofs.Telling.{none_told, when_same, listed_few, live_listed}

-- ---- numbers and the parts that have them

pub part_start : (n k : ℕ) → n / 2 ^ k * 2 ^ k ≤ n
part_start n k = omega (arith, shr_split n k)

pub part_end : (n k : ℕ) → n + 1 ≤ (n / 2 ^ k + 1) * 2 ^ k
part_end n k = omega (arith, shr_split n k, mod_below n (2 ^ k) (pow_pos k))

-- ---- a number gets a cell behind all others

pub listed_out : (s : ℕ → Bool) (number : ℕ) → ((i : ℕ) → s i ≡ true → i < number) → s number ≡ false
listed_out s number last = ⊎_elim (λ e. absurd (omega (arith, last number e))) (λ e. e) (cases_Bool (s number))

pub page_more : (p : PageState) (listed' number : ℕ) (c : Cell) → IsPage p → number < 128 → ((i : ℕ) → is_bit p.listed i ≡ true → i < number)
    → IsWith (is_bit p.listed) (is_bit listed') number → IsPage (record { listed = listed'; live = p.live; cells = p.cells ++ c ∷ [] })
page_more p listed' number c page low last come = record {
  full =
      omega (
        arith,
        length-append p.cells (c ∷ []),
        page.full,
        rank_high (is_bit p.listed) (is_bit listed') number come.others (listed_out (is_bit p.listed) number last) come.here 128 low,
      );
  within = λ i live.
      ⊎_elim
      (λ e. ap (is_bit listed') e ∙ come.here)
      (λ ne. come.others i ne ∙ page.within i live)
      (cases_eq i number);
}

-- what is on the left of the new cell: what lies where that of the part does which the number meets first, if something of it is live
abbrev pub IsLeftOf : PageState → ℕ → Option Place → Digest → Type 0
IsLeftOf p number before left =
    MatchOption before (IsAlone (is_bit p.listed) number) (λ part. IsBeside (is_bit p.listed) number part
    × (has_part (is_bit p.live) part.row part.off ≡ true → left ≡ digest_at p.listed p.cells part.row part.off))

-- what lies before the new cell stays
in_front : (cells : List Cell) (c : Cell) (k : ℕ) (right : Bool) → k < length cells
    → digest_in (cells ++ c ∷ []) (record { cell = k; right = right }) ≡ digest_in cells (record { cell = k; right = right })
in_front cells c k right inside = ap (λ (x : Cell). if right then x.right else x.left) (get_or_append_left cells (c ∷ []) no_cell k inside)

module _ (p : PageState) (listed' number : ℕ) (left right : Digest) (before : Option Place) (page : IsPage p) (small : p.listed < 2 ^ 128)
    (low : number < 128) (last : (i : ℕ) → is_bit p.listed i ≡ true → i < number) (come : IsWith (is_bit p.listed) (is_bit listed') number)
    (on_left : IsLeftOf p number before left) where
  -- a part that has nothing listed beside it, but the number: what the number meets first is this part
  met : (row off : ℕ) → row < 7 → has_part (is_bit p.live) row off ≡ true → has_part (is_bit p.listed) row (sibling_off off) ≡ false
      → number / 2 ^ row ≡ sibling_off off → left ≡ digest_at p.listed p.cells row off
  met row off lt live none here = by before on_left
    where
      s : ℕ → Bool
      s = is_bit p.listed

      some : has_part s row off ≡ true
      some = live_listed p row off page live

      beside : sibling_off (number / 2 ^ row) ≡ off
      beside = ap sibling_off here ∙ sibling_twice off

      by : (x : Option Place) → IsLeftOf p number x left → left ≡ digest_at p.listed p.cells row off
      by None alone = absurd (true≢false (sym some ∙ ap (has_part s row) (sym beside) ∙ alone row lt))
      by (Some part) is =
          let near = is.0.nearest in
          let one : part.row ≡ row =
          ⊎_elim (λ e. e) (λ other. ⊎_elim
          (λ below.
          let n = part_number s part.row (sibling_off (number / 2 ^ part.row)) near.some in
          let half : n.0 / 2 ^ suc part.row ≡ number / 2 ^ suc part.row =
          parts-suc n.0 part.row ∙ ap (λ x. x / 2) n.2 ∙ sibling_half (number / 2 ^ part.row) ∙ sym (parts-suc number part.row) in
          let up = same_above n.0 number (suc part.row) row below half in
          absurd (true≢false (sym (part_has s row (sibling_off off) n.0 n.1 (up ∙ here)) ∙ none)))
          (λ above. absurd (true≢false (sym some ∙ ap (has_part s row) (sym beside) ∙ near.none row above))) other)
          (cases_order part.row row) in
          let at = is.0.off ∙ ap (λ r. sibling_off (number / 2 ^ r)) one ∙ beside in
          is.1 (ap₂ (has_part (is_bit p.live)) one at ∙ live) ∙ ap₂ (digest_at p.listed p.cells) one at

  -- then the new cell is where it lies
  new_cell : (row off : ℕ) → row < 7 → has_part (is_bit p.listed) row off ≡ true → has_part (is_bit p.listed) row (sibling_off off) ≡ false
      → number / 2 ^ row ≡ sibling_off off
      → (rank (is_bit listed') (middle row (off / 2)) ≡ length p.cells) × ((off % 2 == 1) ≡ false)
  new_cell row off lt some none here =
      let s = is_bit p.listed in
      let n = part_number s row off some in
      let rise = parts_rise row n.0 number (omega (arith, last n.0 n.1)) in
      let even : off % 2 ≡ 0 =
      ⊎_elim (λ e. e.0) (λ o. absurd (omega (arith, rise, n.2, here, o))) (sibling_cases off) in
      let beside : sibling_off off ≡ off + 1 = ⊎_elim (λ e. e.1) (λ o. absurd (omega (arith, even, o))) (sibling_cases off) in
      let begin : number / 2 ^ row ≡ 2 * (off / 2) + 1 = omega (arith, here, beside, even) in
      let upto : middle row (off / 2) ≤ number = omega (arith, part_start number row, ap (λ x. x * 2 ^ row) begin) in
      let first : (i : ℕ) → s i ≡ true → i < middle row (off / 2) = λ i e.
      ⊎_elim
      (λ l. l)
      (λ ge.
      let le = parts_rise row i number (omega (arith, last i e)) in
      let from = le-div (2 * (off / 2) + 1) i (2 ^ row) (pow_pos row) ge in
      let there : i / 2 ^ row ≡ sibling_off off = omega (arith, le, from, begin, here) in
      absurd (true≢false (sym (part_has s row (sibling_off off) i e there) ∙ none)))
      (cases_lt i (middle row (off / 2))) in
      let all = rank_most s (middle row (off / 2)) first 128 in
      let rises = rank_rises s (middle row (off / 2)) 128 (omega (arith, upto, low)) in (
        omega (arith, rank_low s (is_bit listed') number come.others (middle row (off / 2)) upto, all, rises, page.full),
        ne_eqb (off % 2) 1 (λ e. let z : ⊥ = omega (arith, e, even) in z),
      )

  -- the part that is the whole page has the number
  whole : (row off : ℕ) → 7 ≤ row → has_part (is_bit p.listed) row off ≡ true → number / 2 ^ row ≢ off → ⊥
  whole row off ge some other =
      let n = part_number (is_bit p.listed) row off some in
      other (first_part number row low ge ∙ sym (first_part n.0 row (listed_few p.listed small n.0 n.1) ge) ∙ n.2)

  same_more : (rows row off : ℕ) → 7 ≤ row + rows → number / 2 ^ row ≢ off → has_part (is_bit p.live) row off ≡ true
      → digest_at listed' (p.cells ++ record { left = left; right = right } ∷ []) row off ≡ digest_at p.listed p.cells row off
  same_more zero row off high other live = absurd (whole row off (omega (arith, high)) (live_listed p row off page live) other)
  same_more (suc rows) row off high other live =
      let some = live_listed p row off page live in
      let s = is_bit p.listed in
      let t = is_bit listed' in
      let c : Cell = record { left = left; right = right } in
      let sub : (i : ℕ) → s i ≡ true → t i ≡ true =
      λ i e. come.others i (λ same. let z : ⊥ = omega (arith, last i e, same) in z) ∙ e in
      ⊎_elim
      (λ lt. ⊎_elim
      (λ beside.
      let m = middle row (off / 2) in
      let b = branch_of s row off some beside in
      let on = right_rank s row (off / 2) b in
      let most = rank_most s number last (m + 2 ^ row) in
      let upto : m ≤ number =
      ⊎_elim (λ over. absurd (omega (arith, on, most, rank_rises s number m (omega (arith, over))))) (λ le. le) (cases_lt number m) in
      let inside : rank s m < length p.cells = omega (arith, on, most, rank_rises s number 128 (omega (arith, low)), page.full) in
      ap (digest_in (p.cells ++ c ∷ [])) (spot_beside t row off lt (part_subset s t row (sibling_off off) sub beside))
      ∙ ap (λ k. digest_in (p.cells ++ c ∷ []) (record { cell = k; right = off % 2 == 1 })) (rank_low s t number come.others m upto)
      ∙ in_front p.cells c (rank s m) (off % 2 == 1) inside ∙ ap (digest_in p.cells) (sym (spot_beside s row off lt beside)))
      (λ none. ⊎_elim
      (λ meets.
      let at = new_cell row off lt some none meets in
      ap (digest_in (p.cells ++ c ∷ [])) (spot_beside t row off lt (part_has t row (sibling_off off) number come.here meets))
      ∙ ap (λ r. digest_in (p.cells ++ c ∷ []) (record { cell = rank t (middle row (off / 2)); right = r })) at.1
      ∙ ap (λ (x : Cell). x.left) (get_or_push p.cells c no_cell (rank t (middle row (off / 2))) (sym at.0)) ∙ met row off lt live none meets)
      (λ apart.
      let n = part_number (is_bit p.live) row off live in
      let up = part_has (is_bit p.live) (suc row) (off / 2) n.0 n.1 (parts-suc n.0 row ∙ ap (λ x. x / 2) n.2) in
      ap (digest_in (p.cells ++ c ∷ []))
      (spot_alone t row off lt (part_other s t number row (sibling_off off) come.others apart ∙ none))
      ∙ same_more rows (suc row) (off / 2) (omega (arith, high)) (λ e. apart (other_half number row off e other)) up
      ∙ ap (digest_in p.cells) (sym (spot_alone s row off lt none)))
      (cases_eq (number / 2 ^ row) (sibling_off off)))
      (cases_Bool (has_part s row (sibling_off off))))
      (λ ge. absurd (whole row off ge some other))
      (cases_lt row 7)

  pub told_more : (row off : ℕ) → number / 2 ^ row ≢ off
      → told (record { listed = listed'; live = p.live; cells = p.cells ++ record { left = left; right = right } ∷ [] }) row off ≡ told p row off
  told_more row off other =
      when_same (has_part (is_bit p.live) row off) (has_part (is_bit p.live) row off) (digest_at p.listed p.cells row off)
      (digest_at listed' (p.cells ++ record { left = left; right = right } ∷ []) row off) refl
      (λ live. same_more 7 row off (omega arith) other live)

-- ---- a set and the same without one of its numbers

rank_flat : (s : ℕ → Bool) (i k : ℕ) → ((j : ℕ) → i ≤ j → j < i + k → s j ≡ false) → rank s (i + k) ≡ rank s i
rank_flat s i zero none = ap (rank s) (let z : i + 0 ≡ i = omega arith in z)
rank_flat s i (suc k) none =
    ap (rank s) (let z : i + suc k ≡ suc (i + k) = omega arith in z)
    ∙ rank-out s (i + k) (none (i + k) (omega arith) (omega arith))
    ∙ rank_flat s i k (λ j ge lt. none j ge (omega (arith, lt)))

-- nothing is counted where there is nothing
pub rank_between : (s : ℕ → Bool) (i j : ℕ) → i ≤ j → ((k : ℕ) → i ≤ k → k < j → s k ≡ false) → rank s j ≡ rank s i
rank_between s i j le none =
    let e : i + (j - i) ≡ j = omega (arith, le) in
    ap (rank s) (sym e) ∙ rank_flat s i (j - i) (λ k ge lt. none k ge (omega (arith, lt, e)))

module _ (s t : ℕ → Bool) (number : ℕ) (gone : IsWithout s t number) (here : s number ≡ true) where
  pub smaller : (i : ℕ) → t i ≡ true → s i ≡ true
  smaller i e =
      ⊎_elim
      (λ same. absurd (true≢false (sym e ∙ ap t same ∙ gone.here)))
      (λ ne. sym (gone.others i ne) ∙ e)
      (cases_eq i number)

  pub kept_in : (i : ℕ) → s i ≡ true → i ≢ number → t i ≡ true
  kept_in i e ne = gone.others i ne ∙ e

  -- as far as nothing is beside it, the number is alone in its parts
  pub alone : (q : ℕ) → ((r : ℕ) → r < q → has_part s r (sibling_off (number / 2 ^ r)) ≡ false) → (i : ℕ) → i / 2 ^ q ≡ number / 2 ^ q → t i ≡ false
  alone q none i same = ⊎_elim (λ e. absurd (by q none same (kept i e))) (λ e. e) (cases_Bool (t i))
    where
      kept : (i : ℕ) → t i ≡ true → (s i ≡ true) × (i ≢ number)
      kept i e = (smaller i e, (λ eq. true≢false (sym e ∙ ap t eq ∙ gone.here)))

      by : (q : ℕ) → ((r : ℕ) → r < q → has_part s r (sibling_off (number / 2 ^ r)) ≡ false) → i / 2 ^ q ≡ number / 2 ^ q
          → (s i ≡ true) × (i ≢ number) → ⊥
      by zero none same is = is.1 (let z : i ≡ number = omega (arith, same) in z)
      by (suc q) none same is =
          ⊎_elim
          (λ own. by q (λ r lt. none r (omega (arith, lt))) own is)
          (λ other.
          let half : i / 2 ^ suc q ≡ number / 2 ^ q / 2 = same ∙ parts-suc number q in
          let beside = other_half i q (number / 2 ^ q) half other in
          true≢false (sym (part_has s q (sibling_off (number / 2 ^ q)) i is.0 beside) ∙ none q (omega arith)))
          (cases_eq (i / 2 ^ q) (number / 2 ^ q))

  pub alone_part : (q : ℕ) → ((r : ℕ) → r < q → has_part s r (sibling_off (number / 2 ^ r)) ≡ false) → has_part t q (number / 2 ^ q) ≡ false
  alone_part q none = part_bare t q (number / 2 ^ q) (λ i e same. true≢false (sym e ∙ alone q none i same))

  pub not_alone : (q r : ℕ) → IsNearest s number q → has_part t r (number / 2 ^ r) ≡ true → q < r
  not_alone q r near some =
      ⊎_elim (λ lt. lt) (λ ge. absurd (true≢false (sym some ∙ alone_part r (λ k lt. near.none k (omega (arith, lt, ge)))))) (cases_lt q r)

  -- the cell of the part in which the number meets others is that of the number, or the next one
  pub gap_near : (q : ℕ) → IsNearest s number q → (rank s number ≤ rank s (middle q (number / 2 ^ q / 2)))
      × (rank s (middle q (number / 2 ^ q / 2)) ≤ rank s number + 1)
  gap_near q near =
      let x = number / 2 ^ q in
      let m = middle q (x / 2) in
      let flat = alone q near.none in
      ⊎_elim
      (λ even.
      let begin : m ≡ (x + 1) * 2 ^ q = ap (λ y. y * 2 ^ q) (let z : 2 * (x / 2) + 1 ≡ x + 1 = omega (arith, even) in z) in
      let lt : number < m = omega (arith, begin, part_end number q) in
      let none = rank_between t number m (omega (arith, lt)) (λ k ge l.
      let from = parts_rise q number k ge in
      let to = div_below k (2 ^ q) (x + 1) (pow_pos q) (omega (arith, l, begin)) in
      flat k (omega (arith, from, to))) in
      let before = rank_low s t number gone.others number (omega arith) in
      let behind = rank_high t s number (λ i ne. sym (gone.others i ne)) gone.here here m lt in
      (omega (arith, none, before, behind), omega (arith, none, before, behind)))
      (λ odd.
      let begin : m ≡ x * 2 ^ q = ap (λ y. y * 2 ^ q) (let z : 2 * (x / 2) + 1 ≡ x = omega (arith, odd) in z) in
      let le : m ≤ number = omega (arith, begin, part_start number q) in
      let none = rank_between t m number le (λ k ge l.
      let from = le-div x k (2 ^ q) (pow_pos q) (omega (arith, ge, begin)) in
      let to = parts_rise q k number (omega (arith, l)) in
      flat k (omega (arith, from, to))) in
      let before = rank_low s t number gone.others number (omega arith) in
      let first = rank_low s t number gone.others m le in
      (omega (arith, none, before, first), omega (arith, none, before, first)))
      (by_parity x)
    where
      by_parity : (n : ℕ) → (n % 2 ≡ 0) ⊎ (n % 2 ≡ 1)
      by_parity n = ⊎_elim (λ e. inl e) (λ ne. inr (omega (arith, ne))) (cases_eq (n % 2) 0)

-- ---- the cell of a number is taken out

spot_cases : (a b : Spot) → (a ≡ b) ⊎ (a ≢ b)
spot_cases a b =
    ⊎_elim
    (λ cell. ⊎_elim
    (λ right. inl (ap₂ (λ k r. record { cell = k; right = r }) cell right))
    (λ ne. inr (λ e. ne (ap (λ (x : Spot). x.right) e)))
    (cases_bools a.right b.right))
    (λ ne. inr (λ e. ne (ap (λ (x : Spot). x.cell) e)))
    (cases_eq a.cell b.cell)
  where
    cases_bools : (x y : Bool) → (x ≡ y) ⊎ (x ≢ y)
    cases_bools true true = inl refl
    cases_bools true false = inr (λ e. true≢false e)
    cases_bools false true = inr (λ e. true≢false (sym e))
    cases_bools false false = inl refl

when_is : (b c : Bool) (d e : Digest) → b ≡ true → c ≡ true → when b d ≡ when c e → d ≡ e
when_is true true d e x y same = ap (of_some d) same
  where
    of_some : Digest → Option Digest → Digest
    of_some d None = d
    of_some d (Some x) = x
when_is true false d e x y same = absurd (true≢false (sym y))
when_is false c d e x y same = absurd (true≢false (sym x))

pub page_less : (p : PageState) (listed' number : ℕ) (cells' : List Cell) → IsPage p → number < 128 → is_bit p.listed number ≡ true
    → is_bit p.live number ≡ false → IsWithout (is_bit p.listed) (is_bit listed') number → length cells' + 1 ≡ length p.cells
    → IsPage (record { listed = listed'; live = p.live; cells = cells' })
page_less p listed' number cells' page low here spent gone len = record {
  full =
      omega (
        arith,
        len,
        page.full,
        rank_high (is_bit listed') (is_bit p.listed) number (λ i ne. sym (gone.others i ne)) gone.here here 128 low,
      );
  within = λ i live.
      kept_in (is_bit p.listed) (is_bit listed') number gone here i (page.within i live)
      (λ e. true≢false (sym live ∙ ap (is_bit p.live) e ∙ spent));
}

module _ (p : PageState) (listed' number : ℕ) (page : IsPage p) (small : p.listed < 2 ^ 128) (low : number < 128)
    (here : is_bit p.listed number ≡ true) (spent : is_bit p.live number ≡ false) (gone : IsWithout (is_bit p.listed) (is_bit listed') number) where
  abbrev s : ℕ → Bool
  s = is_bit p.listed

  abbrev t : ℕ → Bool
  t = is_bit listed'

  few : (i : ℕ) → s i ≡ true → i < 128
  few = listed_few p.listed small

  sub : (i : ℕ) → t i ≡ true → s i ≡ true
  sub = smaller s t number gone here

  live_left : (i : ℕ) → is_bit p.live i ≡ true → t i ≡ true
  live_left i live = kept_in s t number gone here i (page.within i live) (λ e. true≢false (sym live ∙ ap (is_bit p.live) e ∙ spent))

  -- the part that is the whole page has the number
  all_in : (row off : ℕ) → 7 ≤ row → has_part t row off ≡ true → number / 2 ^ row ≢ off → ⊥
  all_in row off ge some other =
      let n = part_number t row off some in
      other (first_part number row low ge ∙ sym (first_part n.0 row (few n.0 (sub n.0 n.1)) ge) ∙ n.2)

  -- no other number is listed
  pub none_left : IsAlone s number → (cells' : List Cell) (row off : ℕ)
      → told (record { listed = listed'; live = p.live; cells = cells' }) row off ≡ told p row off
  none_left only cells' row off =
      when_same (has_part (is_bit p.live) row off) (has_part (is_bit p.live) row off) (digest_at p.listed p.cells row off)
      (digest_at listed' cells' row off) refl
      (λ live.
      let n = part_number (is_bit p.live) row off live in
      let left = live_left n.0 n.1 in
      let one : n.0 / 2 ^ 7 ≡ number / 2 ^ 7 = omega (arith, few n.0 (sub n.0 left), low) in
      absurd (true≢false (sym left ∙ alone s t number gone here 7 only n.0 one)))

  module _ (part : Place) (cells : List Cell) (beside : IsBeside s number part)
      (put : IsPut p.cells cells (spot s (suc part.row) (part.off / 2)) (digest_at p.listed p.cells part.row part.off)) where
    abbrev gap : ℕ
    gap = rank s (middle part.row (part.off / 2))

    half : part.off / 2 ≡ number / 2 ^ part.row / 2
    half = ap (λ x. x / 2) beside.off ∙ sibling_half (number / 2 ^ part.row)

    number_above : number / 2 ^ suc part.row ≡ part.off / 2
    number_above = parts-suc number part.row ∙ sym half

    some_beside : has_part s part.row part.off ≡ true
    some_beside = ap (has_part s part.row) beside.off ∙ beside.nearest.some

    pub branch : IsBranch s part.row (part.off / 2)
    branch = subst (IsBranch s part.row) (sym half)
        (branch_of s part.row (number / 2 ^ part.row) (part_with s number part.row here) beside.nearest.some)

    pub gap_within : gap < length cells
    gap_within = omega (arith, branch_inside s few part.row (part.off / 2) branch, page.full, put.len)

    near : (rank s number ≤ gap) × (gap ≤ rank s number + 1)
    near = subst (λ x. (rank s number ≤ rank s (middle part.row x)) × (rank s (middle part.row x) ≤ rank s number + 1)) (sym half)
        (gap_near s t number gone here part.row beside.nearest)

    -- the cell of each other branch stays
    stays : (row off : ℕ) → IsBranch s row off → rank s (middle row off) ≢ gap
        → get_or (remove cells gap) (rank t (middle row off)) no_cell ≡ get_or cells (rank s (middle row off)) no_cell
    stays row off b other =
        let m = middle row off in
        ⊎_elim
        (λ lt.
        let same = rank_high t s number (λ i ne. sym (gone.others i ne)) gone.here here m lt in
        let on = rank_above s number m here lt in
        get_or-remove_above cells gap no_cell (rank t m) (omega (arith, same, on, near, other)) gap_within
        ∙ ap (λ k. get_or cells k no_cell) (sym same))
        (λ le.
        let same = rank_low s t number gone.others m le in
        let on = rank_rises s m number le in
        ap (λ k. get_or (remove cells gap) k no_cell) same
        ∙ get_or-remove_below cells gap no_cell (rank s m) (omega (arith, on, near, other)) gap_within)
        (cases_lt number m)

    stays_whole : digest_in (remove cells gap) (record { cell = 0; right = true }) ≡ digest_in cells (record { cell = 0; right = true })
    stays_whole =
        ap (λ (x : Cell). x.right)
        (get_or-remove_below cells gap no_cell 0 (omega (arith, branch_cell s few part.row (part.off / 2) branch)) gap_within)

    others : (n : ℕ) → s n ≡ true → n / 2 ^ part.row ≡ part.off → t n ≡ true
    others n e there =
        kept_in s t number gone here n e
        (λ same. apart (number / 2 ^ part.row) (ap (λ k. k / 2 ^ part.row) (sym same) ∙ there ∙ beside.off))
      where
        apart : (x : ℕ) → x ≢ sibling_off x
        apart x e = ⊎_elim (λ a. let z : ⊥ = omega (arith, a, e) in z) (λ a. let z : ⊥ = omega (arith, a, e) in z) (sibling_cases x)

    -- above the part in which the number meets others, all lies as before
    above : (rows row off : ℕ) → 7 ≤ row + rows → part.row < row → number / 2 ^ row ≡ off
        → digest_at listed' (remove cells gap) row off ≡ digest_in cells (spot s row off)
    above zero row off high over is =
        ap (digest_in (remove cells gap)) (spot_whole t row off (omega (arith, high))) ∙ stays_whole
        ∙ ap (digest_in cells) (sym (spot_whole s row off (omega (arith, high))))
    above (suc rows) row off high over is =
        ⊎_elim
        (λ lt.
        let sib = sibling_off off in
        let unlike : number / 2 ^ row ≢ sib = λ e. unequal off (sym is ∙ e) in
        let same = part_other s t number row sib gone.others unlike in
        ⊎_elim
        (λ some.
        let n = part_number s part.row part.off some_beside in
        let up : n.0 / 2 ^ suc part.row ≡ number / 2 ^ suc part.row = parts-suc n.0 part.row ∙ ap (λ x. x / 2) n.2 ∙ sym number_above in
        let own = part_has s row off n.0 n.1 (same_above n.0 number (suc part.row) row over up ∙ is) in
        let b = branch_of s row off own some in
        let m = middle row (off / 2) in
        ap (digest_in (remove cells gap)) (spot_beside t row off lt (same ∙ some))
        ∙ ap (λ (x : Cell). if off % 2 == 1 then x.right else x.left)
        (stays row (off / 2) b (λ e. let one = branch_one s row (off / 2) part.row (part.off / 2) b branch e in omega (arith, one.0, over)))
        ∙ ap (digest_in cells) (sym (spot_beside s row off lt some)))
        (λ none.
        ap (digest_in (remove cells gap)) (spot_alone t row off lt (same ∙ none))
        ∙ above rows (suc row) (off / 2) (omega (arith, high)) (omega (arith, over)) (parts-suc number row ∙ ap (λ x. x / 2) is)
        ∙ ap (digest_in cells) (sym (spot_alone s row off lt none)))
        (cases_Bool (has_part s row sib)))
        (λ ge.
        ap (digest_in (remove cells gap)) (spot_whole t row off ge) ∙ stays_whole ∙ ap (digest_in cells) (sym (spot_whole s row off ge)))
        (cases_lt row 7)
      where
        unequal : (x : ℕ) → x ≢ sibling_off x
        unequal x e = ⊎_elim (λ a. let z : ⊥ = omega (arith, a, e) in z) (λ a. let z : ⊥ = omega (arith, a, e) in z) (sibling_cases x)

    -- where the other half has nothing but the number, this part is the one beside it
    one_beside : (row off : ℕ) → has_part t row off ≡ true → has_part t row (sibling_off off) ≡ false → number / 2 ^ row ≡ sibling_off off
        → (row ≡ part.row) × (off ≡ part.off)
    one_beside row off some none is =
        let own : off ≡ sibling_off (number / 2 ^ row) = sym (ap sibling_off is ∙ sibling_twice off) in
        let one : row ≡ part.row =
        ⊎_elim (λ e. e) (λ other. ⊎_elim
        (λ below.
        absurd (true≢false (sym (part_subset t s row off sub some) ∙ ap (has_part s row) own ∙ beside.nearest.none row below)))
        (λ over.
        let n = part_number s part.row part.off some_beside in
        let up : n.0 / 2 ^ suc part.row ≡ number / 2 ^ suc part.row = parts-suc n.0 part.row ∙ ap (λ x. x / 2) n.2 ∙ sym number_above in
        let there = same_above n.0 number (suc part.row) row over up ∙ is in
        absurd (true≢false (sym (part_has t row (sibling_off off) n.0 (others n.0 n.1 n.2) there) ∙ none))) other)
        (cases_order row part.row) in
        (one, own ∙ ap (λ r. sibling_off (number / 2 ^ r)) one ∙ sym beside.off)

    same_less : (rows row off : ℕ) → 7 ≤ row + rows → number / 2 ^ row ≢ off → has_part t row off ≡ true
        → digest_at listed' (remove cells gap) row off ≡ digest_at p.listed p.cells row off
    same_less zero row off high other some = absurd (all_in row off (omega (arith, high)) some other)
    same_less (suc rows) row off high other some =
        ⊎_elim
        (λ lt.
        let sib = sibling_off off in
        let own = part_subset t s row off sub some in
        ⊎_elim
        (λ left.
        let more = part_subset t s row sib sub left in
        let b = branch_of s row off own more in
        let not_gap : rank s (middle row (off / 2)) ≢ gap = λ e.
        let one = branch_one s row (off / 2) part.row (part.off / 2) b branch e in
        let half_is : number / 2 ^ suc row ≡ off / 2 = ap (λ r. number / 2 ^ suc r) one.0 ∙ number_above ∙ sym one.1 in
        let in_other = other_half number row off half_is other in
        let none = alone_part s t number gone here part.row beside.nearest.none in
        true≢false (sym left ∙ ap (has_part t row) (sym in_other) ∙ ap (λ r. has_part t r (number / 2 ^ r)) one.0 ∙ none) in
        let v = part_has s (suc part.row) (part.off / 2) number here number_above in
        let elsewhere : spot s row off ≢ spot s (suc part.row) (part.off / 2) = λ e.
        other (one_spot s few (suc part.row) (part.off / 2) row off v own (sym e) number here number_above) in
        ap (digest_in (remove cells gap)) (spot_beside t row off lt left)
        ∙ ap (λ (x : Cell). if off % 2 == 1 then x.right else x.left) (stays row (off / 2) b not_gap)
        ∙ ap (digest_in cells) (sym (spot_beside s row off lt more)) ∙ put.others (spot s row off) elsewhere)
        (λ none. ⊎_elim
        (λ listed.
        let n = part_number s row sib listed in
        let is : number / 2 ^ row ≡ sib =
        ⊎_elim
        (λ e. ap (λ k. k / 2 ^ row) (sym e) ∙ n.2)
        (λ ne. absurd (true≢false (sym (part_has t row sib n.0 (kept_in s t number gone here n.0 n.1 ne) n.2) ∙ none)))
        (cases_eq n.0 number) in
        let one = one_beside row off some none is in
        let up : number / 2 ^ suc row ≡ off / 2 = parts-suc number row ∙ ap (λ x. x / 2) is ∙ sibling_half off in
        ap (digest_in (remove cells gap)) (spot_alone t row off lt none)
        ∙ above 7 (suc row) (off / 2) (omega arith) (omega (arith, one.0)) up
        ∙ ap₂ (λ r o. digest_in cells (spot s (suc r) (o / 2))) one.0 one.1 ∙ put.here
        ∙ ap₂ (digest_at p.listed p.cells) (sym one.0) (sym one.1))
        (λ bare.
        let n = part_number t row off some in
        let up = part_has t (suc row) (off / 2) n.0 n.1 (parts-suc n.0 row ∙ ap (λ x. x / 2) n.2) in
        let apart : number / 2 ^ suc row ≢ off / 2 = λ e.
        true≢false (sym (part_has s row sib number here (other_half number row off e other)) ∙ bare) in
        ap (digest_in (remove cells gap)) (spot_alone t row off lt none)
        ∙ same_less rows (suc row) (off / 2) (omega (arith, high)) apart up
        ∙ ap (digest_in p.cells) (sym (spot_alone s row off lt bare)))
        (cases_Bool (has_part s row sib)))
        (cases_Bool (has_part t row sib)))
        (λ ge. absurd (all_in row off ge some other))
        (cases_lt row 7)

    -- what is kept for the part in which the number meets others is what is kept beside the number
    joined : (n : ℕ) → AreOfHalves p n → InForest n (suc part.row) (part.off / 2)
        → told p (suc part.row) (part.off / 2) ≡ told p part.row part.off
    joined n halves h =
        let x = number / 2 ^ part.row in
        let bare = alone_part s t number gone here part.row beside.nearest.none in
        let none = none_told p part.row x (part_none (is_bit p.live) t part.row x live_left bare) in
        let h' = halves.is part.row (part.off / 2) h in
        ⊎_elim
        (λ even.
        let left : x ≡ 2 * (part.off / 2) = omega (arith, half, even) in
        let right : 2 * (part.off / 2) + 1 ≡ part.off = omega (arith, half, even, beside.off) in
        h'.no_left (ap (told p part.row) (sym left) ∙ none) ∙ ap (told p part.row) right)
        (λ odd.
        let left : 2 * (part.off / 2) ≡ part.off = omega (arith, half, odd, beside.off) in
        let right : x ≡ 2 * (part.off / 2) + 1 = omega (arith, half, odd) in
        h'.no_right (ap (told p part.row) (sym right) ∙ none) ∙ ap (told p part.row) left)
        (sibling_cases x)

    pub told_less : (n : ℕ) → AreOfHalves p n → (row off : ℕ) → InForest n row off
        → told (record { listed = listed'; live = p.live; cells = remove cells gap }) row off ≡ told p row off
    told_less n halves row off h =
        when_same (has_part (is_bit p.live) row off) (has_part (is_bit p.live) row off) (digest_at p.listed p.cells row off)
        (digest_at listed' (remove cells gap) row off) refl
        (λ live.
        let some = part_subset (is_bit p.live) t row off live_left live in
        ⊎_elim
        (λ is.
        let over = not_alone s t number gone here part.row row beside.nearest (ap (has_part t row) is ∙ some) in
        above 7 row off (omega arith) over is ∙ ⊎_elim
        (λ e.
        let v : has_part s (suc part.row) (part.off / 2) ≡ true = part_has s (suc part.row) (part.off / 2) number here number_above in
        let i = part_number (is_bit p.live) row off live in
        let i_left = live_left i.0 i.1 in
        let i_above = one_spot s few row off (suc part.row) (part.off / 2) (part_subset t s row off sub some) v e i.0 (page.within i.0 i.1) i.2 in
        let i_off : i.0 / 2 ^ part.row ≢ number / 2 ^ part.row =
        λ eq. true≢false (sym i_left ∙ alone s t number gone here part.row beside.nearest.none i.0 eq) in
        let i_there = other_half i.0 part.row (number / 2 ^ part.row) (i_above ∙ half) i_off ∙ sym beside.off in
        let whole : InForest n (suc part.row) (part.off / 2) = beneath n row off (suc part.row) over h (number_above) is in
        ap (digest_in cells) e ∙ put.here
        ∙ sym (when_is (has_part (is_bit p.live) (suc part.row) (part.off / 2)) (has_part (is_bit p.live) part.row part.off)
        (digest_at p.listed p.cells (suc part.row) (part.off / 2)) (digest_at p.listed p.cells part.row part.off)
        (part_has (is_bit p.live) (suc part.row) (part.off / 2) i.0 i.1 i_above)
        (part_has (is_bit p.live) part.row part.off i.0 i.1 i_there) (joined n halves whole))
        ∙ ap (digest_in p.cells) (sym e))
        (λ ne. put.others (spot s row off) ne)
        (spot_cases (spot s row off) (spot s (suc part.row) (part.off / 2))))
        (λ other. same_less 7 row off (omega arith) other some)
        (cases_eq (number / 2 ^ row) off))
      where
        beneath : (n row off k : ℕ) → k ≤ row → InForest n row off → number / 2 ^ k ≡ part.off / 2 → number / 2 ^ row ≡ off
            → InForest n k (part.off / 2)
        beneath n row off k le h at_k at_row =
            let e : k + (row - k) ≡ row = omega (arith, le) in
            let up : part.off / 2 / 2 ^ (row - k) ≡ off =
            ap (λ x. x / 2 ^ (row - k)) (sym at_k) ∙ shr-shr number k (row - k) ∙ ap (λ j. number / 2 ^ j) e ∙ at_row in
            InForest-beneath n (row - k) k (part.off / 2)
            (subst (λ j. InForest n j (part.off / 2 / 2 ^ (row - k))) (sym e) (subst (InForest n row) (sym up) h))

-- the cell that goes is there
pub way_within : (p : PageState) (number : ℕ) (cells : List Cell) (out : ℕ) → IsPage p → p.listed < 2 ^ 128 → is_bit p.listed number ≡ true
    → IsLifted p.listed p.cells cells number out → (out < length cells) × (length cells ≡ length p.cells)
way_within p number cells out page small here way =
    let s = is_bit p.listed in
    let few = listed_few p.listed small in
    ⊎_elim
    (λ only. (omega (arith, ap length only.1, only.2, page.full, rank_above s number 128 here (few number here)), ap length only.1))
    (λ l.
    let some = l.1.nearest.some in
    let half : l.0.off / 2 ≡ number / 2 ^ l.0.row / 2 = ap (λ x. x / 2) l.1.off ∙ sibling_half (number / 2 ^ l.0.row) in
    let b : IsBranch s l.0.row (l.0.off / 2) =
    subst (IsBranch s l.0.row) (sym half) (branch_of s l.0.row (number / 2 ^ l.0.row) (part_with s number l.0.row here) some) in
    (omega (arith, l.3, branch_inside s few l.0.row (l.0.off / 2) b, page.full, l.2.len), l.2.len))
    way

-- what is kept stays
pub told_without : (p : PageState) (listed' number : ℕ) (cells : List Cell) (out : ℕ) → IsPage p → p.listed < 2 ^ 128 → number < 128
    → is_bit p.listed number ≡ true → is_bit p.live number ≡ false → IsWithout (is_bit p.listed) (is_bit listed') number
    → IsLifted p.listed p.cells cells number out → (n : ℕ) → AreOfHalves p n → (row off : ℕ) → InForest n row off
    → told (record { listed = listed'; live = p.live; cells = remove cells out }) row off ≡ told p row off
told_without p listed' number cells out page small low here spent gone way n halves row off h =
    ⊎_elim
    (λ only. none_left p listed' number page small low here spent gone only.0 (remove cells out) row off)
    (λ l.
    ap (λ k. told (record { listed = listed'; live = p.live; cells = remove cells k }) row off) l.3
    ∙ told_less p listed' number page small low here spent gone l.0 cells l.1 l.2 n halves row off h)
    way
