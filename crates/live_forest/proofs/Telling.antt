-- What a page keeps for parts, and what of it a write changes.
use Rattle.std.proofs.Common.{◌≡◌, ◌≢◌, ℕ, zero, suc, ◌+◌, ◌-◌, ◌*◌, ◌/◌, ◌^◌, ◌<◌, ◌≤◌, Bool, true, false, refl, sym, ap, ap₂, ◌∙◌, subst, ⊎_elim}
use Rattle.std.proofs.Common.{arith, inl, inr, ◌⊎◌}
use Rattle.std.proofs.Common.{pow-suc, List, length, Option, Some, None}
use Rattle.std.specs.Prelude.{◌||◌, ◌==◌, ◌%◌, is_some, get_or, if◌then◌else◌}
use Rattle.std.proofs.lemmas.Bool.{cases_Bool, cases_eq, cases_lt, or_left, true≢false, eq-eqb, ne_eqb}
use Rattle.std.proofs.lemmas.List.{get_or_default}
use Rattle.std.proofs.Math.Bool.{or-false}
use Rattle.std.proofs.lemmas.Nat.{pow_pos, shr-shr}
use Rattle.uo_digest.specs.declared.digest.Digest.{Digest}
use Rattle.forest_place.specs.Forest.{InForest, sibling_off}
use Rattle.forest_place.proofs.Parts.{parts-suc, InForest-beneath, InForest-left, InForest-right, not_root-down}
use Rattle.forest_place.proofs.Siblings.{sibling_off-left, sibling_off-right, sibling_twice, sibling_within}
use Rattle.forest_place.proofs.Slots.{in_forest_iff}
use Rattle.live_forest.specs.declared.cell.Cell.{Cell}
use Rattle.live_forest.specs.Sets.{is_bit, has_part, rank, IsWith, IsWithout}
use Rattle.live_forest.specs.Pages.{PageState, IsPage, no_cell, middle, IsBranch, when, spot, digest_in, digest_at, told, IsPut}
use Rattle.live_forest.specs.Pages.{IsEntryPut, IsOfHalves, IsPartPut}
use Rattle.live_forest.proofs.Bitmaps.{last_below}
use Rattle.live_forest.proofs.Ranks.{rank_rises, right_rank, part_other, part_none, part_subset, part_with}
use Rattle.live_forest.proofs.Landing.{part_number, branch_of, spot_beside, spot_alone, one_spot, same_above}

-- ---- that something is kept

some_when : (b : Bool) (d : Digest) → is_some (when b d) ≡ b
some_when true d = refl
some_when false d = refl

pub none_is : (x : Option Digest) → is_some x ≡ false → x ≡ None
none_is None e = refl
none_is (Some d) e = absurd (true≢false e)

-- something is kept for the parts that have something live
pub some_told : (p : PageState) (row off : ℕ) → is_some (told p row off) ≡ has_part (is_bit p.live) row off
some_told p row off = some_when (has_part (is_bit p.live) row off) (digest_at p.listed p.cells row off)

pub none_told : (p : PageState) (row off : ℕ) → has_part (is_bit p.live) row off ≡ false → told p row off ≡ None
none_told p row off none = none_is (told p row off) (some_told p row off ∙ none)

pub when_same : (b c : Bool) (d e : Digest) → c ≡ b → (b ≡ true → e ≡ d) → when c e ≡ when b d
when_same true c d e is same = ap₂ when is (same refl)
when_same false c d e is same = ap (λ x. when x e) is

-- ---- parts of a page

-- the parts of a page that have one of its numbers
pub page_within : (number k : ℕ) → number < 128 → k ≤ 7 → InForest 128 k (number / 2 ^ k)
page_within number k low le =
    let e : k + (7 - k) ≡ 7 = omega arith in
    let whole : InForest 128 7 (number / 128) = (let z : number / 128 < 1 = omega arith in z) in
    let up : InForest 128 (k + (7 - k)) (number / 2 ^ (k + (7 - k))) = subst (λ x. InForest 128 x (number / 2 ^ x)) (sym e) whole in
    InForest-beneath 128 (7 - k) k (number / 2 ^ k) (subst (λ x. InForest 128 (k + (7 - k)) x) (sym (shr-shr number k (7 - k))) up)

-- and those above them
pub page_up : (row off : ℕ) → row < 7 → InForest 128 row off → InForest 128 (suc row) (off / 2)
page_up zero off low h = let z : off / 2 < 64 = omega (arith, h) in z
page_up (suc zero) off low h = let z : off / 2 < 32 = omega (arith, h) in z
page_up (suc (suc zero)) off low h = let z : off / 2 < 16 = omega (arith, h) in z
page_up (suc (suc (suc zero))) off low h = let z : off / 2 < 8 = omega (arith, h) in z
page_up (suc (suc (suc (suc zero)))) off low h = let z : off / 2 < 4 = omega (arith, h) in z
page_up (suc (suc (suc (suc (suc zero))))) off low h = let z : off / 2 < 2 = omega (arith, h) in z
page_up (suc (suc (suc (suc (suc (suc zero)))))) off low h = let z : off / 2 < 1 = omega (arith, h) in z
page_up (suc (suc (suc (suc (suc (suc (suc row))))))) off low h = absurd (omega (arith, low))

pub page_beside : (row off : ℕ) → row < 7 → InForest 128 row off → InForest 128 row (sibling_off off)
page_beside row off low h = sibling_within 128 row off h (not_root-down 128 row off (page_up row off low h))

-- the part beside that of a number
pub beside_within : (number row off : ℕ) → number < 128 → row < 7 → off ≡ sibling_off (number / 2 ^ row) → InForest 128 row off
beside_within number row off few low e =
    subst (InForest 128 row) (sym e) (page_beside row (number / 2 ^ row) low (page_within number row few (omega (arith, low))))

pub part_beside : (s : ℕ → Bool) (number row off : ℕ) → s number ≡ true → off ≡ sibling_off (number / 2 ^ row)
    → has_part s row (sibling_off off) ≡ true
part_beside s number row off h e = rw (e, sibling_twice (number / 2 ^ row)) (part_with s number row h)

pub above_is : (number row : ℕ) → number / 2 ^ (row + 1) ≡ number / 2 ^ suc row
above_is number row = ap (λ k. number / 2 ^ k) (let z : row + 1 ≡ suc row = omega arith in z)

-- ---- where a cell is

-- a branch of the page meets before its end
pub middle_ends : (row off : ℕ) → InForest 128 (suc row) off → middle row off + 2 ^ row ≤ 128
middle_ends row off h =
    let ends = (in_forest_iff 128 (suc row) off).0 h in
    let double : 2 ^ suc row ≡ 2 ^ row * 2 = pow-suc 2 row in
    let whole : (off + 1) * 2 ^ suc row ≡ middle row off + 2 ^ row = ap (λ x. (off + 1) * x) double
    ∙ (let z : (off + 1) * (2 ^ row * 2) ≡ (2 * off + 1) * 2 ^ row + 2 ^ row = omega arith in z) in
    omega (arith, ends, whole)

pub middle_low : (row off : ℕ) → InForest 128 (suc row) off → middle row off < 128
middle_low row off h = omega (arith, middle_ends row off h, pow_pos row)

-- the cell of a branch is there
pub gap_index : (p : PageState) → IsPage p → (row off : ℕ) → InForest 128 (suc row) off → IsBranch (is_bit p.listed) row off
    → rank (is_bit p.listed) (middle row off) < length p.cells
gap_index p page row off h b =
    omega (
      arith,
      right_rank (is_bit p.listed) row off b,
      rank_rises (is_bit p.listed) (middle row off + 2 ^ row) 128 (middle_ends row off h),
      page.full,
    )

-- something of a part with something live is listed
pub live_listed : (p : PageState) (row off : ℕ) → IsPage p → has_part (is_bit p.live) row off ≡ true → has_part (is_bit p.listed) row off ≡ true
live_listed p row off page here = part_subset (is_bit p.live) (is_bit p.listed) row off page.within here

pub joined_branch : (p : PageState) (row off : ℕ) → IsPage p → is_some (told p row (2 * off)) ≡ true → is_some (told p row (2 * off + 1)) ≡ true
    → IsBranch (is_bit p.listed) row off
joined_branch p row off page left right = record {
  left = live_listed p row (2 * off) page (sym (some_told p row (2 * off)) ∙ left);
  right = live_listed p row (2 * off + 1) page (sym (some_told p row (2 * off + 1)) ∙ right);
}

pub joined_live : (p : PageState) (row off : ℕ) → IsPage p → is_some (told p row (2 * off)) ≡ true → has_part (is_bit p.live) (suc row) off ≡ true
joined_live p row off page left = or_left _ _ (sym (some_told p row (2 * off)) ∙ left)

-- what is told of two halves that both have something lies in one cell
pub pair_told : (p : PageState) → IsPage p → (row off : ℕ) → row < 7 → InForest 128 (suc row) off → is_some (told p row (2 * off)) ≡ true
    → is_some (told p row (2 * off + 1)) ≡ true → (k : ℕ) (cell : Cell) → k ≡ rank (is_bit p.listed) (middle row off) → cell ≡ get_or p.cells k cell
    → (told p row (2 * off) ≡ Some cell.left) × (told p row (2 * off + 1) ≡ Some cell.right)
pair_told p page row off low h left right k cell at is =
    let s = is_bit p.listed in
    let b = joined_branch p row off page left right in
    let inside : k < length p.cells = omega (arith, at, gap_index p page row off h b) in
    let there : get_or p.cells (rank s (middle row off)) no_cell ≡ cell =
    ap (λ i. get_or p.cells i no_cell) (sym at) ∙ sym (is ∙ get_or_default p.cells k cell no_cell inside) in
    let own_left : 2 * off / 2 ≡ off = omega arith in
    let own_right : (2 * off + 1) / 2 ≡ off = omega arith in
    let even : (2 * off % 2 == 1) ≡ false = ne_eqb (2 * off % 2) 1 (λ e. let z : ⊥ = omega (arith, e) in z) in
    let odd : ((2 * off + 1) % 2 == 1) ≡ true = eq-eqb ((2 * off + 1) % 2) 1 (omega arith) in
    let at_left : spot s row (2 * off) ≡ record { cell = rank s (middle row off); right = false } =
    spot_beside s row (2 * off) low (ap (has_part s row) (sibling_off-left off) ∙ b.right)
    ∙ ap₂ (λ i r. record { cell = rank s (middle row i); right = r }) own_left even in
    let at_right : spot s row (2 * off + 1) ≡ record { cell = rank s (middle row off); right = true } =
    spot_beside s row (2 * off + 1) low (ap (has_part s row) (sibling_off-right off) ∙ b.left)
    ∙ ap₂ (λ i r. record { cell = rank s (middle row i); right = r }) own_right odd in (
      ap₂ when (sym (some_told p row (2 * off)) ∙ left) (ap (digest_in p.cells) at_left ∙ ap (λ (x : Cell). x.left) there),
      ap₂ when (sym (some_told p row (2 * off + 1)) ∙ right) (ap (digest_in p.cells) at_right ∙ ap (λ (x : Cell). x.right) there),
    )

-- the digest of a part beside one that has listed numbers lies in the cell of the part with both
pub beside_index : (p : PageState) → IsPage p → (row off : ℕ) → row < 7 → InForest 128 row off → has_part (is_bit p.live) row off ≡ true
    → has_part (is_bit p.listed) row (sibling_off off) ≡ true → rank (is_bit p.listed) (middle row (off / 2)) < length p.cells
beside_index p page row off low h live other =
    gap_index p page row (off / 2) (page_up row off low h) (branch_of (is_bit p.listed) row off (live_listed p row off page live) other)

pub beside_told : (p : PageState) → IsPage p → (row off : ℕ) → row < 7 → InForest 128 row off → has_part (is_bit p.live) row off ≡ true
    → has_part (is_bit p.listed) row (sibling_off off) ≡ true → (k : ℕ) (cell : Cell) → k ≡ rank (is_bit p.listed) (middle row (off / 2))
    → cell ≡ get_or p.cells k cell → told p row off ≡ Some (if off % 2 == 1 then cell.right else cell.left)
beside_told p page row off low h live other k cell at is =
    let s = is_bit p.listed in
    let inside : k < length p.cells = omega (arith, at, beside_index p page row off low h live other) in
    let there : get_or p.cells (rank s (middle row (off / 2))) no_cell ≡ cell =
    ap (λ i. get_or p.cells i no_cell) (sym at) ∙ sym (is ∙ get_or_default p.cells k cell no_cell inside) in
    ap₂ when live (ap (digest_in p.cells) (spot_beside s row off low other)
    ∙ ap (λ (x : Cell). if off % 2 == 1 then x.right else x.left) there)

-- no number of a page is 128 or more
pub listed_few : (listed : ℕ) → listed < 2 ^ 128 → (i : ℕ) → is_bit listed i ≡ true → i < 128
listed_few listed small = last_below listed 128 small (λ i low e. low)

-- ---- an entry is put

pub entry_gone : (p : PageState) (live' number : ℕ) → IsWithout (is_bit p.live) (is_bit live') number
    → IsEntryPut p (record { listed = p.listed; live = live'; cells = p.cells }) number None
entry_gone p live' number gone = record {
  here = ap (λ b. when b (digest_at p.listed p.cells 0 number)) gone.here;
  others = λ r o other. ap (λ b. when b (digest_at p.listed p.cells r o)) (part_other (is_bit p.live) (is_bit live') number r o gone.others other);
}

module _ (p : PageState) (page : IsPage p) (small : p.listed < 2 ^ 128) where
  -- where something is kept, the digest lies elsewhere than that of a part with a number that this one has not
  elsewhere : (row number r o : ℕ) → is_bit p.listed number ≡ true → has_part (is_bit p.live) r o ≡ true → number / 2 ^ r ≢ o
      → spot (is_bit p.listed) r o ≢ spot (is_bit p.listed) row (number / 2 ^ row)
  elsewhere row number r o listed live other same =
      other
      (one_spot (is_bit p.listed) (listed_few p.listed small) row (number / 2 ^ row) r o (part_with (is_bit p.listed) number row listed)
      (part_subset (is_bit p.live) (is_bit p.listed) r o page.within live) (sym same) number listed refl)

  pub entry_come : (live' number : ℕ) (cells : List Cell) (d : Digest) → is_bit p.listed number ≡ true
      → IsPut p.cells cells (spot (is_bit p.listed) 0 number) d → IsWith (is_bit p.live) (is_bit live') number
      → IsEntryPut p (record { listed = p.listed; live = live'; cells = cells }) number (Some d)
  entry_come live' number cells d listed put come =
      let one : number / 1 ≡ number = omega arith in
      record {
        here = ap₂ when come.here put.here;
        others = λ r o other.
            when_same (has_part (is_bit p.live) r o) (has_part (is_bit live') r o) (digest_at p.listed p.cells r o) (digest_at p.listed cells r o)
            (part_other (is_bit p.live) (is_bit live') number r o come.others other)
            (λ live. put.others (spot (is_bit p.listed) r o)
            (λ same. elsewhere 0 number r o listed live other (same ∙ ap (spot (is_bit p.listed) 0) (sym one))));
      }

pub page_gone : (p : PageState) (live' number : ℕ) → IsPage p → IsWithout (is_bit p.live) (is_bit live') number
    → IsPage (record { listed = p.listed; live = live'; cells = p.cells })
page_gone p live' number page gone = record {
  full = page.full;
  within = λ i live.
      ⊎_elim
      (λ e. absurd (true≢false (sym live ∙ ap (is_bit live') e ∙ gone.here)))
      (λ ne. page.within i (sym (gone.others i ne) ∙ live))
      (cases_eq i number);
}

pub page_come : (p : PageState) (live' number : ℕ) (cells : List Cell) → IsPage p → is_bit p.listed number ≡ true
    → IsWith (is_bit p.live) (is_bit live') number → length cells ≡ length p.cells
    → IsPage (record { listed = p.listed; live = live'; cells = cells })
page_come p live' number cells page listed come same = record {
  full = same ∙ page.full;
  within = λ i live.
      ⊎_elim
      (λ e. ap (is_bit p.listed) e ∙ listed)
      (λ ne. page.within i (sym (come.others i ne) ∙ live))
      (cases_eq i number);
}

-- ---- what is kept for a part is put

pub part_written : (p : PageState) (row number : ℕ) (cells : List Cell) (d : Digest) → IsPage p → p.listed < 2 ^ 128
    → is_bit p.listed number ≡ true → IsBranch (is_bit p.listed) row (number / 2 ^ suc row)
    → IsPut p.cells cells (spot (is_bit p.listed) (suc row) (number / 2 ^ suc row)) d
    → has_part (is_bit p.live) (suc row) (number / 2 ^ suc row) ≡ true
    → IsPartPut p (record { listed = p.listed; live = p.live; cells = cells }) row number (Some d)
part_written p row number cells d page small listed b put live =
    let off = number / 2 ^ suc row in
    let s = is_bit p.listed in
    let few = listed_few p.listed small in
    record {
      here = ap₂ when live put.here;
      others = λ r o but.
          when_same (has_part (is_bit p.live) r o) (has_part (is_bit p.live) r o) (digest_at p.listed p.cells r o) (digest_at p.listed cells r o) refl
          (λ some. put.others (spot s r o)
          (λ same.
          let has = part_subset (is_bit p.live) s r o page.within some in
          let own = part_with s number (suc row) listed in
          let all = one_spot s few (suc row) off r o own has (sym same) in
          ⊎_elim
          (λ above. but above (all number listed refl))
          (λ below.
          let l = part_number s row (2 * off) b.left in
          let m = part_number s row (2 * off + 1) b.right in
          let here_l = all l.0 l.1 (let z : l.0 / 2 ^ suc row ≡ off = omega (arith, parts-suc l.0 row, l.2) in z) in
          let here_m = all m.0 m.1 (let z : m.0 / 2 ^ suc row ≡ off = omega (arith, parts-suc m.0 row, m.2) in z) in
          let one = same_above l.0 m.0 r row below (here_l ∙ sym here_m) in
          let z : ⊥ = omega (arith, one, l.2, m.2) in z)
          (up_or_down r)));
    }
  where
    up_or_down : (r : ℕ) → (suc row ≤ r) ⊎ (r ≤ row)
    up_or_down r = ⊎_elim (λ lt. inl lt) (λ ge. inr ge) (cases_lt row r)

pub page_written : (p : PageState) (cells : List Cell) → IsPage p → length cells ≡ length p.cells
    → IsPage (record { listed = p.listed; live = p.live; cells = cells })
page_written p cells page same = record { full = same ∙ page.full; within = page.within }

-- what is kept for a half is kept for the part too, where the other half has no listed number
pub same_alone : (p : PageState) (row off : ℕ) → row < 7 → has_part (is_bit p.listed) row (sibling_off off) ≡ false
    → digest_at p.listed p.cells (suc row) (off / 2) ≡ digest_at p.listed p.cells row off
same_alone p row off low none = ap (digest_in p.cells) (sym (spot_alone (is_bit p.listed) row off low none))

-- nothing has to be put for a part of which one half has no listed number
pub part_stays : (p : PageState) (row number : ℕ) (own : Option Digest) → IsPage p → row < 7
    → (IsBranch (is_bit p.listed) row (number / 2 ^ suc row) → ⊥)
    → IsOfHalves (told p row (2 * (number / 2 ^ suc row))) (told p row (2 * (number / 2 ^ suc row) + 1)) own → IsPartPut p p row number own
part_stays p row number own page low no_branch halves =
    let off = number / 2 ^ suc row in
    let s = is_bit p.listed in
    let live = is_bit p.live in
    record {
      here =
          ⊎_elim
          (λ some_left. ⊎_elim
          (λ some_right. absurd (no_branch (record { left = some_left; right = some_right })))
          (λ no_right.
          let none = part_none live s row (2 * off + 1) page.within no_right in
          let half : 2 * off / 2 ≡ off = omega arith in
          let same : digest_at p.listed p.cells (suc row) off ≡ digest_at p.listed p.cells row (2 * off) =
          ap (digest_at p.listed p.cells (suc row)) (sym half)
          ∙ same_alone p row (2 * off) low (ap (has_part s row) (sibling_off-left off) ∙ no_right) in
          ap₂ when (ap (λ b. has_part live row (2 * off) || b) none ∙ or-false (has_part live row (2 * off))) same
          ∙ sym (halves.no_right (none_told p row (2 * off + 1) none)))
          (cases_Bool (has_part s row (2 * off + 1))))
          (λ no_left.
          let none = part_none live s row (2 * off) page.within no_left in
          let half : (2 * off + 1) / 2 ≡ off = omega arith in
          let same : digest_at p.listed p.cells (suc row) off ≡ digest_at p.listed p.cells row (2 * off + 1) =
          ap (digest_at p.listed p.cells (suc row)) (sym half)
          ∙ same_alone p row (2 * off + 1) low (ap (has_part s row) (sibling_off-right off) ∙ no_left) in
          ap₂ when (ap (λ b. b || has_part live row (2 * off + 1)) none) same
          ∙ sym (halves.no_left (none_told p row (2 * off) none)))
          (cases_Bool (has_part s row (2 * off)));
      others = λ r o but. refl;
    }

-- what a part has is live where something is kept of its halves
pub own_live : (p : PageState) (row off : ℕ) (own : Option Digest) → IsPage p → IsOfHalves (told p row (2 * off)) (told p row (2 * off + 1)) own
    → is_some own ≡ has_part (is_bit p.live) (suc row) off
own_live p row off own page halves =
    let l = some_told p row (2 * off) in
    let r = some_told p row (2 * off + 1) in
    ⊎_elim
    (λ some_left. ⊎_elim
    (λ some_right. halves.both (l ∙ some_left) (r ∙ some_right) ∙ sym (or_left _ _ some_left))
    (λ no_right.
    ap is_some (halves.no_right (none_told p row (2 * off + 1) no_right)) ∙ l ∙ some_left ∙ sym (or_left _ _ some_left))
    (cases_Bool (has_part (is_bit p.live) row (2 * off + 1))))
    (λ no_left.
    ap is_some (halves.no_left (none_told p row (2 * off) no_left)) ∙ r
    ∙ ap (λ b. b || has_part (is_bit p.live) row (2 * off + 1)) (sym no_left))
    (cases_Bool (has_part (is_bit p.live) row (2 * off)))

-- nor where nothing is live
pub part_empty : (p : PageState) (row number : ℕ) → IsPage p
    → IsOfHalves (told p row (2 * (number / 2 ^ suc row))) (told p row (2 * (number / 2 ^ suc row) + 1)) None → IsPartPut p p row number None
part_empty p row number page halves = record {
  here = none_told p (suc row) (number / 2 ^ suc row) (sym (own_live p row (number / 2 ^ suc row) None page halves));
  others = λ r o but. refl;
}

-- ---- one half has nothing

pub alone_halves : (f : ℕ → Option Digest) (first side : ℕ) → side < 2 → f (first + (1 - side)) ≡ None
    → IsOfHalves (f first) (f (first + 1)) (f (first + side))
alone_halves f first zero lt none =
    let here : first + 0 ≡ first = omega arith in
    let other : first + 1 ≡ first + (1 - 0) = omega arith in
    record {
      no_left = λ e. ap f here ∙ e ∙ sym (ap f other ∙ none);
      no_right = λ e. ap f here;
      both = λ left right. absurd (true≢false (sym right ∙ ap is_some (ap f other ∙ none)));
    }
alone_halves f first (suc zero) lt none =
    let other : first ≡ first + (1 - 1) = omega arith in
    record {
      no_left = λ e. refl;
      no_right = λ e. e ∙ sym (ap f other ∙ none);
      both = λ left right. absurd (true≢false (sym left ∙ ap is_some (ap f other ∙ none)));
    }
alone_halves f first (suc (suc side)) lt none = absurd (omega (arith, lt))

pub side_within : (n row off side : ℕ) → side < 2 → InForest n (suc row) off → InForest n row (2 * off + side)
side_within n row off zero lt h =
    let here : 2 * off ≡ 2 * off + 0 = omega arith in subst (InForest n row) here (InForest-left n row off h)
side_within n row off (suc zero) lt h = InForest-right n row off h
side_within n row off (suc (suc side)) lt h = absurd (omega (arith, lt))
