-- What is kept for parts over all pages, and what of it a write changes.
use Rattle.std.proofs.Common.{◌≡◌, ◌≢◌, ℕ, suc, ◌+◌, ◌-◌, ◌*◌, ◌/◌, ◌%◌, ◌^◌, ◌<◌, ◌≤◌, true, refl, sym, ap, ap₂, ◌∙◌, subst, ⊎_elim, arith}
use Rattle.std.proofs.Common.{pow-suc, List, length, get_or, set, Option, None}
use Rattle.std.specs.Prelude.{if◌then◌else◌}
use Rattle.std.proofs.lemmas.Bool.{cases_eq, cases_lt, lt-ltb, le-ltb}
use Rattle.std.proofs.lemmas.List.{get_or-set_same, get_or-set_other, length-set}
use Rattle.std.proofs.lemmas.Nat.{pow_pos, pow-add, shl-shr, shr-shr, shr_split, mod_below, mul-le, field_of, div-mul-add, mod-mul-add}
use Rattle.uo_digest.specs.declared.digest.Digest.{Digest}
use Rattle.forest_place.specs.Forest.{InForest, sibling_off}
use Rattle.forest_place.proofs.Parts.{parts-suc}
use Rattle.forest_place.proofs.Siblings.{sibling_cases}
use Rattle.forest_place.proofs.Slots.{in_forest_iff}
use Rattle.live_forest.specs.Sets.{is_bit}
use Rattle.live_forest.specs.Pages.{PageState, told, IsEntryPut, IsPartPut, IsOfHalves}
use Rattle.live_forest.specs.Stores.{StoreState, no_page, page_at, seam, paged, stored, is_listed, IsStore, IsEntryKept, IsPartKept, HasRoomOf}
use Rattle.live_forest.proofs.Seams.{seam_one}

-- ---- pages and rows

-- the row of a page's parts and the rest of its rows
pub whole_page : (row : ℕ) → row ≤ 7 → 2 ^ (7 - row) * 2 ^ row ≡ 128
whole_page row low =
    let e : 7 - row + row ≡ 7 = omega arith in
    sym (ap (λ k. 2 ^ k) (sym e) ∙ pow-add 2 (7 - row) row)

pub rest_rows : (row : ℕ) → row ≤ 7 → 128 / 2 ^ row ≡ 2 ^ (7 - row)
rest_rows row low = ap (λ x. x / 2 ^ row) (sym (whole_page row low)) ∙ shl-shr (2 ^ (7 - row)) row

pub inner_within : (row off : ℕ) → row ≤ 7 → InForest 128 row (off % 2 ^ (7 - row))
inner_within row off low = omega (arith, rest_rows row low, mod_below off (2 ^ (7 - row)) (pow_pos (7 - row)))

-- the page of a part
pub page_index : (n count row off : ℕ) → row ≤ 7 → InForest n row off → n ≤ 128 * count → off / 2 ^ (7 - row) < count
page_index n count row off low h few =
    let w = 2 ^ row in
    let v = 2 ^ (7 - row) in
    let ends = (in_forest_iff n row off).0 h in
    let start = mul-le (off / v * v) w off w (omega (arith, shr_split off (7 - row))) (omega arith) in
    let turned : off / v * v * w ≡ off / v * 128 =
    (let z : off / v * v * w ≡ off / v * (v * w) = omega arith in z) ∙ ap (λ x. off / v * x) (whole_page row low) in
    omega (arith, ends, start, turned, pow_pos row, (let z : (off + 1) * w ≡ off * w + w = omega arith in z), few)

-- the parts with an entry: of its page, and there with its number in the page
pub page_of_part : (i row : ℕ) → row ≤ 7 → i / 2 ^ row / 2 ^ (7 - row) ≡ i / 128
page_of_part i row low = shr-shr i row (7 - row) ∙ ap (λ k. i / 2 ^ k) (let z : row + (7 - row) ≡ 7 = omega arith in z)

pub inner_of_part : (i row : ℕ) → row ≤ 7 → i / 2 ^ row % 2 ^ (7 - row) ≡ i % 128 / 2 ^ row
inner_of_part i row low =
    let e : 7 - row + row ≡ 7 = omega arith in
    sym (ap (λ k. i % 2 ^ k / 2 ^ row) (sym e) ∙ field_of i (7 - row) row)

pub same_part : (a b k : ℕ) → a / 2 ^ k ≡ b / 2 ^ k → a % 2 ^ k ≡ b % 2 ^ k → a ≡ b
same_part a b k p q = sym (shr_split a k) ∙ ap₂ (λ x y. x * 2 ^ k + y) p q ∙ shr_split b k

-- a part without the entry is on another page, or a part of its page without it
pub other_inner : (i row o : ℕ) → row ≤ 7 → i / 2 ^ row ≢ o → o / 2 ^ (7 - row) ≡ i / 128 → i % 128 / 2 ^ row ≢ o % 2 ^ (7 - row)
other_inner i row o low other page inner =
    other (same_part (i / 2 ^ row) o (7 - row) (page_of_part i row low ∙ sym page) (inner_of_part i row low ∙ inner))

-- ---- what is stored

pub stored_low : (s : StoreState) (row off : ℕ) → row ≤ 7 → stored s row off ≡ paged s.pages row off
stored_low s row off low =
    ap (λ b. if b then paged s.pages row off else get_or s.high (seam (row - 8) off) None) (lt-ltb row 8 (omega arith))

pub stored_high : (s : StoreState) (row off : ℕ) → 8 ≤ row → stored s row off ≡ get_or s.high (seam (row - 8) off) None
stored_high s row off high =
    ap (λ b. if b then paged s.pages row off else get_or s.high (seam (row - 8) off) None) (le-ltb row 8 high)

-- both lists tell what is stored
pub stored_by : (s s' : StoreState) (row off : ℕ) → (row ≤ 7 → paged s'.pages row off ≡ paged s.pages row off)
    → (8 ≤ row → get_or s'.high (seam (row - 8) off) None ≡ get_or s.high (seam (row - 8) off) None) → stored s' row off ≡ stored s row off
stored_by s s' row off low high =
    ⊎_elim
    (λ lt. let le : row ≤ 7 = omega arith in stored_low s' row off le ∙ low le ∙ sym (stored_low s row off le))
    (λ ge. stored_high s' row off ge ∙ high ge ∙ sym (stored_high s row off ge))
    (cases_lt row 8)

-- what has a cell has a page
pub page_listed : (s : StoreState) (number : ℕ) → IsStore s → is_listed s.pages number ≡ true → number / 128 < length s.pages
page_listed s number store h = omega (arith, store.fresh number h, store.pages)

-- a page is written
paged_other : (pages : List PageState) (k row off : ℕ) (page : PageState) → off / 2 ^ (7 - row) ≢ k → paged (set pages k page) row off
    ≡ paged pages row off
paged_other pages k row off page ne =
    ap (λ p. told p row (off % 2 ^ (7 - row))) (get_or-set_other pages k (off / 2 ^ (7 - row)) page no_page ne)

paged_here : (pages : List PageState) (k row off : ℕ) (page : PageState) → k < length pages → off / 2 ^ (7 - row) ≡ k
    → paged (set pages k page) row off ≡ told page row (off % 2 ^ (7 - row))
paged_here pages k row off page within e =
    ap (λ j. told (page_at (set pages k page) j) row (off % 2 ^ (7 - row))) e
    ∙ ap (λ p. told p row (off % 2 ^ (7 - row))) (get_or-set_same pages k page no_page within)

listed_written : (pages : List PageState) (k : ℕ) (page : PageState) → k < length pages → page.listed ≡ (page_at pages k).listed → (i : ℕ)
    → is_listed (set pages k page) i ≡ is_listed pages i
listed_written pages k page within same i =
    ⊎_elim
    (λ e.
    ap (λ j. is_bit (page_at (set pages k page) j).listed (i % 128)) e
    ∙ ap (λ p. is_bit p.listed (i % 128)) (get_or-set_same pages k page no_page within) ∙ ap (λ x. is_bit x (i % 128)) same
    ∙ ap (λ j. is_bit (page_at pages j).listed (i % 128)) (sym e))
    (λ ne. ap (λ p. is_bit p.listed (i % 128)) (get_or-set_other pages k (i / 128) page no_page ne))
    (cases_eq (i / 128) k)

module _ (s : StoreState) (number : ℕ) (page : PageState) (store : IsStore s) (within : number / 128 < length s.pages)
    (same : page.listed ≡ (page_at s.pages (number / 128)).listed) where
  pub room_written : HasRoomOf s (record { len = s.len; pages = set s.pages (number / 128) page; high = s.high })
  room_written = record { len = refl; listed = listed_written s.pages (number / 128) page within same }

  pub store_written : IsStore (record { len = s.len; pages = set s.pages (number / 128) page; high = s.high })
  store_written = record {
    pages = omega (arith, store.pages, length-set s.pages (number / 128) page);
    high = store.high;
    fresh = λ i e. store.fresh i (sym (listed_written s.pages (number / 128) page within same i) ∙ e);
  }

  pub entry_kept : (entry : Option Digest) → IsEntryPut (page_at s.pages (number / 128)) page (number % 128) entry
      → IsEntryKept s (record { len = s.len; pages = set s.pages (number / 128) page; high = s.high }) number entry
  entry_kept entry put =
      let s' : StoreState = record { len = s.len; pages = set s.pages (number / 128) page; high = s.high } in
      record {
        here = paged_here s.pages (number / 128) 0 number page within refl ∙ put.here;
        others = λ r o other.
            stored_by s s' r o
            (λ low.
            ⊎_elim
            (λ e.
            paged_here s.pages (number / 128) r o page within e
            ∙ put.others r (o % 2 ^ (7 - r)) (other_inner number r o low other e)
            ∙ ap (λ j. told (page_at s.pages j) r (o % 2 ^ (7 - r))) (sym e))
            (λ ne. paged_other s.pages (number / 128) r o page ne)
            (cases_eq (o / 2 ^ (7 - r)) (number / 128)))
            (λ high. refl);
      }

  pub part_kept_low : (row : ℕ) (own : Option Digest) → row < 7 → IsPartPut (page_at s.pages (number / 128)) page row (number % 128) own
      → IsPartKept s (record { len = s.len; pages = set s.pages (number / 128) page; high = s.high }) row number own
  part_kept_low row own low put =
      let s' : StoreState = record { len = s.len; pages = set s.pages (number / 128) page; high = s.high } in
      let le : suc row ≤ 7 = omega arith in
      record {
        here = stored_low s' (suc row) (number / 2 ^ suc row) le
            ∙ paged_here s.pages (number / 128) (suc row) (number / 2 ^ suc row) page within (page_of_part number (suc row) le)
            ∙ ap (told page (suc row)) (inner_of_part number (suc row) le) ∙ put.here;
        others = λ r o but.
            stored_by s s' r o
            (λ few.
            ⊎_elim
            (λ e.
            paged_here s.pages (number / 128) r o page within e
            ∙ put.others r (o % 2 ^ (7 - r)) (λ up. other_inner number r o few (but up) e)
            ∙ ap (λ j. told (page_at s.pages j) r (o % 2 ^ (7 - r))) (sym e))
            (λ ne. paged_other s.pages (number / 128) r o page ne)
            (cases_eq (o / 2 ^ (7 - r)) (number / 128)))
            (λ high. refl);
      }

-- a part of pages is written
pub part_kept_high : (s : StoreState) (row number : ℕ) (own : Option Digest) → 7 ≤ row → seam (row - 7) (number / 2 ^ suc row) < length s.high
    → IsPartKept s (record { len = s.len; pages = s.pages; high = set s.high (seam (row - 7) (number / 2 ^ suc row)) own }) row number own
part_kept_high s row number own high within =
    let off = number / 2 ^ suc row in
    let s' : StoreState = record { len = s.len; pages = s.pages; high = set s.high (seam (row - 7) off) own } in
    let e : suc row - 8 ≡ row - 7 = omega arith in
    record {
      here = stored_high s' (suc row) off (omega arith) ∙ ap (λ k. get_or (set s.high (seam (row - 7) off) own) (seam k off) None) e
          ∙ get_or-set_same s.high (seam (row - 7) off) own None within;
      others = λ r o but.
          stored_by s s' r o (λ low. refl)
          (λ ge. get_or-set_other s.high (seam (row - 7) off) (seam (r - 8) o) own None
          (λ same.
          let one = seam_one (r - 8) o (row - 7) off same in
          let up : suc row ≡ r = omega (arith, one.0) in
          but (omega (arith, up)) (ap (λ k. number / 2 ^ k) (sym up) ∙ sym one.1)));
    }

pub store_high : (s : StoreState) (k : ℕ) (own : Option Digest) → IsStore s → IsStore (record {
  len = s.len;
  pages = s.pages;
  high =
      set s.high k own;
})
store_high s k own store = record {
  pages = store.pages;
  high = omega (arith, store.high, length-set s.high k own);
  fresh = store.fresh;
}

-- ---- the halves of a part, within its page

half_inner : (j off side : ℕ) → side < 2 → ((2 * off + side) / 2 ^ suc j ≡ off / 2 ^ j) × ((2 * off + side) % 2 ^ suc j ≡ 2 * (off % 2 ^ j) + side)
half_inner j off side small =
    let w = 2 ^ j in
    let double : 2 ^ suc j ≡ w * 2 = pow-suc 2 j in
    let below = mod_below off w (pow_pos j) in
    let parts : 2 * off + side ≡ off / w * (w * 2) + (2 * (off % w) + side) = omega (arith, shr_split off j) in
    let lt : 2 * (off % w) + side < w * 2 = omega (arith, below, small) in (
      ap (λ k. (2 * off + side) / k) double ∙ ap (λ x. x / (w * 2)) parts ∙ div-mul-add (off / w) (w * 2) (2 * (off % w) + side) lt,
      ap (λ k. (2 * off + side) % k) double ∙ ap (λ x. x % (w * 2)) parts ∙ mod-mul-add (off / w) (w * 2) (2 * (off % w) + side) lt,
    )

pub half_stored : (s : StoreState) (row number side : ℕ) → row < 7 → side < 2 → stored s row (2 * (number / 2 ^ suc row) + side)
    ≡ told (page_at s.pages (number / 128)) row (2 * (number % 128 / 2 ^ suc row) + side)
half_stored s row number side low small =
    let off = number / 2 ^ suc row in
    let j = 7 - suc row in
    let e : 7 - row ≡ suc j = omega arith in
    let le : suc row ≤ 7 = omega arith in
    let half = half_inner j off side small in
    stored_low s row (2 * off + side) (omega arith)
    ∙ ap (λ k. told (page_at s.pages ((2 * off + side) / 2 ^ k)) row ((2 * off + side) % 2 ^ k)) e
    ∙ ap₂ (λ a b. told (page_at s.pages a) row b) (half.0 ∙ page_of_part number (suc row) le)
    (half.1 ∙ ap (λ x. 2 * x + side) (inner_of_part number (suc row) le))

-- the same of the part itself
pub halves_stored : (s : StoreState) (row off rows : ℕ) → row < 7 → 7 - row ≡ suc rows
    → (stored s row (2 * off) ≡ told (page_at s.pages (off / 2 ^ rows)) row (2 * (off % 2 ^ rows)))
    × (stored s row (2 * off + 1) ≡ told (page_at s.pages (off / 2 ^ rows)) row (2 * (off % 2 ^ rows) + 1))
halves_stored s row off rows low e =
    let none : 2 * off ≡ 2 * off + 0 = omega arith in
    let none' : 2 * (off % 2 ^ rows) + 0 ≡ 2 * (off % 2 ^ rows) = omega arith in (
      ap (stored s row) none ∙ half 0 (omega arith) ∙ ap (told (page_at s.pages (off / 2 ^ rows)) row) none',
      half 1 (omega arith),
    )
  where
    half : (side : ℕ) → side < 2 → stored s row (2 * off + side) ≡ told (page_at s.pages (off / 2 ^ rows)) row (2 * (off % 2 ^ rows) + side)
    half side small =
        let inner = half_inner rows off side small in
        stored_low s row (2 * off + side) (omega (arith, low))
        ∙ ap (λ k. told (page_at s.pages ((2 * off + side) / 2 ^ k)) row ((2 * off + side) % 2 ^ k)) e
        ∙ ap₂ (λ a b. told (page_at s.pages a) row b) inner.0 inner.1

pub halves_of_page : (s : StoreState) (row number : ℕ) → row < 7
    → (stored s row (2 * (number / 2 ^ suc row)) ≡ told (page_at s.pages (number / 128)) row (2 * (number % 128 / 2 ^ suc row)))
    × (stored s row (2 * (number / 2 ^ suc row) + 1) ≡ told (page_at s.pages (number / 128)) row (2 * (number % 128 / 2 ^ suc row) + 1))
halves_of_page s row number low =
    let off = number / 2 ^ suc row in
    let p = page_at s.pages (number / 128) in
    let inner = number % 128 / 2 ^ suc row in
    let none : 2 * off ≡ 2 * off + 0 = omega arith in
    let none' : 2 * inner + 0 ≡ 2 * inner = omega arith in (
      ap (stored s row) none ∙ half_stored s row number 0 low (omega arith) ∙ ap (told p row) none',
      half_stored s row number 1 low (omega arith),
    )

pub halves_inner : (s : StoreState) (row number : ℕ) (own : Option Digest) → row < 7
    → IsOfHalves (stored s row (2 * (number / 2 ^ suc row))) (stored s row (2 * (number / 2 ^ suc row) + 1)) own
    → IsOfHalves (told (page_at s.pages (number / 128)) row (2 * (number % 128 / 2 ^ suc row)))
    (told (page_at s.pages (number / 128)) row (2 * (number % 128 / 2 ^ suc row) + 1)) own
halves_inner s row number own low halves =
    let off = number / 2 ^ suc row in
    let p = page_at s.pages (number / 128) in
    let inner = number % 128 / 2 ^ suc row in
    let both = halves_of_page s row number low in
    subst (λ x. IsOfHalves x (told p row (2 * inner + 1)) own) both.0 (subst (λ x. IsOfHalves (stored s row (2 * off)) x own) both.1 halves)

-- and of the part beside one that has an entry
pub beside_of_page : (s : StoreState) (row number : ℕ) → row < 7
    → stored s row (sibling_off (number / 2 ^ row)) ≡ told (page_at s.pages (number / 128)) row (sibling_off (number % 128 / 2 ^ row))
beside_of_page s row number low =
    let half = number / 2 ^ row in
    let inner = number % 128 / 2 ^ row in
    let k = 6 - row in
    let rows : 7 - row ≡ suc k = omega (arith, low) in
    let whole : 2 * (half / 2) + half % 2 ≡ half = omega arith in
    let in_page : inner ≡ 2 * (half / 2 % 2 ^ k) + half % 2 = sym (inner_of_part number row (omega (arith, low))) ∙ ap (λ j. half % 2 ^ j) rows
    ∙ ap (λ x. x % 2 ^ suc k) (sym whole) ∙ (half_inner k (half / 2) (half % 2) (omega arith)).1 in
    let both = halves_of_page s row number low in
    let up = parts-suc number row in
    let up' = parts-suc (number % 128) row in
    let page = page_at s.pages (number / 128) in
    ⊎_elim
    (λ even.
    ap (stored s row) (let z : sibling_off half ≡ 2 * (number / 2 ^ suc row) + 1 = omega (arith, even, up) in z) ∙ both.1
    ∙ ap (told page row) (⊎_elim (λ a. omega (arith, a, up')) (λ a. absurd (omega (arith, a, even, in_page))) (sibling_cases inner)))
    (λ odd.
    ap (stored s row) (let z : sibling_off half ≡ 2 * (number / 2 ^ suc row) = omega (arith, odd, up) in z) ∙ both.0
    ∙ ap (told page row) (⊎_elim (λ a. absurd (omega (arith, a, odd, in_page))) (λ a. omega (arith, a, up')) (sibling_cases inner)))
    (sibling_cases half)
