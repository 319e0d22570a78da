-- The cell of an entry is taken out.
use Rattle.std.proofs.Common.{◌≡◌, ◌≢◌, ℕ, suc, ◌+◌, ◌-◌, ◌*◌, ◌/◌, ◌%◌, ◌^◌, ◌<◌, ◌≤◌, false, refl, sym, ap, ap₂, ◌∙◌, subst, ⊎_elim, arith}
use Rattle.std.proofs.Common.{pow-suc, length, set, None}
use Rattle.std.specs.Prelude.{is_some}
use Rattle.std.proofs.lemmas.Bool.{cases_eq, cases_lt, cases_Bool, true≢false}
use Rattle.std.proofs.lemmas.List.{get_or-set_same, get_or-set_other, length-set}
use Rattle.std.proofs.lemmas.Nat.{pow_pos, shr_split, mod_below, mul-le, div-mul-add, mod-mul-add}
use Rattle.forest_place.specs.Forest.{InForest}
use Rattle.forest_place.proofs.Slots.{in_forest_iff}
use Rattle.forest_place.proofs.Positions.{row_small}
use Rattle.live_forest.specs.Sets.{is_bit, IsWithout}
use Rattle.live_forest.specs.Pages.{PageState, told, IsOfHalves, AreOfHalves}
use Rattle.live_forest.proofs.Telling.{some_told}
use Rattle.live_forest.specs.Stores.{StoreState, no_page, page_at, stored, is_listed, IsStore, AreStoredOfHalves}
use Rattle.live_forest.proofs.Storing.{whole_page, rest_rows, stored_low, stored_by, same_part}

-- an entry that is kept as nothing is not live
pub spent_bit : (p : PageState) (i : ℕ) → told p 0 i ≡ None → is_bit p.live i ≡ false
spent_bit p i e =
    ⊎_elim
    (λ live. absurd (true≢false (sym live ∙ sym (some_told p 0 i) ∙ ap is_some e)))
    (λ spent. spent)
    (cases_Bool (is_bit p.live i))

-- what is stored for a part of a page
inner_stored : (s : StoreState) (k row off : ℕ) → row ≤ 7 → off < 2 ^ (7 - row) → stored s row (k * 2 ^ (7 - row) + off)
    ≡ told (page_at s.pages k) row off
inner_stored s k row off low lt =
    stored_low s row (k * 2 ^ (7 - row) + off) low
    ∙ ap₂ (λ a b. told (page_at s.pages a) row b) (div-mul-add k (2 ^ (7 - row)) off lt) (mod-mul-add k (2 ^ (7 - row)) off lt)

inner_low : (count row off : ℕ) → count ≤ 128 → row ≤ 7 → InForest count row off → off < 2 ^ (7 - row)
inner_low count row off few low h =
    let ends = (in_forest_iff count row off).0 h in
    let whole = (in_forest_iff 128 row off).1 (omega (arith, ends, few)) in
    omega (arith, whole, rest_rows row low)

-- where the parts of a page end among all entries
ends_at : (k row off : ℕ) → row ≤ 7 → (k * 2 ^ (7 - row) + off + 1) * 2 ^ row ≡ k * 128 + (off + 1) * 2 ^ row
ends_at k row off low =
    let v = 2 ^ (7 - row) in
    let w = 2 ^ row in
    (let z : (k * v + off + 1) * w ≡ k * (v * w) + (off + 1) * w = omega arith in z)
    ∙ ap (λ x. k * x + (off + 1) * w) (whole_page row low)

module _ (s : StoreState) (n k count : ℕ) (few : count ≤ 128) (under : 0 < count → k * 128 + count ≤ n) where
  pub page_halves : AreStoredOfHalves s n → AreOfHalves (page_at s.pages k) count
  page_halves halves = record {
    is = λ row off h.
        let small : suc row < 8 = row_small count (suc row) off 8 h (omega (arith, few)) in
        let le : suc row ≤ 7 = omega arith in
        let j = 7 - suc row in
        let lt = inner_low count (suc row) off few le h in
        let g = k * 2 ^ j + off in
        let ends = (in_forest_iff count (suc row) off).0 h in
        let some : 0 < count = omega (
          arith,
          ends,
          pow_pos (suc row),
          (let z : (off + 1) * 2 ^ suc row ≡ off * 2 ^ suc row + 2 ^ suc row =
              omega arith in z),
        ) in
        let within : InForest n (suc row) g =
        (in_forest_iff n (suc row) g).1 (omega (arith, ends_at k (suc row) off le, ends, under some)) in
        let e : 7 - row ≡ suc j = omega arith in
        let double : 2 ^ (7 - row) ≡ 2 ^ j * 2 = ap (λ x. 2 ^ x) e ∙ pow-suc 2 j in
        let left : 2 * g ≡ k * 2 ^ (7 - row) + 2 * off = omega (arith, ap (λ x. k * x) double) in
        let right : 2 * g + 1 ≡ k * 2 ^ (7 - row) + (2 * off + 1) = omega (arith, ap (λ x. k * x) double) in
        let p = page_at s.pages k in
        let l : stored s row (2 * g) ≡ told p row (2 * off) =
        ap (stored s row) left ∙ inner_stored s k row (2 * off) (omega arith) (omega (arith, double, lt)) in
        let r : stored s row (2 * g + 1) ≡ told p row (2 * off + 1) =
        ap (stored s row) right ∙ inner_stored s k row (2 * off + 1) (omega arith) (omega (arith, double, lt)) in
        let o : stored s (suc row) g ≡ told p (suc row) off = inner_stored s k (suc row) off le lt in
        subst (λ x. IsOfHalves x (told p row (2 * off + 1)) (told p (suc row) off)) l
        (subst (λ x. IsOfHalves (stored s row (2 * g)) x (told p (suc row) off)) r
        (subst (λ x. IsOfHalves (stored s row (2 * g)) (stored s row (2 * g + 1)) x) o (halves.is row g within)));
  }

  module _ (page : PageState) (within : k < length s.pages) (all : count < 128 → n ≤ k * 128 + count)
      (same : (r o : ℕ) → InForest count r o → told page r o ≡ told (page_at s.pages k) r o) where
    pub same_stored : (row off : ℕ) → InForest n row off
        → stored (record { len = s.len; pages = set s.pages k page; high = s.high }) row off ≡ stored s row off
    same_stored row off h =
        stored_by s (record { len = s.len; pages = set s.pages k page; high = s.high }) row off
        (λ low.
        let v = 2 ^ (7 - row) in
        let inner = off % v in
        ⊎_elim
        (λ e.
        let parts : off ≡ k * v + inner = sym (shr_split off (7 - row)) ∙ ap (λ x. x * v + inner) e in
        let ends = (in_forest_iff n row off).0 h in
        let less : inner + 1 ≤ v = omega (arith, mod_below off v (pow_pos (7 - row))) in
        let most = mul-le (inner + 1) (2 ^ row) v (2 ^ row) less (omega arith) in
        let here : (inner + 1) * 2 ^ row ≤ count =
        ⊎_elim
        (λ part. omega (arith, all part, ends, ap (λ x. (x + 1) * 2 ^ row) parts, ends_at k row inner low))
        (λ whole. omega (arith, whole, most, whole_page row low))
        (cases_lt count 128) in
        ap (λ j. told (page_at (set s.pages k page) j) row inner) e
        ∙ ap (λ p. told p row inner) (get_or-set_same s.pages k page no_page within)
        ∙ same row inner ((in_forest_iff count row inner).1 here) ∙ ap (λ j. told (page_at s.pages j) row inner) (sym e))
        (λ ne. ap (λ p. told p row inner) (get_or-set_other s.pages k (off / v) page no_page ne))
        (cases_eq (off / v) k))
        (λ high. refl)

-- what has a cell then
module _ (s : StoreState) (number : ℕ) (page : PageState) (store : IsStore s) (within : number / 128 < length s.pages)
    (gone : IsWithout (is_bit (page_at s.pages (number / 128)).listed) (is_bit page.listed) (number % 128)) where
  pub listed_less : IsWithout (is_listed s.pages) (is_listed (set s.pages (number / 128) page)) number
  listed_less = record {
    here = ap (λ p. is_bit p.listed (number % 128)) (get_or-set_same s.pages (number / 128) page no_page within) ∙ gone.here;
    others = λ i other.
        ⊎_elim
        (λ e.
        let inner : i % 128 ≢ number % 128 = λ z. other (same_part i number 7 e z) in
        ap (λ j. is_bit (page_at (set s.pages (number / 128) page) j).listed (i % 128)) e
        ∙ ap (λ p. is_bit p.listed (i % 128)) (get_or-set_same s.pages (number / 128) page no_page within) ∙ gone.others (i % 128) inner
        ∙ ap (λ j. is_bit (page_at s.pages j).listed (i % 128)) (sym e))
        (λ ne. ap (λ p. is_bit p.listed (i % 128)) (get_or-set_other s.pages (number / 128) (i / 128) page no_page ne))
        (cases_eq (i / 128) (number / 128));
  }

  pub store_less : IsStore (record { len = s.len; pages = set s.pages (number / 128) page; high = s.high })
  store_less = record {
    pages = omega (arith, store.pages, length-set s.pages (number / 128) page);
    high = store.high;
    fresh = λ i e.
        ⊎_elim
        (λ at. absurd (true≢false (sym e ∙ ap (is_listed (set s.pages (number / 128) page)) at ∙ listed_less.here)))
        (λ ne. store.fresh i (sym (listed_less.others i ne) ∙ e))
        (cases_eq i number);
  }
