-- Room for more entries.
use Rattle.std.proofs.Common.{◌≡◌, ◌≢◌, ℕ, zero, suc, ◌+◌, ◌-◌, ◌*◌, ◌/◌, ◌%◌, ◌^◌, ◌<◌, ◌≤◌, Bool, true, false, refl, sym, ap, ap₂, ◌∙◌, ⊎_elim}
use Rattle.std.proofs.Common.{arith}
use Rattle.std.proofs.Common.{inl, inr, ◌⊎◌, List, [], ◌∷◌, ◌++◌, length, get_or, set, Option, None, length-append}
use Rattle.std.specs.Prelude.{◌||◌}
use Rattle.std.proofs.lemmas.Bool.{cases_eq, cases_lt}
use Rattle.std.proofs.lemmas.List.{get_or-set_same, get_or-set_other, length-set, get_or_append_left, get_or-append_right, get_or_past}
use Rattle.uo_digest.specs.declared.digest.Digest.{Digest}
use Rattle.forest_place.specs.Forest.{InForest}
use Rattle.forest_place.proofs.Slots.{in_forest_iff}
use Rattle.live_forest.specs.Sets.{is_bit, has_part, IsWith}
use Rattle.live_forest.specs.Pages.{PageState, told}
use Rattle.live_forest.proofs.Telling.{none_told}
use Rattle.live_forest.specs.Stores.{StoreState, no_page, page_at, seam, stored, is_listed, IsStore, ArePages, IsLonger}
use Rattle.live_forest.proofs.Bitmaps.{no_bits}
use Rattle.live_forest.proofs.Seams.{seam_high}
use Rattle.live_forest.proofs.Storing.{other_inner, stored_by, same_part}

-- ---- an empty page

none_listed : (is_in : ℕ → Bool) → ((i : ℕ) → is_in i ≡ false) → (row off : ℕ) → has_part is_in row off ≡ false
none_listed is_in none zero off = none off
none_listed is_in none (suc row) off = ap₂ (λ a b. a || b) (none_listed is_in none row (2 * off)) (none_listed is_in none row (2 * off + 1))

pub nothing_told : (p : PageState) → p.listed ≡ 0 → p.live ≡ 0 → (row off : ℕ) → told p row off ≡ None
nothing_told p listed live row off =
    let none : (i : ℕ) → is_bit p.live i ≡ false = λ i. ap (λ x. is_bit x i) live ∙ no_bits i in
    none_told p row off (none_listed (is_bit p.live) none row off)

-- a page behind all others
page_at-more : (pages : List PageState) (page : PageState) (j : ℕ) → page_at (pages ++ page ∷ []) j ≡ page_at pages j
    ⊎ ((page_at (pages ++ page ∷ []) j ≡ page) × (page_at pages j ≡ no_page))
page_at-more pages page j =
    ⊎_elim
    (λ lt. inl (get_or_append_left pages (page ∷ []) no_page j lt))
    (λ ge.
    let right = get_or-append_right pages (page ∷ []) (length pages) j no_page refl ge in
    let past : page_at pages j ≡ no_page = get_or_past pages j no_page ge in
    ⊎_elim
    (λ e. inr (right ∙ ap (λ k. get_or (page ∷ []) k no_page) (let z : j - length pages ≡ 0 = omega (arith, e) in z), past))
    (λ ne.
    let k = j - length pages - 1 in
    let z : j - length pages ≡ suc k = omega (arith, ne) in
    inl (right ∙ ap (λ k. get_or (page ∷ []) k no_page) z ∙ sym past))
    (cases_eq j (length pages)))
    (cases_lt j (length pages))

pub pages_more : (pages : List PageState) (page : PageState) → page.listed ≡ 0 → page.live ≡ 0 → ArePages pages (pages ++ page ∷ [])
pages_more pages page listed live = record {
  more = omega (arith, length-append pages (page ∷ []));
  same = λ row off.
      let inner = off % 2 ^ (7 - row) in
      ⊎_elim
      (λ e. ap (λ p. told p row inner) e)
      (λ w. ap (λ p. told p row inner) w.0 ∙ nothing_told page listed live row inner ∙ sym (nothing_told no_page refl refl row inner)
      ∙ ap (λ p. told p row inner) (sym w.1))
      (page_at-more pages page (off / 2 ^ (7 - row)));
  listed = λ i.
      ⊎_elim
      (λ e. ap (λ p. is_bit p.listed (i % 128)) e)
      (λ w. ap (λ p. is_bit p.listed (i % 128)) w.0 ∙ ap (λ x. is_bit x (i % 128)) listed ∙ ap (λ p. is_bit p.listed (i % 128)) (sym w.1))
      (page_at-more pages page (i / 128));
}

pub pages_same : (pages : List PageState) → ArePages pages pages
pages_same pages = record { more = omega arith; same = λ row off. refl; listed = λ i. refl }

-- ---- one more entry

module _ (s : StoreState) (pages : List PageState) (more : ArePages s.pages pages) (store : IsStore s) where
  -- more pages alone
  pub longer_pages : IsLonger s (record { len = s.len; pages = pages; high = s.high })
  longer_pages = record {
    len = omega arith;
    same = λ row off h. stored_by s (record { len = s.len; pages = pages; high = s.high }) row off (λ low. more.same row off) (λ high. refl);
    listed = λ i lt. more.listed i;
    free = λ i ge lt. absurd (omega (arith, ge, lt));
  }

  pub store_pages : IsStore (record { len = s.len; pages = pages; high = s.high })
  store_pages = record {
    pages = omega (arith, store.pages, more.more);
    high = store.high;
    fresh = λ i e. store.fresh i (sym (more.listed i) ∙ e);
  }

  -- the numbers that the page of the next entry has are before it
  pub page_last : (i : ℕ) → i < 128 → is_bit (page_at pages (s.len / 128)).listed i ≡ true → i < s.len % 128
  page_last i low e =
      let k = s.len / 128 in
      let at : (k * 128 + i) / 128 ≡ k = omega arith in
      let in_page : (k * 128 + i) % 128 ≡ i = omega arith in
      let listed : is_listed pages (k * 128 + i) ≡ true = ap₂ (λ a b. is_bit (page_at pages a).listed b) at in_page ∙ e in
      let before = store.fresh (k * 128 + i) (sym (more.listed (k * 128 + i)) ∙ listed) in
      omega (arith, before)

  module _ (page : PageState) (within : s.len / 128 < length pages)
      (same : (r o : ℕ) → s.len % 128 / 2 ^ r ≢ o → told page r o ≡ told (page_at pages (s.len / 128)) r o) where
    same_paged : (len' row off : ℕ) → InForest s.len row off
        → stored (record { len = len'; pages = set pages (s.len / 128) page; high = s.high }) row off ≡ stored s row off
    same_paged len' row off h =
        stored_by s (record { len = len'; pages = set pages (s.len / 128) page; high = s.high }) row off
        (λ low.
        let other : s.len / 2 ^ row ≢ off = λ e. let z : ⊥ = omega (arith, e, h) in z in
        let inner = off % 2 ^ (7 - row) in
        ⊎_elim
        (λ e.
        ap (λ j. told (page_at (set pages (s.len / 128) page) j) row inner) e
        ∙ ap (λ p. told p row inner) (get_or-set_same pages (s.len / 128) page no_page within)
        ∙ same row inner (other_inner s.len row off low other e) ∙ ap (λ j. told (page_at pages j) row inner) (sym e) ∙ more.same row off)
        (λ ne. ap (λ p. told p row inner) (get_or-set_other pages (s.len / 128) (off / 2 ^ (7 - row)) page no_page ne) ∙ more.same row off)
        (cases_eq (off / 2 ^ (7 - row)) (s.len / 128)))
        (λ high. refl)

    -- the entry that there is no memory for
    module _ (out : page.listed ≡ (page_at pages (s.len / 128)).listed) where
      stays_listed : (i : ℕ) → is_listed (set pages (s.len / 128) page) i ≡ is_listed s.pages i
      stays_listed i =
          ⊎_elim
          (λ e.
          ap (λ j. is_bit (page_at (set pages (s.len / 128) page) j).listed (i % 128)) e
          ∙ ap (λ p. is_bit p.listed (i % 128)) (get_or-set_same pages (s.len / 128) page no_page within) ∙ ap (λ x. is_bit x (i % 128)) out
          ∙ ap (λ j. is_bit (page_at pages j).listed (i % 128)) (sym e))
          (λ ne. ap (λ p. is_bit p.listed (i % 128)) (get_or-set_other pages (s.len / 128) (i / 128) page no_page ne))
          (cases_eq (i / 128) (s.len / 128)) ∙ more.listed i

      pub longer_none : IsLonger s (record { len = s.len; pages = set pages (s.len / 128) page; high = s.high })
      longer_none = record {
        len = omega arith;
        same = λ row off h. same_paged s.len row off h;
        listed = λ i lt. stays_listed i;
        free = λ i ge lt. absurd (omega (arith, ge, lt));
      }

      pub store_none : IsStore (record { len = s.len; pages = set pages (s.len / 128) page; high = s.high })
      store_none = record {
        pages = omega (arith, store.pages, more.more, length-set pages (s.len / 128) page);
        high = store.high;
        fresh = λ i e. store.fresh i (sym (stays_listed i) ∙ e);
      }

    -- the entry that there is memory for
    module _ (come : IsWith (is_bit (page_at pages (s.len / 128)).listed) (is_bit page.listed) (s.len % 128)) where
      listed_before : (i : ℕ) → i ≢ s.len → is_listed (set pages (s.len / 128) page) i ≡ is_listed s.pages i
      listed_before i other =
          ⊎_elim
          (λ e.
          let inner : i % 128 ≢ s.len % 128 = λ z. other (same_part i s.len 7 e z) in
          ap (λ j. is_bit (page_at (set pages (s.len / 128) page) j).listed (i % 128)) e
          ∙ ap (λ p. is_bit p.listed (i % 128)) (get_or-set_same pages (s.len / 128) page no_page within) ∙ come.others (i % 128) inner
          ∙ ap (λ j. is_bit (page_at pages j).listed (i % 128)) (sym e))
          (λ ne. ap (λ p. is_bit p.listed (i % 128)) (get_or-set_other pages (s.len / 128) (i / 128) page no_page ne))
          (cases_eq (i / 128) (s.len / 128)) ∙ more.listed i

      listed_now : is_listed (set pages (s.len / 128) page) s.len ≡ true
      listed_now = ap (λ p. is_bit p.listed (s.len % 128)) (get_or-set_same pages (s.len / 128) page no_page within) ∙ come.here

      pub longer_one : IsLonger s (record { len = s.len + 1; pages = set pages (s.len / 128) page; high = s.high })
      longer_one = record {
        len = omega arith;
        same = λ row off h. same_paged (s.len + 1) row off h;
        listed = λ i lt. listed_before i (λ e. let z : ⊥ = omega (arith, e, lt) in z);
        free = λ i ge lt.
            let e : i ≡ s.len = omega (arith, ge, lt) in
            ap (is_listed (set pages (s.len / 128) page)) e ∙ listed_now;
      }

      pub store_one : (s.len + 1) / 128 ≤ length s.high → IsStore (record { len = s.len + 1; pages = set pages (s.len / 128) page; high = s.high })
      store_one high = record {
        pages = omega (arith, within, length-set pages (s.len / 128) page);
        high = high;
        fresh = λ i e.
            ⊎_elim
            (λ at. omega (arith, at))
            (λ ne. let z = store.fresh i (sym (listed_before i ne) ∙ e) in omega (arith, z))
            (cases_eq i s.len);
      }

-- ---- several steps

pub longer_same : (s : StoreState) → IsLonger s s
longer_same s = record {
  len = omega arith;
  same = λ row off h. refl;
  listed = λ i lt. refl;
  free = λ i ge lt. absurd (omega (arith, ge, lt));
}

within_longer : (m n row off : ℕ) → m ≤ n → InForest m row off → InForest n row off
within_longer m n row off le h = (in_forest_iff n row off).1 (omega (arith, (in_forest_iff m row off).0 h, le))

pub longer_twice : (a b c : StoreState) → IsLonger a b → IsLonger b c → IsLonger a c
longer_twice a b c first second = record {
  len = omega (arith, first.len, second.len);
  same = λ row off h. second.same row off (within_longer a.len b.len row off first.len h) ∙ first.same row off h;
  listed = λ i lt. second.listed i (omega (arith, lt, first.len)) ∙ first.listed i lt;
  free = λ i ge lt.
      ⊎_elim
      (λ below. second.listed i below ∙ first.free i ge below)
      (λ above. second.free i above lt)
      (cases_lt i b.len);
}

-- a longer list of the parts of pages
pub longer_high : (s : StoreState) (high : List (Option Digest)) → IsStore s → length s.high ≤ length high
    → ((i : ℕ) → i < length s.high → get_or high i None ≡ get_or s.high i None) → IsLonger s (record { len = s.len; pages = s.pages; high = high })
longer_high s high store long front = record {
  len = omega arith;
  same = λ row off h.
      stored_by s (record { len = s.len; pages = s.pages; high = high }) row off (λ low. refl)
      (λ ge. front (seam (row - 8) off) (omega (arith, seam_high s.len row off ge h, store.high)));
  listed = λ i lt. refl;
  free = λ i ge lt. absurd (omega (arith, ge, lt));
}

pub store_longer : (s : StoreState) (high : List (Option Digest)) → IsStore s → length s.high ≤ length high
    → IsStore (record { len = s.len; pages = s.pages; high = high })
store_longer s high store long = record { pages = store.pages; high = omega (arith, store.high, long); fresh = store.fresh }
