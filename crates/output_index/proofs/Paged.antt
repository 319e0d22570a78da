-- Pages of 256 numbers, one behind the other.
use Rattle.std.proofs.Common.{◌≡◌, ◌≢◌, ℕ, zero, suc, ◌+◌, ◌-◌, ◌*◌, ◌/◌, ◌%◌, ◌<◌, ◌≤◌, List, [], ◌∷◌, ◌++◌, Option, Some, None, set, get_or, length}
use Rattle.std.proofs.Common.{refl, sym, ap, ◌∙◌, subst, ⊎_elim, arith}
use Rattle.std.specs.Prelude.{slice_get, IsSome, option_map}
use Rattle.std.specs.List.{AllByRecursion}
use Rattle.std.proofs.lemmas.List.{append-nil, append_assoc, get_or_append_left, get_or-append_right, set-append_left, set-append_right, length-set}
use Rattle.std.proofs.lemmas.Bool.{cases_lt, false≢true}
use Rattle.std.proofs.lemmas.Option.{none-some}
use Rattle.std.proofs.lemmas.List.{length-append, get_or_past, get_or_default}
use Rattle.output_index.specs.declared.entry.Entry.{Entry}
use Rattle.output_index.specs.Entries.{entry_at, entries_from, changed, removed, AreEntries}
use Rattle.output_index.specs.Pages.{entry_in, row_of, ArePages}
use Rattle.output_index.proofs.EntryLists.{none_at}
use Rattle.output_index.proofs.Numbered.{at-zero, standing, stands-within, set-there, cleared-there, last-there}
use Rattle.output_index.proofs.Counted.{count-changed, count-cleared}

abbrev pub no_page : List (Option Entry)
no_page = []

standing-in : (xs : List (Option Entry)) (n : ℕ) → standing (slice_get xs n) ≡ entry_in xs n
standing-in [] n = refl
standing-in (x ∷ xs) zero = refl
standing-in (x ∷ xs) (suc n) = standing-in xs n

pub entry-in : (n : ℕ) (xs : List (Option Entry)) → entry_at n (entries_from 0 xs) ≡ entry_in xs n
entry-in n xs = at-zero n xs ∙ standing-in xs n

-- what a row has is what one page of it has
row-in : (pages : List (List (Option Entry))) (k i : ℕ) → ArePages pages → i < 256
    → entry_in (row_of pages) (k * 256 + i) ≡ entry_in (get_or pages k no_page) i
row-in [] k i even lt = refl
row-in (page ∷ pages) zero i even lt =
    let e : 0 * 256 + i ≡ i = omega arith in
    ap (entry_in (page ++ row_of pages)) e ∙ get_or_append_left page (row_of pages) None i (omega (arith, lt, even.0))
row-in (page ∷ pages) (suc k) i even lt =
    let le : 256 ≤ suc k * 256 + i = omega arith in
    let e : suc k * 256 + i - 256 ≡ k * 256 + i = omega arith in
    get_or-append_right page (row_of pages) 256 (suc k * 256 + i) None even.0 le ∙ (ap (entry_in (row_of pages)) e ∙ row-in pages k i even.1 lt)

pub entry-page : (pages : List (List (Option Entry))) (n : ℕ) → ArePages pages
    → entry_at n (entries_from 0 (row_of pages)) ≡ entry_in (get_or pages (n / 256) no_page) (n % 256)
entry-page pages n even =
    let e : n ≡ n / 256 * 256 + n % 256 = omega arith in
    entry-in n (row_of pages) ∙ (ap (entry_in (row_of pages)) e ∙ row-in pages (n / 256) (n % 256) even (omega arith))

-- one entry of a page is changed
row-set : (pages : List (List (Option Entry))) (k i : ℕ) (x : Option Entry) → ArePages pages → k < length pages → i < 256
    → row_of (set pages k (set (get_or pages k no_page) i x)) ≡ set (row_of pages) (k * 256 + i) x
row-set [] k i x even within lt = absurd (omega (arith, within))
row-set (page ∷ pages) zero i x even within lt =
    let e : 0 * 256 + i ≡ i = omega arith in
    sym (ap (λ j. set (page ++ row_of pages) j x) e ∙ set-append_left page (row_of pages) i x (omega (arith, lt, even.0)))
row-set (page ∷ pages) (suc k) i x even within lt =
    let le : 256 ≤ suc k * 256 + i = omega arith in
    let e : suc k * 256 + i - 256 ≡ k * 256 + i = omega arith in
    ap (λ row. page ++ row) (row-set pages k i x even.1 (omega (arith, within)) lt)
    ∙ sym (set-append_right page (row_of pages) 256 (suc k * 256 + i) x even.0 le ∙ ap (λ j. page ++ set (row_of pages) j x) e)

pub row-page : (pages : List (List (Option Entry))) (n : ℕ) (x : Option Entry) → ArePages pages → n / 256 < length pages
    → row_of (set pages (n / 256) (set (get_or pages (n / 256) no_page) (n % 256) x)) ≡ set (row_of pages) n x
row-page pages n x even within =
    let e : n / 256 * 256 + n % 256 ≡ n = omega arith in
    row-set pages (n / 256) (n % 256) x even within (omega arith) ∙ ap (λ j. set (row_of pages) j x) e

pub pages-set : (pages : List (List (Option Entry))) (k : ℕ) (page : List (Option Entry)) → ArePages pages → length page ≡ 256
    → ArePages (set pages k page)
pages-set [] k page even len = tt
pages-set (old ∷ pages) zero page even len = (len, even.1)
pages-set (old ∷ pages) (suc k) page even len = (even.0, pages-set pages k page even.1 len)

pub page-len : (pages : List (List (Option Entry))) (k : ℕ) → ArePages pages → k < length pages → length (get_or pages k no_page) ≡ 256
page-len [] k even within = absurd (omega (arith, within))
page-len (page ∷ pages) zero even within = even.0
page-len (page ∷ pages) (suc k) even within = page-len pages k even.1 (omega (arith, within))

-- a page that changes at one number is one still
pub pages-changed : (pages : List (List (Option Entry))) (k i : ℕ) (x : Option Entry) → ArePages pages → k < length pages
    → ArePages (set pages k (set (get_or pages k no_page) i x))
pages-changed pages k i x even within =
    pages-set pages k (set (get_or pages k no_page) i x) even (length-set (get_or pages k no_page) i x ∙ page-len pages k even within)

-- ---- one more page

pub pages-more : (pages : List (List (Option Entry))) (page : List (Option Entry)) → ArePages pages → length page ≡ 256
    → ArePages (pages ++ page ∷ [])
pages-more [] page even len = (len, tt)
pages-more (old ∷ pages) page even len = (even.0, pages-more pages page even.1 len)

row-more : (pages : List (List (Option Entry))) (page : List (Option Entry)) → row_of (pages ++ page ∷ []) ≡ row_of pages ++ page
row-more [] page = append-nil page
row-more (old ∷ pages) page = ap (λ row. old ++ row) (row-more pages page) ∙ sym (append_assoc old (row_of pages) page)

none-from : (k : ℕ) (page : List (Option Entry)) → ((i : ℕ) → entry_in page i ≡ None) → entries_from k page ≡ []
none-from k [] none = refl
none-from k (None ∷ page) none = none-from (suc k) page (λ i. none (suc i))
none-from k (Some e ∷ page) none = absurd (none-some e (sym (none 0)))

none-after : (k : ℕ) (xs page : List (Option Entry)) → ((i : ℕ) → entry_in page i ≡ None) → entries_from k (xs ++ page) ≡ entries_from k xs
none-after k [] page none = none-from k page none
none-after k (None ∷ xs) page none = none-after (suc k) xs page none
none-after k (Some e ∷ xs) page none = ap (λ es. (k, e) ∷ es) (none-after (suc k) xs page none)

pub page-more : (pages : List (List (Option Entry))) (page : List (Option Entry)) → ((i : ℕ) → entry_in page i ≡ None)
    → entries_from 0 (row_of (pages ++ page ∷ [])) ≡ entries_from 0 (row_of pages)
page-more pages page none = ap (entries_from 0) (row-more pages page) ∙ none-after 0 (row_of pages) page none

pub row-len : (pages : List (List (Option Entry))) → ArePages pages → length (row_of pages) ≡ 256 * length pages
row-len [] even = refl
row-len (page ∷ pages) even = let r = row-len pages even.1 in let l = length-append page (row_of pages) in omega (arith, r, l, even.0)

-- ---- above all entries nothing stands

above : (n m : ℕ) (es : List (ℕ × Entry)) → n ≤ m → AllByRecursion (λ x. x.0 < n) es → AllByRecursion (λ x. m ≢ x.0) es
above n m [] le h = tt
above n m (x ∷ es) le h = ((λ s. absurd (let l = h.0 in omega (arith, le, l, s))), above n m es le h.1)

pub page-last : (pages : List (List (Option Entry))) (n i : ℕ) → ArePages pages → AllByRecursion (λ x. x.0 < n) (entries_from 0 (row_of pages))
    → n % 256 ≤ i → entry_in (get_or pages (n / 256) no_page) i ≡ None
page-last pages n i even last le = ⊎_elim low high (cases_lt i 256)
  where
    low : i < 256 → entry_in (get_or pages (n / 256) no_page) i ≡ None
    low lt =
        let m = n / 256 * 256 + i in
        sym (row-in pages (n / 256) i even lt) ∙ (sym (entry-in m (row_of pages))
        ∙ none_at m (entries_from 0 (row_of pages)) (above n m (entries_from 0 (row_of pages)) (omega (arith, le)) last))

    high : 256 ≤ i → entry_in (get_or pages (n / 256) no_page) i ≡ None
    high ge = ⊎_elim
        (λ within. get_or_past (get_or pages (n / 256) no_page) i None (omega (arith, page-len pages (n / 256) even within, ge)))
        (λ past. ap (λ page. entry_in page i) (get_or_past pages (n / 256) no_page past))
        (cases_lt (n / 256) (length pages))

-- ---- a page that was read, and what its change makes of all entries

abbrev pub page_of : List (List (Option Entry)) → ℕ → List (Option Entry)
page_of pages n = get_or pages (n / 256) no_page

pub page-read : (pages : List (List (Option Entry))) (n k : ℕ) (page : List (Option Entry)) → k ≡ n / 256 → k < length pages
    → page ≡ get_or pages k page → page ≡ page_of pages n
page-read pages n k page at within is = is ∙ (get_or_default pages k page no_page within ∙ ap (λ j. get_or pages j no_page) at)

pub entry-read : (pages : List (List (Option Entry))) (n k : ℕ) (page : List (Option Entry)) → ArePages pages → k ≡ n / 256 → k < length pages
    → page ≡ get_or pages k page → entry_in page (n % 256) ≡ entry_at n (entries_from 0 (row_of pages))
entry-read pages n k page even at within is = ap (λ p. entry_in p (n % 256)) (page-read pages n k page at within is) ∙ sym (entry-page pages n even)

pub entry-past : (pages : List (List (Option Entry))) (n k : ℕ) → ArePages pages → k ≡ n / 256 → length pages ≤ k
    → None ≡ entry_at n (entries_from 0 (row_of pages))
entry-past pages n k even at past =
    sym (entry-page pages n even ∙ ap (λ page. entry_in page (n % 256)) (get_or_past pages (n / 256) no_page (omega (arith, at, past))))

pub entry-within : (pages : List (List (Option Entry))) (n : ℕ) → ArePages pages → IsSome (entry_at n (entries_from 0 (row_of pages)))
    → n / 256 < length pages
entry-within pages n even some = let l = row-len pages even in let within = stands-within n (row_of pages) some in omega (arith, l, within)

mapped-there : (n : ℕ) (f : Entry → Entry) (xs : List (Option Entry)) → IsSome (entry_at n (entries_from 0 xs))
    → entries_from 0 (set xs n (option_map f (entry_in xs n))) ≡ changed n f (entries_from 0 xs)
mapped-there n f xs some = by_case (entry_in xs n) refl (subst IsSome (entry-in n xs) some)
  where
    by_case : (x : Option Entry) → entry_in xs n ≡ x → IsSome x → entries_from 0 (set xs n (option_map f x)) ≡ changed n f (entries_from 0 xs)
    by_case None is h = absurd (false≢true h)
    by_case (Some e) is h = set-there n f e xs some (sym (get_or_default xs n (Some e) None (stands-within n xs some) ∙ is))

pub changed-page : (f : Entry → Entry) (pages : List (List (Option Entry))) (n : ℕ) → ArePages pages
    → IsSome (entry_at n (entries_from 0 (row_of pages)))
    → entries_from 0 (row_of (set pages (n / 256) (set (page_of pages n) (n % 256) (option_map f (entry_in (page_of pages n) (n % 256))))))
    ≡ changed n f (entries_from 0 (row_of pages))
changed-page f pages n even some =
    let x = option_map f (entry_in (page_of pages n) (n % 256)) in
    let is = sym (entry-page pages n even) ∙ entry-in n (row_of pages) in
    ap (entries_from 0) (row-page pages n x even (entry-within pages n even some) ∙ ap (λ e. set (row_of pages) n (option_map f e)) is)
    ∙ mapped-there n f (row_of pages) some

pub cleared-page : (pages : List (List (Option Entry))) (n : ℕ) → ArePages pages → IsSome (entry_at n (entries_from 0 (row_of pages)))
    → entries_from 0 (row_of (set pages (n / 256) (set (page_of pages n) (n % 256) None))) ≡ removed n (entries_from 0 (row_of pages))
cleared-page pages n even some =
    ap (entries_from 0) (row-page pages n None even (entry-within pages n even some)) ∙ cleared-there n (row_of pages)

pub added-page : (pages : List (List (Option Entry))) (n : ℕ) (e : Entry) → ArePages pages → n / 256 < length pages
    → AllByRecursion (λ x. x.0 < n) (entries_from 0 (row_of pages))
    → entries_from 0 (row_of (set pages (n / 256) (set (page_of pages n) (n % 256) (Some e)))) ≡ entries_from 0 (row_of pages) ++ (n, e) ∷ []
added-page pages n e even within last =
    let l = row-len pages even in
    ap (entries_from 0) (row-page pages n (Some e) even within) ∙ last-there n e (row_of pages) (omega (arith, l, within)) last

-- ---- the invariant

pub kept-changed : (f : Entry → Entry) (pages new : List (List (Option Entry))) (n held spare capacity : ℕ) → AreEntries pages held spare capacity
    → IsSome (entry_at n (entries_from 0 (row_of pages)))
    → new ≡ set pages (n / 256) (set (page_of pages n) (n % 256) (option_map f (entry_in (page_of pages n) (n % 256))))
    → AreEntries new held spare capacity
kept-changed f pages new n held spare capacity a some is =
    let es = entries_from 0 (row_of pages) in
    let x = option_map f (entry_in (page_of pages n) (n % 256)) in
    let same = ap (λ p. length (entries_from 0 (row_of p))) is ∙ (ap length (changed-page f pages n a.whole some) ∙ count-changed n f es) in
    record {
      whole = subst ArePages (sym is) (pages-changed pages (n / 256) (n % 256) x a.whole (entry-within pages n a.whole some));
      kept = record { count = a.kept.count ∙ sym same; room = a.kept.room };
    }

pub kept-cleared : (pages new : List (List (Option Entry))) (n held spare capacity spare' : ℕ) → AreEntries pages held spare capacity
    → IsSome (entry_at n (entries_from 0 (row_of pages))) → new ≡ set pages (n / 256) (set (page_of pages n) (n % 256) None)
    → spare' ≡ spare + 1 → AreEntries new (held - 1) spare' capacity
kept-cleared pages new n held spare capacity spare' a some is one =
    let even = a.whole in
    let within = entry-within pages n even some in
    let fewer = count-cleared n (row_of pages) some in
    let len = ap (λ p. length (entries_from 0 (row_of p))) is
    ∙ ap (λ row. length (entries_from 0 row)) (row-page pages n None even within) in
    record {
      whole = subst ArePages (sym is) (pages-changed pages (n / 256) (n % 256) None even within);
      kept = record { count = omega (arith, a.kept.count, fewer, len); room = omega (arith, a.kept.room, a.kept.count, fewer, one) };
    }

pub kept-added : (pages new : List (List (Option Entry))) (n : ℕ) (e : Entry) (held spare capacity : ℕ) → ArePages pages → n / 256 < length pages
    → AllByRecursion (λ x. x.0 < n) (entries_from 0 (row_of pages)) → held ≡ length (entries_from 0 (row_of pages))
    → new ≡ set pages (n / 256) (set (page_of pages n) (n % 256) (Some e)) → held + 1 + spare ≤ capacity → AreEntries new (held + 1) spare capacity
kept-added pages new n e held spare capacity even within last count is room =
    let es = entries_from 0 (row_of pages) in
    let one : List (ℕ × Entry) = (n, e) ∷ [] in
    let len = ap (λ p. length (entries_from 0 (row_of p))) is ∙ (ap length (added-page pages n e even within last) ∙ length-append es one) in
    record {
      whole = subst ArePages (sym is) (pages-changed pages (n / 256) (n % 256) (Some e) even within);
      kept = record { count = omega (arith, count, len); room = room };
    }
