-- Marks in buckets: where a mark is sought, when a bucket changes and when there is one more.
use Rattle.std.proofs.Common.{◌≡◌, ◌≢◌, ℕ, suc, ◌+◌, ◌-◌, ◌*◌, ◌%◌, ◌^◌, ◌<◌, ◌≤◌, Bool, true, false, List, [], ◌∷◌, ◌++◌, Some, None, set, get_or}
use Rattle.std.proofs.Common.{length, refl, sym, ap, ◌∙◌, subst, ⊎_elim, arith}
use Rattle.std.specs.Prelude.{slice_get, filter, IfSome}
use Rattle.std.specs.Bool.{OnTrue, OnFalse}
use Rattle.std.specs.List.{AllByRecursion}
use Rattle.std.proofs.lemmas.Bool.{cases_eq, cases_lt, lt-ltb, le-ltb}
use Rattle.std.proofs.lemmas.List.{length-set}
use Rattle.std.proofs.lemmas.Option.{same_Some, slice_get_read, slice_get_past}
use Rattle.std.proofs.lemmas.Nat.{pow_pos, mod_low}
use Rattle.std.proofs.Math.Nat.{mod-eq_of_lt, mod-lt}
use Rattle.std.proofs.Math.Pow.{mod-mod-pow}
use Rattle.output_index.specs.declared.bucket_cell.BucketCell.{BucketCell}
use Rattle.output_index.specs.Buckets.{in_cells, bucket_of, is_own, in_place, in_buckets, HasOwn}
use Rattle.output_index.proofs.Cells.{filter-is_own, own-tell, put-here, put-others}
use Rattle.output_index.proofs.Replacing.{get-set_same, get-set_other, get-front, get-last, length-one_more}

-- ---- the bucket of a mark

abbrev low : ℕ → ℕ → ℕ
low b m = m % 2 ^ b

low-below : (b m : ℕ) → low b m < 2 ^ b
low-below b m = mod-lt m (pow_pos b)

-- the lowest bits of the lowest bits
low-low : (b m : ℕ) → low b (low (suc b) m) ≡ low b m
low-low b m = subst (λ k. m % 2 ^ k % 2 ^ b ≡ m % 2 ^ b) (omega arith) (mod-mod-pow m 1 b)

by-all : (b n m : ℕ) → low (suc b) m < n → bucket_of b n m ≡ low (suc b) m
by-all b n m l = rw (lt-ltb (low (suc b) m) n l) refl

by-fewer : (b n m : ℕ) → n ≤ low (suc b) m → bucket_of b n m ≡ low b m
by-fewer b n m l = rw (le-ltb (low (suc b) m) n l) refl

pub bucket-within : (b n m : ℕ) → 2 ^ b ≤ n → bucket_of b n m < n
bucket-within b n m least =
    ⊎_elim
    (λ l. subst (λ x. x < n) (sym (by-all b n m l)) l)
    (λ l. subst (λ x. x < n) (sym (by-fewer b n m l)) (omega (arith, low-below b m, least)))
    (cases_lt (low (suc b) m) n)

-- where each bucket of one bit more is there, a bit more tells the same
pub bit-more : (b n m : ℕ) → n ≡ 2 ^ suc b → bucket_of (suc b) n m ≡ bucket_of b n m
bit-more b n m full =
    let below : low (suc b) m < n = subst (λ x. low (suc b) m < x) (sym full) (low-below (suc b) m) in
    ⊎_elim
    (λ l. by-all (suc b) n m l ∙ (sym (mod-eq_of_lt (subst (λ x. low (suc (suc b)) m < x) full l)) ∙ (low-low (suc b) m ∙ sym (by-all b n m below))))
    (λ l. by-fewer (suc b) n m l ∙ sym (by-all b n m below))
    (cases_lt (low (suc (suc b)) m) n)

-- where there is one bucket more, its marks come from one
pub from-first : (b n first m : ℕ) → first + 2 ^ b ≡ n → n < 2 ^ suc b → bucket_of b (suc n) m ≡ n → bucket_of b n m ≡ first
from-first b n first m sum most is =
    ⊎_elim
    (λ l.
    let here : low (suc b) m ≡ n = sym (by-all b (suc n) m l) ∙ is in
    let upto : n < 2 * 2 ^ b = omega (arith, most) in
    let rest : first < 2 ^ b = omega (arith, sum, upto) in
    let whole : n ≡ 1 * 2 ^ b + first = omega (arith, sum) in
    by-fewer b n m (omega (arith, here)) ∙ (sym (low-low b m) ∙ (ap (low b) (here ∙ whole) ∙ mod_low 1 b first rest)))
    (λ l. absurd (omega (arith, sum, low-below b m, sym (by-fewer b (suc n) m l) ∙ is)))
    (cases_lt (low (suc b) m) (suc n))

pub others-stay : (b n m : ℕ) → bucket_of b (suc n) m ≢ n → bucket_of b (suc n) m ≡ bucket_of b n m
others-stay b n m other =
    ⊎_elim
    (λ l. by-all b (suc n) m (omega (arith, l)) ∙ sym (by-all b n m l))
    (λ l.
    ⊎_elim
    (λ k. absurd (other (by-all b (suc n) m k ∙ omega (arith, k, l))))
    (λ k. by-fewer b (suc n) m k ∙ sym (by-fewer b n m l))
    (cases_lt (low (suc b) m) (suc n)))
    (cases_lt (low (suc b) m) n)

-- ---- another bucket in the place of one

cells_there : (at : ℕ) (list : List (List BucketCell)) (old : List BucketCell) → at < length list → old ≡ get_or list at old
    → slice_get list at ≡ Some old
cells_there at list old l is = slice_get_read list (length list) at old refl l is

pub in-bucket : (b m at : ℕ) (list : List (List BucketCell)) (cells : List BucketCell) → bucket_of b (length list) m ≡ at
    → slice_get list at ≡ Some cells
    → in_buckets b list m ≡ in_cells cells m
in-bucket b m at list cells s there = ap (λ x. in_place x m) (ap (slice_get list) s ∙ there)

pub no-bucket : (b m at : ℕ) (list : List (List BucketCell)) → bucket_of b (length list) m ≡ at → length list ≤ at → in_buckets b list m ≡ None
no-bucket b m at list s past = ap (λ x. in_place x m) (ap (slice_get list) s ∙ slice_get_past list at past)

after-set : (b m at : ℕ) (list : List (List BucketCell)) (new : List BucketCell)
    → in_buckets b (set list at new) m ≡ in_place (slice_get (set list at new) (bucket_of b (length list) m)) m
after-set b m at list new = ap (λ n. in_place (slice_get (set list at new) (bucket_of b n m)) m) (length-set list at new)

pub set-bucket : (b m at : ℕ) (list : List (List BucketCell)) (new : List BucketCell) → bucket_of b (length list) m ≡ at → at < length list
    → in_buckets b (set list at new) m ≡ in_cells new m
set-bucket b m at list new s l = after-set b m at list new ∙ ap (λ x. in_place x m) (ap (slice_get (set list at new)) s ∙ get-set_same at new list l)

pub set-elsewhere : (b m at : ℕ) (list : List (List BucketCell)) (new : List BucketCell) → bucket_of b (length list) m ≢ at
    → in_buckets b (set list at new) m ≡ in_buckets b list m
set-elsewhere b m at list new o = after-set b m at list new ∙ ap (λ x. in_place x m) (get-set_other at (bucket_of b (length list) m) new list o)

-- it differs from the one before at one mark alone
pub others-set : (b mark at : ℕ) (list : List (List BucketCell)) (old new : List BucketCell) → at < length list → old ≡ get_or list at old
    → ((m : ℕ) → m ≢ mark → in_cells new m ≡ in_cells old m) →
    (m : ℕ) → m ≢ mark → in_buckets b (set list at new) m ≡ in_buckets b list m
others-set b mark at list old new l is others m o =
    ⊎_elim
    (λ e. set-bucket b m at list new e l ∙ (others m o ∙ sym (in-bucket b m at list old e (cells_there at list old l is))))
    (λ e. set-elsewhere b m at list new e)
    (cases_eq (bucket_of b (length list) m) at)

-- ---- one bucket more

pub split-same : (b first : ℕ) (list : List (List BucketCell)) (old added stays : List BucketCell) → first + 2 ^ b ≡ length list
    → length list < 2 ^ suc b
    → slice_get list first ≡ Some old →
    ((m : ℕ) → bucket_of b (suc (length list)) m ≡ length list → in_cells added m ≡ in_cells old m) →
    ((m : ℕ) → bucket_of b (suc (length list)) m ≡ first → in_cells stays m ≡ in_cells old m) →
    (m : ℕ) → in_buckets b (set (list ++ added ∷ []) first stays) m ≡ in_buckets b list m
split-same b first list old added stays sum most there goes left m =
    after-set b m first more stays ∙ (ap (λ n. in_place (slice_get (set more first stays) (bucket_of b n m)) m) (length-one_more added list) ∙
    ⊎_elim
    (λ e. ap (λ i. in_place (slice_get (set more first stays) i) m) e
    ∙ (ap (λ x. in_place x m) (get-set_other first n stays more (λ s. absurd (omega (arith, s, sum, pow_pos b))) ∙ get-last added list)
    ∙ (goes m e ∙ sym (in-bucket b m first list old (from-first b n first m sum most e) there))))
    (λ e. ap (λ i. in_place (slice_get (set more first stays) i) m) (others-stay b n m e) ∙ ⊎_elim
    (λ f. ap (λ i. in_place (slice_get (set more first stays) i) m) f
    ∙ (ap (λ x. in_place x m) (get-set_same first stays more (omega (arith, sum, pow_pos b, length-one_more added list)))
    ∙ (left m (others-stay b n m e ∙ f) ∙ sym (in-bucket b m first list old f there))))
    (λ f. ap (λ x. in_place x m) (get-set_other first (bucket_of b n m) stays more f
    ∙ get-front (bucket_of b n m) added list (bucket-within b n m (omega (arith, sum)))))
    (cases_eq (bucket_of b n m) first))
    (cases_eq (bucket_of b (suc n) m) n))
  where
    n : ℕ
    n = length list

    more : List (List BucketCell)
    more = list ++ added ∷ []

-- ---- a bucket takes one mark, or has no room

pub put-at : (put : Bool) (b mark number : ℕ) (list : List (List BucketCell)) (old new : List BucketCell) (at : ℕ)
    → at ≡ bucket_of b (length list) mark
    → at < length list → old ≡ get_or list at old →
    OnTrue put (new ≡ old ++ record { mark = mark; number = number } ∷ []) → in_buckets b list mark ≡ None
    → OnTrue put (in_buckets b (set list at new) mark ≡ Some number)
put-at true b mark number list old new at s l is made none =
    set-bucket b mark at list new (sym s) l ∙ (ap (λ cells. in_cells cells mark) made
    ∙ put-here (record { mark = mark; number = number }) old (sym (in-bucket b mark at list old (sym s) (cells_there at list old l is)) ∙ none))
put-at false b mark number list old new at s l is made none = tt

pub put-others-at : (put : Bool) (b mark number : ℕ) (list : List (List BucketCell)) (old new : List BucketCell) (at : ℕ) → at < length list
    → old ≡ get_or list at old →
    OnTrue put (new ≡ old ++ record { mark = mark; number = number } ∷ []) → OnFalse put (new ≡ old) → (m : ℕ) → m ≢ mark
    → in_buckets b (set list at new) m ≡ in_buckets b list m
put-others-at put b mark number list old new at l is made full = others-set b mark at list old new l is (by_case put made full)
  where
    by_case : (put : Bool) → OnTrue put (new ≡ old ++ record { mark = mark; number = number } ∷ []) → OnFalse put (new ≡ old) → (m : ℕ) → m ≢ mark
        → in_cells new m ≡ in_cells old m
    by_case true made full m o = ap (λ cells. in_cells cells m) made ∙ put-others (record { mark = mark; number = number }) old m (λ s. o (sym s))
    by_case false made full m o = ap (λ cells. in_cells cells m) full

-- ---- the same as the code has it

pub split-by : (b count power first : ℕ) (list more : List (List BucketCell)) (old added lent stays : List BucketCell) → count ≡ length list
    → power ≡ 2 ^ b
    → first ≡ count - power → 2 ^ b ≤ length list → length list < 2 ^ suc b →
    old ≡ get_or list first old → more ≡ list ++ added ∷ [] → lent ≡ get_or more first lent →
    added ≡ filter (is_own b (count + 1) count) old → stays ≡ filter (is_own b (count + 1) first) lent → (m : ℕ)
    → in_buckets b (set more first stays) m ≡ in_buckets b list m
split-by b count power first list more old added lent stays all two is least most here made again goes left m =
    let sum : first + 2 ^ b ≡ length list = omega (arith, all, two, is, least) in
    let within : first < length list = omega (arith, sum, pow_pos b) in
    let next : count + 1 ≡ suc (length list) = omega (arith, all) in
    let there = cells_there first list old within here in
    let longer : first < length more = subst (λ xs. first < length xs) (sym made) (omega (arith, within, length-one_more added list)) in
    let same : lent ≡ old = same_Some lent old
    (sym (cells_there first more lent longer again) ∙ (ap (λ xs. slice_get xs first) made ∙ (get-front first added list within ∙ there))) in
    ap (λ xs. in_buckets b (set xs first stays) m) made ∙
    split-same b first list old added stays sum most there
    (λ j e. ap (λ cells. in_cells cells j) goes ∙ own-tell b (count + 1) count old j (ap (λ k. bucket_of b k j) next ∙ (e ∙ sym all)))
    (λ j e. ap (λ cells. in_cells cells j) left
    ∙ (own-tell b (count + 1) first lent j (ap (λ k. bucket_of b k j) next ∙ e) ∙ ap (λ cells. in_cells cells j) same))
    m

own-at : (b at n : ℕ) (list : List (List BucketCell)) (cells : List BucketCell) → length list ≡ n → slice_get list at ≡ Some cells
    → AllByRecursion (λ c. bucket_of b n c.mark ≡ at) cells → HasOwn b list at
own-at b at n list cells len there own =
    subst (λ x. IfSome x (λ xs. AllByRecursion (λ c. bucket_of b (length list) c.mark ≡ at) xs)) (sym there)
    (subst (λ k. AllByRecursion (λ c. bucket_of b k c.mark ≡ at) cells) (sym len) own)

-- neither of the two has a mark that is sought elsewhere
pub split-own : (b count power first : ℕ) (list more : List (List BucketCell)) (old added lent stays : List BucketCell) → count ≡ length list
    → power ≡ 2 ^ b
    → first ≡ count - power → 2 ^ b ≤ length list → more ≡ list ++ added ∷ [] →
    added ≡ filter (is_own b (count + 1) count) old → stays ≡ filter (is_own b (count + 1) first) lent → HasOwn b (set more first stays) (length list)
    × HasOwn b (set more first stays) (length list - 2 ^ b)
split-own b count power first list more old added lent stays all two is least made goes left =
    let new = set more first stays in
    let sum : first + 2 ^ b ≡ length list = omega (arith, all, two, is, least) in
    let longer : length more ≡ count + 1 = ap length made ∙ (length-one_more added list ∙ omega (arith, all)) in
    let len : length new ≡ count + 1 = length-set more first stays ∙ longer in
    let last : slice_get new (length list) ≡ Some added = get-set_other first (length list) stays more
    (λ s. absurd (omega (arith, s, sum, pow_pos b))) ∙ (ap (λ xs. slice_get xs (length list)) made ∙ get-last added list) in
    let here : slice_get new first ≡ Some stays = get-set_same first stays more (omega (arith, sum, all, longer)) in (
      own-at b (length list) (count + 1) new added len last (subst (λ k. AllByRecursion (λ c. bucket_of b (count + 1) c.mark ≡ k) added) all
          (subst (AllByRecursion (λ c. bucket_of b (count + 1) c.mark ≡ count)) (sym goes) (filter-is_own b (count + 1) count old))),
      subst (HasOwn b new) (omega (arith, sum)) (own-at b first (count + 1) new stays len here
          (subst (AllByRecursion (λ c. bucket_of b (count + 1) c.mark ≡ first)) (sym left) (filter-is_own b (count + 1) first lent))),
    )
