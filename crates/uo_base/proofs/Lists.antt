-- Lists: what holds of all elements, look-ups, and two lists in step.
use Rattle.std.proofs.Common.{◌≡◌, ◌≢◌, ℕ, zero, suc, ◌+◌, ◌<◌, ◌≤◌, Bool, true, false, cond, List, [], ◌∷◌, ◌++◌, map, length, take, drop, get_or}
use Rattle.std.proofs.Common.{Option, Some, None, refl, sym, ap, subst, ◌∙◌, arith, ap₂}
use Rattle.std.specs.List.{All, AllByRecursion, AllPairs, AllZip, filter, slice_get}
use Rattle.std.specs.Option.{is_some}
use Rattle.std.specs.Prelude.{option_map}
use Rattle.std.proofs.lemmas.List.{append-nil, drop_all, take_more, length-take}
use Rattle.std.proofs.lemmas.List.Elements.{All-head, All-tail}
use Rattle.std.proofs.lemmas.Option.{none-some, same_Some, slice_get-map, slice_get_within, get_or_from_slice_get}
use Rattle.std.proofs.Math.Seq.{take-length}

-- ---- what holds of all

pub all-push : {X : Type 0} (P : X → Type 0) (xs : List X) (x : X) → AllByRecursion P xs → P x → AllByRecursion P (xs ++ x ∷ [])
all-push P [] x all one = (one, tt)
all-push P (y ∷ xs) x all one = (all.0, all-push P xs x all.1 one)

pub all-append : {X : Type 0} (P : X → Type 0) (xs ys : List X) → AllByRecursion P xs → AllByRecursion P ys → AllByRecursion P (xs ++ ys)
all-append P [] ys front behind = behind
all-append P (x ∷ xs) ys front behind = (front.0, all-append P xs ys front.1 behind)

pub all-at : {X : Type 0} (P : X → Type 0) (xs : List X) (i : ℕ) (x : X) → AllByRecursion P xs → slice_get xs i ≡ Some x → P x
all-at P [] i x all e = absurd (none-some x e)
all-at P (y ∷ xs) zero x all e = subst P (same_Some y x e) all.0
all-at P (y ∷ xs) (suc i) x all e = all-at P xs i x all.1 e

-- of numbers that differ, one is none that comes later
pub other_later : (ns : List ℕ) (i k : ℕ) → AllPairs (λ a b. a ≢ b) ns → i + 1 ≤ k → k < length ns → get_or ns k 0 ≢ get_or ns i 0
other_later ns i k apart le lt e = apart i k 0 (omega arith) lt (sym e)

-- the filter of what passes, and of what does not
pub filter_all : {X : Type 0} (p : X → Bool) (xs : List X) → All (λ x. p x ≡ true) xs → filter p xs ≡ xs
filter_all p [] all = refl
filter_all p (x ∷ xs) all =
    rw (All-head (λ y. p y ≡ true) x xs all) (ap (λ ys. x ∷ ys) (filter_all p xs (All-tail (λ y. p y ≡ true) x xs all)))

pub filter_none : {X : Type 0} (p : X → Bool) (xs : List X) → All (λ x. p x ≡ false) xs → filter p xs ≡ []
filter_none p [] all = refl
filter_none p (x ∷ xs) all =
    rw (All-head (λ y. p y ≡ false) x xs all) (filter_none p xs (All-tail (λ y. p y ≡ false) x xs all))

-- ---- look-ups

pub got-map : {X Y : Type 0} (f : X → Y) (xs : List X) (i : ℕ) (x : X) → slice_get xs i ≡ Some x → slice_get (map f xs) i ≡ Some (f x)
got-map f xs i x got = slice_get-map f xs i ∙ ap (option_map f) got

pub got_front : {X : Type 0} (xs ys : List X) (i : ℕ) (x : X) → slice_get xs i ≡ Some x → slice_get (xs ++ ys) i ≡ Some x
got_front [] ys i x e = absurd (none-some x e)
got_front (z ∷ xs) ys zero x e = e
got_front (z ∷ xs) ys (suc i) x e = got_front xs ys i x e

pub got_last : {X : Type 0} (xs : List X) (x : X) → slice_get (xs ++ x ∷ []) (length xs) ≡ Some x
got_last [] x = refl
got_last (z ∷ xs) x = got_last xs x

-- what is behind a front begins with the element there, and a longer front ends with it
pub drop-got : {X : Type 0} (xs : List X) (i : ℕ) (x : X) → slice_get xs i ≡ Some x → drop i xs ≡ x ∷ drop (suc i) xs
drop-got [] i x e = absurd (none-some x e)
drop-got (y ∷ xs) zero x e = ap (λ z. z ∷ xs) (same_Some y x e)
drop-got (y ∷ xs) (suc i) x e = drop-got xs i x e

pub take_one : {X : Type 0} (xs : List X) (i : ℕ) (x : X) → slice_get xs i ≡ Some x → take (i + 1) xs ≡ take i xs ++ x ∷ []
take_one xs i x got = take_more xs i x (slice_get_within xs i x got) ∙ ap (λ y. take i xs ++ y ∷ []) (get_or_from_slice_get xs i x x got)

pub one_more : {X : Type 0} (xs : List X) (i : ℕ) (x : X) (old new : List X) → slice_get xs i ≡ Some x → old ≡ take i xs → new ≡ old ++ x ∷ []
    → new ≡ take (i + 1) xs
one_more xs i x old new got was e = e ∙ (ap₂ (λ ys y. ys ++ y ∷ []) was (sym (get_or_from_slice_get xs i x x got))
    ∙ sym (take_more xs i x (slice_get_within xs i x got)))

-- ---- lengths

pub filter_few : {X : Type 0} (p : X → Bool) (xs : List X) → length (filter p xs) ≤ length xs
filter_few p [] = omega arith
filter_few {X} p (x ∷ xs) = by (p x) (filter_few p xs)
  where
    by : (t : Bool) → length (filter p xs) ≤ length xs → length (cond t (x ∷ filter p xs) (filter p xs)) ≤ suc (length xs)
    by true h = omega (arith, h)
    by false h = omega (arith, h)

pub take_few : {X : Type 0} (k : ℕ) (xs : List X) → length (take k xs) ≤ k
take_few k xs = omega (arith, length-take k xs)

pub refilled : {X : Type 0} (n : ℕ) (xs ys : List X) → length xs ≡ length ys → length ys ≡ n → take n (xs ++ drop (length xs) ys) ≡ xs
refilled n xs ys e f =
    let none : drop (length xs) ys ≡ [] = drop_all (length xs) ys (omega (arith, e)) in
    ap (λ l. take n (xs ++ l)) none ∙ (ap (take n) (append-nil xs) ∙ (ap (λ k. take k xs) (sym (e ∙ f)) ∙ take-length xs))

-- ---- two lists in step

pub zip-take : {X Y : Type 0} (P : X → Y → Type 0) (k : ℕ) (xs : List X) (ys : List Y) → AllZip P xs ys → AllZip P (take k xs) (take k ys)
zip-take P zero xs ys z = tt
zip-take P (suc k) [] [] z = tt
zip-take P (suc k) [] (y ∷ ys) z = absurd z
zip-take P (suc k) (x ∷ xs) [] z = absurd z
zip-take P (suc k) (x ∷ xs) (y ∷ ys) z = (z.0, zip-take P k xs ys z.1)

-- ---- options

pub is_some-map : {X Y : Type 0} (f : X → Y) (x : Option X) → is_some (option_map f x) ≡ is_some x
is_some-map f None = refl
is_some-map f (Some x) = refl
