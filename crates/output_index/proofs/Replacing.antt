-- An element of a list that takes the place of another.
use Rattle.std.proofs.Common.{◌≡◌, ◌≢◌, ℕ, zero, suc, ◌<◌, List, [], ◌∷◌, ◌++◌, Some, set, length, refl, ap, arith}
use Rattle.std.specs.Prelude.{slice_get}

pub get-set_same : {X : Type 0} (i : ℕ) (one : X) (xs : List X) → i < length xs → slice_get (set xs i one) i ≡ Some one
get-set_same i one [] l = absurd (omega (arith, l))
get-set_same zero one (x ∷ xs) l = refl
get-set_same (suc i) one (x ∷ xs) l = get-set_same i one xs (omega (arith, l))

pub get-set_other : {X : Type 0} (i j : ℕ) (one : X) (xs : List X) → j ≢ i → slice_get (set xs i one) j ≡ slice_get xs j
get-set_other i j one [] o = refl
get-set_other zero zero one (x ∷ xs) o = absurd (o refl)
get-set_other zero (suc j) one (x ∷ xs) o = refl
get-set_other (suc i) zero one (x ∷ xs) o = refl
get-set_other (suc i) (suc j) one (x ∷ xs) o = get-set_other i j one xs (λ s. o (ap suc s))

-- one more behind them
pub get-front : {X : Type 0} (i : ℕ) (one : X) (xs : List X) → i < length xs → slice_get (xs ++ one ∷ []) i ≡ slice_get xs i
get-front i one [] l = absurd (omega (arith, l))
get-front zero one (x ∷ xs) l = refl
get-front (suc i) one (x ∷ xs) l = get-front i one xs (omega (arith, l))

pub get-last : {X : Type 0} (one : X) (xs : List X) → slice_get (xs ++ one ∷ []) (length xs) ≡ Some one
get-last one [] = refl
get-last one (x ∷ xs) = get-last one xs

pub length-one_more : {X : Type 0} (one : X) (xs : List X) → length (xs ++ one ∷ []) ≡ suc (length xs)
length-one_more one [] = refl
length-one_more one (x ∷ xs) = ap suc (length-one_more one xs)
