-- What is found in lists that were changed.
use Rattle.std.proofs.Common.{◌≡◌, Bool, true, false, cond, List, [], ◌∷◌, map, filter, filter_map, Option, Some, None, refl, sym, ap, ◌∙◌, ⊎_elim}
use Rattle.std.specs.Prelude.{option_map, option_and_then}
use Rattle.std.specs.List.{cons_option}
use Rattle.std.proofs.lemmas.Bool.{cases_Bool}
use Rattle.std.proofs.lemmas.Option.{none-some, same_Some}
use Rattle.cache_model.specs.Undo.{IsKeyOrder, find, Ascends}
use Rattle.cache_model.proofs.Undoing.{find_again}

pub find_map : {K V W : Type 0} (at : K → K → Bool) (key : V → K) (key' : W → K) (f : V → W) → ((x : V) → key' (f x) ≡ key x) → (k : K) (xs : List V)
    → find at key' k (map f xs) ≡ option_map f (find at key k xs)
find_map at key key' f same k [] = refl
find_map at key key' f same k (x ∷ xs) =
    ⊎_elim
    (λ t. let z : at k (key' (f x)) ≡ true = ap (at k) (same x) ∙ t in rw (z, t) refl)
    (λ t. let z : at k (key' (f x)) ≡ false = ap (at k) (same x) ∙ t in rw (z, t) (find_map at key key' f same k xs))
    (cases_Bool (at k (key x)))

-- what a test keeps
abbrev pub if_test : {V : Type 0} → (V → Bool) → V → Option V
if_test test x = cond (test x) (Some x) None

pub filter_is : {V : Type 0} (test : V → Bool) (xs : List V) → filter test xs ≡ filter_map (if_test test) xs
filter_is test [] = refl
filter_is test (x ∷ xs) = ⊎_elim (λ t. rw t (ap (λ ys. x ∷ ys) (filter_is test xs))) (λ t. rw t (filter_is test xs)) (cases_Bool (test x))

module _ {K V : Type 0} (at before : K → K → Bool) (key : V → K) (o : IsKeyOrder at before) where
  pub find_filter_map : (f : V → Option V) → ((x y : V) → f x ≡ Some y → key y ≡ key x) → (k : K) (xs : List V) → Ascends at before key xs
      → find at key k (filter_map f xs) ≡ option_and_then f (find at key k xs)
  find_filter_map f same k [] a = refl
  find_filter_map f same k (x ∷ xs) a = by_first (f x) refl (find_filter_map f same k xs a.1)
    where
      by_first : (y : Option V) → f x ≡ y → find at key k (filter_map f xs) ≡ option_and_then f (find at key k xs)
          → find at key k (cons_option y (filter_map f xs)) ≡ option_and_then f (find at key k (x ∷ xs))
      by_first None e rest =
          ⊎_elim
          (λ t. let none : find at key k xs ≡ None = find_again at before key o x xs k a (o.same k (key x) t) in
          rw t (rest ∙ (ap (option_and_then f) none ∙ sym e)))
          (λ t. rw t rest)
          (cases_Bool (at k (key x)))
      by_first (Some y) e rest =
          ⊎_elim
          (λ t. let z : at k (key y) ≡ true = ap (at k) (same x y e) ∙ t in rw (z, t) (sym e))
          (λ t. let z : at k (key y) ≡ false = ap (at k) (same x y e) ∙ t in rw (z, t) rest)
          (cases_Bool (at k (key x)))

  pub find_filter : (test : V → Bool) (k : K) (xs : List V) → Ascends at before key xs
      → find at key k (filter test xs) ≡ option_and_then (if_test test) (find at key k xs)
  find_filter test k xs a = ap (find at key k) (filter_is test xs) ∙ find_filter_map (if_test test) (λ x y e. same x y (test x) e) k xs a
    where
      same : (x y : V) (b : Bool) → cond b (Some x) None ≡ Some y → key y ≡ key x
      same x y true e = ap key (sym (same_Some x y e))
      same x y false e = absurd (none-some y e)
