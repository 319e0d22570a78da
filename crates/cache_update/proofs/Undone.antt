-- Undoing a log from its end, and how long the list is on the way.
use Rattle.std.proofs.Common.{◌≡◌, ℕ, zero, suc, ◌+◌, ◌<◌, ◌≤◌, Bool, true, false, cond, List, [], ◌∷◌, ◌++◌, map, length, get_or, take, drop, Option}
use Rattle.std.proofs.Common.{Some, None, is_some, refl, sym, ap, ◌∙◌, arith}
use Rattle.std.specs.List.{remove, cons_option}
use Rattle.std.proofs.lemmas.Bool.{false≢true}
use Rattle.std.proofs.lemmas.List.{map-append}
use Rattle.cache_model.specs.Undo.{change, undo}

pub both_parts : {X : Type 0} (xs : List X) (i : ℕ) → take i xs ++ drop i xs ≡ xs
both_parts xs zero = refl
both_parts [] (suc i) = refl
both_parts (x ∷ xs) (suc i) = ap (λ ys. x ∷ ys) (both_parts xs i)

pub removed : {X : Type 0} (xs : List X) (i : ℕ) → i < length xs → remove xs i ≡ take i xs ++ drop (suc i) xs
removed [] i lt = absurd (omega arith)
removed (x ∷ xs) zero lt = refl
removed (x ∷ xs) (suc i) lt = ap (λ ys. x ∷ ys) (removed xs i (omega arith))

take_one_more : {X : Type 0} (xs : List X) (i : ℕ) (d : X) → i < length xs → take (suc i) xs ≡ take i xs ++ get_or xs i d ∷ []
take_one_more [] i d lt = absurd (omega arith)
take_one_more (x ∷ xs) zero d lt = refl
take_one_more (x ∷ xs) (suc i) d lt = ap (λ ys. x ∷ ys) (take_one_more xs i d (omega arith))

take_whole : {X : Type 0} (xs : List X) → take (length xs) xs ≡ xs
take_whole [] = refl
take_whole (x ∷ xs) = ap (λ ys. x ∷ ys) (take_whole xs)

module _ {K V : Type 0} (at before : K → K → Bool) (key : V → K) where
  pub undo_append : (log more : List (K × (Option V → Option V))) (xs : List V)
      → undo at before key (log ++ more) xs ≡ undo at before key log (undo at before key more xs)
  undo_append [] more xs = refl
  undo_append (c ∷ log) more xs = ap (change at before key c.0 c.1) (undo_append log more xs)

  -- a change makes a list longer by one at most, and where it keeps what is there, no shorter
  cons_short : (y : Option V) (xs : List V) → length (cons_option y xs) ≤ length xs + 1
  cons_short None xs = omega arith
  cons_short (Some y) xs = omega arith

  pub change_short : (k : K) (f : Option V → Option V) (xs : List V) → length (change at before key k f xs) ≤ length xs + 1
  change_short k f [] = cons_short (f None) []
  change_short k f (y ∷ ys) =
      let rest = change_short k f ys in
      let a = cons_short (f (Some y)) ys in
      let b = cons_short (f None) (y ∷ ys) in
      by_tests (at k (key y)) (before k (key y)) (omega (arith, a)) b (omega (arith, rest))
    where
      by_tests : (t u : Bool) → length (cons_option (f (Some y)) ys) ≤ length (y ∷ ys) + 1
          → length (cons_option (f None) (y ∷ ys)) ≤ length (y ∷ ys) + 1 → length (y ∷ change at before key k f ys) ≤ length (y ∷ ys) + 1 →
          length (cond t (cons_option (f (Some y)) ys) (cond u (cons_option (f None) (y ∷ ys)) (y ∷ change at before key k f ys))) ≤ length (y ∷ ys)
          + 1
      by_tests true u a b c = a
      by_tests false true a b c = b
      by_tests false false a b c = c

  cons_long : (y : Option V) (xs : List V) → length xs ≤ length (cons_option y xs)
  cons_long None xs = omega arith
  cons_long (Some y) xs = omega arith

  cons_some : (y : Option V) (xs : List V) → is_some y ≡ true → length xs + 1 ≤ length (cons_option y xs)
  cons_some None xs e = absurd (false≢true e)
  cons_some (Some y) xs e = omega arith

  pub change_long : (k : K) (f : Option V → Option V) (xs : List V) → ((v : V) → is_some (f (Some v)) ≡ true)
      → length xs ≤ length (change at before key k f xs)
  change_long k f [] h = omega arith
  change_long k f (y ∷ ys) h =
      let rest = change_long k f ys h in
      let a = cons_some (f (Some y)) ys (h y) in
      let b = cons_long (f None) (y ∷ ys) in
      by_tests (at k (key y)) (before k (key y)) (omega (arith, a)) b (omega (arith, rest))
    where
      by_tests : (t u : Bool) → length (y ∷ ys) ≤ length (cons_option (f (Some y)) ys) → length (y ∷ ys) ≤ length (cons_option (f None) (y ∷ ys))
          → length (y ∷ ys) ≤ length (y ∷ change at before key k f ys) →
          length (y ∷ ys) ≤ length (cond t (cons_option (f (Some y)) ys) (cond u (cons_option (f None) (y ∷ ys)) (y ∷ change at before key k f ys)))
      by_tests true u a b c = a
      by_tests false true a b c = b
      by_tests false false a b c = c

  cons_not : (y : Option V) (xs : List V) → y ≡ None → length (cons_option y xs) ≤ length xs
  cons_not y xs e = rw e (omega arith)

  pub change_no_longer : (k : K) (f : Option V → Option V) (xs : List V) → f None ≡ None → length (change at before key k f xs) ≤ length xs
  change_no_longer k f [] h = cons_not (f None) [] h
  change_no_longer k f (y ∷ ys) h =
      let rest = change_no_longer k f ys h in
      let a = cons_short (f (Some y)) ys in
      let b = cons_not (f None) (y ∷ ys) h in
      by_tests (at k (key y)) (before k (key y)) (omega (arith, a)) b (omega (arith, rest))
    where
      by_tests : (t u : Bool) → length (cons_option (f (Some y)) ys) ≤ length (y ∷ ys) → length (cons_option (f None) (y ∷ ys)) ≤ length (y ∷ ys)
          → length (y ∷ change at before key k f ys) ≤ length (y ∷ ys) →
          length (cond t (cons_option (f (Some y)) ys) (cond u (cons_option (f None) (y ∷ ys)) (y ∷ change at before key k f ys))) ≤ length (y ∷ ys)
      by_tests true u a b c = a
      by_tests false true a b c = b
      by_tests false false a b c = c

  module _ {X : Type 0} (f : X → K × (Option V → Option V)) where
    pub undo_start : (log : List X) (xs : List V) (i : ℕ) → i ≡ length log
        → undo at before key (map f log) xs ≡ undo at before key (map f (take i log)) xs
    undo_start log xs i e = ap (λ ys. undo at before key (map f ys) xs) (sym (ap (λ k. take k log) e ∙ take_whole log))

    pub undo_on : (log : List X) (all xs now : List V) (i j : ℕ) (d : X) → j + 1 ≡ i → j < length log
        → now ≡ change at before key (f (get_or log j d)).0 (f (get_or log j d)).1 xs →
        all ≡ undo at before key (map f (take i log)) xs → all ≡ undo at before key (map f (take j log)) now
    undo_on log all xs now i j d e lt g h =
        let z : i ≡ suc j = omega (arith, e) in
        h ∙ (ap (λ k. undo at before key (map f (take k log)) xs) z
        ∙ (ap (λ ys. undo at before key (map f ys) xs) (take_one_more log j d lt)
        ∙ (ap (λ ys. undo at before key ys xs) (map-append f (take j log) (get_or log j d ∷ []))
        ∙ (undo_append (map f (take j log)) (f (get_or log j d) ∷ []) xs
        ∙ ap (undo at before key (map f (take j log))) (sym g)))))

    pub undo_short : (log : List X) (xs : List V) → length (undo at before key (map f log) xs) ≤ length xs + length log
    undo_short [] xs = omega arith
    undo_short (x ∷ log) xs =
        let rest = undo_short log xs in
        let more = change_short (f x).0 (f x).1 (undo at before key (map f log) xs) in
        omega (arith, rest, more)

    pub undo_long : ((x : X) (v : V) → is_some ((f x).1 (Some v)) ≡ true) → (log : List X) (xs : List V)
        → length xs ≤ length (undo at before key (map f log) xs)
    undo_long h [] xs = omega arith
    undo_long h (x ∷ log) xs =
        let rest = undo_long h log xs in
        let more = change_long (f x).0 (f x).1 (undo at before key (map f log) xs) (h x) in
        omega (arith, rest, more)

    pub undo_no_longer : ((x : X) → (f x).1 None ≡ None) → (log : List X) (xs : List V) → length (undo at before key (map f log) xs) ≤ length xs
    undo_no_longer h [] xs = omega arith
    undo_no_longer h (x ∷ log) xs =
        let rest = undo_no_longer h log xs in
        let more = change_no_longer (f x).0 (f x).1 (undo at before key (map f log) xs) (h x) in
        omega (arith, rest, more)
