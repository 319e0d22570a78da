-- Things of one size: reading n of them is cutting off n times the size, and each is found by its index.
use Rattle.std.proofs.Common.{◌≡◌, ℕ, zero, suc, ◌+◌, ◌*◌, ◌/◌, ◌<◌, ◌≤◌, List, [], ◌∷◌, length, take, drop, Option, Some, None, refl, sym, ap, ◌∙◌}
use Rattle.std.proofs.Common.{arith, inl, inr}
use Rattle.std.specs.Prelude.{slice_get}
use Rattle.std.specs.Option.{option_map_or}
use Rattle.std.proofs.lemmas.Bool.{cases_lt}
use Rattle.std.proofs.lemmas.List.{length-drop, length-take, take-take, drop-drop, drop-take}
use Rattle.uo_base.specs.Reading.{times, things}
use Rattle.uo_base.proofs.Walks.{things-none, times-length}
use Rattle.uo_base.proofs.Formats.{found}

times_none : {A : Type 0} (at : List ℕ → Option (A × List ℕ)) (bytes : List ℕ) → times at 0 bytes ≡ Some (things at 0 bytes, bytes)
unfolding times
times_none at bytes = refl

-- a reading that takes k bytes wherever they are there
pub record IsEven {A : Type 0} (at : List ℕ → Option (A × List ℕ)) (k : ℕ) (value : List ℕ → A) : Type 0 where
  pub reads : (bytes : List ℕ) → k ≤ length bytes → at bytes ≡ Some (value (take k bytes), drop k bytes)
  pub short : (bytes : List ℕ) → length bytes < k → at bytes ≡ None
  pub divides : (n : ℕ) → (k * n) / k ≡ n

module _ {A : Type 0} (at : List ℕ → Option (A × List ℕ)) (k : ℕ) (value : List ℕ → A) (even : IsEven at k value) where
  -- n things are behind the first
  behind : (n : ℕ) (bytes : List ℕ) → k * suc n ≤ length bytes → k * n ≤ length (drop k bytes)
  behind n bytes le = omega (arith, length-drop k bytes)

  -- the size of one more
  sized_more : (n : ℕ) → k + k * n ≡ k * suc n
  sized_more n = omega arith

  led_even : (n : ℕ) (bytes : List ℕ) (xs : List A) (left : List ℕ) → k * suc n ≤ length bytes → times at n (drop k bytes) ≡ Some (xs, left)
      → times at (suc n) bytes ≡ Some (value (take k bytes) ∷ xs, left)
  unfolding times
  led_even n bytes xs left le others = let first = even.reads bytes (omega arith) in rw (first, others) refl

  pub times_even : (n : ℕ) (bytes : List ℕ) → k * n ≤ length bytes → times at n bytes ≡ Some (things at n bytes, drop (k * n) bytes)
  times_even zero bytes le = none where
    none : times at 0 bytes ≡ Some (things at 0 bytes, drop (k * 0) bytes)
    none = let z : k * 0 ≡ 0 = omega arith in rw z (times_none at bytes)
  times_even (suc n) bytes le =
      let others = times_even n (drop k bytes) (behind n bytes le) in
      let all = led_even n bytes _ _ le others in
      let its = ap (λ r. option_map_or (λ p. p.0) r []) all in
      let left = drop-drop (k * n) k bytes ∙ ap (λ m. drop m bytes) (sized_more n) in
      all ∙ ap (λ xs. found (xs, drop (k * n) (drop k bytes))) (sym its) ∙ ap (λ l. found (things at (suc n) bytes, l)) left

  things_suc : (n : ℕ) (bytes : List ℕ) → k * suc n ≤ length bytes → things at (suc n) bytes ≡ value (take k bytes) ∷ things at n (drop k bytes)
  things_suc n bytes le =
      ap (λ r. option_map_or (λ p. p.0) r []) (led_even n bytes _ _ le (times_even n (drop k bytes) (behind n bytes le)))

  pub times_short : (n : ℕ) (bytes : List ℕ) → length bytes < k * n → times at n bytes ≡ None
  unfolding times
  times_short zero bytes lt = absurd (omega arith)
  times_short (suc n) bytes lt =
      elim (cases_lt (length bytes) k) [
        | inl few ↦ rw (even.short bytes few) refl
        | inr some ↦ rw (even.reads bytes some, times_short n (drop k bytes) (omega (arith, length-drop k bytes))) refl
      ]

  -- what follows is of no account
  pub things_take : (n : ℕ) (bytes : List ℕ) → k * n ≤ length bytes → things at n (take (k * n) bytes) ≡ things at n bytes
  things_take zero bytes le = things-none at _ ∙ sym (things-none at bytes)
  things_take (suc n) bytes le =
      let all = take (k * suc n) bytes in
      let whole : length all ≡ k * suc n = omega (arith, length-take (k * suc n) bytes) in
      let front = ap value (take-take k (k * suc n) bytes (omega arith)) in
      let others = ap (λ m. drop k (take m bytes)) (sym (sized_more n)) ∙ drop-take k (k * n) bytes in
      things_suc n all (omega arith) ∙ ap (λ xs. value (take k all) ∷ things at n xs) others
      ∙ ap (λ x. x ∷ things at n (take (k * n) (drop k bytes))) front
      ∙ ap (λ xs. value (take k bytes) ∷ xs) (things_take n (drop k bytes) (behind n bytes le))
      ∙ sym (things_suc n bytes le)

  pub at_index : (n i : ℕ) (bytes : List ℕ) → k * n ≤ length bytes → i < n
      → slice_get (things at n bytes) i ≡ Some (value (take k (drop (k * i) bytes)))
  at_index zero i bytes le lt = absurd (omega arith)
  at_index (suc n) zero bytes le lt = let z : k * 0 ≡ 0 = omega arith in rw (things_suc n bytes le, z) refl
  at_index (suc n) (suc i) bytes le lt =
      rw (things_suc n bytes le) (at_index n i (drop k bytes) (behind n bytes le) (omega arith)
      ∙ ap (λ xs. found (value (take k xs))) (drop-drop (k * i) k bytes ∙ ap (λ m. drop m bytes) (sized_more i)))

  -- how many there are in a text that they fill
  pub length-parts : (bytes : List ℕ) → k * (length bytes / k) ≡ length bytes → length (things at (length bytes / k) bytes) ≡ length bytes / k
  length-parts bytes whole =
      times-length at (length bytes / k) bytes _ _
      (times_even (length bytes / k) bytes (let le : k * (length bytes / k) ≤ length bytes = omega arith in le))
