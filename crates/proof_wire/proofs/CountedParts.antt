-- Things of one size behind their count: cutting them off is reading them.
use Rattle.std.proofs.Common.{◌≡◌, ℕ, ◌*◌, ◌/◌, ◌≤◌, Bool, true, false, cond, ltb, List, length, take, drop, Option, Some, None, refl, sym, ap, subst}
use Rattle.std.proofs.Common.{◌∙◌, arith}
use Rattle.std.specs.Prelude.{IfSome}
use Rattle.std.specs.Borrow.{Bor}
use Rattle.std.proofs.lemmas.Bool.{le-ltb, lt-ltb, ltb-false, ltb-true}
use Rattle.std.proofs.lemmas.List.{length-take}
use Rattle.std.specs.Int.{w64, from_le_bytes}
use Rattle.uo_base.specs.Reading.{◌>>=◌, bytes_at, number_at, times, things, Gives}
use Rattle.uo_base.specs.Compact.{compact_at, counted_at}
use Rattle.uo_base.proofs.EvenParts.{IsEven, times_even, times_short, things_take}
use Rattle.uo_base.proofs.Formats.{found, test_some}
use Rattle.proof_wire.specs.Reading.{parts_at}

-- a test that let nothing through
test_none : {A : Type 0} (b : Bool) (x : A) → cond b None (Some x) ≡ None → b ≡ true
test_none true x e = refl
test_none false x e = absurd cc

pub targets_even : IsEven (number_at w64) 8 (from_le_bytes w64)
targets_even = record {
  reads = λ bytes le. rw (le-ltb (length bytes) 8 le) refl;
  short = λ bytes lt. rw (lt-ltb (length bytes) 8 lt) refl;
  divides = λ n. omega arith;
}

module _ {A : Type 0} (at : List ℕ → Option (A × List ℕ)) (k : ℕ) (value : List ℕ → A) (even : IsEven at k value) where
  none_of : (r : Option (ℕ × List ℕ)) → (r >>= λ n. bytes_at (k * n.0) n.1) ≡ None → (r >>= λ n. times at n.0 n.1) ≡ None
  none_of None e = refl
  none_of (Some n) e = times_short at k value even n.0 n.1 (ltb-true _ _ (test_none (ltb (length n.1) (k * n.0)) _ e))

  abbrev Parts : Option (ℕ × List ℕ) → List ℕ → List ℕ → Type 0
  Parts r parts left = ((r >>= λ n. times at n.0 n.1) ≡ Some (things at (length parts / k) parts, left)) × (k * (length parts / k) ≡ length parts)

  some_of : (r : Option (ℕ × List ℕ)) (parts left : List ℕ) → (r >>= λ n. bytes_at (k * n.0) n.1) ≡ Some (parts, left) → Parts r parts left
  some_of None parts left e = absurd cc
  some_of (Some n) parts left e =
      let g = test_some (ltb (length n.1) (k * n.0)) (take (k * n.0) n.1, drop (k * n.0) n.1) (parts, left) e in
      let long : k * n.0 ≤ length n.1 = ltb-false _ _ g.0 in
      let len : length (take (k * n.0) n.1) ≡ k * n.0 = omega (arith, length-take (k * n.0) n.1) in
      let count : length (take (k * n.0) n.1) / k ≡ n.0 = ap (λ m. m / k) len ∙ even.divides n.0 in
      subst (λ (p : List ℕ × List ℕ). Parts (Some n) p.0 p.1) g.1 (
        rw count (times_even at k value even n.0 n.1 long
            ∙ ap (λ xs. found (xs, drop (k * n.0) n.1)) (sym (things_take at k value even n.0 n.1 long))),
        rw count (sym len),
      )

  -- cutting off the counted parts is reading them
  pub parts_none : (bytes : List ℕ) → parts_at k bytes ≡ None → counted_at at bytes ≡ None
  unfolding parts_at counted_at
  parts_none bytes e = none_of (compact_at bytes) e

  pub parts_some : (bytes parts left : List ℕ) → parts_at k bytes ≡ Some (parts, left)
      → (counted_at at bytes ≡ Some (things at (length parts / k) parts, left)) × (k * (length parts / k) ≡ length parts)
  unfolding parts_at counted_at
  parts_some bytes parts left e = some_of (compact_at bytes) parts left e

  -- so a call that cuts them off gives what reading them gives
  pub gives_parts : (result : Option (Bor (List ℕ))) (left bytes : List ℕ)
      → Gives {X = Bor (List ℕ)} {A = List ℕ} (λ s. s.now) result left (parts_at k bytes)
      → Gives {X = Bor (List ℕ)} {A = List A} (λ s. things at (length s.now / k) s.now) result left (counted_at at bytes)
  gives_parts None left bytes e = parts_none bytes e
  gives_parts (Some s) left bytes e = (parts_some bytes s.now left e).0

  pub whole_parts : (result : Option (Bor (List ℕ))) (left bytes : List ℕ)
      → Gives {X = Bor (List ℕ)} {A = List ℕ} (λ s. s.now) result left (parts_at k bytes)
      → IfSome result (λ s. k * (length s.now / k) ≡ length s.now)
  whole_parts None left bytes e = tt
  whole_parts (Some s) left bytes e = (parts_some bytes s.now left e).1
