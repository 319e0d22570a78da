-- The things in a text, and the first of them.
use Rattle.std.proofs.Common.{◌≡◌, ℕ, zero, suc, List, [], ◌∷◌, Option, Some, None, ap, refl}
use Rattle.std.specs.Prelude.{option_map, length, IsSome}
use Rattle.std.specs.Option.{option_map_or}
use Rattle.uo_base.specs.Reading.{◌>>=◌, times, things, HasThings}
use Rattle.uo_base.proofs.Walks.{length-things}

nothing_first : {A : Type 0} (x : A) (later : List A) → [] ≡ x ∷ later → ⊥
nothing_first x later e = absurd cc

-- a thing, and what is left behind it
abbrev Read : Type 0 → Type 0
Read X = X × List ℕ

first_some : {A : Type 0} (p : Read A) (others : Option (Read (List A))) (x : A) (later : List A)
    → option_map_or (λ (q : Read (List A)). q.0) (others >>= λ (o : Read (List A)). Some (p.0 ∷ o.0, o.1)) [] ≡ x ∷ later → p.0 ≡ x
first_some p None x later e = absurd (nothing_first x later e)
first_some p (Some o) x later e = cc

first_read : {A : Type 0} (found : Option (Read A)) (others : Read A → Option (Read (List A))) (x : A) (later : List A)
    → option_map_or (λ (q : Read (List A)). q.0) (found >>= λ (p : Read A). others p >>= λ (o : Read (List A)). Some (p.0 ∷ o.0, o.1)) [] ≡ x ∷ later
    → option_map (λ (p : Read A). p.0) found ≡ Some x
first_read None others x later e = absurd (nothing_first x later e)
first_read (Some p) others x later e = ap Some (first_some p (others p) x later e)

-- as many as there are can be read
some_read : {A : Type 0} (r : Option (Read (List A))) → IsSome r → (behind : List ℕ) × (r ≡ Some (option_map_or (λ (q : Read (List A)). q.0) r [], behind))
some_read None h = absurd cc
some_read (Some p) h = (p.1, refl)

pub all_read : {A : Type 0} (at : List ℕ → Option (Read A)) (n : ℕ) (bytes : List ℕ) → HasThings at n bytes
    → (behind : List ℕ) × (times at (length (things at n bytes)) bytes ≡ Some (things at n bytes, behind))
all_read at n bytes h = rw (length-things at n bytes h) (some_read (times at n bytes) h.has)

-- it is what is read in front
pub first_thing : {A : Type 0} (at : List ℕ → Option (Read A)) (n : ℕ) (bytes : List ℕ) (x : A) (later : List A) → things at n bytes ≡ x ∷ later
    → option_map (λ (p : Read A). p.0) (at bytes) ≡ Some x
unfolding times
first_thing at zero bytes x later e = absurd (nothing_first x later e)
first_thing at (suc n) bytes x later e = first_read (at bytes) (λ p. times at n p.1) x later e
