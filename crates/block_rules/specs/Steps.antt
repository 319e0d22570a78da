-- Steps of a verdict, each of which may refuse, and the first that does.
use Rattle.std.specs.Prelude.{ℕ, suc, Bool, true, false, List, [], ◌∷◌, Option, Some, None}
use Rattle.std.specs.Option.{option_or}

-- a test, and what is said where it fails
abbrev pub unless : {X : Type 0} → Bool → X → Option X
unless true why = None
unless false why = Some why

-- the first that is something
abbrev pub first_of : {X : Type 0} → List (Option X) → Option X
first_of [] = None
first_of (step ∷ steps) = option_or step (first_of steps)

-- the first answer over the elements of a list, which are numbered from k on
abbrev pub first_from : {X Y : Type 0} → ℕ → (ℕ → X → Option Y) → List X → Option Y
first_from k f [] = None
first_from k f (x ∷ xs) = option_or (f k x) (first_from (suc k) f xs)
