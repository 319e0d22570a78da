-- Texts that stand one behind the other.
use Rattle.std.specs.Prelude.{ℕ, List, [], ◌∷◌, take, drop}

-- the parts of a text, from its front on, that have these lengths
abbrev pub parts_of : List ℕ → List ℕ → List (List ℕ)
parts_of [] text = []
parts_of (n ∷ ns) text = take n text ∷ parts_of ns (drop n text)
