-- A set of numbers below 256, which is the bits of four words.
use Rattle.std.specs.Prelude.{ℕ, suc, ◌/◌, ◌%◌, Bool, true, false, List, [], ◌∷◌, map, get_or}
use Rattle.std.specs.List.{range_with_len}
use Rattle.uo_base.specs.Bits.{is_bit}

abbrev pub is_in : List ℕ → ℕ → Bool
is_in words i = is_bit (get_or words (i / 64) 0) (i % 64)

-- of each number whether it is in the set
abbrev pub flags_of : List ℕ → List Bool
flags_of words = map (is_in words) (range_with_len 0 256)

-- how many are in it
abbrev pub count : List Bool → ℕ
count [] = 0
count (true ∷ flags) = suc (count flags)
count (false ∷ flags) = count flags
