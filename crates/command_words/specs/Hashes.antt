-- Hashes among the words of the command line.
use Rattle.std.specs.Prelude.{ℕ, ◌&&◌, ◌||◌, ◌==◌, nat_le, Bool, List, length}
use Rattle.std.specs.List.{list_all}

-- a character that is a decimal digit or one of the letters a to f
abbrev pub is_lower_digit : ℕ → Bool
is_lower_digit code = (nat_le 48 code && nat_le code 57) || (nat_le 97 code && nat_le code 102)

-- a block hash as it is printed: 64 hexadecimal digits, of which those beyond 9 are lower case letters
abbrev pub is_hash_word : List ℕ → Bool
is_hash_word word = length word == 64 && list_all is_lower_digit word
