-- What has been taken in of a text that goes on.
use Rattle.std.specs.Prelude.{◌≡◌, ℕ, ◌+◌, ◌/◌, ◌%◌, List, ◌++◌, length}
use Rattle.sha2.specs.Sha512.{hash_after, initial_hash_512_256, padding}
use Rattle.digest_lanes.specs.declared.midstate.Midstate.{Midstate}

-- whole blocks, and the hash value behind them
abbrev pub IsMidstate : Midstate → List ℕ → Type 0
IsMidstate s text = (length text % 128 ≡ 0) × (s.taken ≡ length text) × (s.state ≡ hash_after initial_hash_512_256 text (length text / 128))

-- a text that goes on behind so many bytes, with its padding
unfoldable pub padded_behind : ℕ → List ℕ → List ℕ
padded_behind taken text = text ++ padding (taken + length text)
