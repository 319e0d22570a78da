-- What one pair of a level adds to the level above and to the repeats.
use Rattle.std.specs.Prelude.{◌≡◌, ℕ, ◌+◌, ◌*◌, Bool, true, false, List, ◌∷◌, ◌++◌, length, map, take, drop}
use Rattle.sha2.specs.Sha256.{sha256}
use Rattle.uo_digest.specs.declared.digest.Digest.{Digest}
use Rattle.block_codec.specs.Merkle.{paired, repeats_from}

-- this stands first in the list
abbrev pub HasFirst : {X : Type 0} → X → List X → Type 0
HasFirst {X = X} x xs = (others : List X) × (xs ≡ x ∷ others)

-- the hashes over pairs
abbrev pub hashes_over : List (Digest × Digest) → List Digest
hashes_over pairs = map (λ (pair : Digest × Digest). record { 0 = sha256 (sha256 (pair.0.0 ++ pair.1.0)) }) pairs

-- the hashes over the first i pairs of a level stand at the front of the list, and what is left of the level behind these pairs
pub record IsLifted (start now : List Digest) (i : ℕ) : Type 0 where
  pub len : length now ≡ length start
  pub above : paired start ≡ take i now ++ paired (drop (2 * i) now)

-- this hash stands above the first pair of what is left of a level
abbrev pub IsAbove : Digest → List Digest → Type 0
IsAbove hash left = paired left ≡ hash ∷ paired (drop 2 left)

-- whether the first pair of what is left of a level is a repeat
abbrev pub TellsRepeat : Bool → List Digest → Type 0
TellsRepeat true left = (place : ℕ) → repeats_from place left ≡ place ∷ repeats_from (place + 2) (drop 2 left)
TellsRepeat false left = (place : ℕ) → repeats_from place left ≡ repeats_from (place + 2) (drop 2 left)
