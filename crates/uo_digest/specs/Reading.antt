-- Reading a digest from the front of a text, and digests that lie one behind the other.
use Rattle.std.specs.Prelude.{◌≡◌, ℕ, ◌/◌, List, length, Option, Some}
use Rattle.uo_base.specs.Reading.{◌>>=◌, bytes_at, things}
use Rattle.uo_digest.specs.declared.digest.Digest.{Digest}

-- it has 32 bytes
abbrev pub IsDigest : Digest → Type 0
IsDigest d = length d.0 ≡ 32

-- its bytes
abbrev pub digest_text : Digest → List ℕ
digest_text d = d.0

unfoldable pub digest_in_front : List ℕ → Option (Digest × List ℕ)
digest_in_front bytes = do
  front ← bytes_at 32 bytes
  Some (record { 0 = front.0 }, front.1)

-- the digests that a text is made of
abbrev pub digests_in : List ℕ → List Digest
digests_in bytes = things digest_in_front (length bytes / 32) bytes
