-- Digests that are made one after the other, each in the place of an entry.
use Rattle.std.specs.Prelude.{◌≡◌, ℕ, List, ◌++◌, map, take}
use Rattle.uo_digest.specs.declared.digest.Digest.{Digest}

-- each entry before an index is what the item there gives
abbrev pub AreGiven : {X : Type 0} → (X → Digest) → List X → List Digest → ℕ → Type 0
AreGiven gives items out end = take end out ≡ map gives (take end items)

-- the digest of a pair, as one text
abbrev pub pair_digest : (List ℕ → Digest) → Digest × Digest → Digest
pair_digest H pair = H (pair.0.0 ++ pair.1.0)
