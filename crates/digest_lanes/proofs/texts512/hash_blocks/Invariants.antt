use Rattle.std.proofs.Common.{◌≡◌, ℕ, ◌<◌, [], ◌∷◌, slice_index_or}
use Rattle.sha2.specs.Sha512.{hash_after}
use Rattle.digest_lanes.specs.Lanes.{lane}
use Rattle.digest_lanes.proofs.texts512.hash_blocks.Given as goal

abbrev pub invariant-each : goal.invariant-each
invariant-each l = (j : ℕ) → j < 4 → lane j l.state ≡ hash_after (lane j l.fn.start) (slice_index_or (l.a ∷ l.b ∷ l.c ∷ l.d ∷ []) j []) l.k
