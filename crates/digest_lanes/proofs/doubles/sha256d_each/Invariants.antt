use Rattle.std.proofs.Common.{ℕ, ◌+◌, ◌*◌, ◌<◌, length}
use Rattle.sha2.specs.Sha256.{sha256}
use Rattle.digest_lanes.specs.Texts.{IsGivenAt, text_at}
use Rattle.digest_lanes.proofs.doubles.sha256d_each.Given as goal

abbrev pub invariant-each : goal.invariant-each
invariant-each g l = (i : ℕ) → length (text_at l.texts i) + 72 < 64 * l.blocks
    → IsGivenAt (λ text v. g.T.From.from_gives (sha256 (sha256 text)) v) l.texts l.out i
