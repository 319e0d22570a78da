use Rattle.std.proofs.Common.{ℕ, ◌<◌, slice_index}
use Rattle.sha2.specs.Sha256.{sha256}
use Rattle.digest_lanes.specs.Texts.{IsGivenAt, KeepsGiven}
use Rattle.digest_lanes.proofs.doubles.digest_group.Given as goal

abbrev pub invariant-each : goal.invariant-each
invariant-each g l = KeepsGiven (λ text v. g.T.From.from_gives (sha256 (sha256 text)) v) l.texts l.initial.out l.out
    × ((m : ℕ) → m < l.k → IsGivenAt (λ text v. g.T.From.from_gives (sha256 (sha256 text)) v) l.texts l.out (slice_index l.group m))
