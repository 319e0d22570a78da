use Rattle.std.proofs.Common.{ℕ, ◌≤◌, ◌<◌}
use Rattle.sha2.specs.Sha256.{sha256}
use Rattle.digest_lanes.specs.Groups.{HasLength}
use Rattle.digest_lanes.specs.Texts.{IsGivenAt, KeepsGiven, text_at}
use Rattle.digest_lanes.proofs.doubles.digest_alone.Given as goal

abbrev pub invariant-each : goal.invariant-each
invariant-each g l = KeepsGiven (λ text v. g.T.From.from_gives (sha256 (sha256 text)) v) l.texts l.initial.out l.out
    × ((i : ℕ) → l.fn.from ≤ i → i < l.i → HasLength l.lengths (text_at l.texts i)
    → IsGivenAt (λ text v. g.T.From.from_gives (sha256 (sha256 text)) v) l.texts l.out i)
