use Rattle.std.proofs.Common.{ℕ, ◌-◌, ◌<◌, length}
use Rattle.sha2.specs.Sha256.{sha256}
use Rattle.digest_lanes.specs.Groups.{HasLength, block_lengths}
use Rattle.digest_lanes.specs.Texts.{IsGivenAt, KeepsGiven, text_at}
use Rattle.digest_lanes.proofs.doubles.digest_groups.Given as goal

abbrev pub invariant-groups : goal.invariant-groups
invariant-groups g l = KeepsGiven (λ text v. g.T.From.from_gives (sha256 (sha256 text)) v) l.texts l.initial.out l.out
    × ((i : ℕ) → i < l.from → HasLength (block_lengths 64 8 l.blocks) (text_at l.texts i)
    → IsGivenAt (λ text v. g.T.From.from_gives (sha256 (sha256 text)) v) l.texts l.out i)

abbrev pub decreases-groups : goal.decreases-groups
decreases-groups g l = length l.texts - l.from
