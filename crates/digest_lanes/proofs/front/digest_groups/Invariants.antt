use Rattle.std.proofs.Common.{ℕ, ◌-◌, ◌<◌, List, ◌++◌, length}
use Rattle.sha2.specs.Sha512.{sha512_256}
use Rattle.digest_lanes.specs.Groups.{HasLength, block_lengths}
use Rattle.digest_lanes.specs.Midstate.{IsMidstate}
use Rattle.digest_lanes.specs.Texts.{IsGivenAt, KeepsGiven, text_at}
use Rattle.digest_lanes.proofs.front.digest_groups.Given as goal

abbrev pub invariant-groups : goal.invariant-groups
invariant-groups g l = (before : List ℕ) → IsMidstate l.fn.start before
    → KeepsGiven (λ text v. g.T.From.from_gives (sha512_256 (before ++ text)) v) l.texts l.initial.out l.out
    × ((i : ℕ) → i < l.from → HasLength (block_lengths 128 16 l.blocks) (text_at l.texts i)
    → IsGivenAt (λ text v. g.T.From.from_gives (sha512_256 (before ++ text)) v) l.texts l.out i)

abbrev pub decreases-groups : goal.decreases-groups
decreases-groups g l = length l.texts - l.from
