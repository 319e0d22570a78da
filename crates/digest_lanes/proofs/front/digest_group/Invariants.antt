use Rattle.std.proofs.Common.{ℕ, ◌<◌, List, ◌++◌, slice_index}
use Rattle.sha2.specs.Sha512.{sha512_256}
use Rattle.digest_lanes.specs.Midstate.{IsMidstate}
use Rattle.digest_lanes.specs.Texts.{IsGivenAt, KeepsGiven}
use Rattle.digest_lanes.proofs.front.digest_group.Given as goal

abbrev pub invariant-each : goal.invariant-each
invariant-each g l = (before : List ℕ) → IsMidstate l.fn.start before
    → KeepsGiven (λ text v. g.T.From.from_gives (sha512_256 (before ++ text)) v) l.texts l.initial.out l.out
    × ((m : ℕ) → m < l.k → IsGivenAt (λ text v. g.T.From.from_gives (sha512_256 (before ++ text)) v) l.texts l.out (slice_index l.group m))
