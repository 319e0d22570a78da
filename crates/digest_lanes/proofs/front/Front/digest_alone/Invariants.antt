use Rattle.std.proofs.Common.{ℕ, ◌≤◌, ◌<◌, List, ◌++◌}
use Rattle.sha2.specs.Sha512.{sha512_256}
use Rattle.digest_lanes.specs.Front.{Holds}
use Rattle.digest_lanes.specs.Groups.{HasLength}
use Rattle.digest_lanes.specs.Texts.{IsGivenAt, KeepsGiven, text_at}
use Rattle.digest_lanes.proofs.front.Front.digest_alone.Given as goal

abbrev pub invariant-each : goal.invariant-each
invariant-each g l = (before : List ℕ) → Holds l.fn.self before
    → KeepsGiven (λ text v. g.T.From.from_gives (sha512_256 (before ++ text)) v) l.rests l.initial.out l.out
    × ((i : ℕ) → l.fn.from ≤ i → i < l.i → HasLength l.lengths (text_at l.rests i)
    → IsGivenAt (λ text v. g.T.From.from_gives (sha512_256 (before ++ text)) v) l.rests l.out i)
