use Rattle.std.proofs.Common.{ℕ, ◌+◌, ◌*◌, ◌<◌, List, ◌++◌, length}
use Rattle.sha2.specs.Sha512.{sha512_256}
use Rattle.digest_lanes.specs.Front.{Holds}
use Rattle.digest_lanes.specs.Midstate.{IsMidstate}
use Rattle.digest_lanes.specs.Texts.{IsGivenAt, text_at}
use Rattle.digest_lanes.proofs.front.Front.digest_all.Given as goal

abbrev pub invariant-each : goal.invariant-each
invariant-each g l = (before : List ℕ) → Holds l.fn.self before → IsMidstate l.fn.start before
    → (i : ℕ) → length (text_at l.rests i) + 144 < 128 * l.blocks
    → IsGivenAt (λ text v. g.T.From.from_gives (sha512_256 (before ++ text)) v) l.rests l.out i
