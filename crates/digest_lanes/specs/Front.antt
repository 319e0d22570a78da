-- What a front has taken in.
use Rattle.std.specs.Prelude.{ℕ, List, MatchOption, ⊤}
use Rattle.sha2.specs.Hashers.{Holds512_256}
use Rattle.digest_lanes.specs.Midstate.{IsMidstate}
use Rattle.digest_lanes.specs.declared.front.Front.{Front}

-- it has taken in this text
abbrev pub Holds : Front → List ℕ → Type 0
Holds front text = Holds512_256 front.hasher text × MatchOption front.midstate ⊤ (λ s. IsMidstate s text)
