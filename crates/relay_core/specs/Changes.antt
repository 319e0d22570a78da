-- What an outcome tells of the bridge and of the followers.
use Rattle.std.specs.Prelude.{◌≡◌, ℕ, Bool, true, false, List, Some}
use Rattle.uo_digest.specs.declared.digest.Digest.{Digest}
use Rattle.node_rules.specs.Machine.{is_made}
use Rattle.relay_core.specs.declared.act.Outcome.{Outcome}
use Rattle.relay_core.specs.declared.act.Outcome.TheVariants.{Judged, Asked, Replied, Moved, Stale, Unknown}
use Rattle.relay_core.specs.Acts.{WorldAct}
use Rattle.relay_core.specs.World.{WorldState, next_world, outcome_on}

-- the bridge accepted a block or went back
abbrev pub moves_bridge : Outcome → Bool
moves_bridge (Judged verdict) = is_made (Some verdict)
moves_bridge (Asked ask) = false
moves_bridge (Replied reply kind) = false
moves_bridge (Moved serial) = false
moves_bridge Stale = false
moves_bridge Unknown = false

-- the node of a follower took a reply
abbrev pub moves_node : Outcome → Bool
moves_node (Judged verdict) = false
moves_node (Asked ask) = false
moves_node (Replied reply kind) = false
moves_node (Moved serial) = true
moves_node Stale = false
moves_node Unknown = false

-- behind an outcome that tells no such change, the bridge, and each follower, is as it was
pub record ChangesAsTold (o : Outcome) (w w' : WorldState) : Type 0 where
  pub bridge : moves_bridge o ≡ false → w'.bridge ≡ w.bridge
  pub followers : moves_node o ≡ false → w'.followers ≡ w.followers

abbrev pub OutcomesTellChanges : Type 0
OutcomesTellChanges = (H : List ℕ → Digest) (w : WorldState) (act : WorldAct)
    → ChangesAsTold (outcome_on w act) w (next_world H w act)
