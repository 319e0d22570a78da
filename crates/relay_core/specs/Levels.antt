-- The levels of followers, whatever the digest function.
use Rattle.std.specs.Prelude.{ℕ, List, ◌∷◌}
use Rattle.std.specs.List.{AllByRecursion, AllZip}
use Rattle.uo_digest.specs.declared.digest.Digest.{Digest}
use Rattle.compact_node.specs.Node.{LevelStands}
use Rattle.relay_core.specs.Acts.{WorldAct}
use Rattle.relay_core.specs.World.{FollowerState, WorldState}
use Rattle.relay_core.specs.Branches.{Digests, Begun, begun_rules, begun_world, branch, level_after_all, StandsForActs}

-- a follower has a serial for each of its levels, and each level stands for all outputs of the proving node after the branch of its serial
abbrev pub HasLevelsOf : (List ℕ → Digest) → Begun → List WorldAct → FollowerState → Type 0
HasLevelsOf H begun acts x =
    AllZip (λ s l. LevelStands H x.node.scripts (level_after_all (begun_rules begun) (branch H (begun_world begun) acts s)) l) x.serials
    (x.node.newest ∷ x.node.older)

abbrev pub SerialsAreOfLevels : Type 0
SerialsAreOfLevels = (H : List ℕ → Digest) → Digests H → (begun : Begun) (acts : List WorldAct) (w : WorldState) →
    StandsForActs H begun acts w → AllByRecursion (HasLevelsOf H begun acts) w.followers
