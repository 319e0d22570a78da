-- Each level of a follower stands for the branch of its serial.
use Rattle.std.proofs.Common.{◌≡◌, ℕ, List, [], ◌∷◌, Some, sym, subst}
use Rattle.std.specs.Prelude.{slice_get}
use Rattle.std.specs.List.{AllByRecursion, AllZip}
use Rattle.uo_digest.specs.declared.digest.Digest.{Digest}
use Rattle.node_rules.specs.Machine.{Level}
use Rattle.compact_node.specs.Node.{LevelState, LevelStands}
use Rattle.relay_core.specs.Acts.{WorldAct}
use Rattle.relay_core.specs.World.{FollowerState, world_after}
use Rattle.relay_core.specs.Branches.{Begun, begun_rules, begun_world, branch, level_after_all}
use Rattle.relay_core.specs.Levels.{HasLevelsOf, SerialsAreOfLevels}
use Rattle.relay_core.proofs.Linking.{IsLevelOf}
use Rattle.relay_core.proofs.Handing.{FollowerFits}
use Rattle.relay_core.proofs.Acting.{sound_after}

module _ (H : List ℕ → Digest) (begun : Begun) (acts : List WorldAct) (levels : List Level) (told : (s : ℕ) (l : Level)
    → slice_get levels s ≡ Some l → IsLevelOf (begun_rules begun) l (branch H (begun_world begun) acts s)) where
  each_level : (scripts : List (List ℕ)) (ss : List ℕ) (ms : List Level) (ls : List LevelState) → AllZip (λ s l. slice_get levels s ≡ Some l) ss ms
      → AllZip (LevelStands H scripts) ms ls →
      AllZip (λ s l. LevelStands H scripts (level_after_all (begun_rules begun) (branch H (begun_world begun) acts s)) l) ss ls
  each_level scripts [] [] [] a b = tt
  each_level scripts [] [] (l ∷ ls) a b = absurd b
  each_level scripts [] (m ∷ ms) ls a b = absurd a
  each_level scripts (s ∷ ss) [] ls a b = absurd a
  each_level scripts (s ∷ ss) (m ∷ ms) [] a b = absurd b
  each_level scripts (s ∷ ss) (m ∷ ms) (l ∷ ls) a b =
      (subst (λ k. LevelStands H scripts k l) (sym (told s m a.0).level) b.0, each_level scripts ss ms ls a.1 b.1)

  each_follower : (lists : List (List (List ℕ))) (xs : List FollowerState) → AllZip (FollowerFits H (begun_rules begun) levels) lists xs
      → AllByRecursion (HasLevelsOf H begun acts) xs
  each_follower [] [] z = tt
  each_follower [] (x ∷ xs) z = absurd z
  each_follower (scripts ∷ lists) [] z = absurd z
  each_follower (scripts ∷ lists) (x ∷ xs) z =
      let fits = z.0 in (
        each_level x.node.scripts x.serials (fits.state.now ∷ fits.state.older) (x.node.newest ∷ x.node.older) fits.at
            (fits.stands.newest, fits.stands.older),
        each_follower lists xs z.1,
      )

pub serials_are_of_levels : SerialsAreOfLevels
serials_are_of_levels H long begun acts w stands =
    let sound = sound_after H long begun stands.leaves stands.bytes acts stands.all in
    subst (λ v. AllByRecursion (HasLevelsOf H begun acts) v.followers) (sym stands.is)
    (each_follower H begun acts sound.levels sound.told begun.lists (world_after H (begun_world begun) acts).followers sound.followers)
