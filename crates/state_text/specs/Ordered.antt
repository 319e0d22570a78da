-- What the code asks, one thing after another.
use Rattle.std.specs.Prelude.{◌≡◌, ℕ, ◌≤◌, List, [], ◌∷◌, map, length}
use Rattle.std.specs.List.{AllByRecursion}
use Rattle.std.specs.declared.cmp.Ordering.TheVariants.{Less}
use Rattle.std.specs.Ordering.{nat_cmp}
use Rattle.std.specs.Cmp.Lexicographic.{slice_cmp}
use Rattle.uo_digest.specs.declared.digest.Digest.{Digest}
use Rattle.leaf_cache.specs.Watched.{IsScript}
use Rattle.forest_place.specs.declared.naming.Naming.TheVariants.{FixedPosition}
use Rattle.state_text.specs.Stored.{LevelValue, level_text}
use Rattle.state_text.specs.Fits.{IsStoredLevel}
use Rattle.state_text.specs.Cached.{CachedLevel, level_in, IsFilled}

-- each comes before the next one, by bytes
abbrev pub ScriptsRise : List (List ℕ) → Type 0
ScriptsRise [] = Unit {0}
ScriptsRise (x ∷ []) = Unit {0}
ScriptsRise (x ∷ y ∷ more) = (slice_cmp nat_cmp x y ≡ Less) × ScriptsRise (y ∷ more)

-- at most 10,000, of which each may be watched and comes before the next one
pub record AreScripts (scripts : List (List ℕ)) : Type 0 where
  pub few : length scripts ≤ 10000
  pub each : AllByRecursion IsScript scripts
  pub rise : ScriptsRise scripts

-- the text that is written of a level as a node keeps it
abbrev pub kept_text : CachedLevel → List ℕ
kept_text l = level_text FixedPosition (level_in l)

-- what was made of a level that was read
pub record IsMadeLevel (H : List ℕ → Digest) (scripts : List (List ℕ)) (l : LevelValue) (made : CachedLevel) : Type 0 where
  pub sound : IsStoredLevel H scripts l
  pub same : level_in made ≡ l
  pub filled : IsFilled H made

pub record AreMadeLevels (H : List ℕ → Digest) (scripts : List (List ℕ)) (ls : List LevelValue) (made : List CachedLevel) : Type 0 where
  pub sound : AllByRecursion (IsStoredLevel H scripts) ls
  pub same : map level_in made ≡ ls
  pub filled : AllByRecursion (IsFilled H) made
