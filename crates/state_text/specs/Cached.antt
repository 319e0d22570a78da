-- Levels as a node keeps them, with the lists of a cache in place of the hashes that are stored.
use Rattle.std.specs.Prelude.{◌≡◌, ℕ, ◌<◌, ◌^◌, List, ◌∷◌, map, filter_map, length}
use Rattle.std.specs.List.{AllByRecursion, AllZip}
use Rattle.uo_base.specs.declared.event.Net.{Net}
use Rattle.uo_digest.specs.declared.digest.Digest.{Digest}
use Rattle.leaf_record.specs.Leaf.{leaf_text}
use Rattle.forest_place.specs.declared.place.Place.{Place}
use Rattle.forest_model.specs.Cover.{need}
use Rattle.forest_model.specs.Right.{entries}
use Rattle.forest_roots.specs.Stump.{Stump, IsStump, StandsFor}
use Rattle.cache_model.specs.declared.kept.Kept.{Kept}
use Rattle.cache_model.specs.Cache.{look}
use Rattle.cache_model.specs.Lists.{IsCacheOf}
use Rattle.node_rules.specs.Machine.{Level, State}
use Rattle.state_text.specs.declared.entry.StoredEntry.{StoredEntry}
use Rattle.state_text.specs.Stored.{LevelValue, StateValue, places_of}
use Rattle.state_text.specs.Told.{level_tells, told_list}
use Rattle.state_text.specs.OfHistory.{level_of, state_of}

-- a chain's newest block, the roots of its entries, those of them that are kept, and the digests that are held for these
pub record CachedLevel : Type 0 where
  pub tip : Digest
  pub roots : Stump
  pub kept : List Kept
  pub held : List (Place × Digest)

pub record CachedState : Type 0 where
  pub net : Net
  pub blocks : ℕ
  pub scripts : List (List ℕ)
  pub levels : List CachedLevel

abbrev pub entry_of : Kept → StoredEntry
entry_of k = record { number = k.number; place = k.place; leaf = k.leaf }

-- what is stored of it: the hashes are the digests that are held at the places that a proof of the kept entries needs
abbrev pub level_in : CachedLevel → LevelValue
level_in l = record {
  tip = l.tip;
  roots = l.roots;
  kept = map entry_of l.kept;
  hashes = filter_map (λ p. look l.held p.row p.off) (need l.roots.leaves (places_of (map entry_of l.kept)));
}

abbrev pub state_in : CachedState → StateValue
state_in s = record { net = s.net; blocks = s.blocks; scripts = s.scripts; levels = map level_in s.levels }

-- what is cached is what the stored level tells
pub record IsFilled (H : List ℕ → Digest) (l : CachedLevel) : Type 0 where
  pub digests : map (λ k. k.digest) l.kept ≡ map (λ k. H (leaf_text k.leaf)) l.kept
  pub held : l.held ≡ told_list l.roots.leaves (level_tells H (level_in l))

-- ---- laws

-- so two that tell the same are the same
abbrev pub OneFilling : Type 0
OneFilling = (H : List ℕ → Digest) (l m : CachedLevel) → IsFilled H l → IsFilled H m → level_in l ≡ level_in m → l ≡ m

-- the level stands for that of a node that holds every output: the same tip, its roots, and what its cache has
pub record StandsForLevel (H : List ℕ → Digest) (scripts : List (List ℕ)) (c : CachedLevel) (l : Level) : Type 0 where
  pub tip : c.tip ≡ l.tip
  pub roots : StandsFor H (entries H leaf_text l.history) c.roots
  pub cache : IsCacheOf H scripts l.history c.kept c.held

-- what stands for a level is stored as that level is, and has what it tells
abbrev pub StandingIsStored : Type 0
StandingIsStored = (H : List ℕ → Digest) (scripts : List (List ℕ)) (c : CachedLevel) (l : Level) → IsStump c.roots →
    StandsForLevel H scripts c l → (level_in c ≡ level_of H scripts l) × IsFilled H c

-- what is read of the state of a node that holds every output stands for it, level by level
abbrev pub StoredIsStanding : Type 0
StoredIsStanding = (H : List ℕ → Digest) (net : Net) (scripts : List (List ℕ)) (s : State) (c : CachedState)
    → AllByRecursion (λ l. length l.history < 2 ^ 40) (s.now ∷ s.older) →
    state_in c ≡ state_of H net scripts s → AllByRecursion (IsFilled H) c.levels → AllZip (StandsForLevel H scripts) c.levels (s.now ∷ s.older)
