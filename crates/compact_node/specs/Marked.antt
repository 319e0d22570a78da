-- How a node keeps its older levels: by what gives back their lists over those of the level in front.
use Rattle.std.specs.Prelude.{◌≡◌, ◌≤◌, ℕ, List, [], ◌∷◌}
use Rattle.uo_digest.specs.declared.digest.Digest.{Digest}
use Rattle.forest_place.specs.declared.place.Place.{Place}
use Rattle.forest_roots.specs.Stump.{Stump}
use Rattle.cache_model.specs.declared.kept.Kept.{Kept}
use Rattle.leaf_cache.specs.Parted.{Parted}
use Rattle.cache_update.specs.declared.mark.Mark.{Mark}
use Rattle.cache_update.specs.Marks.{Fits, kept_back, held_back}
use Rattle.block_rules.specs.declared.chain.Chain.{Chain}
use Rattle.node_rules.specs.Judging.{Rules}
use Rattle.compact_node.specs.Node.{LevelState, NodeState, IsNode}

-- an older level: its chain, its roots, and the mark that gives back its lists
pub record PastState : Type 0 where
  pub chain : Chain
  pub roots : Stump
  pub mark : Mark

-- the lists that a mark gives back, in the same room
abbrev pub given_by : Mark → Parted → Parted
given_by m p = record { kept = kept_back m p.kept; held = held_back m p.held; kept_room = p.kept_room; held_room = p.held_room }

-- a level with these lists
abbrev pub level_of : PastState → List Kept → List (Place × Digest) → LevelState
level_of x ks hs = record { chain = x.chain; roots = x.roots; kept = ks; held = hs }

-- the older levels behind one with these lists
abbrev pub levels_behind : List PastState → List Kept → List (Place × Digest) → List LevelState
levels_behind [] ks hs = []
levels_behind (x ∷ xs) ks hs = level_of x (kept_back x.mark ks) (held_back x.mark hs) ∷ levels_behind xs (kept_back x.mark ks) (held_back x.mark hs)

-- each mark fits the lists that those before it give back
abbrev pub MarksFit : List PastState → Parted → Type 0
MarksFit [] p = Unit {0}
MarksFit (x ∷ xs) p = Fits x.mark p × MarksFit xs (given_by x.mark p)

-- what a node keeps: of the newest level the lists, and behind it marks
abbrev pub node_of : Rules → List (List ℕ) → Chain → Stump → Parted → List PastState → NodeState
node_of rules scripts chain roots p past = record {
  rules = rules;
  scripts = scripts;
  newest = record { chain = chain; roots = roots; kept = p.kept; held = p.held };
  older = levels_behind past p.kept p.held;
}

pub record IsMarked (rules : Rules) (scripts : List (List ℕ)) (chain : Chain) (roots : Stump) (p : Parted) (past : List PastState) : Type 0 where
  pub node : IsNode (node_of rules scripts chain roots p past)
  pub marks : MarksFit past p

-- behind a change the mark fits, and gives back what it gave back before
pub record GoesOn (m : Mark) (p : Parted) (m' : Mark) (p' : Parted) : Type 0 where
  pub fits : Fits m' p'
  pub same_kept : kept_back m' p'.kept ≡ kept_back m p.kept
  pub same_held : held_back m' p'.held ≡ held_back m p.held
  pub kept_room : p.kept_room ≤ p'.kept_room
  pub held_room : p.held_room ≤ p'.held_room
