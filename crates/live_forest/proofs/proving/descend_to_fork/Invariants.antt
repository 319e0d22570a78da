use Rattle.std.proofs.Common.{◌≡◌, ℕ, ◌≤◌, List, length}
use Rattle.forest_place.specs.Forest.{InForest}
use Rattle.forest_place.specs.declared.place.Place.{Place}
use Rattle.forest_model.specs.Content.{content}
use Rattle.forest_model.specs.Deletion.{StandAt}
use Rattle.forest_model.specs.Standing.{tree_at}
use Rattle.live_forest.specs.Proving.{HasRows, AreIn, AreOfPart, IsOn}
use Rattle.live_forest.specs.Parts.{entries_in}
use Rattle.live_forest.proofs.proving.descend_to_fork.Given as goal

abbrev pub invariant-way : goal.invariant-way
invariant-way g l = record {
  within : InForest (length (entries_in l.n l.store)) l.at.row l.at.off;
  stands : tree_at (entries_in l.n l.store) l.above.row l.above.off ≡ content (entries_in l.n l.store) l.at.row l.at.off;
  there : InForest (length (entries_in l.n l.store)) l.above.row l.above.off;
  beneath : l.at.row ≤ l.fn.part.row;
  inside : AreIn (entries_in l.n l.store) l.at.row l.at.off l.numbers;
  wide : HasRows (length (entries_in l.n l.store)) l.rows.items;
  on : (ts : List Place) (all : List ℕ) → StandAt (entries_in l.n l.store) ts all
      → AreOfPart (entries_in l.n l.store) ts all l.fn.part l.fn.place l.numbers
      → IsOn g.D.Digester.digest_of (entries_in l.n l.store) ts all l.fn.place l.at l.above l.numbers l.initial.rows.items l.rows.items;
}

abbrev pub decreases-way : goal.decreases-way
decreases-way g l = l.at.row
