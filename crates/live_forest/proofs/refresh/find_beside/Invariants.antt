use Rattle.std.proofs.Common.{◌≡◌, ℕ, ◌-◌, ◌/◌, ◌^◌, ◌<◌, length, get_or, None}
use Rattle.std.specs.Prelude.{map, option_copied}
use Rattle.forest_place.specs.Forest.{InForest, sibling_off}
use Rattle.live_forest.specs.Parts.{leaves_of, part_digest}
use Rattle.live_forest.proofs.refresh.find_beside.Given as goal

abbrev pub invariant-rows : goal.invariant-rows
invariant-rows g l = record {
  small : l.row < 40;
  within : InForest l.n l.row (l.number / 2 ^ l.row);
  forty : length l.beside ≡ 40;
  is : (r : ℕ) → r < l.row → get_or (map option_copied l.beside) r None
      ≡ part_digest g.D.Digester.digest_of (leaves_of l.store) r (sibling_off (l.number / 2 ^ r));
}

abbrev pub decreases-rows : goal.decreases-rows
decreases-rows g l = 40 - l.row
