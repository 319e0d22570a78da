use Rattle.std.proofs.Common.{◌-◌}
use Rattle.live_forest.proofs.Ascending.{IsAscent}
use Rattle.live_forest.specs.Parts.{entries_in}
use Rattle.live_forest.proofs.seek.place_from.Given as goal

abbrev pub invariant-ascent : goal.invariant-ascent
invariant-ascent l = IsAscent (entries_in l.n l.store) l.store l.fn.place l.ascent.part.row l.ascent.part.off l.ascent.rows l.ascent.width
    l.ascent.left

abbrev pub decreases-ascent : goal.decreases-ascent
decreases-ascent l = 40 - l.ascent.part.row
