use Rattle.forest_roots.proofs.Packing.{packed_is}
use Rattle.forest_roots.proofs.roots.Roots.pack.Goals as goal

pub returns : goal.returns
returns g c = packed_is c.args.self.now c.self.inside.count c.rows_of-rows.result c.self.inside.slots _ c.self.view_is c.self.invariant
    c.rows_of-rows.ensures.few c.rows_of-rows.ensures.above c.in_ok-from_slice.ensures.items
