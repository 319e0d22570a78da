use Rattle.cache_update.proofs.Changed.{joins_slots}
use Rattle.forest_roots.proofs.Additions.{is_with_leaf}
use Rattle.compact_node.proofs.grow.add.Goals as goal

pub after_add-requires-clause-slots : goal.after_add-requires-clause-slots
after_add-requires-clause-slots g c = joins_slots g.D.Digester.digest_of c.args.roots.now c.args.digest _ _ c.leaves-n.ensures.is
    c.add_into.ensures.joins

pub returns-clause-roots : goal.returns-clause-roots
returns-clause-roots g c = is_with_leaf _ _ _ _ c.leaves-n.ensures.stump c.leaves-after.ensures.stump c.add_into.ensures.roots
