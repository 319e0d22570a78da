use Rattle.std.proofs.Common.{◌-◌, ◌++◌, ap, arith}
use Rattle.cache_model.specs.Climbed.{beside_way}
use Rattle.leaf_cache.proofs.Ways.{way_on, way_ends, way_top}
use Rattle.leaf_cache.proofs.proof.beside_way.Goals as goal

pub loop-place-init : goal.loop-place-init
loop-place-init c = ap (λ xs. xs ++ beside_way (40 - c.args.from.row) c.args.held.now c.args.from.row c.args.from.off) c.new-proof.ensures.items

pub returns-in_default : goal.returns-in_default
returns-in_default c = way_ends c.args.held.now _ _ _ _ c.loop-place.invariant c.sibling.result c.digest_in.result c.loop-place-test.true
    c.sibling.ensures.row c.sibling.ensures.off c.digest_in.ensures c.in_default.is

pub loop-place-preserved : goal.loop-place-preserved
loop-place-preserved c = rw (c.parent-place.ensures.row, c.parent-place.ensures.off) (way_on c.args.held.now _ _ _ _ c.loop-place.invariant c.sibling.result c.in-Some.digest c.digest_in.result _
    c.loop-place-test.true c.sibling.ensures.row c.sibling.ensures.off c.digest_in.ensures c.in-Some.is c.in_ok-push.ensures.items)

pub returns : goal.returns
returns c = way_top c.args.held.now _ _ _ _ c.loop-place.invariant (omega (arith, c.loop-place-test.false))
