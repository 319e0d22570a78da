use Rattle.std.proofs.Common.{◌≡◌, ◌+◌, ◌-◌, ◌∙◌, subst, sym, arith}
use Rattle.std.proofs.lemmas.List.{length-set}
use Rattle.live_forest.specs.Lookups.{AreNodes}
use Rattle.live_forest.proofs.Walking.{fewer_told, one_told}
use Rattle.live_forest.specs.Parts.{entries_in}
use Rattle.live_forest.proofs.walk.nodes_of.Goals as goal

pub node_by-node-requires-clause-told : goal.node_by-node-requires-clause-told
node_by-node-requires-clause-told c =
    subst (λ nodes. AreNodes (entries_in c.args.n c.args.store.now) c.args.places.now nodes c.back_to_parent-at.result) (sym c.deref.ensures.value)
    (fewer_told (entries_in c.args.n c.args.store.now) c.args.places.now c.loop-left.nodes.items c.loop-left.left c.back_to_parent-at.result
    c.back_to_parent-at.ensures.low c.loop-left.invariant.told)

pub loop-left-preserved : goal.loop-left-preserved
loop-left-preserved c =
    let e : c.loop-left.left ≡ c.loop-left.left - 1 + 1 = omega (arith, c.loop-left-test.true) in
    record {
      low = omega (arith, c.back_to_parent-at.ensures.low);
      high = omega (arith, c.back_to_parent-at.ensures.within, c.loop-left.invariant.high);
      each = length-set c.loop-left.nodes.items (c.loop-left.left - 1) c.node_by-node.result ∙ c.loop-left.invariant.each;
      told = one_told (entries_in c.args.n c.args.store.now) c.args.places.now c.loop-left.nodes.items (c.loop-left.left - 1) c.node_by-node.result _
          (omega (arith, c.loop-left-test.true, c.loop-left.invariant.low, c.loop-left.invariant.high)) c.loop-left.invariant.each
          c.node_by-node.ensures
          (subst (AreNodes (entries_in c.args.n c.args.store.now) c.args.places.now c.loop-left.nodes.items) e c.loop-left.invariant.told);
    }

pub returns-clause-are : goal.returns-clause-are
returns-clause-are c = fewer_told (entries_in c.args.n c.args.store.now) c.args.places.now c.loop-left.nodes.items c.loop-left.left 0
    c.loop-left-test.false
    c.loop-left.invariant.told
