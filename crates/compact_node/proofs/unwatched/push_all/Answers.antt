use Rattle.std.proofs.Common.{arith, ◌∙◌}
use Rattle.std.proofs.lemmas.Nat.{ones-le}
use Rattle.compact_node.proofs.Taking.{appended_some, appended_count, appended_all}
use Rattle.compact_node.proofs.unwatched.push_all.Goals as goal

pub push_some-from-requires-clause-few : goal.push_some-from-requires-clause-few
push_some-from-requires-clause-few g c =
    let counted = appended_count g.D.Digester.digest_of c.args.roots.now c.args.spends.now.new c.loop-from.from c.loop-from.roots
    c.loop-from.invariant.within c.loop-from.invariant.are in
    omega (arith, counted, c.requires.few)

pub loop-from-preserved : goal.loop-from-preserved
loop-from-preserved g c = record {
  within = c.push_some-from.ensures.within;
  room = c.push_some-from.ensures.room ∙ c.loop-from.invariant.room;
  are = appended_some g.D.Digester.digest_of c.args.roots.now c.args.spends.now.new c.loop-from.from c.push_some-from.result c.loop-from.roots _
      c.push_some-from.ensures.more c.loop-from.invariant.are c.push_some-from.ensures.roots;
  few = omega (arith, c.loop-from.invariant.few, c.push_some-from.ensures.steps);
}

pub returns-clause-roots : goal.returns-clause-roots
returns-clause-roots g c =
    appended_all g.D.Digester.digest_of c.args.roots.now c.args.spends.now.new c.loop-from.from c.loop-from.roots
    (omega (arith, c.new_count.ensures, c.loop-from-test.false)) c.loop-from.invariant.are

pub returns-clause-steps : goal.returns-clause-steps
returns-clause-steps g c =
    omega (arith, c.loop-from.invariant.few, c.loop-from.invariant.within, ones-le 40 c.args.roots.now.leaves c.leaves-count.ensures.stump.few)
