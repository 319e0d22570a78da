use Rattle.std.proofs.Common.{◌-◌, sym, ap, ◌∙◌, arith}
use Rattle.std.proofs.lemmas.List.{drop_all}
use Rattle.compact_node.specs.Pending.{pending}
use Rattle.compact_node.proofs.Pending.{pending_more}
use Rattle.compact_node.proofs.grow.watched_in.Goals as goal

pub loop-i-init : goal.loop-i-init
loop-i-init c = record {
  within = omega (arith, c.new_count-i.ensures);
  leaves = c.new-leaves.ensures.items ∙ sym
      (ap (pending c.args.watch.now c.new_count-i.result)
      (drop_all c.new_count-i.result c.args.spends.now.new (omega (arith, c.new_count-i.ensures))));
}

pub loop-i-preserved : goal.loop-i-preserved
loop-i-preserved c = record {
  within = omega (arith, c.loop-i.invariant.within);
  leaves = pending_more c.args.watch.now c.args.spends.now.new (c.loop-i.i - 1) c.loop-i.i c.new_output.result c.loop-i.leaves.items _
      (omega (arith, c.loop-i-test.true)) c.new_output.ensures c.loop-i.invariant.leaves c.in_ok-note_watched.ensures;
}
