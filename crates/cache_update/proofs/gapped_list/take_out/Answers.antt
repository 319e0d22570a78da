use Rattle.std.proofs.Common.{[]}
use Rattle.cache_update.specs.GappedList.{around}
use Rattle.cache_update.proofs.Gapped.{taken_out, left_out}
use Rattle.cache_update.proofs.Outs.{out_ascends}
use Rattle.cache_update.proofs.gapped_list.take_out.Goals as goal

pub returns-then-is_behind-clause-items : goal.returns-then-is_behind-clause-items
returns-then-is_behind-clause-items c =
    taken_out (around c.args.gap.from c.args.gap.to c.args.list.now) c.go_to-here.result.from c.go_to-here.result.to _ c.args.place
    c.go_to-here.ensures.gap c.go_to-here.ensures.same c.go_to-here.ensures.split (c.args.place, record { 0 = [] })
    c.if-is_behind.ensures.there.0 (c.if-is_behind.ensures.there.1 _)

pub returns-then-is_behind-clause-ascends : goal.returns-then-is_behind-clause-ascends
returns-then-is_behind-clause-ascends c =
    out_ascends (around c.args.gap.from c.args.gap.to c.args.list.now) _ c.args.place c.requires.ascends (returns-then-is_behind-clause-items c)

pub returns-else-is_behind-clause-items : goal.returns-else-is_behind-clause-items
returns-else-is_behind-clause-items c =
    left_out (around c.args.gap.from c.args.gap.to c.args.list.now) c.go_to-here.result.from c.go_to-here.result.to _ c.args.place
    c.go_to-here.ensures.gap c.go_to-here.ensures.same c.go_to-here.ensures.split c.if-is_behind.ensures.other

pub returns-else-is_behind-clause-ascends : goal.returns-else-is_behind-clause-ascends
returns-else-is_behind-clause-ascends c =
    out_ascends (around c.args.gap.from c.args.gap.to c.args.list.now) _ c.args.place c.requires.ascends (returns-else-is_behind-clause-items c)
