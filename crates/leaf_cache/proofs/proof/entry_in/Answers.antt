use Rattle.std.proofs.Common.{arith}
use Rattle.leaf_cache.proofs.Ways.{entry_end, entry_there, entry_other}
use Rattle.leaf_cache.proofs.proof.entry_in.Goals as goal

pub returns-then-i-kept : goal.returns-then-i-kept
returns-then-i-kept c = entry_end c.args.kept.now c.args.number c.index_of_number-i.result c.index_of_number-i.ensures (omega arith)

pub returns-then-kept-i : goal.returns-then-kept-i
returns-then-kept-i c = entry_there c.args.kept.now c.args.number c.index_of_number-i.result c.index_of_number-i.ensures c.index-kept-i.result
    c.index-kept-i-then-kept-i.result c.index-kept-i-then-kept-i.is (omega arith) c.if-kept-i.true

pub returns-else-kept-i : goal.returns-else-kept-i
returns-else-kept-i c = entry_other c.args.kept.now c.args.number c.index_of_number-i.result c.index_of_number-i.ensures c.index-kept-i.result
    c.requires (omega arith) c.if-kept-i.false
