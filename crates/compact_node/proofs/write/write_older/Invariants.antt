use Rattle.std.proofs.Common.{◌≤◌}
use Rattle.compact_node.proofs.Writing.{IsWriting}
use Rattle.compact_node.proofs.write.write_older.Given as goal

abbrev pub invariant-loop-i : goal.invariant-loop-i
invariant-loop-i g l = record {
  written : IsWriting l.older l.fn.parts.kept l.fn.parts.held (g.W.Sink.held l.fn.sink) l.i l.parts.kept l.parts.held (g.W.Sink.held l.sink);
  later : g.W.Sink.faults l.fn.sink ≤ g.W.Sink.faults l.sink;
}
