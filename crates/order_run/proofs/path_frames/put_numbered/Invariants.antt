use Rattle.std.proofs.Common.{◌≡◌, ◌≤◌, [], take}
use Rattle.std.specs.Io.KnownBytes.{Appends}
use Rattle.order_run.specs.Frames.{numbered_text}
use Rattle.order_run.proofs.path_frames.put_numbered.Given as goal

abbrev pub invariant-loop-number : goal.invariant-loop-number
invariant-loop-number g l = record {
  written : Appends (g.O.Sink.held l.fn.out) (g.O.Sink.held l.out) (numbered_text l.fn.net l.arrivals (take l.number-index l.numbers));
  quiet : l.numbers ≡ [] → l.out ≡ l.fn.out;
  later : g.O.Sink.faults l.fn.out ≤ g.O.Sink.faults l.out;
}
