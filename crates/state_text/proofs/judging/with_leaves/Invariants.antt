use Rattle.std.proofs.Common.{◌≡◌, ◌++◌, map, take, length}
use Rattle.std.specs.Vec.Iter.{into_iter_items}
use Rattle.state_text.specs.Cached.{entry_of}
use Rattle.state_text.proofs.judging.with_leaves.Given as goal

abbrev pub invariant-loop-entry : goal.invariant-loop-entry
invariant-loop-entry l = record {
  rest : l.fn.entries.items ≡ l.yielded ++ into_iter_items l.entry-iterator;
  made : map entry_of l.kept.items ≡ l.yielded;
  index : l.i ≡ length l.yielded;
  digests : map (λ k. k.digest) l.kept.items ≡ take l.i l.leaves;
}
