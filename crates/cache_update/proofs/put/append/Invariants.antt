use Rattle.std.proofs.Common.{◌≡◌, ◌+◌, ◌++◌, drop, vec_len, vec_capacity}
use Rattle.cache_update.proofs.put.append.Given as goal

abbrev pub invariant-loop-i : goal.invariant-loop-i
invariant-loop-i l = record {
  rest : l.held.items ++ drop l.i l.more ≡ l.initial.held.items ++ l.more;
  len : vec_len l.held ≡ vec_len l.initial.held + l.i;
  room : vec_capacity l.held ≡ vec_capacity l.initial.held;
}
