use Rattle.std.proofs.Common.{◌≡◌, vec_len, vec_capacity}
use Rattle.leaf_record.proofs.leaf.blank_text.Given as goal

abbrev pub invariant-loop : goal.invariant-loop
invariant-loop l = record { len : vec_len l.bytes ≡ l.counter; capacity : vec_capacity l.bytes ≡ 20422 }
