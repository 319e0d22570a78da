use Rattle.std.proofs.Common.{◌≡◌, map, take}
use Rattle.output_index.specs.Marks.{mark_of}
use Rattle.output_index.specs.Buckets.{first_at}
use Rattle.output_index.proofs.outputs.firsts_of.Given as goal

abbrev pub invariant-loop-name : goal.invariant-loop-name
invariant-loop-name l = l.firsts.items ≡ map (λ name. first_at l.marks.table (mark_of name)) (take l.name-index l.names)
