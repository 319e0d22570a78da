use Rattle.std.proofs.Common.{◌≡◌, map, take}
use Rattle.output_index.specs.Marks.{mark_of}
use Rattle.output_index.specs.NewestByMark.{newest_with}
use Rattle.output_index.proofs.outputs.heads_of.Given as goal

abbrev pub invariant-loop-at : goal.invariant-loop-at
invariant-loop-at l = l.heads.items ≡ map (λ name. newest_with l.marks (mark_of name)) (take l.at l.names)
