use Rattle.std.proofs.Common.{◌≡◌, map, take}
use Rattle.output_index.specs.Entries.{lives_at}
use Rattle.output_index.proofs.outputs.live_of.Given as goal

abbrev pub invariant-loop-head : goal.invariant-loop-head
invariant-loop-head l = l.live.items ≡ map (lives_at l.entries) (take l.head-index l.heads)
