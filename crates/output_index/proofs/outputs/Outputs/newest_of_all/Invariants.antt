use Rattle.std.proofs.Common.{◌≡◌, map, take}
use Rattle.output_index.specs.Held.{newest}
use Rattle.output_index.specs.Entries.{held_in}
use Rattle.output_index.proofs.outputs.Outputs.newest_of_all.Given as goal

abbrev pub invariant-loop-at : goal.invariant-loop-at
invariant-loop-at l = l.found.items ≡ map (λ name. newest name (held_in l.self-inside.entries)) (take l.at l.names)
