use Rattle.std.proofs.Common.{◌≡◌, map, take}
use Rattle.node_rules.specs.Messages.{point_of}
use Rattle.bridge_prover.proofs.find.names_of.Given as goal

abbrev pub invariant-loop-at : goal.invariant-loop-at
invariant-loop-at l = l.names.items ≡ map point_of (take l.at-index l.external)
