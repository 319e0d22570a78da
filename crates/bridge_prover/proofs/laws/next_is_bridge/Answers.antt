use Rattle.bridge_prover.proofs.Refining.{fresh_is_bridge, next_is_bridge}
use Rattle.bridge_prover.proofs.laws.next_is_bridge.Goals as goal

pub returns-clause-fresh : goal.returns-clause-fresh
returns-clause-fresh c = fresh_is_bridge

pub returns-clause-next : goal.returns-clause-next
returns-clause-next c = next_is_bridge
