use Rattle.node_rules.proofs.Proving.{events_again, events_short}
use Rattle.node_rules.proofs.laws.proved_events_are_read.Goals as goal

pub returns-clause-read : goal.returns-clause-read
returns-clause-read c = λ H watch long rules few events all. events_again H long rules few watch events all

pub returns-clause-short : goal.returns-clause-short
returns-clause-short c = λ H watch long rules few events all. events_short H long rules few watch events all
