use Rattle.order_laws.proofs.LinkedUp.{linked_up}
use Rattle.order_laws.proofs.laws.linked_up.Goals as goal

pub returns : goal.returns
returns c = linked_up
