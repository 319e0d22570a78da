use Rattle.relay_core.proofs.Acting.{one_serial_one_chain}
use Rattle.relay_core.proofs.laws.one_serial_one_chain.Goals as goal

pub returns : goal.returns
returns c = one_serial_one_chain
