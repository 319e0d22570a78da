use Rattle.tx_codec.proofs.ViewLaws.{count_of_inputs}
use Rattle.tx_codec.proofs.tx_view.TxView.inputs.Goals as goal

pub returns-clause-few : goal.returns-clause-few
returns-clause-few c =
    let count = count_of_inputs _ _ c.self.invariant in
    rw (c.new.ensures, ← count.0) count.1
