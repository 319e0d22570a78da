use Rattle.tx_codec.proofs.ViewLaws.{count_of_outputs}
use Rattle.tx_codec.proofs.tx_view.TxView.outputs.Goals as goal

pub returns-clause-few : goal.returns-clause-few
returns-clause-few c =
    let count = count_of_outputs _ _ c.self.invariant in
    rw (c.new.ensures, ← count.0) count.1
