use Rattle.uo_base.proofs.GrewLaws.{Grew-after}
use Rattle.uo_base.proofs.PortLemmas.{OnErr-any}
use Rattle.tx_codec.proofs.writing.put_outputs.Goals as goal

pub returns-in_err-put_output-clause-err : goal.returns-in_err-put_output-clause-err
returns-in_err-put_output-clause-err c = OnErr-any _ (Grew-after _ _ _ _ c.loop-output.invariant.text c.in_err-put_output.ensures.err)
