use Rattle.uo_base.proofs.GrewLaws.{Grew-after}
use Rattle.uo_base.proofs.PortLemmas.{OnErr-any}
use Rattle.tx_codec.proofs.writing.put_inputs.Goals as goal

pub returns-in_err-put_input-clause-err : goal.returns-in_err-put_input-clause-err
returns-in_err-put_input-clause-err c = OnErr-any _ (Grew-after _ _ _ _ c.loop-input.invariant.text c.in_err-put_input.ensures.err)
