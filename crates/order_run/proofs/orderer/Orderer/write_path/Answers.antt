use Rattle.order_run.proofs.Numbers.{no_numbers}
use Rattle.order_run.proofs.orderer.Orderer.write_path.Goals as goal

pub returns-clause-untouched : goal.returns-clause-untouched
returns-clause-untouched g c = λ none. c.put_numbered.ensures.untouched (no_numbers _ _ _ c.requires none)

pub returns-in_err-put_numbered-clause-untouched : goal.returns-in_err-put_numbered-clause-untouched
returns-in_err-put_numbered-clause-untouched g c = λ none. c.put_numbered.ensures.untouched (no_numbers _ _ _ c.requires none)

pub returns-in_err-push_line-clause-untouched : goal.returns-in_err-push_line-clause-untouched
returns-in_err-push_line-clause-untouched g c = λ none. c.put_numbered.ensures.untouched (no_numbers _ _ _ c.requires none)
