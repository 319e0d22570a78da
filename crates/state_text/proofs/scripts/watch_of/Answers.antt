use Rattle.std.proofs.lemmas.Result.{err_from_is_err_and}
use Rattle.state_text.proofs.Judged.{denied}
use Rattle.state_text.proofs.ScriptLaws.{watched_scripts}
use Rattle.state_text.proofs.scripts.watch_of.Goals as goal

pub returns-in_err-judge_scripts : goal.returns-in_err-judge_scripts
returns-in_err-judge_scripts c =
    let p = err_from_is_err_and c.from_residual.result c.from_residual.ensures.1 in
    rw (p.1, p.2) (denied _ _ _ (watched_scripts _) c.in_err-judge_scripts.ensures)
