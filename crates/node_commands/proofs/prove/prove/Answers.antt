use Rattle.std.proofs.Common.{subst, refl}
use Rattle.uo_base.proofs.PortLemmas.{told_text, Tells-told_text}
use Rattle.node_commands.specs.Prover.{proving}
use Rattle.node_commands.specs.Watching.{IsListOf}
use Rattle.node_commands.proofs.ProveLemmas.{prove-serves}
use Rattle.node_commands.proofs.RanLemmas.{ran-unbegun, ran-refusing, ran-begun}
use Rattle.node_commands.proofs.prove.prove.Goals as goal

pub returns-in_err-watch-clause-ran : goal.returns-in_err-watch-clause-ran
returns-in_err-watch-clause-ran g c = λ prior. ran-unbegun _ _ _ _ _ _ _ _ c.from_residual.ensures.0 refl

pub returns-in-Err-clause-ran : goal.returns-in-Err-clause-ran
returns-in-Err-clause-ran g c =
    λ prior.
    let l = subst (IsListOf _ _ _) c.in-Err.is c.in_ok-watch.ensures.list in
    ran-refusing (proving g.D.Digester.digest_of c.args.limits c.args.net c.args.named) _ prior _ (told_text prior) l.text (Tells-told_text prior)
    l.told c.in-Err.bad l.is _ _ _ _ c.say.result c.say.ensures.status c.say.ensures.whole c.say.ensures.part refl

pub returns-in_err-prover-clause-ran : goal.returns-in_err-prover-clause-ran
returns-in_err-prover-clause-ran g c = λ prior. ran-unbegun _ _ _ _ _ _ _ _ c.from_residual-in_err-prover.ensures.0 refl

pub returns-clause-ran : goal.returns-clause-ran
returns-clause-ran g c =
    λ prior.
    let l = subst (IsListOf _ _ _) c.in-Ok.is c.in_ok-watch.ensures.list in
    ran-begun (proving g.D.Digester.digest_of c.args.limits c.args.net c.args.named) _ prior _ (told_text prior) l.text (Tells-told_text prior) l.told
    c.in-Ok.watch l.is _ _
    (prove-serves _ c.args.limits c.args.net c.in-Ok.watch c.requires.leaves _ c.in_ok-prover.ensures _ _ c.serve.ensures.served)
