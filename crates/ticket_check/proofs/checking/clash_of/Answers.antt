use Rattle.std.proofs.lemmas.Result.{IfOk-weaker}
use Rattle.bridge_prover.specs.Full.{history_of}
use Rattle.audit_replay.proofs.Forged.{stands_for}
use Rattle.ticket_check.proofs.checking.clash_of.Goals as goal

pub returns : goal.returns
returns g c =
    let s = c.args.bridge.now in
    IfOk-weaker c.ticket_clash.result _ _ (λ clash w. w (history_of s) (stands_for g.D.Digester.digest_of s c.requires.audit))
    c.ticket_clash.ensures.exact
