use Rattle.std.proofs.Common.{◌≡◌, ◌∙◌, List, Option, subst, ap}
use Rattle.std.proofs.lemmas.Result.{IfOk-weaker}
use Rattle.uo_digest.specs.declared.digest.Digest.{Digest}
use Rattle.block_rules.specs.declared.chain.Chain.{Chain}
use Rattle.forest_roots.specs.Stump.{StandsFor}
use Rattle.ticket_check.specs.Judging.{stump_view, ticket_verdict}
use Rattle.ticket_check.proofs.CheckLaws.{same_verdict}
use Rattle.ticket_check.proofs.checking.verdict_of.Goals as goal

pub returns : goal.returns
returns g c =
    let H = g.D.Digester.digest_of in
    let s = c.args.bridge.now in
    let k = c.args.ticket.now in
    let f = c.roots-roots.result in
    let stands : StandsFor H s.entries f = subst (λ (e : List (Option Digest)). StandsFor H e f) c.forest.ensures.entries c.roots-roots.ensures in
    let tip_is : c.chain-chain.result.tip ≡ s.chain.tip = ap (λ (x : Chain). x.tip) c.chain-chain.ensures.is in
    IfOk-weaker c.judge.result _ _
    (λ verdict is. is ∙ (ap (λ (x : Digest). ticket_verdict H (stump_view f) x k) tip_is ∙ same_verdict H s.entries s.chain.tip k f stands))
    c.judge.ensures
