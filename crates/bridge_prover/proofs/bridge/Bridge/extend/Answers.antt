use Rattle.std.proofs.Common.{◌∙◌, sym, subst, arith}
use Rattle.std.specs.List.Sorted.{IsPermutation}
use Rattle.std.proofs.lemmas.Result.{IfOk-weaker}
use Rattle.bridge_prover.proofs.Drafting.{draft_fits, draft_told}
use Rattle.bridge_prover.proofs.bridge.Bridge.extend.Goals as goal

pub take_rising-requires-clause-draft : goal.take_rising-requires-clause-draft
take_rising-requires-clause-draft g c = draft_fits g.D.Digester.digest_of c.args.self.now c.args.numbers.items c.in_ok-spent.spent.items
    c.args.rests c.requires.ready.held c.requires.rests c.external.result.now _ c.in_ok-draft.ensures

pub returns-clause-says : goal.returns-clause-says
returns-clause-says g c =
    let told = draft_told g.D.Digester.digest_of c.args.self.now c.args.numbers.items c.deref-2.result.now c.args.rests
    c.requires.ready.held c.requires.rests (omega (arith, c.requires.ready.counted, c.requires.ready.few)) c.requires.ready.live
    (subst (λ ns. IsPermutation ns c.deref-2.result.now) c.deref.ensures.value
    (subst (IsPermutation c.deref.result.now) (sym c.deref-2.ensures.value) c.in_ok-spent.ensures.same)) c.external.result.now _
    c.in_ok-draft.ensures in
    rw (← c.external.ensures) (IfOk-weaker c.take_rising.result _ _ (λ m e. e ∙ told) c.take_rising.ensures.says)
