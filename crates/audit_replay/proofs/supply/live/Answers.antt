use Rattle.std.proofs.Common.{◌≡◌, ◌+◌, ◌<◌, ◌≤◌, ◌^◌, length, sym, ap, ap₂, ◌∙◌, subst, arith}
use Rattle.leaf_record.specs.History.{supply}
use Rattle.node_rules.specs.Machine.{issued}
use Rattle.bridge_prover.specs.Full.{history_of}
use Rattle.audit_replay.specs.Audit.{amount_at}
use Rattle.audit_replay.proofs.Supplying.{live_of, live_more, live_most, live_fits}
use Rattle.audit_replay.proofs.supply.live.Goals as goal

pub overflow_add-sum : goal.overflow_add-sum
overflow_add-sum g c =
    let H = g.D.Digester.digest_of in
    let n = c.loop-number.number in
    let lt = subst (λ k. n < k) (c.leaves-number-end.ensures.is ∙ ap length c.forest.ensures.entries) c.loop-number-test.true in
    let fits = subst (λ hs. live_of hs n + amount_at hs n < 2 ^ 64) (sym c.outputs-outputs.ensures)
    (live_fits H c.args.bridge.now c.requires n lt) in
    omega (arith, c.loop-number.invariant, c.amount-sum.ensures, fits)

pub loop-number-preserved : goal.loop-number-preserved
loop-number-preserved g c = ap₂ (λ a b. a + b) c.loop-number.invariant c.amount-sum.ensures
    ∙ sym (live_more c.outputs-outputs.result.now c.loop-number.number)

pub returns-clause-most : goal.returns-clause-most
returns-clause-most g c =
    let H = g.D.Digester.digest_of in
    let s = c.args.bridge.now in
    let entries = ap length c.forest.ensures.entries in
    let all : c.loop-number.number ≡ length s.entries =
    omega (arith, c.loop-number.auto.number-end, c.loop-number-test.false, c.leaves-number-end.ensures.is, entries) in
    let same : c.loop-number.sum ≡ supply (history_of s) =
    c.loop-number.invariant ∙ (ap (λ hs. live_of hs c.loop-number.number) c.outputs-outputs.ensures ∙ ap (live_of s.held) all) in
    subst (λ x. x ≤ issued s.rules.net s.chain.blocks) (sym same) (live_most H s c.requires)
