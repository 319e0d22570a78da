use Rattle.std.proofs.Common.{◌≡◌, None, sym, ap, ◌∙◌, subst, length}
use Rattle.block_rules.specs.Steps.{first_of}
use Rattle.block_rules.specs.Money.{money_steps}
use Rattle.node_rules.specs.Judged.{IsFirst}
use Rattle.node_rules.proofs.Handing.{handed_on}
use Rattle.bridge_prover.specs.Judged.{AreFound}
use Rattle.bridge_prover.specs.Own.{first_missing}
use Rattle.bridge_prover.proofs.Deciding.{shape_refused, missing_refused, money_refused_by, found_count, ready_by, proved_by, steps_by}
use Rattle.bridge_prover.proofs.bridge.Bridge.pass.Goals as goal

pub returns-in_err-spends-clause-err : goal.returns-in_err-spends-clause-err
returns-in_err-spends-clause-err g c = handed_on _ _ c.in_err-spends.field-0.0 c.from_residual.ensures.1
    (shape_refused c.args.self.now c.args.block.now c.in_err-spends.field-0.0 c.in_err-spends.ensures.judged)

pub returns-in_err-numbers-clause-err : goal.returns-in_err-numbers-clause-err
returns-in_err-numbers-clause-err g c =
    let fault = c.in_err-numbers.field-0.0 in
    handed_on _ _ fault c.from_residual-in_err-numbers.ensures.1
    (missing_refused c.args.self.now c.args.block.now c.in_ok-spends.spends c.in_ok-spends.ensures.judged fault
    (subst (λ ext. IsFirst (first_missing c.args.self.now.held ext) fault) c.external.ensures c.in_err-numbers.ensures.err))

pub money_rules-requires : goal.money_rules-requires
money_rules-requires g c =
    let known = subst (λ ext. AreFound c.args.self.now.held ext c.in_ok-numbers.field-0.numbers.items c.in_ok-numbers.field-0.found.items
    c.in_ok-numbers.field-0.rests) c.external.ensures c.in_ok-numbers.ensures.ok in
    ap length c.deref.ensures.value ∙ found_count g.D.Digester.digest_of c.args.self.now c.args.block.now c.in_ok-spends.spends _ _ _
    c.in_ok-spends.ensures.bridge c.in_ok-spends.ensures.judged known

pub extend-requires-clause-ready : goal.extend-requires-clause-ready
extend-requires-clause-ready g c =
    let known = subst (λ ext. AreFound c.args.self.now.held ext c.in_ok-numbers.field-0.numbers.items c.in_ok-numbers.field-0.found.items
    c.in_ok-numbers.field-0.rests) c.external.ensures c.in_ok-numbers.ensures.ok in
    let paid : first_of (money_steps c.in_ok-spends.spends c.in_ok-numbers.field-0.found.items) ≡ None =
    ap (λ xs. first_of (money_steps c.in_ok-spends.spends xs)) (sym c.deref.ensures.value) ∙ c.in-Ok.ensures.passes in
    ready_by g.D.Digester.digest_of c.args.self.now c.args.block.now c.in_ok-spends.spends _ _ _ c.in_ok-spends.ensures.bridge
    c.in_ok-spends.ensures.judged known paid c.bytes-bytes.ensures.fits c.args.hash

pub returns-in-Ok-extend-clause-ok : goal.returns-in-Ok-extend-clause-ok
returns-in-Ok-extend-clause-ok g c =
    let known = subst (λ ext. AreFound c.args.self.now.held ext c.in_ok-numbers.field-0.numbers.items c.in_ok-numbers.field-0.found.items
    c.in_ok-numbers.field-0.rests) c.external.ensures c.in_ok-numbers.ensures.ok in
    let paid : first_of (money_steps c.in_ok-spends.spends c.in_ok-numbers.field-0.found.items) ≡ None =
    ap (λ xs. first_of (money_steps c.in_ok-spends.spends xs)) (sym c.deref.ensures.value) ∙ c.in-Ok.ensures.passes in
    proved_by g.D.Digester.digest_of c.args.self.now c.args.block.now c.in_ok-spends.spends _ _ _ c.in_ok-spends.ensures.bridge
    c.in_ok-spends.ensures.judged known paid c.args.hash _ _ c.requires c.in-Ok-extend.ensures.says c.in-Ok-extend.ensures.next

pub returns-in-Ok-extend-clause-steps : goal.returns-in-Ok-extend-clause-steps
returns-in-Ok-extend-clause-steps g c =
    let known = subst (λ ext. AreFound c.args.self.now.held ext c.in_ok-numbers.field-0.numbers.items c.in_ok-numbers.field-0.found.items
    c.in_ok-numbers.field-0.rests) c.external.ensures c.in_ok-numbers.ensures.ok in
    let paid : first_of (money_steps c.in_ok-spends.spends c.in_ok-numbers.field-0.found.items) ≡ None =
    ap (λ xs. first_of (money_steps c.in_ok-spends.spends xs)) (sym c.deref.ensures.value) ∙ c.in-Ok.ensures.passes in
    steps_by g.D.Digester.digest_of c.args.self.now c.args.block.now c.in_ok-spends.spends _ _ _ c.in_ok-spends.ensures.bridge
    c.in_ok-spends.ensures.judged known paid c.args.steps.now c.extend.new.steps c.extend.ensures.steps

pub returns-in-Ok-clause-steps : goal.returns-in-Ok-clause-steps
returns-in-Ok-clause-steps g c =
    let known = subst (λ ext. AreFound c.args.self.now.held ext c.in_ok-numbers.field-0.numbers.items c.in_ok-numbers.field-0.found.items
    c.in_ok-numbers.field-0.rests) c.external.ensures c.in_ok-numbers.ensures.ok in
    let paid : first_of (money_steps c.in_ok-spends.spends c.in_ok-numbers.field-0.found.items) ≡ None =
    ap (λ xs. first_of (money_steps c.in_ok-spends.spends xs)) (sym c.deref.ensures.value) ∙ c.in-Ok.ensures.passes in
    steps_by g.D.Digester.digest_of c.args.self.now c.args.block.now c.in_ok-spends.spends _ _ _ c.in_ok-spends.ensures.bridge
    c.in_ok-spends.ensures.judged known paid c.args.steps.now c.extend.new.steps c.extend.ensures.steps

pub returns-clause-err : goal.returns-clause-err
returns-clause-err g c =
    let known = subst (λ ext. AreFound c.args.self.now.held ext c.in_ok-numbers.field-0.numbers.items c.in_ok-numbers.field-0.found.items
    c.in_ok-numbers.field-0.rests) c.external.ensures c.in_ok-numbers.ensures.ok in
    money_refused_by g.D.Digester.digest_of c.args.self.now c.args.block.now c.in_ok-spends.spends _ _ _ c.in_ok-spends.ensures.bridge
    c.in_ok-spends.ensures.judged known c.in-Err.why (ap (λ xs. first_of (money_steps c.in_ok-spends.spends xs)) (sym c.deref.ensures.value)
    ∙ c.in-Err.ensures)
