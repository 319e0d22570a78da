use Rattle.std.proofs.Common.{ℕ, ◌+◌, ◌*◌, ◌≤◌, length, None, Some, ap, subst, ◌∙◌}
use Rattle.forest_place.specs.Position.{rows}
use Rattle.std.specs.Global.{Vec}
use Rattle.std.specs.Prelude.{option_map}
use Rattle.block_rules.specs.declared.chain.Found.{Found}
use Rattle.block_rules.specs.declared.refusal.Refusal.TheVariants as Why
use Rattle.cache_model.specs.Cache.{look}
use Rattle.node_rules.specs.Accepting.{proof_fault}
use Rattle.node_rules.specs.Judged.{IsFirst}
use Rattle.node_rules.specs.Messages.{points_of}
use Rattle.node_rules.proofs.Handing.{handed_on}
use Rattle.bridge_prover.specs.Bridge.{BridgeState}
use Rattle.bridge_prover.specs.Standing.{IsBridge}
use Rattle.bridge_prover.specs.Shown.{IsChecked, ShowsByEach, view_in}
use Rattle.bridge_prover.proofs.Taking.{refused_for, hashes_many, accepted_by, shown_by}
use Rattle.bridge_prover.proofs.bridge.Bridge.show_by.Goals as goal

pub returns-in_err-checked-clause-err : goal.returns-in_err-checked-clause-err
returns-in_err-checked-clause-err g c =
    let H = g.D.Digester.digest_of in
    let is = subst (IsBridge H) c.self.view_is c.self.invariant.0 in
    let fault = c.in_err-checked.field-0.0 in
    handed_on _ _ fault c.from_residual.ensures.1
    (refused_for H c.args.self.now is c.args.external.now c.args.message.now c.args.known.now c.requires.known fault
    (subst (λ es. IsFirst (option_map Why.Proof (proof_fault H (view_in H es (look c.args.known.now)) (points_of c.args.external.now)
    c.args.message.now)) fault)
    (ap (λ (s : BridgeState). s.entries) c.self.view_is) c.in_err-checked.ensures.err))

pub right_entries-requires-clause-many : goal.right_entries-requires-clause-many
right_entries-requires-clause-many g c =
    let H = g.D.Digester.digest_of in
    let is = subst (IsBridge H) c.self.view_is c.self.invariant.0 in
    hashes_many H c.args.self.now is c.args.external.now c.args.message.now c.args.known.now c.requires.known
    c.in_ok-checked.checked.targets c.in_ok-checked.checked.hashes.items
    (subst (λ es. IsChecked H es (look c.args.known.now) c.args.external.now c.args.message.now c.in_ok-checked.checked.targets
    c.in_ok-checked.checked.hashes.items) (ap (λ (s : BridgeState). s.entries) c.self.view_is) c.in_ok-checked.ensures.ok)
    _ c.deref.ensures.value

pub returns-in_default-clause-passes : goal.returns-in_default-clause-passes
returns-in_default-clause-passes g c =
    let H = g.D.Digester.digest_of in
    let is = subst (IsBridge H) c.self.view_is c.self.invariant.0 in
    accepted_by H c.args.self.now is c.args.external.now c.args.message.now c.args.known.now c.requires.known
    c.in_ok-checked.checked.targets c.in_ok-checked.checked.hashes.items
    (subst (λ es. IsChecked H es (look c.args.known.now) c.args.external.now c.args.message.now c.in_ok-checked.checked.targets
    c.in_ok-checked.checked.hashes.items) (ap (λ (s : BridgeState). s.entries) c.self.view_is) c.in_ok-checked.ensures.ok)

pub returns-in_default-clause-shows : goal.returns-in_default-clause-shows
returns-in_default-clause-shows g c =
    let H = g.D.Digester.digest_of in
    let is = subst (IsBridge H) c.self.view_is c.self.invariant.0 in
    let numbers = option_map (λ (all : Vec ℕ). all.items) c.in_ok-right.right in
    shown_by H c.args.self.now is c.args.external.now c.args.message.now c.args.known.now c.requires.known
    c.in_ok-checked.checked.targets c.in_ok-checked.checked.hashes.items
    (subst (λ es. IsChecked H es (look c.args.known.now) c.args.external.now c.args.message.now c.in_ok-checked.checked.targets
    c.in_ok-checked.checked.hashes.items) (ap (λ (s : BridgeState). s.entries) c.self.view_is) c.in_ok-checked.ensures.ok)
    c.deref.result.now c.in_ok-right.right None c.deref.ensures.value
    (subst (λ hs. ShowsByEach H c.args.self.now.entries hs c.args.external.now c.args.message.now c.in_ok-checked.checked.targets
    c.deref.result.now numbers) (ap (λ (s : BridgeState). s.held) c.self.view_is)
    (subst (λ es. ShowsByEach H es c.self.inside.outputs c.args.external.now c.args.message.now c.in_ok-checked.checked.targets
    c.deref.result.now numbers) (ap (λ (s : BridgeState). s.entries) c.self.view_is) c.in_ok-right.ensures))
    c.in_default.is

pub returns-clause-passes : goal.returns-clause-passes
returns-clause-passes g c =
    let H = g.D.Digester.digest_of in
    let is = subst (IsBridge H) c.self.view_is c.self.invariant.0 in
    accepted_by H c.args.self.now is c.args.external.now c.args.message.now c.args.known.now c.requires.known
    c.in_ok-checked.checked.targets c.in_ok-checked.checked.hashes.items
    (subst (λ es. IsChecked H es (look c.args.known.now) c.args.external.now c.args.message.now c.in_ok-checked.checked.targets
    c.in_ok-checked.checked.hashes.items) (ap (λ (s : BridgeState). s.entries) c.self.view_is) c.in_ok-checked.ensures.ok)

pub returns-clause-shows : goal.returns-clause-shows
returns-clause-shows g c =
    let H = g.D.Digester.digest_of in
    let is = subst (IsBridge H) c.self.view_is c.self.invariant.0 in
    let numbers = option_map (λ (all : Vec ℕ). all.items) c.in_ok-right.right in
    shown_by H c.args.self.now is c.args.external.now c.args.message.now c.args.known.now c.requires.known
    c.in_ok-checked.checked.targets c.in_ok-checked.checked.hashes.items
    (subst (λ es. IsChecked H es (look c.args.known.now) c.args.external.now c.args.message.now c.in_ok-checked.checked.targets
    c.in_ok-checked.checked.hashes.items) (ap (λ (s : BridgeState). s.entries) c.self.view_is) c.in_ok-checked.ensures.ok)
    c.deref.result.now c.in_ok-right.right (Some c.in-Some.numbers) c.deref.ensures.value
    (subst (λ hs. ShowsByEach H c.args.self.now.entries hs c.args.external.now c.args.message.now c.in_ok-checked.checked.targets
    c.deref.result.now numbers) (ap (λ (s : BridgeState). s.held) c.self.view_is)
    (subst (λ es. ShowsByEach H es c.self.inside.outputs c.args.external.now c.args.message.now c.in_ok-checked.checked.targets
    c.deref.result.now numbers) (ap (λ (s : BridgeState). s.entries) c.self.view_is) c.in_ok-right.ensures))
    c.in-Some.is

pub returns-clause-found : goal.returns-clause-found
returns-clause-found g c = ap (λ (f : Vec Found). f.items) c.into_found.ensures ∙ c.in_ok-checked.ensures.found

pub returns-in_err-checked-clause-steps : goal.returns-in_err-checked-clause-steps
returns-in_err-checked-clause-steps g c =
    subst (λ (x : BridgeState). c.check_proof.new.steps ≤ c.args.steps.now + length c.args.external.now
    + 2 * (length c.args.external.now * rows (length x.entries))) c.self.view_is c.check_proof.ensures.steps

pub returns-in_err-right-clause-steps : goal.returns-in_err-right-clause-steps
returns-in_err-right-clause-steps g c =
    subst (λ (x : BridgeState). c.check_proof.new.steps ≤ c.args.steps.now + length c.args.external.now
    + 2 * (length c.args.external.now * rows (length x.entries))) c.self.view_is c.check_proof.ensures.steps

pub returns-in_default-clause-steps : goal.returns-in_default-clause-steps
returns-in_default-clause-steps g c =
    subst (λ (x : BridgeState). c.check_proof.new.steps ≤ c.args.steps.now + length c.args.external.now
    + 2 * (length c.args.external.now * rows (length x.entries))) c.self.view_is c.check_proof.ensures.steps

pub returns-clause-steps : goal.returns-clause-steps
returns-clause-steps g c =
    subst (λ (x : BridgeState). c.check_proof.new.steps ≤ c.args.steps.now + length c.args.external.now
    + 2 * (length c.args.external.now * rows (length x.entries))) c.self.view_is c.check_proof.ensures.steps
