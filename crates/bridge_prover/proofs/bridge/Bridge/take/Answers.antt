use Rattle.std.proofs.Common.{◌≡◌, ◌+◌, ◌*◌, ◌≤◌, None, sym, ap, ◌∙◌, subst, length}
use Rattle.std.specs.Prelude.{option_copied}
use Rattle.forest_place.specs.Position.{rows}
use Rattle.block_rules.specs.Steps.{first_of}
use Rattle.block_rules.specs.Money.{money_steps}
use Rattle.node_rules.specs.Reading.{handed_in}
use Rattle.node_rules.proofs.Counted.{external_few}
use Rattle.node_rules.proofs.Handing.{handed_on}
use Rattle.bridge_prover.specs.Bridge.{BridgeState, bridge_with}
use Rattle.bridge_prover.specs.Judged.{IsReady}
use Rattle.bridge_prover.proofs.Taking.{unshaped, not_shown, caught, found_many, unpaid, shown_ready, gone, told_most, taken_most, shown_long}
use Rattle.bridge_prover.proofs.bridge.Bridge.take.Goals as goal

pub returns-in_err-spends-clause-err : goal.returns-in_err-spends-clause-err
returns-in_err-spends-clause-err g c =
    handed_on _ _ c.in_err-spends.field-0.0 c.from_residual.ensures.1
    (unshaped g.D.Digester.digest_of c.args.self.now c.args.block.now (handed_in (option_copied c.args.message)) c.in_err-spends.field-0.0
    c.in_err-spends.ensures.judged)

pub show-requires : goal.show-requires
show-requires g c =
    let s = c.args.self.now in
    external_few s.rules.net s.rules.limits s.chain c.args.block.now c.in_ok-spends.spends c.bytes-bytes.ensures.fits c.in_ok-spends.ensures.judged

pub returns-in_err-shown-clause-err : goal.returns-in_err-shown-clause-err
returns-in_err-shown-clause-err g c =
    handed_on _ _ c.in_err-shown.field-0.0 c.from_residual-in_err-shown.ensures.1
    (not_shown g.D.Digester.digest_of c.args.self.now c.args.block.now (handed_in (option_copied c.args.message)) c.in_ok-spends.spends
    c.in_ok-spends.ensures.judged c.in_err-shown.field-0.0 c.in_err-shown.ensures.err)

pub returns-in_default-clause-ok : goal.returns-in_default-clause-ok
returns-in_default-clause-ok g c =
    caught g.D.Digester.digest_of c.args.self.now c.args.block.now (handed_in (option_copied c.args.message)) c.in_ok-spends.spends
    c.in_ok-spends.ensures.judged _ c.in_ok-shown.ensures.passes c.in_ok-shown.ensures.shows _ c.in_default.is c.in_ok-shown.ensures.stays

pub money_rules-requires : goal.money_rules-requires
money_rules-requires g c =
    ap length c.deref.ensures.value
    ∙ found_many g.D.Digester.digest_of c.args.self.now c.args.block.now (handed_in (option_copied c.args.message)) c.in_ok-spends.spends
    c.in_ok-spends.ensures.judged _ c.in_ok-shown.ensures.passes c.in_ok-shown.ensures.shows c.in_ok-shown.ensures.found c.in-Some.shown
    c.in-Some.is

pub take_in-requires : goal.take_in-requires
take_in-requires g c =
    let H = g.D.Digester.digest_of in
    let paid : first_of (money_steps c.in_ok-spends.spends c.in-Some.shown.found.items) ≡ None =
    ap (λ xs. first_of (money_steps c.in_ok-spends.spends xs)) (sym c.deref.ensures.value) ∙ c.in-Ok.ensures.passes in
    subst (λ (x : BridgeState). IsReady H x c.args.hash c.in-Some.shown.numbers.items c.in_ok-spends.spends.new)
    (sym c.in_ok-shown.ensures.stays)
    (shown_ready H c.args.self.now c.args.block.now (handed_in (option_copied c.args.message)) c.in_ok-spends.spends
    c.in_ok-spends.ensures.judged _ c.in_ok-shown.ensures.passes c.in_ok-shown.ensures.shows c.in_ok-shown.ensures.found c.in-Some.shown
    c.in-Some.is paid c.in_ok-spends.ensures.bridge c.bytes-bytes.ensures.fits c.args.hash)

pub returns-in-Ok-take_in-clause-ok : goal.returns-in-Ok-take_in-clause-ok
returns-in-Ok-take_in-clause-ok g c =
    let H = g.D.Digester.digest_of in
    let paid : first_of (money_steps c.in_ok-spends.spends c.in-Some.shown.found.items) ≡ None =
    ap (λ xs. first_of (money_steps c.in_ok-spends.spends xs)) (sym c.deref.ensures.value) ∙ c.in-Ok.ensures.passes in
    gone H c.args.self.now c.args.block.now (handed_in (option_copied c.args.message)) c.in_ok-spends.spends c.in_ok-spends.ensures.judged _
    c.in_ok-shown.ensures.passes c.in_ok-shown.ensures.shows c.in_ok-shown.ensures.found c.in-Some.shown c.in-Some.is paid c.args.hash
    _ c.requires
    (c.in-Ok-take_in.ensures.next ∙ ap (λ (x : BridgeState). bridge_with H x c.args.hash c.in-Some.shown.numbers.items
    c.in_ok-spends.spends.new) c.in_ok-shown.ensures.stays)

pub returns-clause-err : goal.returns-clause-err
returns-clause-err g c =
    unpaid g.D.Digester.digest_of c.args.self.now c.args.block.now (handed_in (option_copied c.args.message)) c.in_ok-spends.spends
    c.in_ok-spends.ensures.judged _ c.in_ok-shown.ensures.passes c.in_ok-shown.ensures.shows c.in_ok-shown.ensures.found c.in-Some.shown
    c.in-Some.is c.in-Err.why (ap (λ xs. first_of (money_steps c.in_ok-spends.spends xs)) (sym c.deref.ensures.value) ∙ c.in-Err.ensures)

pub returns-in_err-shown-clause-steps : goal.returns-in_err-shown-clause-steps
returns-in_err-shown-clause-steps g c =
    told_most g.D.Digester.digest_of c.args.self.now c.args.block.now (handed_in (option_copied c.args.message)) c.in_ok-spends.spends
    c.in_ok-spends.ensures.judged c.args.steps.now c.show.new.steps c.in_err-shown.ensures.steps

pub returns-in_default-clause-steps : goal.returns-in_default-clause-steps
returns-in_default-clause-steps g c =
    told_most g.D.Digester.digest_of c.args.self.now c.args.block.now (handed_in (option_copied c.args.message)) c.in_ok-spends.spends
    c.in_ok-spends.ensures.judged c.args.steps.now c.show.new.steps c.in_ok-shown.ensures.steps

pub returns-in-Ok-take_in-clause-steps : goal.returns-in-Ok-take_in-clause-steps
returns-in-Ok-take_in-clause-steps g c =
    let paid : first_of (money_steps c.in_ok-spends.spends c.in-Some.shown.found.items) ≡ None =
    ap (λ xs. first_of (money_steps c.in_ok-spends.spends xs)) (sym c.deref.ensures.value) ∙ c.in-Ok.ensures.passes in
    taken_most g.D.Digester.digest_of c.args.self.now c.args.block.now (handed_in (option_copied c.args.message)) c.in_ok-spends.spends
    c.in_ok-spends.ensures.judged c.args.steps.now c.show.new.steps c.in_ok-shown.ensures.steps c.in-Some.shown.numbers.items c.take_in.new.steps
    (shown_long g.D.Digester.digest_of c.args.self.now c.args.block.now (handed_in (option_copied c.args.message)) c.in_ok-spends.spends
    c.in_ok-spends.ensures.judged _ c.in_ok-shown.ensures.passes c.in_ok-shown.ensures.shows c.in_ok-shown.ensures.found c.in-Some.shown
    c.in-Some.is paid)
    (subst (λ (x : BridgeState). c.take_in.new.steps ≤ c.show.new.steps + length c.in-Some.shown.numbers.items * rows (length x.entries)
    + 2 * length c.in_ok-spends.spends.new + 40) c.in_ok-shown.ensures.stays c.take_in.ensures.steps)

pub returns-in-Ok-clause-steps : goal.returns-in-Ok-clause-steps
returns-in-Ok-clause-steps g c =
    let paid : first_of (money_steps c.in_ok-spends.spends c.in-Some.shown.found.items) ≡ None =
    ap (λ xs. first_of (money_steps c.in_ok-spends.spends xs)) (sym c.deref.ensures.value) ∙ c.in-Ok.ensures.passes in
    taken_most g.D.Digester.digest_of c.args.self.now c.args.block.now (handed_in (option_copied c.args.message)) c.in_ok-spends.spends
    c.in_ok-spends.ensures.judged c.args.steps.now c.show.new.steps c.in_ok-shown.ensures.steps c.in-Some.shown.numbers.items c.take_in.new.steps
    (shown_long g.D.Digester.digest_of c.args.self.now c.args.block.now (handed_in (option_copied c.args.message)) c.in_ok-spends.spends
    c.in_ok-spends.ensures.judged _ c.in_ok-shown.ensures.passes c.in_ok-shown.ensures.shows c.in_ok-shown.ensures.found c.in-Some.shown
    c.in-Some.is paid)
    (subst (λ (x : BridgeState). c.take_in.new.steps ≤ c.show.new.steps + length c.in-Some.shown.numbers.items * rows (length x.entries)
    + 2 * length c.in_ok-spends.spends.new + 40) c.in_ok-shown.ensures.stays c.take_in.ensures.steps)

pub returns-clause-steps : goal.returns-clause-steps
returns-clause-steps g c =
    told_most g.D.Digester.digest_of c.args.self.now c.args.block.now (handed_in (option_copied c.args.message)) c.in_ok-spends.spends
    c.in_ok-spends.ensures.judged c.args.steps.now c.show.new.steps c.in_ok-shown.ensures.steps
