use Rattle.std.proofs.Common.{get_or, refl, sym, ap, subst, ◌∙◌}
use Rattle.chain_order.specs.Arrivals.{AreDifferent}
use Rattle.chain_order.proofs.Marking.{mark_tells, meets_one_there, met_none, there_found}
use Rattle.chain_order.proofs.arrivals.Arrivals.step_back.Goals as goal

pub returns-in_default-clause-none : goal.returns-in_default-clause-none
returns-in_default-clause-none c = λ met has. (refl, met_none c.args.self.now c.args.hash (sym c.number_of.ensures.number ∙ c.in_default.is))

pub returns-then-marks-number-clause-none : goal.returns-then-marks-number-clause-none
returns-then-marks-number-clause-none c = λ met has.
    let number = sym c.in-Some.ensures.number in
    (refl, sym (mark_tells _ _ _ met has c.args.hash _ number) ∙ c.if-marks-number.true, there_found c.args.self.now c.args.hash _ number)

pub returns-clause-one : goal.returns-clause-one
returns-clause-one c = λ met has.
    let there = c.index.ensures ∙ ap (λ xs. get_or xs c.in-Some.number c.index.result.now) c.self.view_is in
    meets_one_there c.args.self.now (subst AreDifferent c.self.view_is c.self.invariant.different) _ _ met has c.args.hash _
    (sym c.in-Some.ensures.number) c.if-marks-number.false _ c.index.result.now _ c.in_ok-push.ensures.items there c.prev.ensures
