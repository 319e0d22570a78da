use Rattle.std.proofs.Common.{length, sym, ap, ◌∙◌, arith}
use Rattle.std.proofs.lemmas.Bool.{eqb-true, eqb-false}
use Rattle.relay_script.specs.Reading.{line_and_rest}
use Rattle.relay_script.proofs.Reading.{goes_on, goes_wrong, is_read, is_shorter}
use Rattle.relay_script.proofs.script.read_lines.Goals as goal

pub returns-in_default : goal.returns-in_default
returns-in_default c =
    let some = eqb-false (length c.loop-rest.rest.now) 0 (sym c.is_empty.ensures ∙ c.loop-rest-test.true) in
    goes_wrong c.args.text.now c.loop-rest.rest.now c.loop-rest.line c.loop-rest.invariant (omega (arith, some))
    (sym c.first_line.ensures ∙ ap line_and_rest c.in_default.is)

pub loop-rest-smaller : goal.loop-rest-smaller
loop-rest-smaller c = is_shorter c.loop-rest.rest.now c.in-Some.more.now c.in-Some.field-0-0
    (sym c.first_line.ensures ∙ ap line_and_rest c.in-Some.is)

pub loop-rest-preserved : goal.loop-rest-preserved
loop-rest-preserved c = goes_on c.args.text.now c.loop-rest.rest.now c.in-Some.more.now c.loop-rest.line c.in-Some.field-0-0 c.loop-rest.invariant
    (sym c.first_line.ensures ∙ ap line_and_rest c.in-Some.is)

pub invariant_of-result : goal.invariant_of-result
invariant_of-result c = is_read c.args.text.now c.loop-rest.rest.now c.loop-rest.line c.loop-rest.invariant
    (eqb-true _ _ (sym c.is_empty.ensures ∙ c.loop-rest-test.false))

pub returns : goal.returns
returns c = sym (is_read c.args.text.now c.loop-rest.rest.now c.loop-rest.line c.loop-rest.invariant
    (eqb-true _ _ (sym c.is_empty.ensures ∙ c.loop-rest-test.false))).is
