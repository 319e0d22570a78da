use Rattle.std.proofs.Common.{sym, ap, ◌∙◌}
use Rattle.relay_script.specs.Reading.{line_and_rest}
use Rattle.relay_script.proofs.Reading.{taken, none_left, is_taken_none}
use Rattle.relay_script.proofs.script.Script.next_line.Goals as goal

pub returns-in_err-line : goal.returns-in_err-line
returns-in_err-line c =
    let none = sym c.first_line.ensures ∙ ap line_and_rest c.in_err-line.was in
    is_taken_none _ _ c.from_residual.ensures (sym c.self.view_is ∙ none_left c.self.inside.text.now c.self.invariant none)

pub invariant_of-self : goal.invariant_of-self
invariant_of-self c =
    (taken c.self.inside.text.now c.in_ok-line.rest.now c.in_ok-line.line c.self.invariant
    (sym c.first_line.ensures ∙ ap line_and_rest c.in_ok-line.was)).1

pub returns : goal.returns
returns c =
    sym c.self.view_is ∙ (taken c.self.inside.text.now c.in_ok-line.rest.now c.in_ok-line.line c.self.invariant
    (sym c.first_line.ensures ∙ ap line_and_rest c.in_ok-line.was)).0
