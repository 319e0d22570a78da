use Rattle.std.proofs.Common.{ap, ◌∙◌}
use Rattle.tx_codec.specs.Reading.{output_at, first_output}
use Rattle.tx_codec.proofs.FirstOutput.{all_read, first_thing}
use Rattle.tx_codec.proofs.lists.Outputs.text.Goals as goal

pub returns-clause-left : goal.returns-clause-left
returns-clause-left c =
    rw (c.rest.ensures, ← c.self.view_is) (all_read output_at c.self.inside.left c.self.inside.rest c.self.invariant)

pub returns-clause-first : goal.returns-clause-first
returns-clause-first c output later is = ap first_output c.rest.ensures
    ∙ first_thing output_at c.self.inside.left c.self.inside.rest output later (c.self.view_is ∙ is)
