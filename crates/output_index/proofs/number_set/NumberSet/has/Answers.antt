use Rattle.std.proofs.Common.{false, sym, ap, ◌∙◌}
use Rattle.std.specs.Prelude.{get_or}
use Rattle.output_index.proofs.Flags.{flag_at}
use Rattle.output_index.proofs.number_set.NumberSet.has.Goals as goal

pub returns : goal.returns
returns c = sym (flag_at c.self.inside.words c.args.number false c.requires) ∙ ap (λ flags. get_or flags c.args.number false) c.self.view_is
