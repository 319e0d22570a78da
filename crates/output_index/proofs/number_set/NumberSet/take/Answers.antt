use Rattle.std.proofs.Common.{false, set, ap, ◌∙◌}
use Rattle.output_index.proofs.Flags.{flags_set}
use Rattle.output_index.proofs.number_set.NumberSet.take.Goals as goal

pub returns : goal.returns
returns c =
    flags_set c.self.inside.words c.args.number c.without.result false c.self.invariant c.requires c.without.ensures.here c.without.ensures.others
    ∙ ap (λ flags. set flags c.args.number false) c.self.view_is
