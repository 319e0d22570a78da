use Rattle.std.proofs.Common.{true, set, ap, ◌∙◌}
use Rattle.output_index.proofs.Flags.{flags_set}
use Rattle.output_index.proofs.number_set.NumberSet.put.Goals as goal

pub returns : goal.returns
returns c =
    flags_set c.self.inside.words c.args.number c.with.result true c.self.invariant c.requires c.with.ensures.here c.with.ensures.others
    ∙ ap (λ flags. set flags c.args.number true) c.self.view_is
