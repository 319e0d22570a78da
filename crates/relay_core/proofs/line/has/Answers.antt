use Rattle.std.proofs.Common.{◌∙◌}
use Rattle.relay_core.proofs.Lines.{has_is}
use Rattle.relay_core.proofs.line.has.Goals as goal

pub returns : goal.returns
returns c = c.is_some.ensures ∙ has_is c.args.chain.now c.args.serial c.place_of.result c.place_of.ensures.some c.place_of.ensures.none
