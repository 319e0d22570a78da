use Rattle.std.proofs.Common.{◌∙◌}
use Rattle.state_text.proofs.Proving.{targets_made}
use Rattle.state_text.proofs.targets.targets_of.Goals as goal

pub returns : goal.returns
returns c = targets_made c.args.n c.args.places.now c.deref.result.now c.requires.within (c.deref.ensures.value ∙ c.in_ok-positions.ensures) _
    c.targets_at.ensures
