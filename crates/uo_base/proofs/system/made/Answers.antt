use Rattle.uo_base.specs.Files.{is_making}
use Rattle.uo_base.proofs.system.made.Goals as goal

pub returns : goal.returns
returns g c = is_making _ _
