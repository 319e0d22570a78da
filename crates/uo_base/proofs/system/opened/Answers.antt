use Rattle.uo_base.specs.Files.{is_opening}
use Rattle.uo_base.proofs.system.opened.Goals as goal

pub returns : goal.returns
returns g c = is_opening _ _
