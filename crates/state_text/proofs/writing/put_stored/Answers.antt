use Rattle.state_text.specs.Ordered.{kept_text}
use Rattle.std.proofs.Common.{ap}
use Rattle.state_text.proofs.Written.{as_part}
use Rattle.state_text.proofs.writing.put_stored.Goals as goal

pub returns-clause-part : goal.returns-clause-part
returns-clause-part g c = as_part _ _ _ _ (ap kept_text c.level.view_is) c.write_level.ensures.part
