use Rattle.std.proofs.Common.{refl}
use Rattle.uo_base.specs.Reading.{times}
use Rattle.proof_wire.proofs.rests.Rests.with_room.Goals as goal

pub returns : goal.returns
unfolding times
returns c = refl
