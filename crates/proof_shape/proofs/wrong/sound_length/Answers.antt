use Rattle.std.proofs.Common.{◌+◌, ◌-◌, ◌/◌}
use Rattle.proof_shape.proofs.Longer.{within_taken}
use Rattle.proof_shape.proofs.wrong.sound_length.Goals as goal

pub is_shaped-requires-in-loop-faulty-clause-within : goal.is_shaped-requires-in-loop-faulty-clause-within
is_shaped-requires-in-loop-faulty-clause-within c =
    within_taken c.args.n c.args.places.now (c.loop-faulty.sound + (c.loop-faulty.faulty - c.loop-faulty.sound) / 2) c.requires.within
