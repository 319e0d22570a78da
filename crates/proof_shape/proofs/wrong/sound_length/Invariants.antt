use Rattle.std.proofs.Common.{◌<◌, ◌≤◌, ◌-◌, take, length}
use Rattle.forest_model.specs.Cover.{HasShape}
use Rattle.proof_shape.proofs.wrong.sound_length.Given as goal

abbrev pub invariant-loop-faulty : goal.invariant-loop-faulty
invariant-loop-faulty l = record {
  apart : l.sound < l.faulty;
  fits : l.faulty ≤ length l.places;
  shaped : HasShape l.n (take l.sound l.places);
  wrong : HasShape l.n (take l.faulty l.places) → ⊥;
}

abbrev pub decreases-loop-faulty : goal.decreases-loop-faulty
decreases-loop-faulty l = l.faulty - l.sound
