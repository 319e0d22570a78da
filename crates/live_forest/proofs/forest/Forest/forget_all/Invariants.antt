use Rattle.std.proofs.Common.{◌≡◌, take}
use Rattle.live_forest.specs.State.{held_without}
use Rattle.live_forest.proofs.forest.Forest.forget_all.Given as goal

abbrev pub invariant-loop-number : goal.invariant-loop-number
invariant-loop-number g l = record {
  entries : l.self.entries ≡ l.initial.self.entries;
  spare : l.self.spare ≡ l.initial.self.spare;
  held : l.self.held ≡ held_without (take l.number-index l.spent) l.initial.self.held;
}
