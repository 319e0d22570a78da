use Rattle.std.proofs.Common.{◌≡◌, ◌≢◌, true, length}
use Rattle.std.specs.Prelude.{All, AllPairs}
use Rattle.output_index.specs.Held.{is_spent, without_all}
use Rattle.output_index.proofs.outputs.Outputs.forget_all.Given as goal

abbrev pub invariant-runs : goal.invariant-runs
invariant-runs l = record {
  same : without_all l.rest l.self ≡ without_all l.numbers l.initial.self;
  spent : All (λ i. is_spent i l.self ≡ true) l.rest;
  apart : AllPairs (λ i j. i ≢ j) l.rest;
}

abbrev pub decreases-runs : goal.decreases-runs
decreases-runs l = length l.rest
