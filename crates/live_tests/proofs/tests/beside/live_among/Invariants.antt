use Rattle.std.proofs.Common.{◌≡◌, ◌<◌, true, All}
use Rattle.std.specs.List.Sorted.{IsNonDecreasing}
use Rattle.live_forest.specs.State.{is_live}
use Rattle.live_tests.proofs.tests.beside.live_among.Given as goal

abbrev pub invariant-loop-number : goal.invariant-loop-number
invariant-loop-number l = record {
  live : All (λ i. is_live l.forest.entries i ≡ true) l.numbers.items;
  rise : IsNonDecreasing l.numbers.items;
  below : All (λ i. i < l.number) l.numbers.items;
}
