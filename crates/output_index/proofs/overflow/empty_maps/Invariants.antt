use Rattle.std.proofs.Common.{◌≡◌, ℕ, None, length}
use Rattle.output_index.specs.Overflow.{in_maps, maps_in}
use Rattle.output_index.proofs.overflow.empty_maps.Given as goal

abbrev pub invariant-loop : goal.invariant-loop
invariant-loop l = record {
  none : (m : ℕ) → in_maps (maps_in l.maps.items) m ≡ None;
  len : length l.maps.items ≡ l.counter;
}
