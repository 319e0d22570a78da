use Rattle.std.proofs.Common.{◌≡◌, ℕ, List, ◌-◌, ◌++◌, length}
use Rattle.std.specs.List.Sorted.{IsNonDecreasing}
use Rattle.live_forest.specs.Proving.{places_of, HasRows, HasPlaces, AreBehind, AreFrom, behind}
use Rattle.live_forest.specs.Parts.{entries_in}
use Rattle.live_forest.proofs.proving.rows_of.Given as goal

abbrev pub invariant-loop-row : goal.invariant-loop-row
invariant-loop-row g l = record {
  wide : HasRows (length (entries_in l.n l.store)) l.rows.items;
  rise : IsNonDecreasing l.left;
  later : AreBehind (entries_in l.n l.store) (40 - l.row) l.left;
  placed : (here : List ℕ) × (here ++ l.left ≡ l.numbers) × HasPlaces (entries_in l.n l.store) here l.initial.places.items l.places.items;
  left : l.left ≡ behind (length (entries_in l.n l.store)) (40 - l.row) l.numbers;
  from : AreFrom g.D.Digester.digest_of (entries_in l.n l.store) (places_of (entries_in l.n l.store) l.numbers) (40 - l.row) l.rows.items;
}
