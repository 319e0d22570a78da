use Rattle.std.proofs.Common.{◌≡◌, ◌++◌, map, take, Some}
use Rattle.live_forest.proofs.proving.push_each.Given as goal

abbrev pub invariant-loop : goal.invariant-loop
invariant-loop l = map Some l.places.items ≡ map Some l.initial.places.items ++ map (λ _. Some l.place) (take l.index l.numbers)
