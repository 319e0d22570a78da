use Rattle.std.proofs.Common.{ℕ, length, rules}
use Rattle.std.proofs.lemmas.List.Sorted.{IsNonDecreasingBy-from_sort, answers_always}
use Rattle.proof_verify.specs.declared.new_place.NewPlace.{NewPlace}
use Rattle.proof_verify.proofs.NewPlaceSteps.{found_in_order}
use Rattle.proof_verify.proofs.new_place.sorted_new_places.Goals as goal

pub returns-clause-new_places : goal.returns-clause-new_places
returns-clause-new_places c =
    found_in_order c.args.n c.args.sources.now c.args.destinations.now (length c.args.sources.now) c.in_ok-new_places.new_places.items
    c.sort_by_key.new.self.items c.in_ok-new_places.ensures c.sort_by_key.ensures.permutation

pub returns-clause-sorted : goal.returns-clause-sorted
returns-clause-sorted c =
    let k : NewPlace → ℕ = λ l. l.number in
    IsNonDecreasingBy-from_sort k _ (c.in_ok-sort_by_key.ensures.sorted k (answers_always _ _ _ (λ f a r g h. search rules)))
