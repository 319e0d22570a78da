use Rattle.std.proofs.Common.{length, subst}
use Rattle.std.proofs.lemmas.Result.{IfOk-weaker}
use Rattle.proof_verify.specs.NewPlaces.{AreFirst, AreNew}
use Rattle.proof_verify.proofs.NewPlaceSteps.{new_from_first}
use Rattle.proof_verify.proofs.new_place.new_places_of.Goals as goal

pub returns : goal.returns
returns c =
    let ls = c.in_ok-new_places.new_places.items in
    IfOk-weaker c.first_new_places.result (λ v. AreFirst c.deref.result.now (length c.deref.result.now) v.items)
    (λ v. AreNew c.args.n c.args.sources.now c.args.destinations.now v.items)
    (λ v f. new_from_first c.args.n c.args.sources.now c.args.destinations.now ls v.items c.in_ok-new_places.ensures.new_places
    (subst (λ l. AreFirst l (length l) v.items) c.deref.ensures.value f))
    c.first_new_places.ensures
