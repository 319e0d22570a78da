use Rattle.std.proofs.Common.{List, [], ◌∷◌, ◌++◌, sym, ap, ap₂, ◌∙◌, arith}
use Rattle.std.proofs.lemmas.List.FromFn.{map-range_with_len_more}
use Rattle.forest_place.specs.Places.{place_in}
use Rattle.proof_verify.specs.PlaceNodes.{node_at}
use Rattle.proof_verify.specs.Gathered.{item_from}
use Rattle.proof_verify.specs.declared.evaluation.CoveredPlace.{CoveredPlace}
use Rattle.proof_verify.specs.declared.evaluation.Preimage.{Preimage}
use Rattle.proof_verify.proofs.evaluation.gather.Goals as goal

pub loop-i-preserved : goal.loop-i-preserved
loop-i-preserved c =
    let i = c.loop-i.i in
    let made : Preimage → CoveredPlace = λ (m : Preimage). record {
      place = place_in c.args.covered.now i;
      preimage = m;
      digest =
          (node_at c.args.nodes.now i).digest;
    } in
    c.in_ok-push.ensures.items
    ∙ (ap₂ (λ (xs : List CoveredPlace) (x : CoveredPlace). xs ++ x ∷ []) c.loop-i.invariant (ap made c.preimage_of.ensures)
    ∙ sym (map-range_with_len_more (item_from c.args.covered.now c.args.sources.now c.args.nodes.now c.args.hashes.now) 0 i i (omega arith)))
