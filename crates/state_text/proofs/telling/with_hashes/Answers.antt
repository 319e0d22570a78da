use Rattle.std.proofs.Common.{List, ◌++◌, ◌∷◌, [], get_or, sym, ap, ◌∙◌}
use Rattle.uo_digest.specs.declared.digest.Digest.{Digest}
use Rattle.forest_place.specs.declared.place.Place.{Place}
use Rattle.state_text.proofs.Merging.{paired-more}
use Rattle.state_text.proofs.telling.with_hashes.Goals as goal

pub loop-i-preserved : goal.loop-i-preserved
loop-i-preserved c =
    let p : Place = record { row = 0; off = 0 } in
    let d : Digest = record { 0 = [] } in
    let i = c.loop-i.i in
    let pair : Place × Digest = (get_or c.args.places.now i p, get_or c.args.hashes.now i d) in
    rw c.in_ok-push.ensures.items (ap (λ (x : List (Place × Digest)). x ++ pair ∷ []) c.loop-i.invariant
    ∙ sym (paired-more c.args.places.now c.args.hashes.now i p d c.loop-i-test.true c.requires))
