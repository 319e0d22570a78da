use Rattle.std.proofs.Common.{◌≡◌}
use Rattle.std.specs.List.{filter}
use Rattle.std.proofs.lemmas.Result.{IfOk-weaker}
use Rattle.forest_place.specs.Places.{places}
use Rattle.cache_model.specs.Known.{is_known}
use Rattle.bridge_prover.specs.Judged.{merged}
use Rattle.bridge_prover.proofs.Merging.{known_are}
use Rattle.bridge_prover.proofs.watched.known_places.Goals as goal

pub returns : goal.returns
returns c =
    let t = c.args.kept.now in
    IfOk-weaker c.merge.result (λ out. out.items ≡ merged c.covered.result.0.now c.needed.result.now)
    (λ out. out.items ≡ filter (is_known t.leaves t.targets) (places t.leaves))
    (λ out is. known_are t.leaves t.targets c.covered.result.0.now c.needed.result.now out.items c.covered.ensures.is c.needed.ensures is)
    c.merge.ensures
