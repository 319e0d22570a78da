use Rattle.cache_model.specs.Lists.{AscendByPlace}
use Rattle.bridge_prover.specs.Laws.{KnowsAsOwn}
use Rattle.bridge_prover.proofs.Leaving.{known_is_own, known_found}
use Rattle.bridge_prover.proofs.bridge.Bridge.known_hashes.Goals as goal

pub returns-clause-ascends : goal.returns-clause-ascends
returns-clause-ascends g c =
    let H = g.D.Digester.digest_of in
    let s = c.args.self.now in
    known_found H s (λ known. known.items) AscendByPlace (known_is_own H s c.in_ok-kept.ensures.bridge).1
    c.in_ok-kept.kept.targets c.in_ok-kept.ensures.targets c.hashes_at.result c.hashes_at.ensures

pub returns-clause-own : goal.returns-clause-own
returns-clause-own g c =
    let H = g.D.Digester.digest_of in
    let s = c.args.self.now in
    known_found H s (λ known. known.items) (KnowsAsOwn H s) (known_is_own H s c.in_ok-kept.ensures.bridge).0
    c.in_ok-kept.kept.targets c.in_ok-kept.ensures.targets c.hashes_at.result c.hashes_at.ensures
