use Rattle.std.proofs.Common.{◌∙◌}
use Rattle.bridge_prover.proofs.Leaving.{lives_stand, places_shaped, kept_found}
use Rattle.bridge_prover.proofs.bridge.Bridge.kept.Goals as goal

pub kept_targets-requires-clause-live : goal.kept_targets-requires-clause-live
kept_targets-requires-clause-live g c = lives_stand g.D.Digester.digest_of _ c.self.invariant.0

pub kept_targets-requires-clause-shape : goal.kept_targets-requires-clause-shape
kept_targets-requires-clause-shape g c =
    places_shaped g.D.Digester.digest_of _ c.self.invariant.0 _ (c.deref.ensures.value ∙ c.self.invariant.1)

pub returns-clause-targets : goal.returns-clause-targets
returns-clause-targets g c = kept_found g.D.Digester.digest_of c.args.self.now _ c.self.view_is c.self.invariant.0 c.deref.result.now
    (c.deref.ensures.value ∙ c.self.invariant.1) c.kept_targets.result c.kept_targets.ensures.targets
