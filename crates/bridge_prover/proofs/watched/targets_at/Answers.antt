use Rattle.std.proofs.Common.{◌≡◌, ℕ, List, Option, subst, arith}
use Rattle.std.specs.Prelude.{MatchOption}
use Rattle.forest_place.specs.declared.naming.Naming.TheVariants.{FixedPosition}
use Rattle.proof_shape.specs.Shape.{HasTargetsBy, AreFixedTargets}
use Rattle.proof_shape.specs.Targeted.{Targeted}
use Rattle.node_rules.proofs.Placing.{named_by}
use Rattle.bridge_prover.proofs.watched.targets_at.Goals as goal

abbrev Found : ℕ → List ℕ → Option Targeted → Type 0
Found n positions found = MatchOption found (HasTargetsBy FixedPosition n positions → ⊥) (λ t. (t.leaves ≡ n) × AreFixedTargets n positions t.targets)

pub unreachable-requires : goal.unreachable-requires
unreachable-requires c = subst (Found c.args.n c.args.positions.now) c.in-None.is c.in_ok-found.ensures c.requires.there

pub returns : goal.returns
returns c =
    let w = subst (Found c.args.n c.args.positions.now) c.in-Some.is c.in_ok-found.ensures in
    (w.0, named_by FixedPosition c.args.n (omega (arith, c.requires.few)) c.args.positions.now c.in-Some.targets.targets w.1)
