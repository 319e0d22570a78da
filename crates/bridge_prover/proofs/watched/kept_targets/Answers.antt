use Rattle.std.proofs.Common.{◌≡◌, ℕ, Bool, map, sym, ap, ◌∙◌, subst, arith}
use Rattle.std.specs.List.{filter}
use Rattle.std.proofs.lemmas.List.{take_all}
use Rattle.forest_place.specs.declared.naming.Naming.TheVariants.{FixedPosition}
use Rattle.proof_shape.specs.Shape.{HasTargetsBy, AreFixedTargets}
use Rattle.output_index.specs.Held.{is_live}
use Rattle.bridge_prover.specs.Bridge.{target_of}
use Rattle.bridge_prover.specs.Watched.{places_in}
use Rattle.bridge_prover.proofs.Kept.{passed_all, are_targets, positions_more, targets_found}
use Rattle.bridge_prover.proofs.watched.kept_targets.Goals as goal

pub loop-number-preserved : goal.loop-number-preserved
loop-number-preserved g c =
    positions_more (target_of c.args.forest.now.entries) (λ i. is_live i c.args.outputs.now) c.args.noted.now c.loop-number.number-index
    c.loop-number.positions.items c.put_position.new.positions.items c.loop-number-test.true c.loop-number.invariant c.in_ok-put_position.ensures

pub targets_at-requires-clause-there : goal.targets_at-requires-clause-there
targets_at-requires-clause-there g c =
    let es = c.args.forest.now.entries in
    let live : ℕ → Bool = λ i. is_live i c.args.outputs.now in
    let ns = filter live c.args.noted.now in
    let at : c.deref.result.now ≡ map (target_of es) ns = c.deref.ensures.value
    ∙ (c.loop-number.invariant ∙ ap (λ xs. map (target_of es) (filter live xs))
    (take_all c.loop-number.number-index c.args.noted.now (omega (arith, c.loop-number-test.false)))) in
    subst (λ n. HasTargetsBy FixedPosition n c.deref.result.now) (sym c.leaves.ensures.is)
    (places_in es ns, are_targets es ns c.deref.result.now at (passed_all es live c.args.noted.now c.requires.live) c.requires.shape)

pub returns-clause-targets : goal.returns-clause-targets
returns-clause-targets g c =
    let es = c.args.forest.now.entries in
    let live : ℕ → Bool = λ i. is_live i c.args.outputs.now in
    let ns = filter live c.args.noted.now in
    let at : c.deref.result.now ≡ map (target_of es) ns = c.deref.ensures.value
    ∙ (c.loop-number.invariant ∙ ap (λ xs. map (target_of es) (filter live xs))
    (take_all c.loop-number.number-index c.args.noted.now (omega (arith, c.loop-number-test.false)))) in
    targets_found c.leaves.result c.deref.result.now (places_in es ns) (omega (arith, c.leaves.ensures.is, c.leaves.ensures.few))
    (subst (λ n. AreFixedTargets n c.deref.result.now (places_in es ns)) (sym c.leaves.ensures.is)
    (are_targets es ns c.deref.result.now at (passed_all es live c.args.noted.now c.requires.live) c.requires.shape)) c.targets_at.result
    c.targets_at.ensures
