use Rattle.std.proofs.Common.{◌≡◌, List, map, length, sym, ap, ◌∙◌, subst, arith}
use Rattle.std.specs.Prelude.{count_by}
use Rattle.std.specs.List.{range_with_len}
use Rattle.uo_base.proofs.Lists.{refilled}
use Rattle.proof_verify.specs.PlaceNodes.{CanEvaluate, AreEvaluated, is_inner}
use Rattle.proof_verify.specs.Gathered.{AreHalfwise, item_from}
use Rattle.proof_verify.specs.declared.place_node.PlaceNode.{PlaceNode}
use Rattle.proof_verify.specs.declared.place_source.PlaceSource.{PlaceSource}
use Rattle.proof_verify.proofs.Values.{can}
use Rattle.proof_verify.proofs.Counts.{above_few, inner_count}
use Rattle.proof_verify.proofs.Covering.{halfwise, items_are}
use Rattle.proof_verify.proofs.evaluation.evaluate_covered.Goals as goal

pub evaluate-requires-clause-can : goal.evaluate-requires-clause-can
evaluate-requires-clause-can g c =
    let t = c.args.targets.now in
    subst (λ os. CanEvaluate os (length c.args.leaves.now) (length c.args.hashes.now)) (sym c.deref.ensures.value)
    (can t.leaves t.targets c.covered.result.0.now c.in_ok-sources.sources.items c.in_ok-sources.ensures.0 c.leaves-count.ensures.shaped.shape
    c.args.leaves.now c.args.hashes.now c.requires.leaves c.requires.hashes)

pub gather-requires-clause-within : goal.gather-requires-clause-within
gather-requires-clause-within g c =
    let t = c.args.targets.now in
    let os = c.in_ok-sources.sources.items in
    let plan = c.in_ok-sources.ensures.0 in
    let made = can t.leaves t.targets c.covered.result.0.now os plan c.leaves-count.ensures.shaped.shape c.args.leaves.now c.args.hashes.now
    c.requires.leaves c.requires.hashes in
    let new = c.evaluate.new.nodes in
    let long : length new ≡ length os = c.evaluate.ensures.nodes.long ∙ ap length c.deref.ensures.value in
    let count : length new ≡ length c.in_ok-nodes.nodes.items =
    let a = c.in_ok-nodes.nodes.ok.0 in
    let b = c.in_ok-nodes.ensures.len in
    let d = c.len.ensures in
    let e = c.in_ok-sources.sources.ok.0 in
    omega (arith, a, b, d, e, long) in
    let same = c.deref-3.ensures.value ∙ refilled c.in_ok-nodes.nodes.len new c.in_ok-nodes.nodes.items count (sym c.in_ok-nodes.nodes.ok.0) in
    subst (λ (l : List PlaceSource). AreHalfwise l (length c.deref-3.result.now) (length c.args.hashes.now)) (sym c.deref-2.ensures.value)
    (halfwise os (length c.args.leaves.now) (length c.args.hashes.now) (length c.deref-3.result.now) (sym long ∙ sym (ap length same)) made)

pub returns-clause-evaluated : goal.returns-clause-evaluated
returns-clause-evaluated g c =
    let H = g.D.Digester.digest_of in
    let t = c.args.targets.now in
    let cs = c.covered.result.0.now in
    let os = c.in_ok-sources.sources.items in
    let leaves = c.args.leaves.now in
    let hashes = c.args.hashes.now in
    let plan = c.in_ok-sources.ensures.0 in
    let new = c.evaluate.new.nodes in
    let long : length new ≡ length os = c.evaluate.ensures.nodes.long ∙ ap length c.deref.ensures.value in
    let count : length new ≡ length c.in_ok-nodes.nodes.items =
    let a = c.in_ok-nodes.nodes.ok.0 in
    let b = c.in_ok-nodes.ensures.len in
    let d = c.len.ensures in
    let e = c.in_ok-sources.sources.ok.0 in
    omega (arith, a, b, d, e, long) in
    let same = c.deref-3.ensures.value ∙ refilled c.in_ok-nodes.nodes.len new c.in_ok-nodes.nodes.items count (sym c.in_ok-nodes.nodes.ok.0) in
    let evaluated : AreEvaluated H os leaves hashes (length os) new =
    subst (λ (l : List PlaceSource). AreEvaluated H l leaves hashes (length l) new) c.deref.ensures.value c.evaluate.ensures.nodes in
    let gathered = c.in_ok-gather.ensures in
    items_are H t.leaves t.targets cs os plan c.leaves-count.ensures.shaped.shape leaves hashes c.requires.leaves c.requires.hashes new evaluated
    c.in_ok-gather.field-0.items
    (gathered ∙ (ap (λ (l : List PlaceSource). map (item_from cs l c.deref-3.result.now hashes) (range_with_len 0 (length cs)))
    c.deref-2.ensures.value
    ∙ ap (λ (l : List PlaceNode). map (item_from cs os l hashes) (range_with_len 0 (length cs))) same))

pub returns-clause-fewer : goal.returns-clause-fewer
returns-clause-fewer g c =
    let t = c.args.targets.now in
    let counted = inner_count t.leaves t.targets c.covered.result.0.now c.in_ok-sources.sources.items c.in_ok-sources.ensures.0 in
    let same = ap (count_by is_inner) c.deref.ensures.value in
    let some = c.evaluate.ensures.steps in
    omega (arith, some, same, counted)

pub returns-clause-few : goal.returns-clause-few
returns-clause-few g c =
    let t = c.args.targets.now in
    let counted = inner_count t.leaves t.targets c.covered.result.0.now c.in_ok-sources.sources.items c.in_ok-sources.ensures.0 in
    let same = ap (count_by is_inner) c.deref.ensures.value in
    let some = c.evaluate.ensures.steps in
    let few = above_few t.leaves t.targets in
    omega (arith, some, same, counted, few)

pub returns-in_err-gather-clause-fewer : goal.returns-in_err-gather-clause-fewer
returns-in_err-gather-clause-fewer g c =
    let t = c.args.targets.now in
    let counted = inner_count t.leaves t.targets c.covered.result.0.now c.in_ok-sources.sources.items c.in_ok-sources.ensures.0 in
    let same = ap (count_by is_inner) c.deref.ensures.value in
    let some = c.evaluate.ensures.steps in
    omega (arith, some, same, counted)

pub returns-in_err-gather-clause-few : goal.returns-in_err-gather-clause-few
returns-in_err-gather-clause-few g c =
    let t = c.args.targets.now in
    let counted = inner_count t.leaves t.targets c.covered.result.0.now c.in_ok-sources.sources.items c.in_ok-sources.ensures.0 in
    let same = ap (count_by is_inner) c.deref.ensures.value in
    let some = c.evaluate.ensures.steps in
    let few = above_few t.leaves t.targets in
    omega (arith, some, same, counted, few)
