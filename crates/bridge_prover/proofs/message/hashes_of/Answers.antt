use Rattle.std.proofs.Common.{◌++◌, ℕ, sym, ap, ◌∙◌, subst, arith}
use Rattle.std.specs.List.{AllByRecursion, flat_map}
use Rattle.std.proofs.lemmas.List.{take_all}
use Rattle.forest_place.specs.Forest.{InForest}
use Rattle.live_forest.specs.declared.batch.Sibling.{Sibling}
use Rattle.bridge_prover.specs.Draft.{hashes_unknown}
use Rattle.bridge_prover.proofs.Showing.{row_more, all_in_row}
use Rattle.bridge_prover.proofs.message.hashes_of.Goals as goal

abbrev Within : ℕ → Sibling → Type 0
Within n s = InForest n s.place.row s.place.off

pub put_hashes-requires : goal.put_hashes-requires
put_hashes-requires c =
    let rows = c.deref-row-items.result.now in
    let i = c.loop-row.row-index in
    let n = c.args.kept.now.leaves in
    let all = subst (λ rs. AllByRecursion (Within n) (flat_map (λ row. row) rs)) (sym c.deref-row-items.ensures.value) c.requires in
    subst (AllByRecursion (Within n)) (sym (c.as_slice.ensures ∙ c.row-item.is))
    (all_in_row (Within n) rows i c.row-item.result c.loop-row-test.true all)

pub loop-row-preserved : goal.loop-row-preserved
loop-row-preserved c =
    let rows = c.deref-row-items.result.now in
    let i = c.loop-row.row-index in
    let n = c.args.kept.now.leaves in
    let kept = c.args.kept.now.targets in
    record {
      given = row_more n kept rows i c.row-item.result c.loop-row.hashes.items _ c.loop-row-test.true c.loop-row.invariant.given
          (c.in_ok-put_hashes.ensures.given ∙ ap (λ xs. c.loop-row.hashes.items ++ hashes_unknown n kept xs) (c.as_slice.ensures ∙ c.row-item.is));
      digests = c.put_hashes.ensures.digests c.loop-row.invariant.digests;
    }

pub returns-clause-given : goal.returns-clause-given
returns-clause-given c =
    let n = c.args.kept.now.leaves in
    let kept = c.args.kept.now.targets in
    c.loop-row.invariant.given
    ∙ ap (λ rs. hashes_unknown n kept (flat_map (λ row. row) rs)) (take_all c.loop-row.row-index _ (omega (arith, c.loop-row-test.false))
    ∙ c.deref-row-items.ensures.value)
