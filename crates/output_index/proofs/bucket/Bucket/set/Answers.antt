use Rattle.std.proofs.Common.{◌≡◌, set, length, ap, subst, ◌∙◌, refl}
use Rattle.std.specs.List.{refill}
use Rattle.output_index.specs.declared.bucket_cell.BucketCell.{BucketCell}
use Rattle.output_index.specs.Buckets.{in_cells, IsFirstAt}
use Rattle.std.proofs.lemmas.List.{length-set}
use Rattle.uo_base.proofs.Lists.{refilled}
use Rattle.output_index.proofs.Cells.{set-first, set-first-others}
use Rattle.output_index.proofs.bucket.Bucket.set.Goals as goal

pub returns-in-Some-clause-here : goal.returns-in-Some-clause-here
returns-in-Some-clause-here c =
    let cells = c.self.inside.cells.items in
    let at = c.in-Some.at in
    let new : BucketCell = record { mark = c.args.mark; number = c.args.number } in
    let is : refill (length cells) cells (set c.deref_mut.result.now at new) ≡ set cells at new =
    ap (λ xs. refill (length cells) cells (set xs at new)) c.deref_mut.ensures.value
    ∙ refilled (length cells) (set cells at new) cells (length-set cells at new) refl in
    λ some. ap (λ xs. in_cells xs c.args.mark) is
    ∙ set-first at cells c.args.mark c.args.number (subst (λ xs. IsFirstAt xs c.args.mark at) c.as_slice.ensures.value c.in-Some.ensures)

pub returns-in-Some-clause-others : goal.returns-in-Some-clause-others
returns-in-Some-clause-others c =
    let cells = c.self.inside.cells.items in
    let at = c.in-Some.at in
    let new : BucketCell = record { mark = c.args.mark; number = c.args.number } in
    let is : refill (length cells) cells (set c.deref_mut.result.now at new) ≡ set cells at new =
    ap (λ xs. refill (length cells) cells (set xs at new)) c.deref_mut.ensures.value
    ∙ refilled (length cells) (set cells at new) cells (length-set cells at new) refl in
    λ m o. ap (λ xs. in_cells xs m) is ∙ (set-first-others at cells c.args.mark c.args.number
    (subst (λ xs. IsFirstAt xs c.args.mark at) c.as_slice.ensures.value c.in-Some.ensures) m o ∙ ap (λ xs. in_cells xs m) c.self.view_is)
