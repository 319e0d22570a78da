use Rattle.std.proofs.Common.{◌≡◌, sym, ap, subst, ◌∙◌, ne_eqb}
use Rattle.std.specs.List.{AllByRecursion, filter}
use Rattle.output_index.specs.Buckets.{bucket_of, is_own, IsStrange}
use Rattle.output_index.proofs.Cells.{filter-removed, filter-own}
use Rattle.output_index.proofs.bucket.Bucket.keep_own.Goals as goal

pub loop-at-preserved : goal.loop-at-preserved
loop-at-preserved c =
    let cells = c.loop-at.self-inside.cells.items in
    let own = is_own c.args.bits c.args.count c.args.number in
    let one = subst (λ xs. IsStrange xs c.args.bits c.args.count c.args.number c.in-Some.at) c.as_slice.ensures.value c.in-Some.ensures in
    ap (filter own) c.remove.ensures.items ∙ (filter-removed own c.in-Some.at one.cell cells one.there
    (ne_eqb (bucket_of c.args.bits c.args.count one.cell.mark) c.args.number one.elsewhere) ∙ c.loop-at.invariant)

pub returns : goal.returns
returns c =
    let cells = c.loop-at.self-inside.cells.items in
    let all = subst (λ xs. AllByRecursion (λ cell. bucket_of c.args.bits c.args.count cell.mark ≡ c.args.number) xs) c.as_slice.ensures.value
    c.in_default.ensures in
    sym (filter-own c.args.bits c.args.count c.args.number cells all) ∙ c.loop-at.invariant
