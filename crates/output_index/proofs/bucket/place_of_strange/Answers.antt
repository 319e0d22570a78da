use Rattle.std.proofs.Common.{◌≡◌, suc, ◌+◌, take, sym, subst, ◌∙◌, arith}
use Rattle.std.specs.List.{AllByRecursion}
use Rattle.std.proofs.lemmas.Option.{slice_get-get_or}
use Rattle.output_index.specs.declared.bucket_cell.BucketCell.{BucketCell}
use Rattle.output_index.specs.Buckets.{bucket_of}
use Rattle.output_index.proofs.Cells.{own-further}
use Rattle.output_index.proofs.bucket.place_of_strange.Goals as goal

pub loop-at-preserved : goal.loop-at-preserved
loop-at-preserved c =
    let cells = c.args.cells.now in
    let blank : BucketCell = record { mark = 0; number = 0 } in
    let next : suc c.loop-at.at ≡ c.loop-at.at + 1 = omega arith in
    subst (λ k. AllByRecursion (λ x. bucket_of c.args.bits c.args.count x.mark ≡ c.args.number) (take k cells)) next
    (own-further c.args.bits c.args.count c.args.number c.loop-at.at _ cells (slice_get-get_or cells c.loop-at.at blank c.loop-at-test.true)
    (sym c.bucket_of.ensures ∙ c.if-bucket_of-number.false) c.loop-at.invariant)
