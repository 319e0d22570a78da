use Rattle.std.proofs.Common.{◌≡◌, suc, ◌+◌, None, take, subst, arith}
use Rattle.std.proofs.lemmas.Option.{slice_get-get_or}
use Rattle.output_index.specs.declared.bucket_cell.BucketCell.{BucketCell}
use Rattle.output_index.specs.Buckets.{in_cells}
use Rattle.output_index.proofs.Cells.{first-tells, none-further}
use Rattle.output_index.proofs.bucket.place_of.Goals as goal

pub returns-then-cells-at : goal.returns-then-cells-at
returns-then-cells-at c =
    let cells = c.args.cells.now in
    let blank : BucketCell = record { mark = 0; number = 0 } in
    let there = slice_get-get_or cells c.loop-at.at blank c.loop-at-test.true in
    record {
      cell = _;
      there = there;
      mark = c.if-cells-at.true;
      tells =
          first-tells c.loop-at.at _ cells c.args.mark there c.if-cells-at.true c.loop-at.invariant;
      before = c.loop-at.invariant;
    }

pub loop-at-preserved : goal.loop-at-preserved
loop-at-preserved c =
    let cells = c.args.cells.now in
    let blank : BucketCell = record { mark = 0; number = 0 } in
    let next : suc c.loop-at.at ≡ c.loop-at.at + 1 = omega arith in
    subst (λ k. in_cells (take k cells) c.args.mark ≡ None) next
    (none-further c.loop-at.at _ cells c.args.mark (slice_get-get_or cells c.loop-at.at blank c.loop-at-test.true) c.if-cells-at.false
    c.loop-at.invariant)
