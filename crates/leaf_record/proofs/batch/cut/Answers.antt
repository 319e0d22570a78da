use Rattle.std.proofs.Common.{◌∙◌, length, arith}
use Rattle.std.proofs.lemmas.List.{length-set}
use Rattle.leaf_record.proofs.BatchLaws.{cut_more, first_within}
use Rattle.leaf_record.proofs.batch.cut.Goals as goal

pub parts-preserved : goal.parts-preserved
parts-preserved c =
    let first = first_within c.args.lengths.now c.parts.i (length c.parts.left.now) c.parts-test.true c.parts.invariant.within in
    record {
      text = cut_more c.args.lengths.now c.parts.parts c.parts.i c.split_at.result.0 c.parts.left.now c.split_at.result.1.now _
          c.parts.invariant.text (omega arith) (omega arith) c.split_at.ensures.front c.split_at.ensures.back;
      len = length-set c.parts.parts c.parts.i c.split_at.result.0 ∙ c.parts.invariant.len;
      within = omega (arith, first.0, first.1);
    }
