use Rattle.std.proofs.Common.{arith}
use Rattle.leaf_record.proofs.BatchLaws.{putting_more, put_parts, put_within, goes_on}
use Rattle.leaf_record.proofs.batch.put_texts.Goals as goal

pub overflow_sub-lengths : goal.overflow_sub-lengths
overflow_sub-lengths g c =
    goes_on c.texts.room _ _ c.texts.end c.fill-next.result c.texts.invariant.put.within c.fill-next.ensures.text c.fill-next.ensures.within

pub texts-preserved : goal.texts-preserved
texts-preserved g c = record {
  put = putting_more _ _ _ c.texts.invariant.put c.leaf.ensures c.fill-next.ensures.fits (omega arith) c.fill-next.ensures.text
      c.fill-next.ensures.within;
  most = omega arith;
}

pub returns-else-room-end-ge-MAX_LEAF_TEXT-clause-room : goal.returns-else-room-end-ge-MAX_LEAF_TEXT-clause-room
returns-else-room-end-ge-MAX_LEAF_TEXT-clause-room g c = put_within c.texts.invariant.put

pub returns-else-room-end-ge-MAX_LEAF_TEXT-clause-texts : goal.returns-else-room-end-ge-MAX_LEAF_TEXT-clause-texts
returns-else-room-end-ge-MAX_LEAF_TEXT-clause-texts g c = put_parts c.texts.invariant.put

pub returns-after-texts-clause-room : goal.returns-after-texts-clause-room
returns-after-texts-clause-room g c = put_within c.texts.invariant.put

pub returns-after-texts-clause-texts : goal.returns-after-texts-clause-texts
returns-after-texts-clause-texts g c = put_parts c.texts.invariant.put
