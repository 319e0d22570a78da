use Rattle.std.proofs.Common.{length, arith}
use Rattle.forest_place.specs.declared.place.Place.{Place}
use Rattle.forest_place.specs.Forest.{InForest}
use Rattle.cache_model.specs.declared.kept.Kept.{Kept}
use Rattle.cache_model.specs.Cache.{raised}
use Rattle.cache_update.specs.Joins.{is_empty_of}
use Rattle.cache_update.proofs.Keeps.{mapped_on, left_on, left_set, at_place, placed_item}
use Rattle.cache_update.proofs.keep.raise_each.Goals as goal

pub loop-i-preserved : goal.loop-i-preserved
loop-i-preserved c =
    let v : Kept = at_place c.index_mut.result.now c.raise_below-place.result in
    record {
      done = mapped_on (λ (k : Kept). at_place k (raised (is_empty_of c.args.joins.now) c.args.n (length c.args.joins.now) k.place.row k.place.off))
          c.args.kept.now.items c.loop-i.kept.items c.loop-i.i c.index.result.now v (omega arith)
          (placed_item (λ (p : Place). raised (is_empty_of c.args.joins.now) c.args.n (length c.args.joins.now) p.row p.off) c.loop-i.kept.items
          c.loop-i.i c.index.result.now c.index_mut.result.now c.raise_below-place.result (omega arith) c.index.ensures c.index_mut.ensures.value
          c.raise_below-place.ensures)
          c.loop-i.invariant.done;
      same = c.loop-i.invariant.same;
      room = c.loop-i.invariant.room;
      left = left_set (λ (k : Kept). InForest c.args.n k.place.row k.place.off) c.loop-i.kept.items c.loop-i.i v
          (left_on (λ (k : Kept). InForest c.args.n k.place.row k.place.off) c.loop-i.kept.items c.loop-i.i c.index.result.now (omega arith)
          c.loop-i.invariant.left);
    }
