use Rattle.std.proofs.Common.{◌≡◌, drop, length, All, vec_len, vec_capacity}
use Rattle.forest_place.specs.Forest.{InForest}
use Rattle.cache_model.specs.declared.kept.Kept.{Kept}
use Rattle.cache_model.specs.Cache.{raised}
use Rattle.cache_update.specs.Joins.{is_empty_of}
use Rattle.cache_update.proofs.Keeps.{IsMapped}
use Rattle.cache_update.proofs.keep.raise_each.Given as goal

abbrev pub invariant-loop-i : goal.invariant-loop-i
invariant-loop-i l = record {
  done : IsMapped (λ (k : Kept). let v : Kept = record {
    number = k.number;
    leaf = k.leaf;
    place =
        raised (is_empty_of l.joins) l.n (length l.joins) k.place.row k.place.off;
    digest = k.digest;
  } in v) l.initial.kept.items l.kept.items l.i;
  same : vec_len l.kept ≡ vec_len l.initial.kept;
  room : vec_capacity l.kept ≡ vec_capacity l.initial.kept;
  left : All (λ k. InForest l.n k.place.row k.place.off) (drop l.i l.kept.items);
}
