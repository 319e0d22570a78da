use Rattle.std.proofs.Common.{◌≡◌, vec_len, vec_capacity}
use Rattle.cache_update.proofs.Keeps.{IsPlaced}
use Rattle.cache_update.proofs.keep.place_each.Given as goal

abbrev pub invariant-loop-i : goal.invariant-loop-i
invariant-loop-i l = record {
  done : IsPlaced l.initial.kept.items l.places l.kept.items l.i;
  same : vec_len l.kept ≡ vec_len l.initial.kept;
  room : vec_capacity l.kept ≡ vec_capacity l.initial.kept;
}
