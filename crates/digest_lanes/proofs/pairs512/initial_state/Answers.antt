use Rattle.std.proofs.Common.{refl}
use Rattle.digest_lanes.proofs.pairs512.initial_state.Goals as goal

pub returns : goal.returns
returns g c j h =
    rw (
      c.splat.ensures j h,
      c.splat-2.ensures j h,
      c.splat-3.ensures j h,
      c.splat-4.ensures j h,
      c.splat-5.ensures j h,
      c.splat-6.ensures j h,
      c.splat-7.ensures j h,
      c.splat-8.ensures j h,
    ) refl
