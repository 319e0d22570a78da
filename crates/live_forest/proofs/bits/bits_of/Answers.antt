use Rattle.std.proofs.Common.{arith}
use Rattle.std.proofs.lemmas.Nat.{one_shl}
use Rattle.live_forest.proofs.Bitmaps.{part_ends, half_fits, bits_are}
use Rattle.live_forest.proofs.bits.bits_of.Goals as goal

pub half_of-requires : goal.half_of-requires
half_of-requires c = omega (arith, part_ends c.args.row c.args.off (omega (arith, c.requires.row)) c.requires.within)

pub returns : goal.returns
returns c = bits_are c.args.bits c.args.row c.args.off c.half_of.result c.requires.row c.requires.within c.half_of.ensures

pub overflow_sub-result : goal.overflow_sub-result
overflow_sub-result c =
    omega (
      arith,
      one_shl c.args.row 32 (omega (arith, c.requires.row)),
      half_fits c.args.row c.args.off c.requires.row (part_ends c.args.row c.args.off (omega (arith, c.requires.row)) c.requires.within),
    )
