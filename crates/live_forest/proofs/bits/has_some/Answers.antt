use Rattle.std.proofs.Common.{◌*◌, ◌^◌, ◌<◌, sym, arith}
use Rattle.std.proofs.lemmas.Nat.{pow_pos}
use Rattle.live_forest.specs.Sets.{is_bit}
use Rattle.live_forest.proofs.Bitmaps.{all_bits, some_bits, all_set, part_ends}
use Rattle.live_forest.proofs.Ranks.{part_full}
use Rattle.live_forest.proofs.bits.has_some.Goals as goal

pub returns-then-bits-eq-ALL : goal.returns-then-bits-eq-ALL
returns-then-bits-eq-ALL c =
    let row = c.args.row in
    let off = c.args.off in
    let end = part_ends row off c.requires.row c.requires.within in
    let first : off * 2 ^ row < 128 = omega (arith, end, pow_pos row) in
    sym (part_full (is_bit c.args.bits) row off (all_set c.args.bits (off * 2 ^ row) c.if-bits-eq-ALL.true first))

pub returns-then-row-eq7 : goal.returns-then-row-eq7
returns-then-row-eq7 c =
    some_bits c.args.bits c.args.row c.args.off c.args.bits
    (all_bits c.args.bits c.args.row c.args.off c.ranges.bits.fits c.requires.within (omega (arith, c.if-row-eq7.true)))

pub returns : goal.returns
returns c = some_bits c.args.bits c.args.row c.args.off c.bits_of.result c.bits_of.ensures
