use Rattle.std.proofs.Common.{◌≡◌, ◌+◌, sym, arith}
use Rattle.live_forest.specs.Sets.{is_bit, rank}
use Rattle.live_forest.proofs.Bitmaps.{rank_upto, rank_in_low, rank_in_high, all_set}
use Rattle.live_forest.proofs.Ranks.{rank_full}
use Rattle.live_forest.proofs.bits.rank.Goals as goal
use Rattle.live_forest.proofs.bits.rank.Goals.{then-number-lt64, else-number-lt64}

pub returns-then-bits-eq-ALL : goal.returns-then-bits-eq-ALL
returns-then-bits-eq-ALL c =
    sym (rank_full (is_bit c.args.bits) c.args.number (λ i lt. all_set c.args.bits i c.if-bits-eq-ALL.true (omega (arith, lt, c.requires))))

pub returns : goal.returns
returns c =
    let n = c.args.bits in
    let i = c.args.number in
    elim c.if-number-lt64.branch [
      | then-number-lt64 w ↦
          omega (
            arith,
            w.before-is,
            rank_in_low n i c.half_of.result c.count_below.result w.if-number-lt64.true c.half_of.ensures c.count_below.ensures,
          )
      | else-number-lt64 w ↦
          rank_in_high n i c.half_of.result c.if-number-lt64.before c.count_below.result c.ranges.bits.fits (omega (arith, w.if-number-lt64.false))
          c.requires c.half_of.ensures w.before-is c.count_below.ensures
    ]

pub overflow_add-result : goal.overflow_add-result
overflow_add-result c =
    let n = c.args.bits in
    let i = c.args.number in
    let all : c.if-number-lt64.before + c.count_below.result ≡ rank (is_bit n) i = elim c.if-number-lt64.branch [
      | then-number-lt64 w ↦
          omega (
            arith,
            w.before-is,
            rank_in_low n i c.half_of.result c.count_below.result w.if-number-lt64.true c.half_of.ensures c.count_below.ensures,
          )
      | else-number-lt64 w ↦
          rank_in_high n i c.half_of.result c.if-number-lt64.before c.count_below.result c.ranges.bits.fits (omega (arith, w.if-number-lt64.false))
          c.requires c.half_of.ensures w.before-is c.count_below.ensures
    ] in
    omega (arith, c.requires, all, rank_upto n i)
