use Rattle.std.proofs.Common.{◌≡◌, suc, ◌+◌, ◌*◌, ◌/◌, ◌%◌, ◌^◌, ◌<◌, not, sym, ap, ◌∙◌, subst, arith}
use Rattle.std.specs.Prelude.{◌==◌}
use Rattle.std.proofs.lemmas.Nat.{pow_pos, one_shl}
use Rattle.forest_place.specs.Forest.{InForest}
use Rattle.forest_place.proofs.Parts.{InForest-left, InForest-right}
use Rattle.live_forest.specs.Sets.{is_bit, has_part}
use Rattle.live_forest.proofs.Bitmaps.{all_bits, some_bits, all_set, part_ends, halves_bits, width_few}
use Rattle.live_forest.proofs.Ranks.{part_full}
use Rattle.live_forest.proofs.bits.has_in_halves.Goals as goal

pub returns-then-bits-eq-ALL-clause-left : goal.returns-then-bits-eq-ALL-clause-left
returns-then-bits-eq-ALL-clause-left c =
    let row = c.args.row in
    let off = 2 * c.args.off in
    let end = part_ends row off (omega (arith, c.requires.row)) (InForest-left 128 row c.args.off c.requires.within) in
    let first : off * 2 ^ row < 128 = omega (arith, end, pow_pos row) in
    sym (part_full (is_bit c.args.bits) row off (all_set c.args.bits (off * 2 ^ row) c.if-bits-eq-ALL.true first))

pub returns-then-bits-eq-ALL-clause-right : goal.returns-then-bits-eq-ALL-clause-right
returns-then-bits-eq-ALL-clause-right c =
    let row = c.args.row in
    let off = 2 * c.args.off + 1 in
    let end = part_ends row off (omega (arith, c.requires.row)) (InForest-right 128 row c.args.off c.requires.within) in
    let first : off * 2 ^ row < 128 = omega (arith, end, pow_pos row) in
    sym (part_full (is_bit c.args.bits) row off (all_set c.args.bits (off * 2 ^ row) c.if-bits-eq-ALL.true first))

pub returns-then-row-eq6-clause-left : goal.returns-then-row-eq6-clause-left
returns-then-row-eq6-clause-left c =
    let n = c.args.bits in
    let off = c.args.off in
    let e : c.args.row ≡ 6 = omega (arith, c.if-row-eq6.true) in
    let is = all_bits n 7 off c.ranges.bits.fits (subst (λ r. InForest 128 (suc r) off) e c.requires.within) (omega arith) in
    subst (λ r. not (n % 2 ^ 64 == 0) ≡ has_part (is_bit n) r (2 * off)) (sym e) (some_bits n 6 (2 * off) (n % 2 ^ 64) (halves_bits n 6 off n is).0)

pub returns-then-row-eq6-clause-right : goal.returns-then-row-eq6-clause-right
returns-then-row-eq6-clause-right c =
    let n = c.args.bits in
    let off = c.args.off in
    let e : c.args.row ≡ 6 = omega (arith, c.if-row-eq6.true) in
    let is = all_bits n 7 off c.ranges.bits.fits (subst (λ r. InForest 128 (suc r) off) e c.requires.within) (omega arith) in
    subst (λ r. not (n / 2 ^ 64 == 0) ≡ has_part (is_bit n) r (2 * off + 1)) (sym e)
    (some_bits n 6 (2 * off + 1) (n / 2 ^ 64) (halves_bits n 6 off n is).1)

pub overflow_shl-result-2 : goal.overflow_shl-result-2
overflow_shl-result-2 c =
    let low : c.args.row < 6 = omega (arith, c.requires.row, c.if-row-eq6.false) in
    omega (arith, one_shl c.args.row 32 (omega (arith, low)), width_few c.args.row low)

pub nonzero_rem-result-2 : goal.nonzero_rem-result-2
nonzero_rem-result-2 c =
    let low : c.args.row < 6 = omega (arith, c.requires.row, c.if-row-eq6.false) in
    let w = one_shl c.args.row 32 (omega (arith, low)) in
    let few : 1 * 2 ^ c.args.row % 2 ^ 32 < 64 = omega (arith, w, width_few c.args.row low) in
    omega (arith, one_shl (1 * 2 ^ c.args.row % 2 ^ 32) 64 few, pow_pos (1 * 2 ^ c.args.row % 2 ^ 32))

pub overflow_shr-result-2 : goal.overflow_shr-result-2
overflow_shr-result-2 c =
    let low : c.args.row < 6 = omega (arith, c.requires.row, c.if-row-eq6.false) in
    omega (arith, one_shl c.args.row 32 (omega (arith, low)), width_few c.args.row low)

pub returns-clause-left : goal.returns-clause-left
returns-clause-left c =
    let n = c.args.bits in
    let row = c.args.row in
    let off = c.args.off in
    let low : row < 6 = omega (arith, c.requires.row, c.if-row-eq6.false) in
    let up : row + 1 ≡ suc row = omega arith in
    let w = one_shl row 32 (omega (arith, low)) in
    let few : 1 * 2 ^ row % 2 ^ 32 < 64 = omega (arith, w, width_few row low) in
    let mask = one_shl (1 * 2 ^ row % 2 ^ 32) 64 few ∙ ap (λ k. 2 ^ k) w in
    let is = c.bits_of-both.ensures ∙ ap (λ r. n / 2 ^ (off * 2 ^ r) % 2 ^ 2 ^ r) up in
    ap (λ k. not (c.bits_of-both.result % k == 0)) mask ∙ some_bits n row (2 * off) _ (halves_bits n row off c.bits_of-both.result is).0

pub returns-clause-right : goal.returns-clause-right
returns-clause-right c =
    let n = c.args.bits in
    let row = c.args.row in
    let off = c.args.off in
    let low : row < 6 = omega (arith, c.requires.row, c.if-row-eq6.false) in
    let up : row + 1 ≡ suc row = omega arith in
    let w = one_shl row 32 (omega (arith, low)) in
    let is = c.bits_of-both.ensures ∙ ap (λ r. n / 2 ^ (off * 2 ^ r) % 2 ^ 2 ^ r) up in
    ap (λ k. not (c.bits_of-both.result / 2 ^ k == 0)) w ∙ some_bits n row (2 * off + 1) _ (halves_bits n row off c.bits_of-both.result is).1
