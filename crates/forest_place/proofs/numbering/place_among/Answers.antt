use Rattle.std.proofs.Common.{◌≡◌, ℕ, ◌+◌, ◌-◌, ◌*◌, ◌/◌, ◌%◌, ◌^◌, ◌<◌, ◌≤◌, ap, sym, ◌∙◌, subst, arith}
use Rattle.std.proofs.lemmas.Nat.{pow_pos}
use Rattle.forest_place.specs.Position.{row_start}
use Rattle.forest_place.proofs.Positions.{shifted, within_top, number_small, IsFromEnd, row_from_end, row_in_range}
use Rattle.forest_place.proofs.numbering.place_among.Goals as goal

-- what the logarithm says
from_end : (top p j : ℕ) → top ≤ 40 → p < 2 * 2 ^ top % 2 ^ 64 - 1 → 2 ^ j ≤ 2 * 2 ^ top % 2 ^ 64 - 1 - p → 2 * 2 ^ top % 2 ^ 64 - 1 - p < 2 * 2 ^ j
    → IsFromEnd top p j
from_end top p j few a b c =
    let e = shifted top few in
    record { before = subst (λ x. p < x - 1) e a; least = subst (λ x. 2 ^ j ≤ x - 1 - p) e b; most = subst (λ x. x - 1 - p < 2 * 2 ^ j) e c }

pub overflow_sub-end : goal.overflow_sub-end
overflow_sub-end c = omega (arith, shifted c.args.top c.requires.few, pow_pos (c.args.top + 1))

pub returns-then-position-end : goal.returns-then-position-end
returns-then-position-end c = λ q within same.
    let w = within_top c.args.top c.args.n q.row q.off c.requires.room within in
    let small = number_small c.args.top q.row q.off w.0 w.1 in
    omega (arith, small, shifted c.args.top c.requires.few, same, c.if-position-end.true)

pub overflow_sub-row : goal.overflow_sub-row
overflow_sub-row c =
    let f = from_end c.args.top c.args.position c.ilog2.result c.requires.few c.if-position-end.false c.ilog2.ensures.power_le
    c.ilog2.ensures.next_power_gt in
    (row_in_range c.args.top c.args.position c.ilog2.result f).0

pub overflow_sub-off : goal.overflow_sub-off
overflow_sub-off c =
    let f = from_end c.args.top c.args.position c.ilog2.result c.requires.few c.if-position-end.false c.ilog2.ensures.power_le
    c.ilog2.ensures.next_power_gt in
    omega (arith, (row_in_range c.args.top c.args.position c.ilog2.result f).1, c.row_start.ensures)

pub returns-then-off-n : goal.returns-then-off-n
returns-then-off-n c =
    let f = from_end c.args.top c.args.position c.ilog2.result c.requires.few c.if-position-end.false c.ilog2.ensures.power_le
    c.ilog2.ensures.next_power_gt in
    let low = (row_in_range c.args.top c.args.position c.ilog2.result f).1 in
    (c.if-off-n.true, omega (arith, low, c.row_start.ensures))

pub returns-else-off-n : goal.returns-else-off-n
returns-else-off-n c = λ q within same.
    let f = from_end c.args.top c.args.position c.ilog2.result c.requires.few c.if-position-end.false c.ilog2.ensures.power_le
    c.ilog2.ensures.next_power_gt in
    let w = within_top c.args.top c.args.n q.row q.off c.requires.room within in
    let row : q.row ≡ c.args.top - c.ilog2.result =
    row_from_end c.args.top q.row q.off c.ilog2.result w.0 w.1 (subst (λ p. IsFromEnd c.args.top p c.ilog2.result) (sym same) f) in
    let start : row_start c.args.top q.row ≡ c.row_start.result = ap (row_start c.args.top) row ∙ sym c.row_start.ensures in
    let here = subst (λ r. q.off < c.args.n / 2 ^ r) row within in
    omega (arith, start, same, here, c.if-off-n.false)
