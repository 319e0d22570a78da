use Rattle.std.proofs.Common.{arith}
use Rattle.forest_place.proofs.Positions.{row_small}
use Rattle.forest_place.proofs.Differing.{differs, slot_from_log}
use Rattle.forest_place.proofs.place.slot_of.Goals as goal
use Rattle.forest_place.proofs.place.slot_of.Goals.{then-place-ge40-via-then-place-ge40, then-place-ge40-via-else-place-ge40+then-place-n}

pub returns-then-place-ge40 : goal.returns-then-place-ge40
returns-then-place-ge40 c = λ within.
    let small = row_small c.args.n c.args.place.row c.args.place.off 40 within c.requires in
    elim c.then-place-ge40.branch [
      | then-place-ge40-via-then-place-ge40 w ↦ omega (arith, small)
      | then-place-ge40-via-else-place-ge40+then-place-n w
          ↦ omega (arith, within)
    ]

pub ilog2-requires : goal.ilog2-requires
ilog2-requires c = differs c.args.n c.args.place.row c.args.place.off c.requires c.if-place-n.false

pub returns : goal.returns
returns c = slot_from_log c.args.n c.args.place.row c.args.place.off c.ilog2.result c.requires c.if-place-n.false c.ilog2.ensures.power_le
    c.ilog2.ensures.next_power_gt
