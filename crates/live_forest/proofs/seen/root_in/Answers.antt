use Rattle.std.proofs.Common.{◌≡◌, ℕ, true, false, ap, ap₂, sym, ◌∙◌, arith}
use Rattle.forest_place.specs.declared.place.Place.{Place}
use Rattle.forest_place.specs.Forest.{is_slot, root_off}
use Rattle.live_forest.proofs.Holding.{length-entries}
use Rattle.live_forest.proofs.seen.root_in.Goals as goal

pub root_place-requires-clause-small : goal.root_place-requires-clause-small
root_place-requires-clause-small c = omega (arith, length-entries c.args.n c.args.store.now c.requires.room, c.requires.small)

pub returns-then-is_slot : goal.returns-then-is_slot
returns-then-is_slot c =
    let long = length-entries c.args.n c.args.store.now c.requires.room in (
      ap (λ m. is_slot m c.args.row) long ∙ sym c.is_slot.ensures ∙ c.if-is_slot.true,
      ap₂ (λ (row off : ℕ). let root : Place = record { row = row; off = off } in root) c.root_place.ensures.row
          (c.root_place.ensures.off ∙ ap (λ m. root_off m c.args.row) (sym long)),
    )

pub returns-else-is_slot : goal.returns-else-is_slot
returns-else-is_slot c =
    ap (λ m. is_slot m c.args.row) (length-entries c.args.n c.args.store.now c.requires.room) ∙ sym c.is_slot.ensures ∙ c.if-is_slot.false
