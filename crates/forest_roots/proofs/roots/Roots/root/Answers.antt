use Rattle.std.proofs.Common.{◌≡◌, ◌∙◌, true, sym, subst, arith}
use Rattle.std.proofs.lemmas.Bool.{true≢false}
use Rattle.forest_place.specs.Forest.{is_slot}
use Rattle.forest_place.proofs.Positions.{slot_small}
use Rattle.forest_roots.proofs.roots.Roots.root.Goals as goal
use Rattle.forest_roots.proofs.roots.Roots.root.Goals.{else-row-lt40-via-then-row-lt40+else-is_slot, else-row-lt40-via-else-row-lt40}

pub returns-else-row-lt40 : goal.returns-else-row-lt40
returns-else-row-lt40 g c = λ slot.
    let here : is_slot c.self.inside.count c.args.row ≡ true = subst (λ f. is_slot f.leaves c.args.row ≡ true) (sym c.self.view_is) slot in
    let small = slot_small c.self.inside.count c.args.row 40 here c.self.invariant.few in
    elim c.else-row-lt40.branch [
      | else-row-lt40-via-then-row-lt40+else-is_slot w ↦ true≢false (sym here ∙ sym w.if-is_slot.ensures)
      | else-row-lt40-via-else-row-lt40
          w ↦ omega (arith, small)
    ]
