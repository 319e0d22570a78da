use Rattle.std.proofs.Common.{◌≡◌, true, sym, subst}
use Rattle.forest_place.specs.Forest.{is_slot}
use Rattle.forest_place.proofs.Positions.{slot_small}
use Rattle.forest_roots.proofs.roots.Roots.put_root.Goals as goal

pub bounds-self-inside-row : goal.bounds-self-inside-row
bounds-self-inside-row g c =
    let here : is_slot c.self.inside.count c.args.row ≡ true = subst (λ f. is_slot f.leaves c.args.row ≡ true) (sym c.self.view_is) c.requires in
    slot_small c.self.inside.count c.args.row 40 here c.self.invariant.few
