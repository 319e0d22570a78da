use Rattle.forest_place.specs.Places.{IsNear, place_in}
use Rattle.proof_shape.proofs.need.needed_beside.Goals as goal
use Rattle.std.proofs.Common.{◌≡◌, ℕ, Some, false, refl, sym, ap, ap₂, ◌∙◌, subst}
use Rattle.std.proofs.lemmas.Bool.{false≢true, false_from_ne_true}
use Rattle.forest_place.specs.declared.place.Place.{Place}
use Rattle.proof_shape.specs.Survey.{is_top, has, needed_beside}
use Rattle.proof_shape.proofs.Needing.{beside, near_from_has}
use Rattle.proof_shape.proofs.Ordered.{has_at}

pub is_root-requires-clause-within : goal.is_root-requires-clause-within
is_root-requires-clause-within c =
    let p = place_in c.args.covered.now c.args.m in
    c.requires.within p.row p.off (has_at c.args.covered.now c.args.m (record { row = 0; off = 0 }) c.requires.index)

pub returns-else-is_near : goal.returns-else-is_near
returns-else-is_near c =
    let p = place_in c.args.covered.now c.args.m in
    let same : c.sibling-beside.result ≡ beside p =
    ap₂ (λ (x y : ℕ). let q : Place = record { row = x; off = y } in q) c.sibling-beside.ensures.row c.sibling-beside.ensures.off in
    let other : is_top c.args.n p ≡ false = sym c.is_root.ensures ∙ c.if-is_root.false in
    let alone : has c.args.covered.now (beside p) ≡ false = false_from_ne_true _ (λ t.
    let near = near_from_has c.args.n c.args.covered.now c.args.m c.requires.rises c.requires.index t in
    false≢true (sym c.if-is_near.false ∙ c.is_near.ensures.1 (subst (IsNear c.args.covered.now c.args.m) (sym same) near))) in
    let gives : needed_beside c.args.n c.args.covered.now p ≡ Some (beside p) = rw (other, alone) refl in
    ap Some same ∙ sym gives
