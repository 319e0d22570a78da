use Rattle.std.proofs.Common.{◌≡◌, ◌/◌, ◌%◌, suc, false, Some, None, sym, ap, ap₂, ◌∙◌, arith}
use Rattle.forest_place.specs.declared.place.Place.{Place}
use Rattle.forest_place.specs.Forest.{sibling_off}
use Rattle.forest_place.proofs.Siblings.{sibling_within}
use Rattle.forest_place.proofs.Positions.{row_small}
use Rattle.forest_model.specs.Deletion.{is_gone, moved, child_place}
use Rattle.proof_shape.specs.Moves.{gone_by}
use Rattle.proof_shape.proofs.Gone.{moved_top, moved_up}
use Rattle.proof_shape.proofs.moves.+moved_from.Goals as goal

pub returns-in_default-clause-is : goal.returns-in_default-clause-is
returns-in_default-clause-is t c = λ ts tell.
    let p = c.args.place in
    let stays : is_gone ts p.row p.off ≡ false = sym (tell p.row p.off c.requires.within) ∙ (sym c.is_gone.ensures ∙ c.if-is_gone.false) in
    moved_top c.args.n ts p c.requires.within stays c.in_default.ensures

pub moved_from-requires : goal.moved_from-requires
moved_from-requires t c =
    let small = row_small c.args.n c.args.place.row c.args.place.off 40 c.requires.within c.requires.small in
    let row : c.in-Some.next.row ≡ suc c.args.place.row = ap (λ (p : Place). p.row) c.in-Some.ensures.1 in
    (omega (arith, small, row, c.decreases), (c.requires.small, (c.in-Some.ensures.2, (c.requires.covered, c.requires.kept))))

pub returns-in-Some-moved_from-clause-is : goal.returns-in-Some-moved_from-clause-is
returns-in-Some-moved_from-clause-is t c = λ ts tell.
    let p = c.args.place in
    let q = c.in-Some.next in
    let stays : is_gone ts p.row p.off ≡ false = sym (tell p.row p.off c.requires.within) ∙ (sym c.is_gone.ensures ∙ c.if-is_gone.false) in
    let e = c.in-Some.ensures.1 in
    let up : moved c.args.n ts (suc p.row) (p.off / 2) ≡ Some c.in-Some-moved_from.goes = ap (λ (x : Place). moved c.args.n ts x.row x.off) (sym e)
    ∙ sym (c.in-Some-moved_from.ensures.is ts tell) in
    let other = c.in-Some.ensures.0 in
    let sib = sibling_within c.args.n p.row p.off c.requires.within other in
    let alone : c.is_gone-alone.result ≡ is_gone ts p.row (sibling_off p.off) =
    c.is_gone-alone.ensures ∙ (ap₂ (gone_by c.args.n c.args.covered.now c.args.kept.now) c.sibling.ensures.row c.sibling.ensures.off
    ∙ tell p.row (sibling_off p.off) sib) in
    c.child_of.ensures.is ∙ (ap (λ s. child_place c.is_gone-alone.result s (Some c.in-Some-moved_from.goes)) c.side.ensures.is
    ∙ ap₂ (λ b x. child_place b (p.off % 2) x) alone (sym up) ∙ sym (moved_up c.args.n ts p c.requires.within stays other))

pub returns-in-None-clause-is : goal.returns-in-None-clause-is
returns-in-None-clause-is t c = λ ts tell.
    let p = c.args.place in
    let stays : is_gone ts p.row p.off ≡ false = sym (tell p.row p.off c.requires.within) ∙ (sym c.is_gone.ensures ∙ c.if-is_gone.false) in
    let e = c.in-Some.ensures.1 in
    let up : moved c.args.n ts (suc p.row) (p.off / 2) ≡ None = ap (λ (x : Place). moved c.args.n ts x.row x.off) (sym e)
    ∙ sym (c.in-None.ensures.is ts tell) in
    sym (moved_up c.args.n ts p c.requires.within stays c.in-Some.ensures.0 ∙ ap (child_place (is_gone ts p.row (sibling_off p.off)) (p.off % 2)) up)
