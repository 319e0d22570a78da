use Rattle.std.proofs.Common.{◌≡◌, ◌+◌, ◌*◌, ◌/◌, ◌^◌, suc, sym, ap, ◌∙◌, subst, arith}
use Rattle.std.proofs.lemmas.Bool.{true≢false}
use Rattle.live_forest.specs.Sets.{is_bit}
use Rattle.live_forest.specs.Pages.{PageState, IsOfHalves, told}
use Rattle.live_forest.proofs.Telling.{page_within, above_is, part_stays, alone_halves, side_within}
use Rattle.live_forest.proofs.page.Page.put_alone.Goals as goal

pub is_branch-requires-clause-listed : goal.is_branch-requires-clause-listed
is_branch-requires-clause-listed c =
    let p : PageState = record { listed = c.self.inside.listed; live = c.self.inside.live; cells = c.self.inside.cells.items } in
    ap (λ x. is_bit x.listed c.args.number) c.self.view_is ∙ c.requires.listed

pub returns-then-not-is_branch-clause-put : goal.returns-then-not-is_branch-clause-put
returns-then-not-is_branch-clause-put c =
    let p : PageState = record { listed = c.self.inside.listed; live = c.self.inside.live; cells = c.self.inside.cells.items } in
    let off = c.args.number / 2 ^ suc c.args.row in
    let other = rw (← c.self.view_is) at c.requires.other in
    rw (← c.self.view_is)
    (part_stays p c.args.row c.args.number (told p c.args.row (2 * off + c.args.side)) c.self.invariant c.requires.row
    (λ b. true≢false (sym (c.is_branch.ensures.1 b) ∙ c.if-not-is_branch.true))
    (alone_halves (told p c.args.row) (2 * off) c.args.side c.requires.side other))

pub part-requires-clause-within : goal.part-requires-clause-within
part-requires-clause-within c =
    rw (above_is c.args.number c.args.row)
    (side_within 128 c.args.row (c.args.number / 2 ^ suc c.args.row) c.args.side c.requires.side
    (page_within c.args.number (suc c.args.row) c.requires.number (omega (arith, c.requires.row))))

pub put_part-requires-clause-halves : goal.put_part-requires-clause-halves
put_part-requires-clause-halves c =
    let off = c.args.number / 2 ^ suc c.args.row in
    let s = c.args.self.now in
    let own : c.copied-own.result ≡ told s c.args.row (2 * off + c.args.side) =
    c.copied-own.ensures ∙ c.part.ensures ∙ ap (λ k. told s c.args.row (2 * k + c.args.side)) (above_is c.args.number c.args.row) in
    subst (IsOfHalves (told s c.args.row (2 * off)) (told s c.args.row (2 * off + 1))) (sym own)
    (alone_halves (told s c.args.row) (2 * off) c.args.side c.requires.side c.requires.other)
