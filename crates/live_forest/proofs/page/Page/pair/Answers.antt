use Rattle.std.proofs.Common.{ap, ◌∙◌, arith}
use Rattle.live_forest.specs.Sets.{is_bit, rank}
use Rattle.live_forest.specs.Pages.{PageState}
use Rattle.live_forest.proofs.Telling.{gap_index, middle_low, joined_branch, pair_told}
use Rattle.live_forest.proofs.page.Page.pair.Goals as goal

pub middle-requires-clause-within : goal.middle-requires-clause-within
middle-requires-clause-within c = middle_low c.args.row c.args.off c.requires.within

pub rank-requires : goal.rank-requires
rank-requires c = omega (arith, c.middle.ensures, middle_low c.args.row c.args.off c.requires.within)

pub index-cell-requires : goal.index-cell-requires
index-cell-requires c =
    let p : PageState = record { listed = c.self.inside.listed; live = c.self.inside.live; cells = c.self.inside.cells.items } in
    let left = rw (← c.self.view_is) at c.requires.left in
    let b = joined_branch p c.args.row c.args.off c.self.invariant left (rw (← c.self.view_is) at c.requires.right) in
    let at = c.rank.ensures ∙ ap (rank (is_bit p.listed)) c.middle.ensures in
    omega (arith, at, gap_index p c.self.invariant c.args.row c.args.off c.requires.within b, c.self.inside.cells.ok.0)

pub returns-clause-left : goal.returns-clause-left
returns-clause-left c =
    let p : PageState = record { listed = c.self.inside.listed; live = c.self.inside.live; cells = c.self.inside.cells.items } in
    let left = rw (← c.self.view_is) at c.requires.left in
    let right = rw (← c.self.view_is) at c.requires.right in
    let at = c.rank.ensures ∙ ap (rank (is_bit p.listed)) c.middle.ensures in
    rw (← c.self.view_is)
    (pair_told p c.self.invariant c.args.row c.args.off c.requires.row c.requires.within left right c.rank.result c.index-cell.result.now at
    c.index-cell.ensures).0

pub returns-clause-right : goal.returns-clause-right
returns-clause-right c =
    let p : PageState = record { listed = c.self.inside.listed; live = c.self.inside.live; cells = c.self.inside.cells.items } in
    let left = rw (← c.self.view_is) at c.requires.left in
    let right = rw (← c.self.view_is) at c.requires.right in
    let at = c.rank.ensures ∙ ap (rank (is_bit p.listed)) c.middle.ensures in
    rw (← c.self.view_is)
    (pair_told p c.self.invariant c.args.row c.args.off c.requires.row c.requires.within left right c.rank.result c.index-cell.result.now at
    c.index-cell.ensures).1
