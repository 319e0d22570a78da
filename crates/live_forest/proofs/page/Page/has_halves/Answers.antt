use Rattle.std.proofs.Common.{◌+◌, ◌*◌, sym, ◌∙◌}
use Rattle.live_forest.specs.Pages.{PageState}
use Rattle.live_forest.proofs.Telling.{some_told}
use Rattle.live_forest.proofs.page.Page.has_halves.Goals as goal

pub returns-clause-left : goal.returns-clause-left
returns-clause-left c =
    let p : PageState = record { listed = c.self.inside.listed; live = c.self.inside.live; cells = c.self.inside.cells.items } in
    rw (← c.self.view_is) (c.has_in_halves.ensures.left ∙ sym (some_told p c.args.row (2 * c.args.off)))

pub returns-clause-right : goal.returns-clause-right
returns-clause-right c =
    let p : PageState = record { listed = c.self.inside.listed; live = c.self.inside.live; cells = c.self.inside.cells.items } in
    rw (← c.self.view_is) (c.has_in_halves.ensures.right ∙ sym (some_told p c.args.row (2 * c.args.off + 1)))
