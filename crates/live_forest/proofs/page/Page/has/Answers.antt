use Rattle.std.proofs.Common.{sym, ◌∙◌}
use Rattle.live_forest.specs.Pages.{PageState}
use Rattle.live_forest.proofs.Telling.{some_told}
use Rattle.live_forest.proofs.page.Page.has.Goals as goal

pub returns : goal.returns
returns c =
    let p : PageState = record { listed = c.self.inside.listed; live = c.self.inside.live; cells = c.self.inside.cells.items } in
    rw (← c.self.view_is) (c.has_some.ensures ∙ sym (some_told p c.args.row c.args.off))
