use Rattle.std.proofs.Common.{Some, sym, ap, ◌∙◌}
use Rattle.live_forest.specs.Pages.{PageState, when, digest_at}
use Rattle.live_forest.proofs.Telling.{none_told, live_listed}
use Rattle.live_forest.proofs.page.Page.part.Goals as goal

pub returns-then-not-has_some : goal.returns-then-not-has_some
returns-then-not-has_some c =
    let p : PageState = record { listed = c.self.inside.listed; live = c.self.inside.live; cells = c.self.inside.cells.items } in
    rw (← c.self.view_is) (sym (none_told p c.args.row c.args.off (sym c.has_some.ensures ∙ c.if-not-has_some.true)))

pub digest_of-requires-clause-some : goal.digest_of-requires-clause-some
digest_of-requires-clause-some c =
    let p : PageState = record { listed = c.self.inside.listed; live = c.self.inside.live; cells = c.self.inside.cells.items } in
    live_listed p c.args.row c.args.off c.self.invariant (sym c.has_some.ensures ∙ c.if-not-has_some.false)

pub digest_of-requires-clause-full : goal.digest_of-requires-clause-full
digest_of-requires-clause-full c = rw c.deref.ensures.value c.self.invariant.full

pub returns : goal.returns
returns c =
    let p : PageState = record { listed = c.self.inside.listed; live = c.self.inside.live; cells = c.self.inside.cells.items } in
    let live = sym c.has_some.ensures ∙ c.if-not-has_some.false in
    rw (← c.self.view_is)
    (ap Some (c.digest_of.ensures ∙ ap (λ cells. digest_at p.listed cells c.args.row c.args.off) c.deref.ensures.value)
    ∙ ap (λ b. when b (digest_at p.listed p.cells c.args.row c.args.off)) (sym live))
