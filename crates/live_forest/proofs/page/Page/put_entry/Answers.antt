use Rattle.std.proofs.Common.{◌≡◌, true, ap, ◌∙◌, subst, arith}
use Rattle.live_forest.specs.declared.spots.Spot.{Spot}
use Rattle.live_forest.specs.Sets.{is_bit}
use Rattle.live_forest.specs.Pages.{PageState, IsPut}
use Rattle.live_forest.proofs.Landing.{spot_within}
use Rattle.live_forest.proofs.Telling.{listed_few, entry_gone, entry_come, page_come}
use Rattle.live_forest.proofs.page.Page.put_entry.Goals as goal

pub put-requires : goal.put-requires
put-requires c =
    let p : PageState = record { listed = c.self.inside.listed; live = c.self.inside.live; cells = c.self.inside.cells.items } in
    let listed : is_bit p.listed c.args.number ≡ true = ap (λ x. is_bit x.listed c.args.number) c.self.view_is ∙ c.requires.listed in
    let cell = ap (λ (s : Spot). s.cell) c.spot_of.ensures in
    omega (arith, cell, spot_within (is_bit p.listed) (listed_few p.listed c.self.ranges.0.1) 0 c.args.number listed, c.self.invariant.full)

pub invariant_of-self-in-Some : goal.invariant_of-self-in-Some
invariant_of-self-in-Some c =
    let p : PageState = record { listed = c.self.inside.listed; live = c.self.inside.live; cells = c.self.inside.cells.items } in
    let listed : is_bit p.listed c.args.number ≡ true = ap (λ x. is_bit x.listed c.args.number) c.self.view_is ∙ c.requires.listed in
    page_come p c.with-self-inside.result c.args.number _ c.self.invariant listed c.with-self-inside.ensures c.put.ensures.len

pub returns-in-None-clause-put : goal.returns-in-None-clause-put
returns-in-None-clause-put c =
    let p : PageState = record { listed = c.self.inside.listed; live = c.self.inside.live; cells = c.self.inside.cells.items } in
    rw (← c.self.view_is, c.in-None.is) (entry_gone p c.without-self-inside.result c.args.number c.without-self-inside.ensures)

pub returns-in-Some-clause-put : goal.returns-in-Some-clause-put
returns-in-Some-clause-put c =
    let p : PageState = record { listed = c.self.inside.listed; live = c.self.inside.live; cells = c.self.inside.cells.items } in
    let listed : is_bit p.listed c.args.number ≡ true = ap (λ x. is_bit x.listed c.args.number) c.self.view_is ∙ c.requires.listed in
    let put = subst (λ s. IsPut p.cells c.put.new.cells.items s c.in-Some.digest) c.spot_of.ensures c.put.ensures in
    rw (← c.self.view_is, c.in-Some.is)
    (entry_come p c.self.invariant c.self.ranges.0.1 c.with-self-inside.result c.args.number c.put.new.cells.items c.in-Some.digest listed put
    c.with-self-inside.ensures)
