use Rattle.std.proofs.Common.{◌/◌, ◌%◌, sym, ap, ◌∙◌, subst}
use Rattle.std.proofs.lemmas.List.{get_or_default}
use Rattle.live_forest.specs.Sets.{is_bit, IsWith}
use Rattle.live_forest.specs.Pages.{told}
use Rattle.live_forest.specs.Stores.{StoreState, no_page}
use Rattle.live_forest.proofs.Lengthening.{page_last, longer_none, longer_one}
use Rattle.live_forest.proofs.store.Store.list_next.Goals as goal

pub list-requires-clause-last : goal.list-requires-clause-last
list-requires-clause-last c =
    let s : StoreState = record { len = c.self.inside.len; pages = c.self.inside.pages.items; high = c.self.inside.high.items } in
    let pages = c.have_page.new.pages.items in
    let page = c.index_mut-page.ensures.value
    ∙ get_or_default pages (s.len / 128) c.index_mut-page.result.now no_page c.in_ok-have_page.ensures.ok in
    λ i low e. page_last s pages c.in_ok-have_page.ensures.same c.self.invariant i low (ap (λ p. is_bit p.listed i) (sym page) ∙ e)

pub returns-in_err-list-clause-longer : goal.returns-in_err-list-clause-longer
returns-in_err-list-clause-longer c =
    let s : StoreState = record { len = c.self.inside.len; pages = c.self.inside.pages.items; high = c.self.inside.high.items } in
    let pages = c.have_page.new.pages.items in
    let page = c.index_mut-page.ensures.value
    ∙ get_or_default pages (s.len / 128) c.index_mut-page.result.now no_page c.in_ok-have_page.ensures.ok in
    rw (← c.self.view_is)
    (longer_none s pages c.in_ok-have_page.ensures.same c.self.invariant c.list.new.self c.in_ok-have_page.ensures.ok
    (λ r o other. c.in_err-list.ensures.same r o other ∙ ap (λ p. told p r o) page) (c.in_err-list.ensures.err ∙ ap (λ p. p.listed) page))

pub returns-clause-longer : goal.returns-clause-longer
returns-clause-longer c =
    let s : StoreState = record { len = c.self.inside.len; pages = c.self.inside.pages.items; high = c.self.inside.high.items } in
    let pages = c.have_page.new.pages.items in
    let page = c.index_mut-page.ensures.value
    ∙ get_or_default pages (s.len / 128) c.index_mut-page.result.now no_page c.in_ok-have_page.ensures.ok in
    rw (← c.self.view_is)
    (longer_one s pages c.in_ok-have_page.ensures.same c.self.invariant c.list.new.self c.in_ok-have_page.ensures.ok
    (λ r o other. c.in_ok-list.ensures.same r o other ∙ ap (λ p. told p r o) page)
    (subst (λ p. IsWith (is_bit p.listed) (is_bit c.list.new.self.listed) (s.len % 128)) page c.in_ok-list.ensures.ok))
