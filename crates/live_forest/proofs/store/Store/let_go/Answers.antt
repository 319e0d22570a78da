use Rattle.std.proofs.Common.{◌<◌, ◌≤◌, ◌+◌, ◌*◌, ◌/◌, length, sym, ap, ◌∙◌, subst, arith}
use Rattle.std.proofs.lemmas.List.{get_or_default}
use Rattle.live_forest.specs.Pages.{AreOfHalves, told}
use Rattle.live_forest.specs.Stores.{StoreState, no_page, is_listed, AreStoredOfHalves}
use Rattle.live_forest.proofs.Storing.{page_listed}
use Rattle.live_forest.proofs.Forgetting.{page_halves, same_stored}
use Rattle.live_forest.proofs.store.Store.let_go.Goals as goal

pub let_go-requires-clause-halves : goal.let_go-requires-clause-halves
let_go-requires-clause-halves c =
    let s : StoreState = record { len = c.self.inside.len; pages = c.self.inside.pages.items; high = c.self.inside.high.items } in
    let number = c.args.number in
    let within : number / 128 < length s.pages =
    page_listed s number c.self.invariant (ap (λ x. is_listed x.pages number) c.self.view_is ∙ c.requires.listed) in
    let page = c.index_mut-page.ensures.value ∙ get_or_default s.pages (number / 128) c.index_mut-page.result.now no_page within in
    let halves : AreStoredOfHalves s c.args.n = subst (λ x. AreStoredOfHalves x c.args.n) (sym c.self.view_is) c.requires.halves in
    let count = c.count_in-count.result in
    let under : 0 < count → number / 128 * 128 + count ≤ c.args.n = λ some. omega (arith, c.count_in-count.ensures.within some) in
    subst (λ p. AreOfHalves p count) (sym page)
    (page_halves s c.args.n (number / 128) count c.count_in-count.ensures.few under halves)

pub returns-clause-same : goal.returns-clause-same
returns-clause-same c =
    let s : StoreState = record { len = c.self.inside.len; pages = c.self.inside.pages.items; high = c.self.inside.high.items } in
    let number = c.args.number in
    let within : number / 128 < length s.pages =
    page_listed s number c.self.invariant (ap (λ x. is_listed x.pages number) c.self.view_is ∙ c.requires.listed) in
    let page = c.index_mut-page.ensures.value ∙ get_or_default s.pages (number / 128) c.index_mut-page.result.now no_page within in
    let count = c.count_in-count.result in
    let under : 0 < count → number / 128 * 128 + count ≤ c.args.n = λ some. omega (arith, c.count_in-count.ensures.within some) in
    let all : count < 128 → c.args.n ≤ number / 128 * 128 + count = λ part. omega (arith, c.count_in-count.ensures.all part) in
    λ row off h. rw (← c.self.view_is)
    (same_stored s c.args.n (number / 128) count c.count_in-count.ensures.few under c.let_go.new.self within all
    (λ r o low. c.let_go.ensures.same r o low ∙ ap (λ p. told p r o) page) row off h)
