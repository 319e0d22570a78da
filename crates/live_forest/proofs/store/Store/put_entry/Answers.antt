use Rattle.std.proofs.Common.{◌<◌, ◌/◌, ◌%◌, length, ap, ◌∙◌, subst, arith}
use Rattle.std.proofs.lemmas.List.{get_or_default}
use Rattle.live_forest.specs.Pages.{IsEntryPut}
use Rattle.live_forest.specs.Stores.{StoreState, no_page}
use Rattle.live_forest.proofs.Storing.{entry_kept}
use Rattle.live_forest.proofs.store.Store.put_entry.Goals as goal

pub returns-clause-put : goal.returns-clause-put
returns-clause-put c =
    let s : StoreState = record { len = c.self.inside.len; pages = c.self.inside.pages.items; high = c.self.inside.high.items } in
    let within : c.args.number / 128 < length s.pages =
    omega (arith, c.requires.room, c.self.invariant.pages, ap (λ x. x.len) c.self.view_is) in
    let page = c.index_mut-page.ensures.value ∙ get_or_default s.pages (c.args.number / 128) c.index_mut-page.result.now no_page within in
    rw (← c.self.view_is)
    (entry_kept s c.args.number c.put_entry.new.self c.self.invariant within (c.put_entry.ensures.listed ∙ ap (λ p. p.listed) page) c.args.entry
    (subst (λ p. IsEntryPut p c.put_entry.new.self (c.args.number % 128) c.args.entry) page c.put_entry.ensures.put))
