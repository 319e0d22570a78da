use Rattle.std.proofs.Common.{sym, ap, subst, ◌∙◌}
use Rattle.std.proofs.lemmas.Bool.{ltb-true, ltb-false}
use Rattle.output_index.specs.Entries.{entry_at, entries_from}
use Rattle.output_index.specs.Pages.{row_of, ArePages}
use Rattle.output_index.proofs.Paged.{entry-read, entry-past}
use Rattle.output_index.proofs.entries.Entries.get.Goals as goal

pub returns-in-Some : goal.returns-in-Some
returns-in-Some c =
    let n = c.args.number in
    let pages = c.deref.result.now in
    let even = subst ArePages (sym c.deref.ensures.value) c.self.invariant.whole in
    let got = c.in-Some.ensures.lookup in
    c.get-in-Some.ensures
    ∙ (entry-read pages n c.page_of.result c.in-Some.page.now even c.page_of.ensures (ltb-true _ _ (sym got.0)) got.1
    ∙ ap (entry_at n) (ap (λ p. entries_from 0 (row_of p)) c.deref.ensures.value ∙ c.self.view_is))

pub returns-in-None : goal.returns-in-None
returns-in-None c =
    let n = c.args.number in
    let pages = c.deref.result.now in
    let even = subst ArePages (sym c.deref.ensures.value) c.self.invariant.whole in
    entry-past pages n c.page_of.result even c.page_of.ensures (ltb-false _ _ (sym c.in-None.ensures.lookup.0))
    ∙ ap (entry_at n) (ap (λ p. entries_from 0 (row_of p)) c.deref.ensures.value ∙ c.self.view_is)
