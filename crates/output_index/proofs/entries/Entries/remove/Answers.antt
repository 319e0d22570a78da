use Rattle.std.proofs.Common.{◌<◌, ◌%◌, length, set, None, sym, ap, ap₂, subst, ◌∙◌, arith}
use Rattle.std.specs.Prelude.{IsSome}
use Rattle.output_index.specs.Entries.{entry_at, entries_from, removed, AreEntries}
use Rattle.output_index.specs.Pages.{row_of}
use Rattle.output_index.proofs.Paged.{page-read, entry-read, entry-within, cleared-page, kept-cleared}
use Rattle.output_index.proofs.entries.Entries.remove.Goals as goal

pub index_mut-page-requires : goal.index_mut-page-requires
index_mut-page-requires c =
    let held = subst (λ es. IsSome (entry_at c.args.number es)) (sym c.self.view_is) c.requires in
    let within = entry-within c.self.inside.pages.items c.args.number c.self.invariant.whole held in
    omega (arith, within, c.page_of.ensures, c.self.inside.pages.ok.0)

pub take-boxed-requires-clause-held : goal.take-boxed-requires-clause-held
take-boxed-requires-clause-held c =
    let n = c.args.number in
    let pages = c.self.inside.pages.items in
    let held = subst (λ es. IsSome (entry_at n es)) (sym c.self.view_is) c.requires in
    let within : c.page_of.result < length pages = omega (arith, entry-within pages n c.self.invariant.whole held, c.page_of.ensures) in
    subst IsSome
    (sym (entry-read pages n c.page_of.result c.index_mut-page.result.now c.self.invariant.whole c.page_of.ensures within
    c.index_mut-page.ensures.value))
    held

pub invariant_of-self : goal.invariant_of-self
invariant_of-self c =
    let n = c.args.number in
    let pages = c.self.inside.pages.items in
    let held = subst (λ es. IsSome (entry_at n es)) (sym c.self.view_is) c.requires in
    let within : c.page_of.result < length pages = omega (arith, entry-within pages n c.self.invariant.whole held, c.page_of.ensures) in
    let page = page-read pages n c.page_of.result c.index_mut-page.result.now c.page_of.ensures within c.index_mut-page.ensures.value in
    subst (AreEntries _ _ _) (sym c.push_reserved.ensures.capacity)
    (kept-cleared pages _ n _ _ _ _ c.self.invariant held
    (ap₂ (set pages) c.page_of.ensures (c.take-boxed.ensures.left ∙ ap (λ p. set p (n % 256) None) page)) c.push_reserved.ensures.len)

pub returns : goal.returns
returns c =
    let n = c.args.number in
    let pages = c.self.inside.pages.items in
    let held = subst (λ es. IsSome (entry_at n es)) (sym c.self.view_is) c.requires in
    let within : c.page_of.result < length pages = omega (arith, entry-within pages n c.self.invariant.whole held, c.page_of.ensures) in
    let page = page-read pages n c.page_of.result c.index_mut-page.result.now c.page_of.ensures within c.index_mut-page.ensures.value in
    ap (λ p. entries_from 0 (row_of p))
    (ap₂ (set pages) c.page_of.ensures (c.take-boxed.ensures.left ∙ ap (λ p. set p (n % 256) None) page))
    ∙ (cleared-page pages n c.self.invariant.whole held ∙ ap (removed n) c.self.view_is)
