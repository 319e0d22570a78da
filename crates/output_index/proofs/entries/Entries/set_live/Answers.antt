use Rattle.std.proofs.Common.{◌<◌, ◌%◌, length, set, sym, ap, ap₂, subst, ◌∙◌, arith}
use Rattle.std.specs.Prelude.{IsSome, option_map}
use Rattle.output_index.specs.Entries.{entry_at, entries_from, changed, set_live}
use Rattle.output_index.specs.Pages.{entry_in, row_of}
use Rattle.output_index.proofs.Paged.{page-read, entry-read, entry-within, changed-page, kept-changed}
use Rattle.output_index.proofs.entries.Entries.set_live.Goals as goal

pub index_mut-page-requires : goal.index_mut-page-requires
index_mut-page-requires c =
    let held = subst (λ es. IsSome (entry_at c.args.number es)) (sym c.self.view_is) c.requires in
    let within = entry-within c.self.inside.pages.items c.args.number c.self.invariant.whole held in
    omega (arith, within, c.page_of.ensures, c.self.inside.pages.ok.0)

pub set_live-requires-clause-held : goal.set_live-requires-clause-held
set_live-requires-clause-held c =
    let n = c.args.number in
    let pages = c.self.inside.pages.items in
    let held = subst (λ es. IsSome (entry_at n es)) (sym c.self.view_is) c.requires in
    let within : c.page_of.result < length pages = omega (arith, entry-within pages n c.self.invariant.whole held, c.page_of.ensures) in
    subst IsSome
    (sym (entry-read pages n c.page_of.result c.index_mut-page.result.now c.self.invariant.whole c.page_of.ensures within
    c.index_mut-page.ensures.value))
    held

pub invariant_of-self : goal.invariant_of-self
invariant_of-self c =
    let n = c.args.number in
    let f = set_live c.args.live in
    let pages = c.self.inside.pages.items in
    let held = subst (λ es. IsSome (entry_at n es)) (sym c.self.view_is) c.requires in
    let within : c.page_of.result < length pages = omega (arith, entry-within pages n c.self.invariant.whole held, c.page_of.ensures) in
    let page = page-read pages n c.page_of.result c.index_mut-page.result.now c.page_of.ensures within c.index_mut-page.ensures.value in
    kept-changed f pages _ n _ _ _ c.self.invariant held
    (ap₂ (set pages) c.page_of.ensures (c.set_live.ensures ∙ ap (λ p. set p (n % 256) (option_map f (entry_in p (n % 256)))) page))

pub returns : goal.returns
returns c =
    let n = c.args.number in
    let f = set_live c.args.live in
    let pages = c.self.inside.pages.items in
    let held = subst (λ es. IsSome (entry_at n es)) (sym c.self.view_is) c.requires in
    let within : c.page_of.result < length pages = omega (arith, entry-within pages n c.self.invariant.whole held, c.page_of.ensures) in
    let page = page-read pages n c.page_of.result c.index_mut-page.result.now c.page_of.ensures within c.index_mut-page.ensures.value in
    ap (λ p. entries_from 0 (row_of p))
    (ap₂ (set pages) c.page_of.ensures (c.set_live.ensures ∙ ap (λ p. set p (n % 256) (option_map f (entry_in p (n % 256)))) page))
    ∙ (changed-page f pages n c.self.invariant.whole held ∙ ap (changed n f) c.self.view_is)
