use Rattle.std.proofs.Common.{◌<◌, ◌%◌, ◌++◌, [], ◌∷◌, length, set, Some, sym, ap, ap₂, subst, ◌∙◌, arith}
use Rattle.std.specs.List.{AllByRecursion}
use Rattle.output_index.specs.Entries.{entries_from}
use Rattle.output_index.specs.Pages.{entry_in, row_of}
use Rattle.output_index.proofs.Paged.{page-read, page-last, added-page, kept-added}
use Rattle.output_index.proofs.entries.Entries.add.Goals as goal

pub put-requires-clause-last : goal.put-requires-clause-last
put-requires-clause-last c =
    let n = c.args.number in
    let pages = c.have_page.new.pages.items in
    let within : c.page_of-2.result < length pages = omega (arith, c.in_ok-have_page.ensures.ok, c.page_of.ensures, c.page_of-2.ensures) in
    let page = page-read pages n c.page_of-2.result c.index_mut-page.result.now c.page_of-2.ensures within c.index_mut-page.ensures.value in
    let last = subst (λ es. AllByRecursion (λ x. x.0 < n) es) (sym (c.in_ok-have_page.ensures.same ∙ c.self.view_is)) c.requires in
    λ i le. ap (λ p. entry_in p i) page ∙ page-last pages n i c.in_ok-have_page.ensures.pages last le

pub invariant_of-self-2 : goal.invariant_of-self-2
invariant_of-self-2 c =
    let n = c.args.number in
    let pages = c.have_page.new.pages.items in
    let within : c.page_of-2.result < length pages = omega (arith, c.in_ok-have_page.ensures.ok, c.page_of.ensures, c.page_of-2.ensures) in
    let page = page-read pages n c.page_of-2.result c.index_mut-page.result.now c.page_of-2.ensures within c.index_mut-page.ensures.value in
    let last = subst (λ es. AllByRecursion (λ x. x.0 < n) es) (sym (c.in_ok-have_page.ensures.same ∙ c.self.view_is)) c.requires in
    kept-added pages _ n c.in_ok-boxed.boxed _ _ _ c.in_ok-have_page.ensures.pages (subst (λ k. k < length pages) c.page_of-2.ensures within) last
    (c.self.invariant.kept.count ∙ sym (ap length c.in_ok-have_page.ensures.same))
    (ap₂ (set pages) c.page_of-2.ensures (c.in_ok-put.ensures.ok ∙ ap (λ p. set p (n % 256) (Some c.in_ok-boxed.boxed)) page))
    c.in_ok-boxed.ensures.one_more

pub returns-clause-ok : goal.returns-clause-ok
returns-clause-ok c =
    let n = c.args.number in
    let pages = c.have_page.new.pages.items in
    let within : c.page_of-2.result < length pages = omega (arith, c.in_ok-have_page.ensures.ok, c.page_of.ensures, c.page_of-2.ensures) in
    let page = page-read pages n c.page_of-2.result c.index_mut-page.result.now c.page_of-2.ensures within c.index_mut-page.ensures.value in
    let last = subst (λ es. AllByRecursion (λ x. x.0 < n) es) (sym (c.in_ok-have_page.ensures.same ∙ c.self.view_is)) c.requires in
    ap (λ p. entries_from 0 (row_of p))
    (ap₂ (set pages) c.page_of-2.ensures (c.in_ok-put.ensures.ok ∙ ap (λ p. set p (n % 256) (Some c.in_ok-boxed.boxed)) page))
    ∙ (added-page pages n c.in_ok-boxed.boxed c.in_ok-have_page.ensures.pages (subst (λ k. k < length pages) c.page_of-2.ensures within) last
    ∙ ap₂ (λ es e. es ++ (n, e) ∷ []) (c.in_ok-have_page.ensures.same ∙ c.self.view_is) c.in_ok-boxed.ensures.is)
