use Rattle.std.proofs.Common.{◌≡◌, ℕ, ◌<◌, ◌≤◌, [], ◌∷◌, ◌++◌, length, set, Some, None, ap, ap₂, ◌∙◌, arith}
use Rattle.std.proofs.lemmas.List.{length-append, length-set}
use Rattle.output_index.specs.NumberSet.{count}
use Rattle.output_index.specs.Pages.{laid, entry_in}
use Rattle.output_index.proofs.Laid.{laid_more, laid_free, count_more}
use Rattle.output_index.proofs.page.Page.put.Goals as goal

pub invariant_of-self-2 : goal.invariant_of-self-2
invariant_of-self-2 c =
    let n = c.args.number in
    let flags = c.self.inside.held in
    let es = c.self.inside.slots.items in
    let none = ap (λ page. entry_in page n) c.self.view_is ∙ c.requires.last n (omega arith) in
    let within : n < length flags = omega (arith, c.requires.within, c.self.invariant.len) in
    let more = count_more flags n (laid_free flags es n c.self.invariant.full none) within in
    let all = ap count c.put.ensures in
    let items = c.in_ok-push.ensures.items ∙ ap (λ xs. xs ++ c.args.slot ∷ []) c.begin.ensures in
    let len = ap length items ∙ length-append es (c.args.slot ∷ []) in
    record {
      len = ap length c.put.ensures ∙ (length-set flags n _ ∙ c.self.invariant.len);
      full = omega (arith, len, all, more, c.self.invariant.full);
    }

pub returns-clause-ok : goal.returns-clause-ok
returns-clause-ok c =
    let n = c.args.number in
    let flags = c.self.inside.held in
    let es = c.self.inside.slots.items in
    let last : (i : ℕ) → n ≤ i → entry_in (laid flags es) i ≡ None = λ i le. ap (λ page. entry_in page i) c.self.view_is ∙ c.requires.last i le in
    let within : n < length flags = omega (arith, c.requires.within, c.self.invariant.len) in
    ap₂ laid c.put.ensures (c.in_ok-push.ensures.items ∙ ap (λ xs. xs ++ c.args.slot ∷ []) c.begin.ensures)
    ∙ (laid_more flags es n c.args.slot c.self.invariant.full within last ∙ ap (λ page. set page n (Some c.args.slot)) c.self.view_is)
