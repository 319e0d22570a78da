use Rattle.std.proofs.Common.{length, Some, get_or, sym, ap, ◌∙◌, arith}
use Rattle.output_index.specs.Pages.{entry_in}
use Rattle.output_index.proofs.Laid.{laid_none, laid_within, laid_held}
use Rattle.output_index.proofs.page.Page.get.Goals as goal

pub returns-then-not-has : goal.returns-then-not-has
returns-then-not-has c =
    let none = laid_none c.self.inside.held c.self.inside.slots.items c.args.number (sym c.has.ensures ∙ c.if-not-has.true) in
    sym (ap (λ page. entry_in page c.args.number) (sym c.self.view_is) ∙ none)

pub index-requires : goal.index-requires
index-requires c =
    let es = c.self.inside.slots.items in
    let within = laid_within c.self.inside.held c.args.number (length es) (sym c.has.ensures ∙ c.if-not-has.false) c.self.invariant.full in
    omega (arith, c.count_below.ensures, within, c.self.inside.slots.ok.0)

pub returns : goal.returns
returns c =
    let es = c.self.inside.slots.items in
    let d = c.index.result.now in
    let held = laid_held c.self.inside.held es c.args.number d (sym c.has.ensures ∙ c.if-not-has.false) c.self.invariant.full in
    ap Some (c.entry.ensures ∙ c.index.ensures) ∙ (ap (λ k. Some (get_or es k d)) c.count_below.ensures
    ∙ (sym held ∙ ap (λ page. entry_in page c.args.number) c.self.view_is))
