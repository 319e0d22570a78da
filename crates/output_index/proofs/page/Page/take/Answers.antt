use Rattle.std.proofs.Common.{◌<◌, length, set, get_or, Some, None, false, sym, ap, ap₂, subst, ◌∙◌, arith}
use Rattle.std.specs.Prelude.{IsSome}
use Rattle.std.specs.List.{remove}
use Rattle.std.proofs.lemmas.List.{length-set}
use Rattle.std.proofs.lemmas.List.Edits.{length-remove}
use Rattle.output_index.specs.NumberSet.{count}
use Rattle.output_index.specs.Pages.{laid, entry_in}
use Rattle.output_index.proofs.Laid.{laid_some, laid_within, laid_held, laid_less, count_less}
use Rattle.output_index.proofs.page.Page.take.Goals as goal

pub remove-slot-requires : goal.remove-slot-requires
remove-slot-requires c =
    let n = c.args.number in
    let flags = c.self.inside.held in
    let es = c.self.inside.slots.items in
    let held = laid_some flags es n (subst (λ page. IsSome (entry_in page n)) (sym c.self.view_is) c.requires.held) in
    omega (arith, c.count_below.ensures, laid_within flags n (length es) held c.self.invariant.full, c.self.inside.slots.ok.0)

pub invariant_of-self : goal.invariant_of-self
invariant_of-self c =
    let n = c.args.number in
    let flags = c.self.inside.held in
    let es = c.self.inside.slots.items in
    let held = laid_some flags es n (subst (λ page. IsSome (entry_in page n)) (sym c.self.view_is) c.requires.held) in
    let within : c.count_below.result < length es =
    omega (arith, c.count_below.ensures, laid_within flags n (length es) held c.self.invariant.full) in
    let fewer = length-remove es c.count_below.result within in
    let len = ap length (c.shrink.ensures ∙ c.remove-slot.ensures.items) in
    record {
      len = ap length c.take.ensures ∙ (length-set flags n false ∙ c.self.invariant.len);
      full = omega (arith, fewer, len, ap count c.take.ensures, count_less flags n held, c.self.invariant.full);
    }

pub returns-clause-entry : goal.returns-clause-entry
returns-clause-entry c =
    let n = c.args.number in
    let flags = c.self.inside.held in
    let es = c.self.inside.slots.items in
    let d = c.remove-slot.result in
    let held = laid_some flags es n (subst (λ page. IsSome (entry_in page n)) (sym c.self.view_is) c.requires.held) in
    ap Some c.remove-slot.ensures.value ∙ (ap (λ k. Some (get_or es k d)) c.count_below.ensures
    ∙ (sym (laid_held flags es n d held c.self.invariant.full) ∙ ap (λ page. entry_in page n) c.self.view_is))

pub returns-clause-left : goal.returns-clause-left
returns-clause-left c =
    let n = c.args.number in
    let flags = c.self.inside.held in
    let es = c.self.inside.slots.items in
    let held = laid_some flags es n (subst (λ page. IsSome (entry_in page n)) (sym c.self.view_is) c.requires.held) in
    ap₂ laid c.take.ensures (c.shrink.ensures ∙ c.remove-slot.ensures.items)
    ∙ (ap (λ k. laid (set flags n false) (remove es k)) c.count_below.ensures
    ∙ (laid_less flags es n held c.self.invariant.full ∙ ap (λ page. set page n None) c.self.view_is))
