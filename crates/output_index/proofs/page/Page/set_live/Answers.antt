use Rattle.std.proofs.Common.{◌≡◌, length, set, get_or, sym, ap, ap₂, subst, ◌∙◌, arith}
use Rattle.std.specs.Prelude.{IsSome, option_map}
use Rattle.output_index.specs.Entries.{set_live}
use Rattle.output_index.specs.Pages.{laid, entry_in}
use Rattle.output_index.proofs.Laid.{laid_some, laid_within, laid_mapped}
use Rattle.output_index.proofs.page.Page.set_live.Goals as goal

pub index_mut-slot-requires : goal.index_mut-slot-requires
index_mut-slot-requires c =
    let n = c.args.number in
    let flags = c.self.inside.held in
    let es = c.self.inside.slots.items in
    let held = laid_some flags es n (subst (λ page. IsSome (entry_in page n)) (sym c.self.view_is) c.requires.held) in
    omega (arith, c.count_below.ensures, laid_within flags n (length es) held c.self.invariant.full, c.self.inside.slots.ok.0)

pub returns : goal.returns
returns c =
    let n = c.args.number in
    let f = set_live c.args.live in
    let flags = c.self.inside.held in
    let es = c.self.inside.slots.items in
    let old = c.index_mut-slot.result.now in
    let held = laid_some flags es n (subst (λ page. IsSome (entry_in page n)) (sym c.self.view_is) c.requires.held) in
    let is = subst (λ k. old ≡ get_or es k old) c.count_below.ensures c.index_mut-slot.ensures.value in
    ap₂ (λ k e. laid flags (set es k e)) c.count_below.ensures c.set_live.ensures
    ∙ (laid_mapped f flags es n old held c.self.invariant.full is ∙ ap (λ page. set page n (option_map f (entry_in page n))) c.self.view_is)
