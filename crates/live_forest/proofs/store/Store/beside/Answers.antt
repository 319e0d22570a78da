use Rattle.std.proofs.Common.{◌/◌, ◌%◌, ◌^◌, sym, ap, ◌∙◌, arith}
use Rattle.std.proofs.lemmas.List.{get_or_default}
use Rattle.forest_place.specs.Forest.{sibling_off}
use Rattle.forest_place.proofs.Positions.{row_small}
use Rattle.live_forest.specs.Pages.{told}
use Rattle.live_forest.specs.Stores.{StoreState, stored, is_listed, no_page}
use Rattle.live_forest.proofs.Storing.{page_listed, beside_of_page}
use Rattle.live_forest.proofs.store.Store.beside.Goals as goal

pub overflow_shr-number-else-row-lt-PAGE_ROW : goal.overflow_shr-number-else-row-lt-PAGE_ROW
overflow_shr-number-else-row-lt-PAGE_ROW c =
    omega (arith, row_small c.args.n c.args.row (sibling_off (c.args.number / 2 ^ c.args.row)) 40 c.requires.within c.requires.small)

pub returns-then-row-lt-PAGE_ROW : goal.returns-then-row-lt-PAGE_ROW
returns-then-row-lt-PAGE_ROW c =
    let s : StoreState = record { len = c.self.inside.len; pages = c.self.inside.pages.items; high = c.self.inside.high.items } in
    let row = c.args.row in
    let number = c.args.number in
    let inside = page_listed s number c.self.invariant (ap (λ x. is_listed x.pages number) c.self.view_is ∙ c.requires.listed) in
    let page = c.index.ensures ∙ get_or_default s.pages (number / 128) c.index.result.now no_page inside in
    c.beside.ensures ∙ ap (λ p. told p row (sibling_off (number % 128 / 2 ^ row))) page
    ∙ sym (beside_of_page s row number c.if-row-lt-PAGE_ROW.true) ∙ ap (λ x. stored x row (sibling_off (number / 2 ^ row))) c.self.view_is
