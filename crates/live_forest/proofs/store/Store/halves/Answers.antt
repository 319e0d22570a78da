use Rattle.std.proofs.Common.{◌≡◌, ◌<◌, ◌≤◌, suc, ◌+◌, ◌-◌, ◌*◌, ◌/◌, ◌%◌, ◌^◌, length, sym, ap, ap₂, ◌∙◌, subst, arith}
use Rattle.std.proofs.lemmas.List.{get_or_default}
use Rattle.std.proofs.lemmas.Nat.{one_shl}
use Rattle.forest_place.specs.Forest.{InForest}
use Rattle.forest_place.proofs.Parts.{InForest-left, InForest-right}
use Rattle.live_forest.specs.Pages.{told}
use Rattle.live_forest.specs.Stores.{StoreState, stored, no_page}
use Rattle.live_forest.proofs.Storing.{page_index, inner_within, halves_stored}
use Rattle.live_forest.proofs.store.Store.halves.Goals as goal

pub index-requires : goal.index-requires
index-requires c =
    let few : c.args.n ≤ 128 * length c.self.inside.pages.items =
    omega (arith, c.requires.room, c.self.invariant.pages, ap (λ x. x.len) c.self.view_is) in
    let e : 7 - suc c.args.row ≡ 7 - 1 - c.args.row = omega arith in
    omega (
      arith,
      page_index c.args.n (length c.self.inside.pages.items) (suc c.args.row) c.args.off
          (omega (arith, c.if-row-lt-PAGE_ROW.true)) c.requires.within few,
      ap (λ k. c.args.off / 2 ^ k) e,
      c.self.inside.pages.ok.0,
    )

pub halves-requires-clause-within : goal.halves-requires-clause-within
halves-requires-clause-within c =
    let e : 7 - suc c.args.row ≡ 7 - 1 - c.args.row = omega arith in
    subst (λ x. InForest 128 (suc c.args.row) (c.args.off % x)) (ap (λ k. 2 ^ k) e ∙ sym (one_shl (7 - 1 - c.args.row) 64 (omega arith)))
    (inner_within (suc c.args.row) c.args.off (omega (arith, c.if-row-lt-PAGE_ROW.true)))

pub part-requires-clause-within : goal.part-requires-clause-within
part-requires-clause-within c = InForest-left c.args.n c.args.row c.args.off c.requires.within

pub part-requires-else-row-lt-PAGE_ROW-clause-within : goal.part-requires-else-row-lt-PAGE_ROW-clause-within
part-requires-else-row-lt-PAGE_ROW-clause-within c = InForest-right c.args.n c.args.row c.args.off c.requires.within

pub returns-then-row-lt-PAGE_ROW-clause-left : goal.returns-then-row-lt-PAGE_ROW-clause-left
returns-then-row-lt-PAGE_ROW-clause-left c =
    let s : StoreState = record { len = c.self.inside.len; pages = c.self.inside.pages.items; high = c.self.inside.high.items } in
    let row = c.args.row in
    let rows = 7 - 1 - row in
    let low : row < 7 = c.if-row-lt-PAGE_ROW.true in
    let e : 7 - suc row ≡ rows = omega arith in
    let few : c.args.n ≤ 128 * length s.pages = omega (arith, c.requires.room, c.self.invariant.pages, ap (λ x. x.len) c.self.view_is) in
    let found = page_index c.args.n (length s.pages) (suc row) c.args.off (omega (arith, low)) c.requires.within few in
    let inside : c.args.off / 2 ^ rows < length s.pages = omega (arith, found, ap (λ k. c.args.off / 2 ^ k) e) in
    let page = c.index.ensures ∙ get_or_default s.pages (c.args.off / 2 ^ rows) c.index.result.now no_page inside in
    c.halves.ensures.left ∙ ap₂ (λ p x. told p row (2 * (c.args.off % x))) page (one_shl rows 64 (omega arith))
    ∙ (sym (halves_stored s row c.args.off rows low (omega (arith, low))).0 ∙ ap (λ x. stored x row (2 * c.args.off)) c.self.view_is)

pub returns-then-row-lt-PAGE_ROW-clause-right : goal.returns-then-row-lt-PAGE_ROW-clause-right
returns-then-row-lt-PAGE_ROW-clause-right c =
    let s : StoreState = record { len = c.self.inside.len; pages = c.self.inside.pages.items; high = c.self.inside.high.items } in
    let row = c.args.row in
    let rows = 7 - 1 - row in
    let low : row < 7 = c.if-row-lt-PAGE_ROW.true in
    let e : 7 - suc row ≡ rows = omega arith in
    let few : c.args.n ≤ 128 * length s.pages = omega (arith, c.requires.room, c.self.invariant.pages, ap (λ x. x.len) c.self.view_is) in
    let found = page_index c.args.n (length s.pages) (suc row) c.args.off (omega (arith, low)) c.requires.within few in
    let inside : c.args.off / 2 ^ rows < length s.pages = omega (arith, found, ap (λ k. c.args.off / 2 ^ k) e) in
    let page = c.index.ensures ∙ get_or_default s.pages (c.args.off / 2 ^ rows) c.index.result.now no_page inside in
    c.halves.ensures.right ∙ ap₂ (λ p x. told p row (2 * (c.args.off % x) + 1)) page (one_shl rows 64 (omega arith))
    ∙ (sym (halves_stored s row c.args.off rows low (omega (arith, low))).1 ∙ ap (λ x. stored x row (2 * c.args.off + 1)) c.self.view_is)
