use Rattle.std.proofs.Common.{◌≡◌, ◌<◌, ◌≤◌, ◌-◌, ◌*◌, ◌/◌, ◌%◌, ◌^◌, length, get_or, None, sym, ap, ap₂, ◌∙◌, subst, arith}
use Rattle.std.proofs.lemmas.List.{get_or_default}
use Rattle.std.proofs.lemmas.Nat.{one_shl}
use Rattle.forest_place.specs.Forest.{InForest}
use Rattle.forest_place.proofs.Positions.{row_small}
use Rattle.live_forest.specs.Pages.{told}
use Rattle.live_forest.specs.Stores.{StoreState, stored, no_page, seam}
use Rattle.live_forest.proofs.Seams.{seam_high}
use Rattle.live_forest.proofs.Storing.{page_index, inner_within, stored_low, stored_high}
use Rattle.live_forest.proofs.store.Store.lent.Goals as goal

pub index-requires : goal.index-requires
index-requires c =
    let few : c.args.n ≤ 128 * length c.self.inside.pages.items =
    omega (arith, c.requires.room, c.self.invariant.pages, ap (λ x. x.len) c.self.view_is) in
    omega (
      arith,
      page_index c.args.n (length c.self.inside.pages.items) c.args.row c.args.off c.if-row-le-PAGE_ROW.true c.requires.within few,
      c.self.inside.pages.ok.0,
    )

pub part-requires-clause-within : goal.part-requires-clause-within
part-requires-clause-within c =
    subst (λ x. InForest 128 c.args.row (c.args.off % x)) (sym (one_shl (7 - c.args.row) 64 (omega arith)))
    (inner_within c.args.row c.args.off c.if-row-le-PAGE_ROW.true)

pub seam-requires-clause-low : goal.seam-requires-clause-low
seam-requires-clause-low c = omega (arith, row_small c.args.n c.args.row c.args.off 40 c.requires.within c.requires.small)

pub seam-requires-clause-small : goal.seam-requires-clause-small
seam-requires-clause-small c =
    let high : 8 ≤ c.args.row = omega (arith, c.if-row-le-PAGE_ROW.false) in
    let e : c.args.row - 7 - 1 ≡ c.args.row - 8 = omega arith in
    omega (arith, ap (λ k. seam k c.args.off) e, seam_high c.args.n c.args.row c.args.off high c.requires.within, c.requires.small)

pub index-requires-else-row-le-PAGE_ROW : goal.index-requires-else-row-le-PAGE_ROW
index-requires-else-row-le-PAGE_ROW c =
    let high : 8 ≤ c.args.row = omega (arith, c.if-row-le-PAGE_ROW.false) in
    let e : c.args.row - 7 - 1 ≡ c.args.row - 8 = omega arith in
    omega (
      arith,
      c.seam.ensures,
      ap (λ k. seam k c.args.off) e,
      seam_high c.args.n c.args.row c.args.off high c.requires.within,
      c.requires.room,
      c.self.invariant.high,
      ap (λ x. x.len) c.self.view_is,
      c.self.inside.high.ok.0,
    )

pub returns-then-row-le-PAGE_ROW : goal.returns-then-row-le-PAGE_ROW
returns-then-row-le-PAGE_ROW c =
    let s : StoreState = record { len = c.self.inside.len; pages = c.self.inside.pages.items; high = c.self.inside.high.items } in
    let row = c.args.row in
    let off = c.args.off in
    let few : c.args.n ≤ 128 * length s.pages = omega (arith, c.requires.room, c.self.invariant.pages, ap (λ x. x.len) c.self.view_is) in
    let inside = page_index c.args.n (length s.pages) row off c.if-row-le-PAGE_ROW.true c.requires.within few in
    let page = c.index.ensures ∙ get_or_default s.pages (off / 2 ^ (7 - row)) c.index.result.now no_page inside in
    c.part.ensures ∙ ap₂ (λ p x. told p row (off % x)) page (one_shl (7 - row) 64 (omega arith))
    ∙ sym (stored_low s row off c.if-row-le-PAGE_ROW.true) ∙ ap (λ x. stored x row off) c.self.view_is

pub returns-else-row-le-PAGE_ROW : goal.returns-else-row-le-PAGE_ROW
returns-else-row-le-PAGE_ROW c =
    let s : StoreState = record { len = c.self.inside.len; pages = c.self.inside.pages.items; high = c.self.inside.high.items } in
    let row = c.args.row in
    let off = c.args.off in
    let call = c.index-else-row-le-PAGE_ROW in
    let high : 8 ≤ row = omega (arith, c.if-row-le-PAGE_ROW.false) in
    let e : row - 7 - 1 ≡ row - 8 = omega arith in
    let within : seam (row - 8) off < length s.high = omega (
      arith,
      seam_high c.args.n row off high c.requires.within,
      c.requires.room,
      c.self.invariant.high,
      ap (λ x. x.len) c.self.view_is,
    ) in
    c.as_ref.ensures.value ∙ call.ensures ∙ ap (λ k. get_or s.high k call.result.now) (c.seam.ensures ∙ ap (λ k. seam k off) e)
    ∙ get_or_default s.high (seam (row - 8) off) call.result.now None within ∙ sym (stored_high s row off high)
    ∙ ap (λ x. stored x row off) c.self.view_is
