use Rattle.std.proofs.Common.{◌≡◌, ◌<◌, ◌≤◌, suc, ◌+◌, ◌-◌, ◌*◌, ◌/◌, ◌%◌, ◌^◌, length, set, Some, sym, ap, ap₂, ◌∙◌, subst, arith}
use Rattle.std.specs.Prelude.{is_some}
use Rattle.std.proofs.lemmas.List.{get_or_default}
use Rattle.forest_place.proofs.Positions.{row_small}
use Rattle.live_forest.specs.Pages.{IsPartPut, told}
use Rattle.live_forest.specs.Stores.{StoreState, no_page, seam, is_listed, IsPartKept}
use Rattle.live_forest.proofs.Telling.{above_is}
use Rattle.live_forest.proofs.Seams.{seam_high}
use Rattle.live_forest.proofs.Storing.{halves_of_page, store_written, room_written, part_kept_low, part_kept_high, page_listed}
use Rattle.live_forest.proofs.store.Store.put_joined.Goals as goal

pub put_joined-requires-clause-left : goal.put_joined-requires-clause-left
put_joined-requires-clause-left c =
    let s : StoreState = record { len = c.self.inside.len; pages = c.self.inside.pages.items; high = c.self.inside.high.items } in
    let row = c.args.row in
    let number = c.args.number in
    let within : number / 128 < length s.pages = page_listed s number c.self.invariant (ap (λ x. is_listed x.pages number) c.self.view_is
    ∙ c.requires.listed) in
    let page = c.index_mut-page.ensures.value ∙ get_or_default s.pages (number / 128) c.index_mut-page.result.now no_page within in
    let some = rw (← c.self.view_is) at c.requires.left in
    ap (λ p. is_some (told p row (2 * (number % 128 / 2 ^ suc row)))) page
    ∙ ap is_some (sym (halves_of_page s row number c.if-row-lt-PAGE_ROW.true).0) ∙ some

pub put_joined-requires-clause-right : goal.put_joined-requires-clause-right
put_joined-requires-clause-right c =
    let s : StoreState = record { len = c.self.inside.len; pages = c.self.inside.pages.items; high = c.self.inside.high.items } in
    let row = c.args.row in
    let number = c.args.number in
    let within : number / 128 < length s.pages = page_listed s number c.self.invariant (ap (λ x. is_listed x.pages number) c.self.view_is
    ∙ c.requires.listed) in
    let page = c.index_mut-page.ensures.value ∙ get_or_default s.pages (number / 128) c.index_mut-page.result.now no_page within in
    let some = rw (← c.self.view_is) at c.requires.right in
    ap (λ p. is_some (told p row (2 * (number % 128 / 2 ^ suc row) + 1))) page
    ∙ ap is_some (sym (halves_of_page s row number c.if-row-lt-PAGE_ROW.true).1) ∙ some

pub invariant_of-self : goal.invariant_of-self
invariant_of-self c =
    let s : StoreState = record { len = c.self.inside.len; pages = c.self.inside.pages.items; high = c.self.inside.high.items } in
    let number = c.args.number in
    let within : number / 128 < length s.pages = page_listed s number c.self.invariant (ap (λ x. is_listed x.pages number) c.self.view_is
    ∙ c.requires.listed) in
    let page = c.index_mut-page.ensures.value ∙ get_or_default s.pages (number / 128) c.index_mut-page.result.now no_page within in
    store_written s number c.put_joined.new.self c.self.invariant within (c.put_joined.ensures.listed ∙ ap (λ p. p.listed) page)

pub overflow_add-row : goal.overflow_add-row
overflow_add-row c =
    omega (arith, row_small c.args.n (suc c.args.row) (c.args.number / 2 ^ suc c.args.row) 40 c.requires.within c.requires.small)

pub overflow_shr-number-else-row-lt-PAGE_ROW : goal.overflow_shr-number-else-row-lt-PAGE_ROW
overflow_shr-number-else-row-lt-PAGE_ROW c =
    omega (arith, row_small c.args.n (suc c.args.row) (c.args.number / 2 ^ suc c.args.row) 40 c.requires.within c.requires.small)

pub seam-requires-clause-low : goal.seam-requires-clause-low
seam-requires-clause-low c =
    omega (arith, row_small c.args.n (suc c.args.row) (c.args.number / 2 ^ suc c.args.row) 40 c.requires.within c.requires.small)

pub seam-requires-clause-small : goal.seam-requires-clause-small
seam-requires-clause-small c =
    let row = c.args.row in
    let high : 8 ≤ suc row = omega (arith, c.if-row-lt-PAGE_ROW.false) in
    let e : suc row - 8 ≡ row - 7 = omega arith in
    omega (
      arith,
      ap₂ seam e (sym (above_is c.args.number row)),
      seam_high c.args.n (suc row) (c.args.number / 2 ^ suc row) high c.requires.within,
      c.requires.small,
    )

pub index_mut-requires : goal.index_mut-requires
index_mut-requires c =
    let row = c.args.row in
    let high : 8 ≤ suc row = omega (arith, c.if-row-lt-PAGE_ROW.false) in
    let e : suc row - 8 ≡ row - 7 = omega arith in
    omega (
      arith,
      c.seam.ensures,
      ap₂ seam e (sym (above_is c.args.number row)),
      seam_high c.args.n (suc row) (c.args.number / 2 ^ suc row) high c.requires.within,
      c.requires.room,
      c.self.invariant.high,
      ap (λ x. x.len) c.self.view_is,
      c.self.inside.high.ok.0,
    )

pub returns-then-row-lt-PAGE_ROW-clause-put : goal.returns-then-row-lt-PAGE_ROW-clause-put
returns-then-row-lt-PAGE_ROW-clause-put c =
    let s : StoreState = record { len = c.self.inside.len; pages = c.self.inside.pages.items; high = c.self.inside.high.items } in
    let row = c.args.row in
    let number = c.args.number in
    let within : number / 128 < length s.pages = page_listed s number c.self.invariant (ap (λ x. is_listed x.pages number) c.self.view_is
    ∙ c.requires.listed) in
    let page = c.index_mut-page.ensures.value ∙ get_or_default s.pages (number / 128) c.index_mut-page.result.now no_page within in
    rw (← c.self.view_is)
    (part_kept_low s number c.put_joined.new.self c.self.invariant within (c.put_joined.ensures.listed ∙ ap (λ p. p.listed) page) row
    (Some c.args.own) c.if-row-lt-PAGE_ROW.true
    (subst (λ p. IsPartPut p c.put_joined.new.self row (number % 128) (Some c.args.own)) page c.put_joined.ensures.put))

pub returns-then-row-lt-PAGE_ROW-clause-room : goal.returns-then-row-lt-PAGE_ROW-clause-room
returns-then-row-lt-PAGE_ROW-clause-room c =
    let s : StoreState = record { len = c.self.inside.len; pages = c.self.inside.pages.items; high = c.self.inside.high.items } in
    let number = c.args.number in
    let within : number / 128 < length s.pages = page_listed s number c.self.invariant (ap (λ x. is_listed x.pages number) c.self.view_is
    ∙ c.requires.listed) in
    let page = c.index_mut-page.ensures.value ∙ get_or_default s.pages (number / 128) c.index_mut-page.result.now no_page within in
    rw (← c.self.view_is)
    (room_written s number c.put_joined.new.self c.self.invariant within (c.put_joined.ensures.listed ∙ ap (λ p. p.listed) page))

pub returns-else-row-lt-PAGE_ROW-clause-put : goal.returns-else-row-lt-PAGE_ROW-clause-put
returns-else-row-lt-PAGE_ROW-clause-put c =
    let s : StoreState = record { len = c.self.inside.len; pages = c.self.inside.pages.items; high = c.self.inside.high.items } in
    let row = c.args.row in
    let number = c.args.number in
    let off = number / 2 ^ suc row in
    let high : 8 ≤ suc row = omega (arith, c.if-row-lt-PAGE_ROW.false) in
    let e : suc row - 8 ≡ row - 7 = omega arith in
    let at : c.seam.result ≡ seam (row - 7) off = c.seam.ensures ∙ ap (seam (row - 7)) (above_is number row) in
    let within : seam (row - 7) off < length s.high = omega (
      arith,
      ap (λ k. seam k off) e,
      seam_high c.args.n (suc row) off high c.requires.within,
      c.requires.room,
      c.self.invariant.high,
      ap (λ x. x.len) c.self.view_is,
    ) in
    rw (← c.self.view_is)
    (subst (λ k. IsPartKept s (record { len = s.len; pages = s.pages; high = set s.high k (Some c.args.own) }) row number (Some c.args.own)) (sym at)
    (part_kept_high s row number (Some c.args.own) (omega (arith, high)) within))
