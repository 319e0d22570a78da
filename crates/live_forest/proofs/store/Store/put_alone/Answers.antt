use Rattle.std.proofs.Common.{◌≡◌, ◌<◌, suc, ◌+◌, ◌-◌, ◌*◌, ◌/◌, ◌%◌, ◌^◌, length, Option, sym, ap, ◌∙◌, subst, arith}
use Rattle.std.proofs.lemmas.List.{get_or_default}
use Rattle.uo_digest.specs.declared.digest.Digest.{Digest}
use Rattle.forest_place.proofs.Positions.{row_small}
use Rattle.live_forest.specs.Pages.{IsPartPut, IsOfHalves, told}
use Rattle.live_forest.specs.Stores.{StoreState, no_page, stored, is_listed}
use Rattle.live_forest.proofs.Telling.{above_is, alone_halves, side_within}
use Rattle.live_forest.proofs.Storing.{half_stored, store_written, room_written, part_kept_low, page_listed}
use Rattle.live_forest.proofs.store.Store.put_alone.Goals as goal

pub put_alone-requires-clause-other : goal.put_alone-requires-clause-other
put_alone-requires-clause-other c =
    let s : StoreState = record { len = c.self.inside.len; pages = c.self.inside.pages.items; high = c.self.inside.high.items } in
    let row = c.args.row in
    let number = c.args.number in
    let within : number / 128 < length s.pages = page_listed s number c.self.invariant (ap (λ x. is_listed x.pages number) c.self.view_is
    ∙ c.requires.listed) in
    let page = c.index_mut-page.ensures.value ∙ get_or_default s.pages (number / 128) c.index_mut-page.result.now no_page within in
    let none = rw (← c.self.view_is) at c.requires.other in
    ap (λ p. told p row (2 * (number % 128 / 2 ^ suc row) + (1 - c.args.side))) page
    ∙ sym (half_stored s row number (1 - c.args.side) c.if-row-lt-PAGE_ROW.true (omega (arith, c.requires.side))) ∙ none

pub invariant_of-self : goal.invariant_of-self
invariant_of-self c =
    let s : StoreState = record { len = c.self.inside.len; pages = c.self.inside.pages.items; high = c.self.inside.high.items } in
    let number = c.args.number in
    let within : number / 128 < length s.pages = page_listed s number c.self.invariant (ap (λ x. is_listed x.pages number) c.self.view_is
    ∙ c.requires.listed) in
    let page = c.index_mut-page.ensures.value ∙ get_or_default s.pages (number / 128) c.index_mut-page.result.now no_page within in
    store_written s number c.put_alone.new.self c.self.invariant within (c.put_alone.ensures.listed ∙ ap (λ p. p.listed) page)

pub overflow_add-row : goal.overflow_add-row
overflow_add-row c =
    omega (arith, row_small c.args.n (suc c.args.row) (c.args.number / 2 ^ suc c.args.row) 40 c.requires.within c.requires.small)

pub overflow_shr-number-else-row-lt-PAGE_ROW : goal.overflow_shr-number-else-row-lt-PAGE_ROW
overflow_shr-number-else-row-lt-PAGE_ROW c =
    omega (arith, row_small c.args.n (suc c.args.row) (c.args.number / 2 ^ suc c.args.row) 40 c.requires.within c.requires.small)

pub part-own-requires-clause-within : goal.part-own-requires-clause-within
part-own-requires-clause-within c =
    rw (above_is c.args.number c.args.row)
    (side_within c.args.n c.args.row (c.args.number / 2 ^ suc c.args.row) c.args.side c.requires.side c.requires.within)

pub put_part-requires-clause-halves : goal.put_part-requires-clause-halves
put_part-requires-clause-halves c =
    let off = c.args.number / 2 ^ suc c.args.row in
    let s = c.args.self.now in
    let own : c.part-own.result ≡ stored s c.args.row (2 * off + c.args.side) =
    c.part-own.ensures ∙ ap (λ k. stored s c.args.row (2 * k + c.args.side)) (above_is c.args.number c.args.row) in
    subst (IsOfHalves (stored s c.args.row (2 * off)) (stored s c.args.row (2 * off + 1))) (sym own)
    (alone_halves (stored s c.args.row) (2 * off) c.args.side c.requires.side c.requires.other)

pub returns-then-row-lt-PAGE_ROW-clause-put : goal.returns-then-row-lt-PAGE_ROW-clause-put
returns-then-row-lt-PAGE_ROW-clause-put c =
    let s : StoreState = record { len = c.self.inside.len; pages = c.self.inside.pages.items; high = c.self.inside.high.items } in
    let row = c.args.row in
    let number = c.args.number in
    let within : number / 128 < length s.pages = page_listed s number c.self.invariant (ap (λ x. is_listed x.pages number) c.self.view_is
    ∙ c.requires.listed) in
    let page = c.index_mut-page.ensures.value ∙ get_or_default s.pages (number / 128) c.index_mut-page.result.now no_page within in
    let own : told c.index_mut-page.result.now row (2 * (number % 128 / 2 ^ suc row) + c.args.side)
    ≡ stored s row (2 * (number / 2 ^ suc row) + c.args.side) =
    ap (λ p. told p row (2 * (number % 128 / 2 ^ suc row) + c.args.side)) page
    ∙ sym (half_stored s row number c.args.side c.if-row-lt-PAGE_ROW.true c.requires.side) in
    let put = subst (λ (o : Option Digest). IsPartPut c.index_mut-page.result.now c.put_alone.new.self row (number % 128) o) own
    c.put_alone.ensures.put in
    rw (← c.self.view_is)
    (part_kept_low s number c.put_alone.new.self c.self.invariant within (c.put_alone.ensures.listed ∙ ap (λ p. p.listed) page) row
    (stored s row (2 * (number / 2 ^ suc row) + c.args.side)) c.if-row-lt-PAGE_ROW.true
    (subst (λ p. IsPartPut p c.put_alone.new.self row (number % 128) (stored s row (2 * (number / 2 ^ suc row) + c.args.side))) page put))

pub returns-then-row-lt-PAGE_ROW-clause-room : goal.returns-then-row-lt-PAGE_ROW-clause-room
returns-then-row-lt-PAGE_ROW-clause-room c =
    let s : StoreState = record { len = c.self.inside.len; pages = c.self.inside.pages.items; high = c.self.inside.high.items } in
    let number = c.args.number in
    let within : number / 128 < length s.pages = page_listed s number c.self.invariant (ap (λ x. is_listed x.pages number) c.self.view_is
    ∙ c.requires.listed) in
    let page = c.index_mut-page.ensures.value ∙ get_or_default s.pages (number / 128) c.index_mut-page.result.now no_page within in
    rw (← c.self.view_is)
    (room_written s number c.put_alone.new.self c.self.invariant within (c.put_alone.ensures.listed ∙ ap (λ p. p.listed) page))
