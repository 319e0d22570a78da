use Rattle.std.proofs.Common.{◌≡◌, ◌+◌, ◌*◌, ◌/◌, ◌^◌, suc, true, ap, ◌∙◌, sym, subst, arith}
use Rattle.std.specs.Prelude.{is_some}
use Rattle.std.proofs.lemmas.Bool.{true≢false}
use Rattle.live_forest.specs.declared.spots.Spot.{Spot}
use Rattle.live_forest.specs.Sets.{is_bit, has_part}
use Rattle.live_forest.specs.Pages.{PageState, IsPut, IsBranch, IsOfHalves, spot, told}
use Rattle.live_forest.proofs.Landing.{spot_within}
use Rattle.live_forest.proofs.Ranks.{part_with}
use Rattle.live_forest.proofs.Telling.{listed_few, page_within, part_written, part_stays, part_empty, own_live}
use Rattle.live_forest.proofs.page.Page.put_part.Goals as goal

pub is_branch-requires-clause-listed : goal.is_branch-requires-clause-listed
is_branch-requires-clause-listed c =
    let p : PageState = record { listed = c.self.inside.listed; live = c.self.inside.live; cells = c.self.inside.cells.items } in
    ap (λ x. is_bit x.listed c.args.number) c.self.view_is ∙ c.requires.listed

pub returns-then-not-is_branch-clause-put : goal.returns-then-not-is_branch-clause-put
returns-then-not-is_branch-clause-put c =
    let p : PageState = record { listed = c.self.inside.listed; live = c.self.inside.live; cells = c.self.inside.cells.items } in
    let halves = rw (← c.self.view_is) at c.requires.halves in
    rw (← c.self.view_is)
    (part_stays p c.args.row c.args.number c.args.own c.self.invariant c.requires.row
    (λ b. true≢false (sym (c.is_branch.ensures.1 b) ∙ c.if-not-is_branch.true)) halves)

pub returns-in_default-clause-put : goal.returns-in_default-clause-put
returns-in_default-clause-put c =
    let p : PageState = record { listed = c.self.inside.listed; live = c.self.inside.live; cells = c.self.inside.cells.items } in
    let off = c.args.number / 2 ^ suc c.args.row in
    let halves = rw (← c.self.view_is) at c.requires.halves in
    let none = subst (IsOfHalves (told p c.args.row (2 * off)) (told p c.args.row (2 * off + 1))) c.in_default.is halves in
    rw (← c.self.view_is, c.in_default.is) (part_empty p c.args.row c.args.number c.self.invariant none)

pub spot_of-requires-clause-within : goal.spot_of-requires-clause-within
spot_of-requires-clause-within c =
    let up : c.args.row + 1 ≡ suc c.args.row = omega arith in
    rw up (page_within c.args.number (suc c.args.row) c.requires.number (omega (arith, c.requires.row)))

pub put-requires : goal.put-requires
put-requires c =
    let p : PageState = record { listed = c.self.inside.listed; live = c.self.inside.live; cells = c.self.inside.cells.items } in
    let s = is_bit p.listed in
    let listed : s c.args.number ≡ true = ap (λ x. is_bit x.listed c.args.number) c.self.view_is ∙ c.requires.listed in
    let up : c.args.row + 1 ≡ suc c.args.row = omega arith in
    let cell = ap (λ (x : Spot). x.cell) (c.spot_of.ensures ∙ ap (λ r. spot s r (c.args.number / 2 ^ r)) up) in
    omega (
      arith,
      cell,
      spot_within s (listed_few p.listed c.self.ranges.0.1) (suc c.args.row) (c.args.number / 2 ^ suc c.args.row)
          (part_with s c.args.number (suc c.args.row) listed),
      c.self.invariant.full,
    )

pub returns-clause-put : goal.returns-clause-put
returns-clause-put c =
    let p : PageState = record { listed = c.self.inside.listed; live = c.self.inside.live; cells = c.self.inside.cells.items } in
    let s = is_bit p.listed in
    let row = c.args.row in
    let off = c.args.number / 2 ^ suc row in
    let listed : s c.args.number ≡ true = ap (λ x. is_bit x.listed c.args.number) c.self.view_is ∙ c.requires.listed in
    let b : IsBranch s row off = c.is_branch.ensures.0 c.if-not-is_branch.false in
    let up : row + 1 ≡ suc row = omega arith in
    let at = c.spot_of.ensures ∙ ap (λ r. spot s r (c.args.number / 2 ^ r)) up in
    let put = subst (λ x. IsPut p.cells c.put.new.cells.items x c.in-Some.digest) at c.put.ensures in
    let halves = rw (← c.self.view_is) at c.requires.halves in
    let live : has_part (is_bit p.live) (suc row) off ≡ true = sym (own_live p row off c.args.own c.self.invariant halves)
    ∙ ap is_some c.in-Some.is in
    rw (← c.self.view_is, c.in-Some.is)
    (part_written p row c.args.number c.put.new.cells.items c.in-Some.digest c.self.invariant c.self.ranges.0.1 listed b put live)
