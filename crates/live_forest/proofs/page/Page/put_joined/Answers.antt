use Rattle.std.proofs.Common.{◌≡◌, ◌+◌, ◌/◌, ◌^◌, suc, true, ap, ◌∙◌, subst, arith}
use Rattle.live_forest.specs.declared.spots.Spot.{Spot}
use Rattle.live_forest.specs.Sets.{is_bit}
use Rattle.live_forest.specs.Pages.{PageState, IsPut, spot}
use Rattle.live_forest.proofs.Landing.{spot_within}
use Rattle.live_forest.proofs.Ranks.{part_with}
use Rattle.live_forest.proofs.Telling.{listed_few, page_within, part_written, joined_branch, joined_live}
use Rattle.live_forest.proofs.page.Page.put_joined.Goals as goal

pub spot_of-requires-clause-within : goal.spot_of-requires-clause-within
spot_of-requires-clause-within c =
    let up : c.args.row + 1 ≡ suc c.args.row = omega arith in
    rw up (page_within c.args.number (suc c.args.row) c.requires.number (omega (arith, c.requires.row)))

pub put-requires : goal.put-requires
put-requires c =
    let p : PageState = record { listed = c.self.inside.listed; live = c.self.inside.live; cells = c.self.inside.cells.items } in
    let s = is_bit p.listed in
    let listed : s c.args.number ≡ true = ap (λ x. is_bit x.listed c.args.number) c.self.view_is ∙ c.requires.listed in
    let up : c.args.row + 1 ≡ suc c.args.row = omega arith in
    let cell = ap (λ (x : Spot). x.cell) (c.spot_of.ensures ∙ ap (λ r. spot s r (c.args.number / 2 ^ r)) up) in
    omega (
      arith,
      cell,
      spot_within s (listed_few p.listed c.self.ranges.0.1) (suc c.args.row) (c.args.number / 2 ^ suc c.args.row)
          (part_with s c.args.number (suc c.args.row) listed),
      c.self.invariant.full,
    )

pub returns-clause-put : goal.returns-clause-put
returns-clause-put c =
    let p : PageState = record { listed = c.self.inside.listed; live = c.self.inside.live; cells = c.self.inside.cells.items } in
    let s = is_bit p.listed in
    let row = c.args.row in
    let off = c.args.number / 2 ^ suc row in
    let listed : s c.args.number ≡ true = ap (λ x. is_bit x.listed c.args.number) c.self.view_is ∙ c.requires.listed in
    let left = rw (← c.self.view_is) at c.requires.left in
    let b = joined_branch p row off c.self.invariant left (rw (← c.self.view_is) at c.requires.right) in
    let up : row + 1 ≡ suc row = omega arith in
    let at = c.spot_of.ensures ∙ ap (λ r. spot s r (c.args.number / 2 ^ r)) up in
    let put = subst (λ x. IsPut p.cells c.put.new.cells.items x c.args.own) at c.put.ensures in
    rw (← c.self.view_is)
    (part_written p row c.args.number c.put.new.cells.items c.args.own c.self.invariant c.self.ranges.0.1 listed b put
    (joined_live p row off c.self.invariant left))
