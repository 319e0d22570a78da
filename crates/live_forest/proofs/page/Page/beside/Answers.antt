use Rattle.std.proofs.Common.{◌≡◌, Bool, ◌/◌, ◌%◌, true, false, Some, sym, ap, ◌∙◌, arith, eq-eqb}
use Rattle.std.specs.Prelude.{◌==◌, if◌then◌else◌}
use Rattle.std.proofs.lemmas.Bool.{ne_eqb}
use Rattle.live_forest.specs.Sets.{is_bit, rank}
use Rattle.live_forest.specs.Pages.{PageState, middle}
use Rattle.live_forest.proofs.Telling.{none_told, page_up, middle_low, beside_within, part_beside, beside_index, beside_told}
use Rattle.live_forest.proofs.page.Page.beside.Goals as goal
use Rattle.live_forest.proofs.page.Page.beside.Goals.{then-side-eq0, else-side-eq0}

pub has_some-requires-clause-within : goal.has_some-requires-clause-within
has_some-requires-clause-within c =
    beside_within c.args.number c.args.row c.sibling-other.result.off c.requires.number c.requires.row c.sibling-other.ensures.off

pub returns-then-not-has_some : goal.returns-then-not-has_some
returns-then-not-has_some c =
    let p : PageState = record { listed = c.self.inside.listed; live = c.self.inside.live; cells = c.self.inside.cells.items } in
    rw (← c.self.view_is, ← c.sibling-other.ensures.off)
    (sym (none_told p c.args.row c.sibling-other.result.off (sym c.has_some.ensures ∙ c.if-not-has_some.true)))

pub middle-requires-clause-within : goal.middle-requires-clause-within
middle-requires-clause-within c =
    let off = c.sibling-other.result.off in
    rw c.parent.ensures.off (middle_low c.args.row (off / 2) (page_up c.args.row off c.requires.row
    (beside_within c.args.number c.args.row off c.requires.number c.requires.row c.sibling-other.ensures.off)))

pub rank-requires : goal.rank-requires
rank-requires c =
    let off = c.sibling-other.result.off in
    let within = beside_within c.args.number c.args.row off c.requires.number c.requires.row c.sibling-other.ensures.off in
    omega (arith, c.middle.ensures ∙ ap (middle c.args.row) c.parent.ensures.off, middle_low c.args.row (off / 2) (page_up c.args.row off c.requires.row within))

pub index-cell-requires : goal.index-cell-requires
index-cell-requires c =
    let p : PageState = record { listed = c.self.inside.listed; live = c.self.inside.live; cells = c.self.inside.cells.items } in
    let s = is_bit p.listed in
    let off = c.sibling-other.result.off in
    let within = beside_within c.args.number c.args.row off c.requires.number c.requires.row c.sibling-other.ensures.off in
    let listed : s c.args.number ≡ true = ap (λ x. is_bit x.listed c.args.number) c.self.view_is ∙ c.requires.listed in
    let other = part_beside s c.args.number c.args.row off listed c.sibling-other.ensures.off in
    let live = sym c.has_some.ensures ∙ c.if-not-has_some.false in
    let at = c.rank.ensures ∙ ap (rank s) (c.middle.ensures ∙ ap (middle c.args.row) c.parent.ensures.off) in
    omega (arith, at, beside_index p c.self.invariant c.args.row off c.requires.row within live other, c.self.inside.cells.ok.0)

pub returns : goal.returns
returns c =
    let p : PageState = record { listed = c.self.inside.listed; live = c.self.inside.live; cells = c.self.inside.cells.items } in
    let s = is_bit p.listed in
    let row = c.args.row in
    let off = c.sibling-other.result.off in
    let within = beside_within c.args.number row off c.requires.number c.requires.row c.sibling-other.ensures.off in
    let listed : s c.args.number ≡ true = ap (λ x. is_bit x.listed c.args.number) c.self.view_is ∙ c.requires.listed in
    let other = part_beside s c.args.number row off listed c.sibling-other.ensures.off in
    let live = sym c.has_some.ensures ∙ c.if-not-has_some.false in
    let at = c.rank.ensures ∙ ap (rank s) (c.middle.ensures ∙ ap (middle c.args.row) c.parent.ensures.off) in
    let is = beside_told p c.self.invariant row off c.requires.row within live other c.rank.result c.index-cell.result.now at c.index-cell.ensures in
    let pick = λ (b : Bool). Some (if b then c.index-cell.result.now.right else c.index-cell.result.now.left) in
    rw (← c.self.view_is, ← c.sibling-other.ensures.off) (elim c.if-side-eq0.branch [
      | then-side-eq0 w ↦
          let even : (off % 2 == 1) ≡ false = ne_eqb (off % 2) 1 (λ e. let z : ⊥ = omega (arith, e, w.if-side-eq0.true, c.side.ensures.is) in z) in
          ap (λ b. Some b.now) w.result-is ∙ sym (is ∙ ap pick even)
      | else-side-eq0 w ↦
          let odd : (off % 2 == 1) ≡ true = eq-eqb (off % 2) 1 (omega (arith, w.if-side-eq0.false, c.side.ensures.is)) in
          ap (λ b. Some b.now) w.result-is ∙ sym (is ∙ ap pick odd)
    ])
