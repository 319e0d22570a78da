use Rattle.std.proofs.Common.{◌≡◌, ℕ, Bool, ◌/◌, suc, List, true, ap, ap₂, ◌∙◌, sym, subst, arith}
use Rattle.uo_digest.specs.declared.digest.Digest.{Digest}
use Rattle.forest_place.specs.Forest.{InForest}
use Rattle.forest_place.proofs.Parts.{parts-suc}
use Rattle.live_forest.specs.declared.cell.Cell.{Cell}
use Rattle.live_forest.specs.declared.spots.Spot.{Spot}
use Rattle.live_forest.specs.Sets.{is_bit, has_part}
use Rattle.live_forest.specs.Pages.{IsPut, spot, digest_at}
use Rattle.live_forest.proofs.Landing.{part_number, part_has, spot_within}
use Rattle.live_forest.proofs.Telling.{listed_few, page_up, middle_low}
use Rattle.live_forest.proofs.page.lift.Goals as goal

-- the part above has listed numbers too
above : (s : ℕ → Bool) (row off : ℕ) → has_part s row off ≡ true → has_part s (suc row) (off / 2) ≡ true
above s row off some =
    let n = part_number s row off some in part_has s (suc row) (off / 2) n.0 n.1 (parts-suc n.0 row ∙ ap (λ x. x / 2) n.2)

pub spot_of-requires-clause-within : goal.spot_of-requires-clause-within
spot_of-requires-clause-within c =
    let up : suc c.args.part.row ≡ c.parent-above.result.row = omega (arith, c.parent-above.ensures.row) in
    subst (λ r. InForest 128 r c.parent-above.result.off) up
    (subst (InForest 128 (suc c.args.part.row)) (sym c.parent-above.ensures.off)
    (page_up c.args.part.row c.args.part.off c.requires.row c.requires.within))

pub put-requires : goal.put-requires
put-requires c =
    let s = is_bit c.args.listed in
    let row = c.args.part.row in
    let off = c.args.part.off in
    let up : c.parent-above.result.row ≡ suc row = omega (arith, c.parent-above.ensures.row) in
    let cell = ap (λ (x : Spot). x.cell) (c.spot_of.ensures ∙ ap₂ (spot s) up c.parent-above.ensures.off) in
    omega (
      arith,
      cell,
      spot_within s (listed_few c.args.listed c.ranges.listed.fits) (suc row) (off / 2) (above s row off c.requires.some),
      c.requires.full,
    )

pub middle-requires-clause-within : goal.middle-requires-clause-within
middle-requires-clause-within c =
    middle_low c.args.part.row c.parent-above.result.off
    (subst (InForest 128 (suc c.args.part.row)) (sym c.parent-above.ensures.off)
    (page_up c.args.part.row c.args.part.off c.requires.row c.requires.within))

pub rank-requires : goal.rank-requires
rank-requires c =
    let low = middle_low c.args.part.row c.parent-above.result.off
    (subst (InForest 128 (suc c.args.part.row)) (sym c.parent-above.ensures.off)
    (page_up c.args.part.row c.args.part.off c.requires.row c.requires.within)) in
    omega (arith, c.middle.ensures, low)

pub returns-clause-put : goal.returns-clause-put
returns-clause-put c =
    let s = is_bit c.args.listed in
    let row = c.args.part.row in
    let off = c.args.part.off in
    let up : c.parent-above.result.row ≡ suc row = omega (arith, c.parent-above.ensures.row) in
    let at = c.spot_of.ensures ∙ ap₂ (spot s) up c.parent-above.ensures.off in
    let digest : c.digest_of-digest.result.now ≡ digest_at c.args.listed c.args.cells.now.items row off =
    c.digest_of-digest.ensures ∙ ap (λ (cells : List Cell). digest_at c.args.listed cells row off) c.deref.ensures.value in
    subst (λ (d : Digest). IsPut c.args.cells.now.items c.put.new.cells.items (spot s (suc row) (off / 2)) d) digest
    (subst (λ (x : Spot). IsPut c.args.cells.now.items c.put.new.cells.items x c.digest_of-digest.result.now) at c.put.ensures)
