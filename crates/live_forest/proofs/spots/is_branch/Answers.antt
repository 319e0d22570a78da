use Rattle.std.proofs.Common.{◌≡◌, ◌+◌, ◌*◌, ◌/◌, ◌^◌, suc, sym, ap, ◌∙◌, subst, ⊎_elim, arith}
use Rattle.forest_place.specs.Forest.{InForest, sibling_off}
use Rattle.forest_place.proofs.Parts.{parts-suc}
use Rattle.forest_place.proofs.Siblings.{sibling_cases}
use Rattle.live_forest.specs.Sets.{is_bit, has_part}
use Rattle.live_forest.specs.Pages.{IsBranch}
use Rattle.live_forest.proofs.Ranks.{part_with}
use Rattle.live_forest.proofs.Landing.{branch_of}
use Rattle.live_forest.proofs.Telling.{page_within, page_beside}
use Rattle.live_forest.proofs.spots.is_branch.Goals as goal

pub has_some-requires-clause-within : goal.has_some-requires-clause-within
has_some-requires-clause-within c =
    subst (InForest 128 c.args.row) (sym c.sibling.ensures.off)
    (page_beside c.args.row (c.args.number / 2 ^ c.args.row) c.requires.row
    (page_within c.args.number c.args.row c.requires.number (omega (arith, c.requires.row))))

pub returns : goal.returns
returns c =
    let s = is_bit c.args.listed in
    let row = c.args.row in
    let half = c.args.number / 2 ^ row in
    let up = parts-suc c.args.number row in
    let at = ap (has_part s row) c.sibling.ensures.off in (
      (λ yes.
          subst (IsBranch s row) (sym up)
          (branch_of s row half (part_with s c.args.number row c.requires.listed) (sym at ∙ sym c.has_some.ensures ∙ yes))),
      (λ b.
          c.has_some.ensures ∙ at ∙ ⊎_elim
          (λ even. ap (has_part s row) (let z : sibling_off half ≡ 2 * (c.args.number / 2 ^ suc row) + 1 = omega (arith, up, even) in z) ∙ b.right)
          (λ odd. ap (has_part s row) (let z : sibling_off half ≡ 2 * (c.args.number / 2 ^ suc row) = omega (arith, up, odd) in z) ∙ b.left)
          (sibling_cases half)),
    )
