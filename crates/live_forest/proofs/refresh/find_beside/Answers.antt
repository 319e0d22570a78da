use Rattle.std.proofs.Common.{◌≡◌, ℕ, suc, ◌+◌, ◌/◌, ◌^◌, ◌<◌, get_or, None, sym, ◌∙◌, subst, arith}
use Rattle.std.specs.Prelude.{map, option_copied}
use Rattle.std.proofs.lemmas.Bool.{true≢false}
use Rattle.std.proofs.lemmas.List.{map-set, length-map, length-set}
use Rattle.forest_place.specs.Forest.{InForest, sibling_off}
use Rattle.forest_place.proofs.Parts.{parts-suc}
use Rattle.forest_place.proofs.Positions.{row_small}
use Rattle.live_forest.specs.Parts.{leaves_of, part_digest}
use Rattle.live_forest.proofs.Refreshing.{sibling_in, beside_right, one_found}
use Rattle.live_forest.proofs.refresh.find_beside.Goals as goal

pub rows-init : goal.rows-init
rows-init g c = record {
  small = omega arith;
  within = omega (arith, c.requires.number);
  forty = c.requires.forty;
  is = λ r lt. absurd (omega (arith, lt));
}

pub beside-requires-clause-within : goal.beside-requires-clause-within
beside-requires-clause-within g c =
    let up = c.goes_up.ensures.0 c.rows-test.true in
    sibling_in c.args.n c.rows.row (c.args.number / 2 ^ c.rows.row)
    (subst (InForest c.args.n (suc c.rows.row)) (parts-suc c.args.number c.rows.row) up)

pub rows-preserved : goal.rows-preserved
rows-preserved g c =
    let H = g.D.Digester.digest_of in
    let n = c.args.n in
    let row = c.rows.row in
    let i = c.args.number in
    let s = c.args.store.now in
    let up = c.goes_up.ensures.0 c.rows-test.true in
    let e : suc row ≡ row + 1 = omega arith in
    let within : InForest n (row + 1) (i / 2 ^ (row + 1)) = subst (λ r. InForest n r (i / 2 ^ r)) e up in
    let found = map option_copied c.rows.beside in
    record {
      small = row_small n (row + 1) (i / 2 ^ (row + 1)) 40 within c.requires.small;
      within = within;
      forty = length-set c.rows.beside row c.beside.result ∙ c.rows.invariant.forty;
      is = subst (λ xs. (r : ℕ) → r < row + 1 → get_or xs r None ≡ part_digest H (leaves_of s) r (sibling_off (i / 2 ^ r)))
          (sym (map-set option_copied c.rows.beside row c.beside.result))
          (one_found H (leaves_of s) found i row (option_copied c.beside.result)
          (omega (arith, length-map c.rows.beside option_copied, c.rows.invariant.forty, c.rows.invariant.small))
          (c.beside.ensures ∙ beside_right H n (leaves_of s) s i row c.requires.right up) c.rows.invariant.is);
    }

pub returns-clause-beside : goal.returns-clause-beside
returns-clause-beside g c = record {
  within = c.rows.invariant.within;
  last = λ h. true≢false (sym (c.goes_up.ensures.1 h) ∙ c.rows-test.false);
  is = c.rows.invariant.is;
}
