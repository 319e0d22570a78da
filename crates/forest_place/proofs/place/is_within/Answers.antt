use Rattle.std.proofs.Common.{◌≡◌, ◌/◌, ◌^◌, ◌∙◌, nat_lt, false, sym, ⊎_elim, arith, ltb-true}
use Rattle.std.proofs.lemmas.Bool.{cases_Bool}
use Rattle.forest_place.proofs.Positions.{row_small}
use Rattle.forest_place.proofs.place.is_within.Goals as goal

pub returns-else-place-lt40-clause-is : goal.returns-else-place-lt40-clause-is
returns-else-place-lt40-clause-is c =
    let high : nat_lt c.args.place.row 40 ≡ false = ⊎_elim (λ t. let low = ltb-true c.args.place.row 40 t in
    absurd (omega (arith, low, c.if-place-lt40.false))) (λ t. t) (cases_Bool (nat_lt c.args.place.row 40)) in
    high ∙ ⊎_elim
    (λ t. let within = ltb-true c.args.place.off (c.args.n / 2 ^ c.args.place.row) t in
    let low = row_small c.args.n c.args.place.row c.args.place.off 40 within c.requires in absurd (omega (arith, low, c.if-place-lt40.false)))
    (λ t. sym t)
    (cases_Bool (nat_lt c.args.place.off (c.args.n / 2 ^ c.args.place.row)))

pub returns-else-place-lt40-clause-means : goal.returns-else-place-lt40-clause-means
returns-else-place-lt40-clause-means c = (
  (λ t. absurd (omega (arith, ltb-true c.args.place.row 40 t, c.if-place-lt40.false))),
  (λ h. absurd (omega (arith, row_small c.args.n c.args.place.row c.args.place.off 40 h c.requires, c.if-place-lt40.false))),
)
