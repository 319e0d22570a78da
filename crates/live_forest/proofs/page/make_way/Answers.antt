use Rattle.std.proofs.Common.{◌≡◌, ℕ, Some, Bool, subst}
use Rattle.std.specs.Prelude.{MatchOption, Option}
use Rattle.forest_place.specs.declared.place.Place.{Place}
use Rattle.live_forest.specs.Sets.{is_bit}
use Rattle.live_forest.specs.Pages.{IsAlone, IsBeside}
use Rattle.live_forest.proofs.Telling.{beside_within}
use Rattle.live_forest.proofs.page.make_way.Goals as goal

-- what the number meets first
met : (s : ℕ → Bool) (number : ℕ) (x : Option Place) (part : Place) → MatchOption x (IsAlone s number) (λ part. IsBeside s number part)
    → x ≡ Some part → IsBeside s number part
met s number x part is e = subst (λ y. MatchOption y (IsAlone s number) (λ part. IsBeside s number part)) e is

pub lift-requires-clause-within : goal.lift-requires-clause-within
lift-requires-clause-within c =
    let part = c.in-Some.beside in
    let is = met (is_bit c.args.listed) c.args.number c.nearest.result part c.nearest.ensures c.in-Some.is in
    beside_within c.args.number part.row part.off c.requires.number is.row is.off
