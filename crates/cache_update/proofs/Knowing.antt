-- What a search in the covered positions tells.
use Rattle.std.proofs.Common.{◌≡◌, ℕ, ◌<◌, ◌≤◌, List, length, get_or, sym, ap₂, ◌∙◌, subst, is_some}
use Rattle.std.specs.Prelude.{Result, is_ok, MatchResult}
use Rattle.forest_place.specs.declared.place.Place.{Place}
use Rattle.forest_place.specs.Forest.{InForest}
use Rattle.forest_place.specs.Position.{position}
use Rattle.forest_model.specs.Cover.{cover}
use Rattle.proof_shape.specs.Shape.{has_number}
use Rattle.forest_place.specs.Position.{positions_of}
use Rattle.proof_shape.specs.Survey.{IsCoverOf}
use Rattle.proof_shape.proofs.Ordered.{found_is}
use Rattle.proof_shape.proofs.Needing.{rises_sorted, positions_tell}
use Rattle.std.specs.List.Sorted.{IsNonDecreasing}

pub tells : (n : ℕ) (ts cs : List Place) (xs : List ℕ) (p : Place) (x : ℕ) (r : Result ℕ ℕ) → x ≡ position n p.row p.off → IsCoverOf n ts cs
    → xs ≡ positions_of n cs → InForest n p.row p.off →
    (((i j : ℕ) → i ≤ j → j < length xs → get_or xs i 0 ≤ get_or xs j 0)
    → MatchResult r (λ i. (i < length xs) × (get_or xs i 0 ≡ x)) (λ i. (i ≤ length xs) × ((k : ℕ) → k < i → get_or xs k 0 < x)
    × ((k : ℕ) → i ≤ k → k < length xs → x < get_or xs k 0))) →
    is_ok r ≡ is_some (cover ts p.row p.off)
tells n ts cs xs p x r at s e within found =
    let sorted : IsNonDecreasing xs = subst IsNonDecreasing (sym e) (rises_sorted n cs s.rises) in
    found_is xs x r (found (λ i j le lt. sorted i j 0 le lt))
    ∙ (ap₂ has_number e at ∙ positions_tell n ts cs s p within)
