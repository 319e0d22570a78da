-- What a number names, in either way.
use Rattle.std.proofs.Common.{◌≡◌, ◌≢◌, ℕ, ◌+◌, ◌^◌, ◌<◌, ◌≤◌, ◌⊎◌, inl, inr, true, false, Option, Some, None, refl, sym, ap, ◌∙◌, arith}
use Rattle.std.specs.Prelude.{◌==◌, MatchOption}
use Rattle.std.proofs.lemmas.Bool.{cases_Bool, eqb-true}
use Rattle.std.proofs.lemmas.Option.{none-some, same_Some}
use Rattle.std.proofs.lemmas.Nat.{pow_below}
use Rattle.forest_place.specs.declared.naming.Naming.{Naming}
use Rattle.forest_place.specs.declared.naming.Naming.TheVariants.{Position, FixedPosition}
use Rattle.forest_place.specs.declared.place.Place.{Place}
use Rattle.forest_place.specs.Forest.{InForest}
use Rattle.forest_place.specs.Position.{rows}
use Rattle.forest_place.specs.Named.{version_of, naming_of, number_by, place_by}
use Rattle.forest_place.proofs.Positions.{rows_least, one_position, position_small, places_low, one_fixed_position, fixed_small}
use Rattle.forest_place.proofs.Numbered.{found_with, some_with, none_with}

-- a place has its number alone
pub one_number : (by : Naming) (n : ℕ) (p q : Place) → n ≤ 2 ^ 40 → InForest n p.row p.off → InForest n q.row q.off
    → number_by by n p ≡ number_by by n q → p ≡ q
one_number Position n p q few h k e = one_position n p q h k e
one_number FixedPosition n p q few h k e = one_fixed_position p q (places_low n p.row p.off few h) (places_low n q.row q.off few k) e

-- and it names the place
pub place_by-number : (by : Naming) (n : ℕ) (p : Place) → n ≤ 2 ^ 40 → InForest n p.row p.off → place_by by n (number_by by n p) ≡ Some p
place_by-number by n p few h = found_with (number_by by n) n p (λ q k e. one_number by n q p few k h e) h

-- what a number names has it
pub place_by-some : (by : Naming) (n number : ℕ) (p : Place) → place_by by n number ≡ Some p → InForest n p.row p.off × (number_by by n p ≡ number)
place_by-some by n number p e = some_with (number_by by n) n number p e

-- what tells the place tells it all
pub place_by-is : (by : Naming) (n number : ℕ) (x : Option Place) → n ≤ 2 ^ 40
    → MatchOption x ((q : Place) → InForest n q.row q.off → number_by by n q ≡ number → ⊥) (λ p. InForest n p.row p.off × (number_by by n p ≡ number))
    → x ≡ place_by by n number
place_by-is by n number None few h = sym (none_with (number_by by n) n number h)
place_by-is by n number (Some p) few h = sym (ap (place_by by n) (sym h.1) ∙ place_by-number by n p few h.0)

-- it fits eight bytes
pub number_by-fits : (by : Naming) (n : ℕ) (p : Place) → n ≤ 2 ^ 40 → InForest n p.row p.off → number_by by n p < 2 ^ 64
number_by-fits Position n p few h =
    let low : rows n ≤ 40 = rows_least n 40 few in
    let up : 2 ^ (rows n + 1) < 2 ^ 64 = pow_below (rows n + 1) 64 (omega (arith, low)) in
    omega (arith, position_small n p.row p.off h, up)
number_by-fits FixedPosition n p few h = let small = fixed_small p.row p.off (places_low n p.row p.off few h) in omega (arith, small)

-- ---- versions

-- a version has one way of naming places
pub one_naming : (by to : Naming) → version_of by ≡ version_of to → by ≡ to
one_naming Position Position e = refl
one_naming Position FixedPosition e = absurd (omega (arith, e))
one_naming FixedPosition Position e = absurd (omega (arith, e))
one_naming FixedPosition FixedPosition e = refl

pub naming_of-version : (by : Naming) → naming_of (version_of by) ≡ Some by
naming_of-version Position = refl
naming_of-version FixedPosition = refl

pub naming_of-some : (version : ℕ) (by : Naming) → naming_of version ≡ Some by → version ≡ version_of by
naming_of-some version by e = by_first (cases_Bool (1 == version))
  where
    by_second : ((2 == version) ≡ true) ⊎ ((2 == version) ≡ false) → (1 == version) ≡ false → version ≡ version_of by
    by_second (inl two) one = let same : FixedPosition ≡ by = same_Some FixedPosition by (rw (one, two) at e) in
        sym (eqb-true 2 version two) ∙ ap version_of same
    by_second (inr two) one = absurd (none-some by (rw (one, two) at e))

    by_first : ((1 == version) ≡ true) ⊎ ((1 == version) ≡ false) → version ≡ version_of by
    by_first (inl one) = let same : Position ≡ by = same_Some Position by (rw one at e) in sym (eqb-true 1 version one) ∙ ap version_of same
    by_first (inr one) = by_second (cases_Bool (2 == version)) one

-- a version that is none of a naming is not read
pub naming_of-none : (version : ℕ) → ((by : Naming) → version ≢ version_of by) → naming_of version ≡ None
naming_of-none version other = by_found (naming_of version) refl
  where
    by_found : (x : Option Naming) → naming_of version ≡ x → x ≡ None
    by_found None e = refl
    by_found (Some by) e = absurd (other by (naming_of-some version by e))

pub naming_of-other : (version : ℕ) → naming_of version ≡ None → (by : Naming) → version ≢ version_of by
naming_of-other version e by same = none-some by (sym e ∙ (ap naming_of same ∙ naming_of-version by))
