-- The first of a list of steps.
use Rattle.std.proofs.Common.{◌≡◌, get_or, ℕ, zero, suc, Bool, true, false, List, [], ◌∷◌, ◌++◌, Option, Some, None, refl, sym, ap, ◌∙◌}
use Rattle.std.specs.Option.{option_or}
use Rattle.std.proofs.lemmas.Option.{none-some}
use Rattle.block_rules.specs.Steps.{unless, first_of}

-- a test that refuses nothing passed
pub unless-passed : {X : Type 0} (b : Bool) (x : X) → unless b x ≡ None → b ≡ true
unless-passed true x h = refl
unless-passed false x h = absurd (none-some x (sym h))

pub option_or-none : {X : Type 0} (x y : Option X) → option_or x y ≡ None → (x ≡ None) × (y ≡ None)
option_or-none None y h = (refl, h)
option_or-none (Some x) y h = absurd (none-some x (sym h))

pub option_or-both : {X : Type 0} (x y : Option X) → x ≡ None → y ≡ None → option_or x y ≡ None
option_or-both x y e f = ap (λ z. option_or z y) e ∙ f

pub option_or-assoc : {X : Type 0} (x y z : Option X) → option_or (option_or x y) z ≡ option_or x (option_or y z)
option_or-assoc None y z = refl
option_or-assoc (Some x) y z = refl

pub first_of-append : {X : Type 0} (xs ys : List (Option X)) → first_of (xs ++ ys) ≡ option_or (first_of xs) (first_of ys)
first_of-append [] ys = refl
first_of-append (x ∷ xs) ys = ap (option_or x) (first_of-append xs ys) ∙ sym (option_or-assoc x (first_of xs) (first_of ys))

-- where no step fails, the step at an index passes
pub each_passes : {X : Type 0} (xs : List (Option X)) (k : ℕ) → first_of xs ≡ None → get_or xs k None ≡ None
each_passes [] k h = refl
each_passes (x ∷ xs) zero h = (option_or-none x (first_of xs) h).0
each_passes (x ∷ xs) (suc k) h = each_passes xs k (option_or-none x (first_of xs) h).1

pub append_passes : {X : Type 0} (xs ys : List (Option X)) → first_of (xs ++ ys) ≡ None → (first_of xs ≡ None) × (first_of ys ≡ None)
append_passes xs ys h = option_or-none (first_of xs) (first_of ys) (sym (first_of-append xs ys) ∙ h)
