-- The first of two lists of steps.
use Rattle.std.proofs.Common.{◌≡◌, List, ◌++◌, Option, Some, None, sym, ap, ◌∙◌, subst}
use Rattle.std.specs.Prelude.{option_map}
use Rattle.std.proofs.lemmas.Option.{none-some}
use Rattle.std.specs.Option.{option_or}
use Rattle.block_rules.specs.declared.fault.RuleFault.{RuleFault}
use Rattle.block_rules.specs.declared.fault.RuleFault.TheVariants.{Refused, NoMemory}
use Rattle.block_rules.specs.declared.refusal.Refusal.{Refusal}
use Rattle.block_rules.specs.declared.refusal.Refusal.TheVariants as Why
use Rattle.block_rules.specs.declared.refusal.ProofRefusal.{ProofRefusal}
use Rattle.block_rules.specs.Steps.{first_of}
use Rattle.block_rules.proofs.Firsts.{first_of-append}
use Rattle.node_rules.specs.Judged.{IsFirst}

pub first-in : (xs ys : List (Option Refusal)) (fault : RuleFault) → IsFirst (first_of xs) fault → IsFirst (first_of (xs ++ ys)) fault
first-in xs ys (Refused why) e = first_of-append xs ys ∙ ap (λ z. option_or z (first_of ys)) e
first-in xs ys NoMemory e = tt

pub first-behind : (xs ys : List (Option Refusal)) (fault : RuleFault) → first_of xs ≡ None → IsFirst (first_of ys) fault
    → IsFirst (first_of (xs ++ ys)) fault
first-behind xs ys (Refused why) none e = first_of-append xs ys ∙ (ap (λ z. option_or z (first_of ys)) none ∙ e)
first-behind xs ys NoMemory none e = tt

-- of two faults of a proof
pub told-in : (x y : Option ProofRefusal) (fault : RuleFault) → IsFirst (option_map Why.Proof x) fault
    → IsFirst (option_map Why.Proof (option_or x y)) fault
told-in None y (Refused why) e = absurd (none-some why e)
told-in None y NoMemory e = tt
told-in (Some x) y fault e = e

pub told-behind : (x y : Option ProofRefusal) (fault : RuleFault) → x ≡ None → IsFirst (option_map Why.Proof y) fault
    → IsFirst (option_map Why.Proof (option_or x y)) fault
told-behind x y fault none e = subst (λ z. IsFirst (option_map Why.Proof (option_or z y)) fault) (sym none) e

pub none-both : (xs ys : List (Option Refusal)) → first_of xs ≡ None → first_of ys ≡ None → first_of (xs ++ ys) ≡ None
none-both xs ys none e = first_of-append xs ys ∙ (ap (λ z. option_or z (first_of ys)) none ∙ e)
