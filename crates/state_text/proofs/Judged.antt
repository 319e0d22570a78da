-- What is left of a judgement.
use Rattle.std.proofs.Common.{ℕ, ◌+◌, ◌≤◌, List, ◌∷◌, Result, Ok, Err, subst, arith}
use Rattle.std.specs.List.{AllByRecursion}
use Rattle.state_text.specs.declared.entry.StoredEntry.{StoredEntry}
use Rattle.state_text.specs.declared.fault.StateFault.{StateFault}
use Rattle.state_text.specs.declared.fault.StateFault.TheVariants.{NotAState, Version, NoMemory}
use Rattle.state_text.specs.Fits.{NumbersRise, IsKept}
use Rattle.state_text.specs.Reading.{claims, Judges}

-- it does not hold, or there was no memory
abbrev pub Denies : StateFault → Type 0 → Type 0
Denies e Holds = claims e (Holds → ⊥)

-- what is left holds exactly where the whole does
pub record IsLeft (Whole Rest : Type 0) : Type 0 where
  pub to : Whole → Rest
  pub back : Rest → Whole

pub left-same : (A : Type 0) → IsLeft A A
left-same A = record { to = λ a. a; back = λ a. a }

pub left-on : (Whole Rest Next : Type 0) → IsLeft Whole Rest → IsLeft Rest Next → IsLeft Whole Next
left-on Whole Rest Next a b = record { to = λ w. b.to (a.to w); back = λ n. a.back (b.back n) }

-- what a part denies, the whole denies
pub denied : (e : StateFault) (Part Whole : Type 0) → (Whole → Part) → Denies e Part → Denies e Whole
denied NotAState Part Whole of d = λ w. d (of w)
denied NoMemory Part Whole of d = tt
denied (Version v) Part Whole of d = d

-- kept entries from a number on
pub record AreKeptFrom (scripts : List (List ℕ)) (n from : ℕ) (kept : List StoredEntry) : Type 0 where
  pub rise : NumbersRise from kept
  pub each : AllByRecursion (IsKept scripts n) kept

pub kept-next : (scripts : List (List ℕ)) (n from : ℕ) (e : StoredEntry) (es : List StoredEntry) → from ≤ e.number → IsKept scripts n e
    → IsLeft (AreKeptFrom scripts n from (e ∷ es)) (AreKeptFrom scripts n (e.number + 1) es)
kept-next scripts n from e es le is = record {
  to = λ k. record { rise = subst (λ m. NumbersRise m es) (omega arith) k.rise.1; each = k.each.1 };
  back = λ k. record { rise = (le, subst (λ m. NumbersRise m es) (omega arith) k.rise); each = (is, k.each) };
}

-- the last part decides, where the others hold
pub decides : {X : Type 0} (r : Result X StateFault) (Part Whole : Type 0) → (Part → Whole) → (Whole → Part) → Judges r Part → Judges r Whole
decides (Ok x) Part Whole to of j = to j
decides (Err e) Part Whole to of j = denied e Part Whole of j
