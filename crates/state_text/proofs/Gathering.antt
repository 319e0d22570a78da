-- Loops that read a list of things, of which any may fail.
use Rattle.std.proofs.Common.{◌≡◌, ℕ, zero, suc, ◌<◌, List, [], ◌∷◌, Option, Some, None, refl, subst}
use Rattle.std.specs.List.{AllByRecursion}
use Rattle.uo_base.specs.Reading.{◌>>=◌, times}
use Rattle.uo_base.specs.Compact.{compact_at, counted_at}
use Rattle.uo_base.proofs.Formats.{bind_some, some_is}
use Rattle.uo_base.proofs.Walks.{Gathered, gathered-none}
use Rattle.state_text.specs.declared.fault.StateFault.{StateFault}
use Rattle.state_text.specs.declared.fault.StateFault.TheVariants.{NotAState, Version, NoMemory}
use Rattle.state_text.specs.Reading.{claims}

-- nothing is read, or there was no memory
abbrev pub Fails : {A : Type 0} → StateFault → Option (A × List ℕ) → Type 0
Fails e read = claims e (read ≡ None)

-- a thing that did not come ends the list
pub gathered-fails : {A : Type 0} (at : List ℕ → Option (A × List ℕ)) (count i : ℕ) (start now : List ℕ) (xs : List A) (e : StateFault) → i < count
    → Fails e (at now) → Gathered at count i start now xs → Fails e (times at count start)
gathered-fails at count i start now xs NotAState lt none g = gathered-none at count i start now xs lt none g
gathered-fails at count i start now xs NoMemory lt none g = tt
gathered-fails at count i start now xs (Version v) lt none g = none

-- and a part that did not come ends what it is a part of
pub part-fails : {A B : Type 0} (e : StateFault) (r : Option (A × List ℕ)) (f : A × List ℕ → Option (B × List ℕ)) → Fails e r → Fails e (r >>= f)
part-fails NotAState r f none = rw none refl
part-fails NoMemory r f none = tt
part-fails (Version v) r f none = none

-- the count that stands before a list
pub counted-none : {A : Type 0} (at : List ℕ → Option (A × List ℕ)) (bytes : List ℕ) → compact_at bytes ≡ None → counted_at at bytes ≡ None
unfolding counted_at
counted-none at bytes e = rw e refl

pub counted-some : {A : Type 0} (at : List ℕ → Option (A × List ℕ)) (bytes : List ℕ) (n : ℕ) (after : List ℕ) → compact_at bytes ≡ Some (n, after)
    → counted_at at bytes ≡ times at n after
unfolding counted_at
counted-some at bytes n after e = rw e refl

-- what holds of each thing that can be read holds of all of a list
pub times-all : {A : Type 0} (P : A → Type 0) (at : List ℕ → Option (A × List ℕ))
    → ((bytes : List ℕ) (x : A) (rest : List ℕ) → at bytes ≡ Some (x, rest) → P x)
    → (n : ℕ) (bytes : List ℕ) (xs : List A) (rest : List ℕ) → times at n bytes ≡ Some (xs, rest) → AllByRecursion P xs
unfolding times
times-all {A = A} P at each zero bytes xs rest e = subst (λ (p : List A × List ℕ). AllByRecursion P p.0) (some_is ([], bytes) (xs, rest) e) tt
times-all {A = A} P at each (suc n) bytes xs rest e =
    let s = bind_some (at bytes) (λ first. times at n first.1 >>= λ others. Some (first.0 ∷ others.0, others.1)) (xs, rest) e in
    let o = bind_some (times at n s.0.1) (λ others. Some (s.0.0 ∷ others.0, others.1)) (xs, rest) s.2 in
    let made : List A × List ℕ = (s.0.0 ∷ o.0.0, o.0.1) in
    subst (λ (p : List A × List ℕ). AllByRecursion P p.0) (some_is made (xs, rest) o.2)
    (each bytes s.0.0 s.0.1 s.1, times-all P at each n s.0.1 o.0.0 o.0.1 o.1)

pub counted-all : {A : Type 0} (P : A → Type 0) (at : List ℕ → Option (A × List ℕ))
    → ((bytes : List ℕ) (x : A) (rest : List ℕ) → at bytes ≡ Some (x, rest) → P x)
    → (bytes : List ℕ) (xs : List A) (rest : List ℕ) → counted_at at bytes ≡ Some (xs, rest) → AllByRecursion P xs
unfolding counted_at
counted-all P at each bytes xs rest e =
    let s = bind_some (compact_at bytes) (λ n. times at n.0 n.1) (xs, rest) e in
    times-all P at each s.0.0 s.0.1 xs rest s.2
