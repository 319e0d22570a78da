-- Texts behind references, what is made of them, and what holds up to an index.
use Rattle.std.proofs.Common.{◌≡◌, ℕ, zero, suc, ◌+◌, ◌<◌, ◌≤◌, List, [], ◌∷◌, length, map, slice_index_or, slice_set, Some, inl, inr, arith, refl}
use Rattle.std.proofs.Common.{ap, subst}
use Rattle.std.proofs.lemmas.Bool.{cases_lt}
use Rattle.std.proofs.lemmas.Option.{none-some, slice_get_within}
use Rattle.std.specs.Borrow.{Bor}
use Rattle.std.specs.Prelude.{slice_get, unwrap_or}

-- the text behind the k-th reference
pub text_there : (texts : List (Bor (List ℕ))) (k : ℕ)
    → (slice_index_or texts k (record { ref_ptr = (0, 0); now = [] })).now ≡ slice_index_or (map (λ (t : Bor (List ℕ)). t.now) texts) k []
text_there [] k = refl
text_there (t ∷ texts) zero = refl
text_there (t ∷ texts) (suc k) = text_there texts k

-- what holds of all indices up to one, and of it
pub one_more : (P : ℕ → Type 0) (from i : ℕ) → ((k : ℕ) → from ≤ k → k < i → P k) → P i → (k : ℕ) → from ≤ k → k < i + 1 → P k
one_more P from i before here k low high = elim (cases_lt k i) [
  | inl a ↦ before k low a
  | inr b ↦ let same : i ≡ k = omega arith in subst P same here
]

-- what holds of the entry at each index, if there is one
abbrev Holds : {T : Type 0} → (ℕ → T → Type 0) → List T → ℕ → Type 0
Holds {T} P out i = (v : T) → slice_get out i ≡ Some v → P i v

-- a write of what holds at an index keeps what holds elsewhere
pub put_keeps : {T : Type 0} (P : ℕ → T → Type 0) (out : List T) (p : ℕ) (x : T) → P p x → (i : ℕ) → Holds P out i → Holds P (slice_set out p x) i
put_keeps P [] p x right i held = held
put_keeps P (y ∷ out) zero x right zero held = λ v e. subst (P zero) (ap (λ o. unwrap_or o x) e) right
put_keeps P (y ∷ out) zero x right (suc i) held = held
put_keeps P (y ∷ out) (suc p) x right zero held = held
put_keeps P (y ∷ out) (suc p) x right (suc i) held = put_keeps (λ k. P (suc k)) out p x right i held

-- and it holds there
pub put_makes : {T : Type 0} (P : ℕ → T → Type 0) (out : List T) (p : ℕ) (x : T) → P p x → Holds P (slice_set out p x) p
put_makes P [] p x right = λ v e. absurd (none-some v e)
put_makes P (y ∷ out) zero x right = λ v e. subst (P zero) (ap (λ o. unwrap_or o x) e) right
put_makes P (y ∷ out) (suc p) x right = put_makes (λ k. P (suc k)) out p x right

-- a list that is written index by index of a group
pub put_each : {T : Type 0} (P : ℕ → T → Type 0) (old out : List T) (group : ℕ → ℕ) (k : ℕ) (x : T) → P (group k) x
    → ((i : ℕ) → Holds P old i → Holds P out i) × ((m : ℕ) → m < k → Holds P out (group m))
    → ((i : ℕ) → Holds P old i → Holds P (slice_set out (group k) x) i) × ((m : ℕ) → m < k + 1 → Holds P (slice_set out (group k) x) (group m))
put_each P old out group k x right (kept, made) = (
  λ i was. put_keeps P out (group k) x right i (kept i was),
  λ m lt. elim (cases_lt m k) [
    | inl a ↦ put_keeps P out (group k) x right (group m) (made m a)
    | inr b ↦ let same : k ≡ m = omega arith in subst (λ n. Holds P (slice_set out (group k) x) (group n)) same (put_makes P out (group k) x right)
  ],
)

-- behind the last entry there is none
pub none_past : {T : Type 0} (P : ℕ → T → Type 0) (out : List T) (i : ℕ) → length out ≤ i → Holds P out i
none_past P out i past = λ v e. absurd (omega (arith, slice_get_within out i v e, past))
