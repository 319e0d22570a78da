-- Covered places, compared one by one.
use Rattle.std.proofs.Common.{◌≡◌, ℕ, ◌+◌, ◌<◌, ◌≤◌, List, length, get_or, Option, None, sym, subst, ⊎_elim, arith}
use Rattle.std.proofs.lemmas.Bool.{cases_lt}
use Rattle.std.proofs.lemmas.List.{get_or_default}
use Rattle.uo_digest.specs.declared.digest.Digest.{Digest}
use Rattle.proof_verify.specs.declared.evaluation.CoveredPlace.{CoveredPlace}
use Rattle.leaf_record.specs.Leaf.{Leaf}
use Rattle.output_index.specs.Held.{Held}
use Rattle.clash_find.specs.Clashes.{TextClash}
use Rattle.clash_find.specs.Searched.{IsCompared}

module _ (H : List ℕ → Digest) (es : List (Option Digest)) (outputs : List Held) (rs : List Leaf) (items : List CoveredPlace) where
  abbrev pub NoneBefore : ℕ → Type 0
  NoneBefore k = (i : ℕ) (d : CoveredPlace) → i < k → IsCompared H es outputs rs (get_or items i d) None

  pub compared_more : (k : ℕ) (d0 : CoveredPlace) (x : Option TextClash) → k < length items → NoneBefore k → x ≡ None
      → IsCompared H es outputs rs (get_or items k d0) x → NoneBefore (k + 1)
  compared_more k d0 x lt before none here i d l =
      ⊎_elim
      (λ old. before i d old)
      (λ ge.
      let at : i ≡ k = omega (arith, ge, l) in
      let it = subst (λ (y : Option TextClash). IsCompared H es outputs rs (get_or items k d0) y) none here in
      subst (λ (j : ℕ). IsCompared H es outputs rs (get_or items j d) None) (sym at)
      (subst (λ (p : CoveredPlace). IsCompared H es outputs rs p None) (get_or_default items k d0 d lt) it))
      (cases_lt i k)

  pub compared_all : (k : ℕ) → length items ≤ k → NoneBefore k → NoneBefore (length items)
  compared_all k le before i d lt = before i d (omega (arith, le, lt))
