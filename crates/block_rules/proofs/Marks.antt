-- Where numbers that stand for outpoints are all different, no outpoint is spent twice.
use Rattle.std.proofs.Common.{◌≡◌, ℕ, suc, ◌+◌, Bool, false, List, [], ◌∷◌, ◌++◌, map, drop, Some, None, refl, sym, ap, ◌∙◌, subst, ⊎_elim, arith}
use Rattle.std.proofs.Common.{add-one, append_assoc, ne_eqb, eq-eqb}
use Rattle.std.specs.Prelude.{◌==◌, slice_get, not, ◌||◌, ◌≤◌, length, IfSome, Option}
use Rattle.std.specs.List.{list_any, AllByRecursion, IsDistinct}
use Rattle.std.specs.Option.{option_or}
use Rattle.std.specs.List.Sorted.{IsStrictlyIncreasing, IsPermutation}
use Rattle.std.proofs.lemmas.Bool.{cases_Bool, false≢true, eqb-true}
use Rattle.std.proofs.lemmas.List.Sorted.{IsPermutation-sym}
use Rattle.std.proofs.lemmas.List.Kept.{AllPairs-from_increasing}
use Rattle.std.proofs.lemmas.Map.Keys.{IsDistinct-from_apart, IsDistinct-IsPermutation, IsDistinct-head, IsDistinct-tail}
use Rattle.std.proofs.lemmas.List.{map-append}
use Rattle.uo_base.proofs.Lists.{drop-got}
use Rattle.leaf_record.specs.Leaf.{Outpoint}
use Rattle.leaf_record.specs.History.{same_point}
use Rattle.leaf_record.proofs.HistoryLaws.{same_point-true}
use Rattle.tx_codec.specs.Transaction.{Input, Transaction}
use Rattle.block_rules.specs.declared.refusal.Refusal.TheVariants as Why
use Rattle.block_rules.specs.Steps.{unless}
use Rattle.block_rules.specs.Blocks.{outpoint_of, Placed, placed_from, placed_of}
use Rattle.block_rules.specs.Rules.{double}
use Rattle.block_rules.specs.Seen.{mark_of, marks_of}

-- ---- the numbers of a block

marks_from : (t i : ℕ) (inputs : List Input) → marks_of (placed_from t i inputs) ≡ map (λ input. mark_of (outpoint_of input)) inputs
marks_from t i [] = refl
marks_from t i (input ∷ inputs) = ap (λ xs. mark_of (outpoint_of input) ∷ xs) (marks_from t (suc i) inputs)

pub marks_on : (t : ℕ) (txs : List Transaction) (tx : Transaction) (old new whole : List ℕ) → slice_get txs t ≡ Some tx
    → new ≡ old ++ map (λ input. mark_of (outpoint_of input)) tx.inputs → old ++ marks_of (placed_of t (drop t txs)) ≡ whole →
    new ++ marks_of (placed_of (t + 1) (drop (t + 1) txs)) ≡ whole
marks_on t txs tx old new whole e n h =
    rw add-one
    (ap (λ xs. xs ++ marks_of (placed_of (suc t) (drop (suc t) txs))) (n ∙ ap (λ ms. old ++ ms) (sym (marks_from t 0 tx.inputs)))
    ∙ (append_assoc old (marks_of (placed_from t 0 tx.inputs)) (marks_of (placed_of (suc t) (drop (suc t) txs)))
    ∙ (ap (λ ms. old ++ ms) (sym (map-append (λ at. mark_of at.point) (placed_from t 0 tx.inputs) (placed_of (suc t) (drop (suc t) txs))))
    ∙ (ap (λ xs. old ++ marks_of (placed_of t xs)) (sym (drop-got txs t tx e)) ∙ h))))

-- ---- different numbers

abbrev eq : ℕ → ℕ → Bool
eq x y = x == y

eq_flips : (x y : ℕ) → eq x y ≡ eq y x
eq_flips x y = ⊎_elim (λ t. t ∙ sym (eq-eqb y x (sym (eqb-true x y t)))) (λ f. f ∙ sym (ne_eqb y x (λ e. false≢true (sym f ∙ eq-eqb x y (sym e)))))
    (cases_Bool (x == y))

-- an outpoint whose number none of these has is none of theirs
apart_more : (p : Outpoint) (before : List Outpoint) (ats : List Placed) → AllByRecursion (λ y. eq (mark_of p) y ≡ false) (marks_of ats)
    → AllByRecursion (λ at. list_any (same_point at.point) before ≡ false) ats
    → AllByRecursion (λ at. list_any (same_point at.point) (p ∷ before) ≡ false) ats
apart_more p before [] h k = tt
apart_more p before (at ∷ ats) h k =
    let other : same_point at.point p ≡ false = ⊎_elim (λ t. absurd
    (false≢true (sym h.0 ∙ eq-eqb _ _ (ap mark_of (sym (same_point-true at.point p t)))))) (λ f. f) (cases_Bool (same_point at.point p)) in
    (ap (λ b. b || list_any (same_point at.point) before) other ∙ k.0, apart_more p before ats h.1 k.1)

none_double : (before : List Outpoint) (ats : List Placed) → IsDistinct eq (marks_of ats)
    → AllByRecursion (λ at. list_any (same_point at.point) before ≡ false) ats → double before ats ≡ None
none_double before [] d k = refl
none_double before (at ∷ ats) d k =
    ap (λ b. option_or (unless (not b) (Why.Double at.tx at.input)) (double (at.point ∷ before) ats)) k.0
    ∙ none_double (at.point ∷ before) ats (IsDistinct-tail eq (mark_of at.point) (marks_of ats) d)
    (apart_more at.point before ats (IsDistinct-head eq (mark_of at.point) (marks_of ats) d) k.1)

none_before : (ats : List Placed) → AllByRecursion (λ at. list_any (same_point at.point) [] ≡ false) ats
none_before [] = tt
none_before (at ∷ ats) = (refl, none_before ats)

pub differ_none : (ats : List Placed) (marks sorted : List ℕ) → marks ≡ marks_of ats → IsPermutation marks sorted → IsStrictlyIncreasing sorted
    → double [] ats ≡ None
differ_none ats marks sorted e perm rising =
    let d = IsDistinct-IsPermutation eq eq_flips sorted marks (IsPermutation-sym marks sorted perm)
    (IsDistinct-from_apart eq sorted (λ i j d lt k. ne_eqb _ _ (λ e. let z = AllPairs-from_increasing sorted rising i j d lt k in
    absurd (omega (arith, z, e))))) in
    none_double [] ats (subst (IsDistinct eq) e d) (none_before ats)

-- ---- one input

one_input : (inputs : List Input) → length inputs ≤ 1 → double [] (placed_from 0 0 inputs ++ []) ≡ None
one_input [] few = refl
one_input (input ∷ []) few = refl
one_input (input ∷ next ∷ inputs) few = absurd (omega (arith, few))

pub one_differs : (txs : List Transaction) (tx : Transaction) → length txs ≡ 1 → slice_get txs 0 ≡ Some tx → length tx.inputs ≤ 1
    → double [] (placed_of 0 txs) ≡ None
one_differs [] tx one at few = absurd (omega (arith, one))
one_differs (t ∷ []) tx one at few = one_input t.inputs (subst (λ (x : Option Transaction). IfSome x (λ y. length y.inputs ≤ 1)) (sym at) few)
one_differs (t ∷ next ∷ txs) tx one at few = absurd (omega (arith, one))
