-- What one transaction takes and makes: input by input, and as a whole.
use Rattle.std.proofs.Common.{◌≡◌, ℕ, suc, ◌+◌, List, [], ◌∷◌, ◌++◌, map, length, Option, Some, refl, sym, ap, ◌∙◌, ap₂, add-one, append_assoc}
use Rattle.std.specs.Prelude.{slice_get, option_map}
use Rattle.std.proofs.lemmas.List.{length-map, map-append}
use Rattle.std.proofs.lemmas.Option.{none-some, same_Some}
use Rattle.tx_codec.specs.Transaction.{Input, Transaction}
use Rattle.leaf_record.specs.History.{History}
use Rattle.block_rules.specs.declared.chain.Found.{Found}
use Rattle.block_rules.specs.declared.chain.Outside.{Outside}
use Rattle.block_rules.specs.declared.origins.Origins.{Origins}
use Rattle.block_rules.specs.Blocks.{outpoint_of, Placed, placed_from, taken, spends_from, left_from, external_in}
use Rattle.block_rules.specs.KeptOutputs.{KeptOutput, kept_from}
use Rattle.block_rules.specs.Known.{leaf_at, history_at}
use Rattle.block_rules.specs.Money.{Bill, output_sum, own_found}
use Rattle.block_rules.specs.Walk.{spend_at, kept_of, first_kept, bill_for, Walked}
use Rattle.block_rules.proofs.Apart.{external_in-append}

module _ (t i : ℕ) (input : Input) (left rest : List Input) (h g : History) (e : left ≡ input ∷ rest) (k : g ≡ taken (outpoint_of input) h) where
  pub left_on : (whole : History) → left_from (placed_from t i left) h ≡ whole → left_from (placed_from t (i + 1) rest) g ≡ whole
  left_on whole w = rw add-one (ap (left_from (placed_from t (suc i) rest)) k ∙ (sym (ap (λ xs. left_from (placed_from t i xs) h) e) ∙ w))

  pub external_on : (old new whole : List Outside) → new ≡ old ++ external_in (spend_at t i input h ∷ [])
      → old ++ external_in (spends_from (placed_from t i left) h) ≡ whole → new ++ external_in (spends_from (placed_from t (i + 1) rest) g) ≡ whole
  external_on old new whole n w =
      rw add-one
      (ap₂ (λ xs f. xs ++ external_in (spends_from (placed_from t (suc i) rest) f)) n k
      ∙ (append_assoc old (external_in (spend_at t i input h ∷ [])) _
      ∙ (ap (λ xs. old ++ xs) (sym (external_in-append (spend_at t i input h ∷ [])
      (spends_from (placed_from t (suc i) rest) (taken (outpoint_of input) h))))
      ∙ (sym (ap (λ xs. old ++ external_in (spends_from (placed_from t i xs) h)) e) ∙ w))))

  pub found_on : (old new whole : List (Option Found)) → new ≡ old ++ own_found (spend_at t i input h) ∷ []
      → old ++ map own_found (spends_from (placed_from t i left) h) ≡ whole → new ++ map own_found (spends_from (placed_from t (i + 1) rest) g)
      ≡ whole
  found_on old new whole n w =
      rw add-one
      (ap₂ (λ xs f. xs ++ map own_found (spends_from (placed_from t (suc i) rest) f)) n k
      ∙ (append_assoc old (own_found (spend_at t i input h) ∷ []) _
      ∙ (sym (ap (λ xs. old ++ map own_found (spends_from (placed_from t i xs) h)) e) ∙ w)))

pub walked_is : (left left' : History) (outsides outsides' : List Outside) (bills bills' : List Bill) → left ≡ left' → outsides ≡ outsides'
    → bills ≡ bills' →
    ◌≡◌ {A = Walked} (record { left = left; outsides = outsides; bills = bills }) (record { left = left'; outsides = outsides'; bills = bills' })
walked_is left left' outsides outsides' bills bills' l o b =
    ap (λ (x : History). let w : Walked = record { left = x; outsides = outsides; bills = bills } in w) l
    ∙ ap₂ (λ (x : List Outside) (y : List Bill). let w : Walked = record { left = left'; outsides = x; bills = y } in w) o b

-- what the coinbase makes
pub first_is : (o : Origins) (txs : List Transaction) (tx : Transaction) → slice_get txs 0 ≡ Some tx → kept_of o 0 tx ≡ first_kept o txs
first_is o [] tx e = absurd (none-some tx e)
first_is o (c ∷ txs) tx e = sym (ap (kept_of o 0) (same_Some c tx e))

-- what was left, and what a transaction adds
pub adds_kept : (o p : Origins) (old new : List (Option KeptOutput)) (t : ℕ) (tx : Transaction) (left : History) → p ≡ o
    → new ≡ old ++ kept_from t 0 tx.outputs → history_at o old ≡ left → history_at p new ≡ left ++ kept_of o t tx
adds_kept o p old new t tx left e n l =
    ap₂ (λ x xs. history_at x xs) e n
    ∙ (map-append (option_map (leaf_at o)) old (kept_from t 0 tx.outputs)
    ∙ ap (λ xs. xs ++ kept_of o t tx) l)

pub pass_left : (o q r : Origins) (outs new : List (Option KeptOutput)) (t : ℕ) (tx : Transaction) (h named : History) → q ≡ o → r ≡ q
    → new ≡ outs ++ kept_from t 0 tx.outputs → named ≡ h → history_at q outs ≡ left_from (placed_from t 0 tx.inputs) named →
    history_at r new ≡ left_from (placed_from t 0 tx.inputs) h ++ kept_of o t tx
pass_left o q r outs new t tx h named a b n e l =
    adds_kept q r outs new t tx _ b n l ∙ ap₂ (λ x y. left_from (placed_from t 0 tx.inputs) x ++ kept_of y t tx) e a

pub bill_is : (own : List (Option Found)) (makes t : ℕ) (tx : Transaction) (h named : History) → named ≡ h
    → own ≡ map own_found (spends_from (placed_from t 0 tx.inputs) named) → makes ≡ output_sum tx →
    ◌≡◌ {A = Bill} (record { own = own; makes = makes }) (bill_for t tx h)
bill_is own makes t tx h named e o m =
    ap₂ (λ (x : List (Option Found)) (y : ℕ). let b : Bill = record { own = x; makes = y } in
    b) (o ∙ ap (λ x. map own_found (spends_from (placed_from t 0 tx.inputs) x)) e) m

pub outs_are : (old new : List Outside) (t : ℕ) (tx : Transaction) (h named : History) → named ≡ h
    → new ≡ old ++ external_in (spends_from (placed_from t 0 tx.inputs) named) → new ≡ old ++ external_in (spends_from (placed_from t 0 tx.inputs) h)
outs_are old new t tx h named e n = n ∙ ap (λ x. old ++ external_in (spends_from (placed_from t 0 tx.inputs) x)) e

pub spends_len : (ats : List Placed) (h : History) → length (spends_from ats h) ≡ length ats
spends_len [] h = refl
spends_len (at ∷ ats) h = ap (λ n. suc n) (spends_len ats (taken at.point h))

pub placed_len : (t i : ℕ) (inputs : List Input) → length (placed_from t i inputs) ≡ length inputs
placed_len t i [] = refl
placed_len t i (input ∷ inputs) = ap (λ n. suc n) (placed_len t (suc i) inputs)

pub own_len : (own : List (Option Found)) (t : ℕ) (inputs : List Input) (h : History) → own ≡ map own_found (spends_from (placed_from t 0 inputs) h)
    → length own ≡ length inputs
own_len own t inputs h e = ap length e ∙ (length-map (spends_from (placed_from t 0 inputs) h) own_found
    ∙ (spends_len (placed_from t 0 inputs) h ∙ placed_len t 0 inputs))
