-- Slots of outputs: what their texts tell.
use Rattle.std.proofs.Common.{◌≡◌, ◌≤◌, ◌==◌, ℕ, Bool, true, false, not, List, [], ◌∷◌, length, Option, Some, None, is_some, refl, sym, ap, ◌∙◌}
use Rattle.std.proofs.Common.{subst, arith}
use Rattle.std.specs.Prelude.{option_map}
use Rattle.std.proofs.lemmas.Bool.{eqb-true}
use Rattle.std.proofs.lemmas.Option.{none-some, same_Some}
use Rattle.tx_codec.specs.Transaction.{Output}
use Rattle.tx_codec.specs.Reading.{output_at, first_output}
use Rattle.leaf_record.specs.Leaf.{longest_script}
use Rattle.block_rules.specs.KeptOutputs.{kept_at, slot_of, IsSlotText}

-- no output stands in front of no byte
pub nothing_first : first_output [] ≡ None
unfolding output_at
nothing_first = refl

pub empty_slot : IsSlotText []
empty_slot = record { short = λ o e. absurd (none-some o (sym nothing_first ∙ e)); empty = λ e. refl }

pub filled_slot : (text : List ℕ) (o : Output) → first_output text ≡ Some o → length o.script ≤ longest_script → IsSlotText text
filled_slot text o is l = record {
  short = λ x e. subst (λ (y : Output). length y.script ≤ longest_script) (same_Some o x (sym is ∙ e)) l;
  empty = λ e. absurd (none-some o (sym e ∙ is));
}

some_there : (t i : ℕ) (found : Option Output) → (found ≡ None → ⊥) → true ≡ is_some (option_map (kept_at t i) found)
some_there t i None never = absurd (never refl)
some_there t i (Some o) never = refl

not_empty : {A : Type 0} (x : A) (xs : List A) → x ∷ xs ≡ [] → ⊥
not_empty x xs e = absurd cc

-- there is one exactly where there is a text
pub there : (t i : ℕ) (text : List ℕ) → IsSlotText text → (empty : Bool) → empty ≡ (length text == 0) → not empty ≡ is_some (slot_of t i text)
there t i [] s empty e = ap not e ∙ ap (λ (found : Option Output). is_some (option_map (kept_at t i) found)) (sym nothing_first)
there t i (b ∷ text) s true e = let zero_long = eqb-true (length (b ∷ text)) 0 (sym e) in absurd (omega (arith, zero_long))
there t i (b ∷ text) s false e = some_there t i (first_output (b ∷ text)) (λ n. not_empty b text (s.empty n))
