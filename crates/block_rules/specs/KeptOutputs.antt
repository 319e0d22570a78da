-- Outputs of a block, as far as they are kept while it is judged.
use Rattle.std.specs.Prelude.{◌≡◌, ◌≤◌, ℕ, suc, List, [], ◌∷◌, length, Option, Some, None, option_map, if◌then◌else◌}
use Rattle.tx_codec.specs.Transaction.{Output}
use Rattle.tx_codec.specs.Reading.{first_output}
use Rattle.leaf_record.specs.Leaf.{longest_script}
use Rattle.block_rules.specs.Blocks.{is_spendable}

-- the place of its transaction in the block, its own there, and what it is
pub record KeptOutput : Type 0 where
  pub tx : ℕ
  pub index : ℕ
  pub amount : ℕ
  pub script : List ℕ

abbrev pub kept_if : ℕ → ℕ → Output → Option KeptOutput
kept_if t i output = if is_spendable output then Some (record { tx = t; index = i; amount = output.amount; script = output.script }) else None

-- outputs of transaction t, of which the first has the index i; one that can not be spent is None
abbrev pub kept_from : ℕ → ℕ → List Output → List (Option KeptOutput)
kept_from t i [] = []
kept_from t i (output ∷ outputs) = kept_if t i output ∷ kept_from t (suc i) outputs

-- an output of transaction t with the index i
abbrev pub kept_at : ℕ → ℕ → Output → KeptOutput
kept_at t i output = record { tx = t; index = i; amount = output.amount; script = output.script }

-- the one in front of a text, if one stands there
abbrev pub slot_of : ℕ → ℕ → List ℕ → Option KeptOutput
slot_of t i text = option_map (kept_at t i) (first_output text)

-- an output stands in front of the text, with no longer script than one that can be spent, or the text is empty
pub record IsSlotText (text : List ℕ) : Type 0 where
  pub short : (output : Output) → first_output text ≡ Some output → length output.script ≤ longest_script
  pub empty : first_output text ≡ None → text ≡ []
