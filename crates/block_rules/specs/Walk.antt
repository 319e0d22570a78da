-- One walk over a block: what its inputs spend is taken away from what its outputs so far have left.
use Rattle.std.specs.Prelude.{◌≡◌, ℕ, zero, suc, List, [], ◌∷◌, ◌++◌, map, Option, Some, option_map}
use Rattle.tx_codec.specs.Transaction.{Input, Transaction}
use Rattle.block_codec.specs.Block.{Block, block_hash_of}
use Rattle.leaf_record.specs.History.{somes, History, newest}
use Rattle.block_rules.specs.declared.chain.Outside.{Outside}
use Rattle.block_rules.specs.declared.origins.Origins.{Origins}
use Rattle.block_rules.specs.declared.walk.Walk.{Walk}
use Rattle.block_rules.specs.Blocks.{outpoint_of, placed_from, Spend, spends_from, left_from, left_of_all, external_in, external, groups, made_first}
use Rattle.block_rules.specs.Blocks.{others}
use Rattle.block_rules.specs.KeptOutputs.{KeptOutput, kept_from}
use Rattle.block_rules.specs.Known.{history_at, history}
use Rattle.block_rules.specs.Money.{Bill, output_sum, own_found, bills_of}

-- an input of transaction t, and what it spends of the outputs that are left
abbrev pub spend_at : ℕ → ℕ → Input → History → Spend
spend_at t i input left = record {
  at = record { tx = t; input = i; point = outpoint_of input };
  own = option_map (λ e. e.leaf) (newest (outpoint_of input) left);
}

-- what was met so far: what is left of the outputs, the external inputs, and the bills
pub record Walked : Type 0 where
  pub left : History
  pub outsides : List Outside
  pub bills : List Bill

abbrev pub kept_of : Origins → ℕ → Transaction → History
kept_of o t tx = history_at o (kept_from t 0 tx.outputs)

abbrev pub bill_for : ℕ → Transaction → History → Bill
bill_for t tx left = record { own = map own_found (spends_from (placed_from t 0 tx.inputs) left); makes = output_sum tx }

-- behind transaction t, which makes these
abbrev pub walked_on : ℕ → Transaction → History → Walked → Walked
walked_on t tx made w = record {
  left = left_from (placed_from t 0 tx.inputs) w.left ++ made;
  outsides = w.outsides ++ external_in (spends_from (placed_from t 0 tx.inputs) w.left);
  bills = w.bills ++ bill_for t tx w.left ∷ [];
}

abbrev pub first_kept : Origins → List Transaction → History
first_kept o [] = []
first_kept o (coinbase ∷ txs) = kept_of o 0 coinbase

-- behind the coinbase
abbrev pub begins : Origins → List Transaction → Walked
begins o txs = record { left = first_kept o txs; outsides = []; bills = [] }

-- behind all of a block
pub record IsWalked (b : Block) (height : ℕ) (w : Walked) : Type 0 where
  pub outs : w.outsides ≡ external b height
  pub billed : w.bills ≡ bills_of (groups b height) (others b.txs)
  pub left : somes w.left ≡ somes (left_of_all (block_hash_of b) height 1 (others b.txs) (map Some (made_first (block_hash_of b) height b.txs)))

abbrev pub seen : Walk → Walked
seen w = record { left = history w.made; outsides = w.external.items; bills = w.bills.items }

-- what is new at a height: nothing at height 0, else what is left
abbrev pub new_at : ℕ → List (Option KeptOutput) → List KeptOutput
new_at zero outputs = []
new_at (suc h) outputs = somes outputs
