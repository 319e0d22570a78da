-- The steps of a verdict that look at a block alone, and the chain that it is to extend.
use Rattle.std.specs.Prelude.{ℕ, ◌+◌, ◌^◌, ◌==◌, ◌&&◌, nat_le, nat_lt, not, Bool, false, List, [], ◌∷◌, length, Option, Some, None, option_map}
use Rattle.std.specs.Prelude.{replicate, bytes_eq}
use Rattle.std.specs.List.{list_any}
use Rattle.std.specs.Option.{option_or}
use Rattle.uo_base.specs.declared.event.Limits.{Limits}
use Rattle.uo_base.specs.declared.event.Net.{Net}
use Rattle.uo_digest.specs.declared.digest.Digest.{Digest}
use Rattle.tx_codec.specs.Transaction.{Input, Output, Transaction}
use Rattle.block_codec.specs.declared.merkle_tree.MerkleOutcome.{MerkleOutcome}
use Rattle.block_codec.specs.declared.merkle_tree.MerkleOutcome.TheVariants.{Root, Repeated}
use Rattle.block_codec.specs.Block.{Block, txids_of, weight_of}
use Rattle.block_codec.specs.Merkle.{is_same, merkle_of}
use Rattle.leaf_record.specs.Leaf.{Outpoint}
use Rattle.leaf_record.specs.History.{same_point}
use Rattle.block_rules.specs.declared.chain.Chain.{Chain}
use Rattle.block_rules.specs.declared.refusal.Refusal.{Refusal}
use Rattle.block_rules.specs.declared.refusal.Refusal.TheVariants as Why
use Rattle.block_rules.specs.Steps.{unless, first_from}
use Rattle.block_rules.specs.Blocks.{Placed, placed_of, new_records}
use Rattle.block_rules.specs.Money.{most_money, output_sum}
use Rattle.block_rules.specs.Witness.{witness_step}

-- the outpoint of no output: 32 zero bytes, and the greatest index
abbrev pub is_null : Input → Bool
is_null input = bytes_eq input.txid (replicate 32 0) && input.index == 4294967295

-- one input, of the null outpoint, with a script of 2 to 100 bytes
abbrev pub is_coinbase : List Input → Bool
is_coinbase (input ∷ []) = is_null input && nat_le 2 (length input.script) && nat_le (length input.script) 100
is_coinbase inputs = false

-- no input spends the null outpoint
abbrev pub has_no_null : Transaction → Bool
has_no_null tx = not (list_any is_null tx.inputs)

-- the first transaction that breaks this: the first one is a coinbase, and no other has an input of the null outpoint
abbrev pub coinbase_fault : List Transaction → Option ℕ
coinbase_fault [] = None
coinbase_fault (coinbase ∷ txs) = option_or (unless (is_coinbase coinbase.inputs) 0) (first_from 1 (λ t tx. unless (has_no_null tx) t) txs)

-- whether an output is more than all money
abbrev pub has_too_much : Output → Bool
has_too_much output = nat_lt most_money output.amount

-- no output, and no sum of a transaction's outputs, is more than all money
abbrev pub has_value : Transaction → Bool
has_value tx = not (list_any has_too_much tx.outputs) && nat_le (output_sum tx) most_money

-- the first transaction that breaks this
abbrev pub value_fault : List Transaction → Option ℕ
value_fault txs = first_from 0 (λ t tx. unless (has_value tx) t) txs

-- the first input with the outpoint of an earlier one; seen are those of earlier ones
abbrev pub double : List Outpoint → List Placed → Option Refusal
double seen [] = None
double seen (at ∷ ats) = option_or (unless (not (list_any (same_point at.point) seen)) (Why.Double at.tx at.input)) (double (at.point ∷ seen) ats)

-- the merkle root is the header's, and no two hashes that are paired at different places are equal
abbrev pub merkle_step : Digest → MerkleOutcome → Option Refusal
merkle_step root (Root computed) = unless (is_same computed root) Why.MerkleRoot
merkle_step root (Repeated level place) = Some (Why.MerkleRepeated level place)

-- there is a next height, and room for what the block adds
abbrev pub has_room : Limits → Chain → ℕ → Bool
has_room limits chain count = nat_lt chain.blocks (2 ^ 31) && nat_le (chain.leaves + count) limits.leaves

-- the block has a height, and its outputs have room
abbrev pub full_step : Limits → Chain → Block → Option Refusal
full_step limits chain b = unless (has_room limits chain (length (new_records b chain.blocks))) Why.Full

-- the steps that look at the block alone, in their order, one a line
abbrev pub block_steps : Net → Limits → Chain → Block → List (Option Refusal)
block_steps net limits chain b =
    unless (is_same b.header.prev chain.tip) Why.Link
    ∷ merkle_step b.header.merkle (merkle_of (txids_of b))
    ∷ witness_step net chain.blocks b
    ∷ unless (nat_le (weight_of b) 4000000) (Why.Weight (weight_of b))
    ∷ option_map Why.Coinbase (coinbase_fault b.txs)
    ∷ option_map Why.Value (value_fault b.txs)
    ∷ double [] (placed_of 0 b.txs)
    ∷ full_step limits chain b
    ∷ []
