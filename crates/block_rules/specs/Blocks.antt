-- What a block spends from outside, and what it adds.
use Rattle.std.specs.Prelude.{ℕ, zero, suc, Bool, true, false, not, nat_le, ◌&&◌, ◌==◌, List, [], ◌∷◌, ◌++◌, map, set, length, filter, Option, Some}
use Rattle.std.specs.Prelude.{None, is_none, option_map, if◌then◌else◌}
use Rattle.std.specs.List.{flat_map}
use Rattle.uo_digest.specs.declared.digest.Digest.{Digest}
use Rattle.tx_codec.specs.Transaction.{Input, Output, Transaction}
use Rattle.tx_codec.specs.Ids.{txid_of}
use Rattle.block_codec.specs.Block.{Block, block_hash_of}
use Rattle.leaf_record.specs.Leaf.{Outpoint, Leaf, longest_script}
use Rattle.leaf_record.specs.History.{somes, History, Entry, newest}
use Rattle.block_rules.specs.declared.chain.Outside.{Outside}

-- ---- inputs

-- the outpoint that an input names
abbrev pub outpoint_of : Input → Outpoint
outpoint_of input = record { txid = record { 0 = input.txid }; index = input.index }

-- an input: its transaction, its place there, and what it names
pub record Placed : Type 0 where
  pub tx : ℕ
  pub input : ℕ
  pub point : Outpoint

-- the inputs of transaction t, of which the first is its i-th
abbrev pub placed_from : ℕ → ℕ → List Input → List Placed
placed_from t i [] = []
placed_from t i (input ∷ inputs) = record { tx = t; input = i; point = outpoint_of input } ∷ placed_from t (suc i) inputs

-- the inputs of these transactions, of which the first is the block's t-th
abbrev pub placed_of : ℕ → List Transaction → List Placed
placed_of t [] = []
placed_of t (tx ∷ txs) = placed_from t 0 tx.inputs ++ placed_of (suc t) txs

-- ---- records of outputs

-- a script that begins with OP_RETURN ends every run at once
abbrev pub begins_with_return : List ℕ → Bool
begins_with_return [] = false
begins_with_return (code ∷ codes) = code == 106

-- no longer than any script that can be run
abbrev pub is_spendable : Output → Bool
is_spendable output = not (begins_with_return output.script) && nat_le (length output.script) longest_script

-- what made an output: the block, its height, whether the transaction is the coinbase, and its id
pub record OutputOrigin : Type 0 where
  pub block : Digest
  pub height : ℕ
  pub coinbase : Bool
  pub txid : Digest

-- what made the outputs of a transaction
abbrev pub origin_of : Digest → ℕ → Bool → Transaction → OutputOrigin
origin_of hash height coinbase tx = record { block = hash; height = height; coinbase = coinbase; txid = txid_of tx }

-- the record of its i-th output
abbrev pub leaf_of : OutputOrigin → ℕ → Output → Leaf
leaf_of origin i output = record {
  point = record { txid = origin.txid; index = i };
  rest = record { block = origin.block; height = origin.height; coinbase = origin.coinbase; amount = output.amount; script = output.script };
}

-- the records of the spendable ones of these outputs, of which the first has the index i
abbrev pub made_from : OutputOrigin → ℕ → List Output → List Leaf
made_from origin i [] = []
made_from origin i (output ∷ outputs) = if is_spendable output then leaf_of origin i output ∷ made_from origin (suc i) outputs else made_from origin
    (suc i) outputs

-- the records of the spendable outputs of a transaction
abbrev pub made_by : Digest → ℕ → Bool → Transaction → List Leaf
made_by hash height coinbase tx = made_from (origin_of hash height coinbase tx) 0 tx.outputs

-- ---- within a block the rule is that between blocks: an input spends the newest live output of its outpoint

-- an input, and the record of the block's own output that it spends, if it is internal
pub record Spend : Type 0 where
  pub at : Placed
  pub own : Option Leaf

-- without this entry, if there is one
abbrev pub once_taken : Option Entry → History → History
once_taken None fresh = fresh
once_taken (Some e) fresh = set fresh e.number None

-- without the newest of an outpoint
abbrev pub taken : Outpoint → History → History
taken p fresh = once_taken (newest p fresh) fresh

-- what these inputs spend, one after the other, of the block's own outputs so far
abbrev pub spends_from : List Placed → History → List Spend
spends_from [] fresh = []
spends_from (at ∷ ats) fresh = record { at = at; own = option_map (λ e. e.leaf) (newest at.point fresh) } ∷ spends_from ats (taken at.point fresh)

-- what they leave of these
abbrev pub left_from : List Placed → History → History
left_from [] fresh = fresh
left_from (at ∷ ats) fresh = left_from ats (taken at.point fresh)

-- over the transactions from the t-th on, of a block with this hash and height; fresh are the outputs of the block so far.
-- One group of spends for each transaction
abbrev pub groups_from : Digest → ℕ → ℕ → List Transaction → History → List (List Spend)
groups_from hash height t [] fresh = []
groups_from hash height t (tx ∷ txs) fresh =
    let ats = placed_from t 0 tx.inputs in
    spends_from ats fresh ∷ groups_from hash height (suc t) txs (left_from ats fresh ++ map Some (made_by hash height false tx))

-- and what the block leaves of its outputs
abbrev pub left_of_all : Digest → ℕ → ℕ → List Transaction → History → History
left_of_all hash height t [] fresh = fresh
left_of_all hash height t (tx ∷ txs) fresh =
    left_of_all hash height (suc t) txs (left_from (placed_from t 0 tx.inputs) fresh ++ map Some (made_by hash height false tx))

-- ---- the whole block

-- the transactions behind the coinbase
abbrev pub others : List Transaction → List Transaction
others [] = []
others (coinbase ∷ txs) = txs

-- the records of the coinbase's outputs
abbrev pub made_first : Digest → ℕ → List Transaction → List Leaf
made_first hash height [] = []
made_first hash height (coinbase ∷ txs) = made_by hash height true coinbase

-- the inputs behind the coinbase's, a group for each transaction
abbrev pub groups : Block → ℕ → List (List Spend)
groups b height = groups_from (block_hash_of b) height 1 (others b.txs) (map Some (made_first (block_hash_of b) height b.txs))

-- the transaction, the input and the outpoint of an external input
abbrev pub outside_of : Placed → Outside
outside_of at = record { tx = at.tx; input = at.input; txid = at.point.txid; index = at.point.index }

-- whether it spends no output of the block itself
abbrev pub is_external : Spend → Bool
is_external s = is_none s.own

-- the external inputs among these spends
abbrev pub external_in : List Spend → List Outside
external_in spends = map (λ s. outside_of s.at) (filter is_external spends)

-- the external inputs, in order
abbrev pub external : Block → ℕ → List Outside
external b height = flat_map external_in (groups b height)

-- the new records: the spendable outputs that no input of the block spends. None at height 0
abbrev pub new_records : Block → ℕ → List Leaf
new_records b zero = []
new_records b (suc h) = somes (left_of_all (block_hash_of b) (suc h) 1 (others b.txs) (map Some (made_first (block_hash_of b) (suc h) b.txs)))
