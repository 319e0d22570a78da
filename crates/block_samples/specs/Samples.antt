-- What the made transactions and blocks are.
use Rattle.std.specs.Prelude.{◌≡◌, ℕ, List, [], replicate}
use Rattle.uo_digest.specs.declared.digest.Digest.{Digest}
use Rattle.tx_codec.specs.Transaction.{Input, Output, Transaction}
use Rattle.block_codec.specs.declared.header.HeaderView.{HeaderView}
use Rattle.block_codec.specs.declared.merkle_tree.MerkleOutcome.TheVariants.{Root}
use Rattle.block_codec.specs.Block.{Block, BlockFits, block_of, block_text, block_hash_of, txids_of}
use Rattle.block_codec.specs.Merkle.{merkle_of}
use Rattle.block_samples.specs.declared.block.Sample.{Sample}

abbrev pub legacy_of : List Input → List Output → ℕ → Transaction
legacy_of inputs outputs lock_time = record { version = 1; inputs = inputs; outputs = outputs; stacks = []; lock_time = lock_time }

-- what a coinbase spends
abbrev pub null_input : List ℕ → Input
null_input script = record { txid = replicate 32 0; index = 4294967295; script = script; sequence = 4294967295 }

abbrev pub header_behind : Digest → Digest → HeaderView
header_behind prev merkle = record { version = 1; prev = prev; merkle = merkle; time = 0; bits = 0; nonce = 0 }

abbrev pub linked : Digest → Digest → List Transaction → Block
linked prev merkle txs = block_of (header_behind prev merkle) txs

-- the text, the ids and the hash of the block of these transactions behind the one with this hash, under their merkle root
pub record IsBehind (prev : Digest) (txs : List Transaction) (s : Sample) : Type 0 where
  pub merkle : Digest
  pub root : merkle_of (txids_of (linked prev merkle txs)) ≡ Root merkle
  pub fits : BlockFits (linked prev merkle txs)
  pub text : s.text.items ≡ block_text (linked prev merkle txs)
  pub ids : s.ids.items ≡ txids_of (linked prev merkle txs)
  pub hash : s.hash ≡ block_hash_of (linked prev merkle txs)
