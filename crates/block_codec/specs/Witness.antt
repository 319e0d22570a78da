-- What a block commits to of its witnesses (BIP 141).
use Rattle.std.specs.Prelude.{ℕ, ◌&&◌, nat_le, List, [], ◌∷◌, length, map, take, drop, replicate, bytes_eq, Option, Some, None, if◌then◌else◌}
use Rattle.std.specs.Option.{option_or}
use Rattle.uo_digest.specs.declared.digest.Digest.{Digest}
use Rattle.tx_codec.specs.Transaction.{Output, Transaction}
use Rattle.tx_codec.specs.Ids.{wtxid_of}
use Rattle.block_codec.specs.Block.{Block}
use Rattle.block_codec.specs.Merkle.{merkle_root}

-- how a script begins that commits to witnesses: it gives up the output, pushes 36 bytes, and names what they are
abbrev pub commitment_head : List ℕ
commitment_head = 106 ∷ 36 ∷ 170 ∷ 33 ∷ 169 ∷ 237 ∷ []

-- the hash behind it; more bytes may follow
abbrev pub commitment_in : List ℕ → Option Digest
commitment_in script =
    if nat_le 38 (length script) && bytes_eq (take 6 script) commitment_head then Some (record { 0 = take 32 (drop 6 script) }) else None

-- that of the last output which has one
abbrev pub last_commitment : List Output → Option Digest
last_commitment [] = None
last_commitment (output ∷ later) = option_or (last_commitment later) (commitment_in output.script)

-- that of the first transaction
abbrev pub coinbase_commitment : List Transaction → Option Digest
coinbase_commitment [] = None
coinbase_commitment (coinbase ∷ txs) = last_commitment coinbase.outputs

-- that of a block
abbrev pub commitment_of : Block → Option Digest
commitment_of b = coinbase_commitment b.txs

-- the coinbase's id is taken as 32 zero bytes, since the commitment stands in the coinbase
abbrev pub witness_ids : List Transaction → List Digest
witness_ids [] = []
witness_ids (coinbase ∷ txs) = record { 0 = replicate 32 0 } ∷ map wtxid_of txs

-- the merkle root over the witness ids
abbrev pub witness_root_of : Block → Digest
witness_root_of b = merkle_root (witness_ids b.txs)
