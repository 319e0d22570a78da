-- The rule on witnesses: what the coinbase commits to (BIP 141).
use Rattle.std.specs.Prelude.{ℕ, ◌==◌, nat_lt, Bool, not, List, [], ◌∷◌, ◌++◌, length, slice_index_or, Option, Some, None, option_map, if◌then◌else◌}
use Rattle.std.specs.List.{list_any}
use Rattle.sha2.specs.Sha256.{sha256}
use Rattle.uo_base.specs.declared.event.Net.{Net}
use Rattle.uo_base.specs.declared.event.Net.TheVariants.{Main, Regtest}
use Rattle.uo_digest.specs.declared.digest.Digest.{Digest}
use Rattle.tx_codec.specs.Transaction.{Transaction, has_stacks}
use Rattle.block_codec.specs.Block.{Block}
use Rattle.block_codec.specs.Merkle.{is_same}
use Rattle.block_codec.specs.Witness.{commitment_of, witness_root_of}
use Rattle.block_rules.specs.declared.refusal.Refusal.{Refusal}
use Rattle.block_rules.specs.declared.refusal.Refusal.TheVariants as Why
use Rattle.block_rules.specs.declared.refusal.WitnessFault.{WitnessFault}
use Rattle.block_rules.specs.declared.refusal.WitnessFault.TheVariants.{Form, Root, Unexpected}
use Rattle.block_rules.specs.Steps.{unless}

-- the first height that it is asked for
abbrev pub witness_height : Net → ℕ
witness_height Main = 481824
witness_height Regtest = 0

-- the one item of a stack, of 32 bytes
abbrev pub reserved_in : List (List ℕ) → Option (List ℕ)
reserved_in [] = None
reserved_in (item ∷ []) = if length item == 32 then Some item else None
reserved_in (item ∷ next ∷ items) = None

-- that of the coinbase's witness
abbrev pub reserved_of : List Transaction → Option (List ℕ)
reserved_of [] = None
reserved_of (coinbase ∷ txs) = reserved_in (slice_index_or coinbase.stacks 0 [])

-- whether a transaction has a witness
abbrev pub has_witness : Transaction → Bool
has_witness tx = has_stacks tx.stacks

-- what is committed to: the root, and the reserved value
abbrev pub commitment_over : Digest → List ℕ → Digest
commitment_over root reserved = record { 0 = sha256 (sha256 (root.0 ++ reserved)) }

-- the reserved value is there, and with it the root gives the hash
abbrev pub committed_fault : (hash root : Digest) → Option (List ℕ) → Option WitnessFault
committed_fault hash root None = Some Form
committed_fault hash root (Some reserved) = unless (is_same (commitment_over root reserved) hash) Root

-- with a commitment, and without one
abbrev pub witness_fault : Option Digest → Block → Option WitnessFault
witness_fault None b = unless (not (list_any has_witness b.txs)) Unexpected
witness_fault (Some hash) b = committed_fault hash (witness_root_of b) (reserved_of b.txs)

-- from that height on
abbrev pub witness_step : Net → (height : ℕ) → Block → Option Refusal
witness_step net height b = if nat_lt height (witness_height net) then None else option_map Why.Witness (witness_fault (commitment_of b) b)
