-- The outputs that a block has made so far, and how they are found by their names.
use Rattle.std.specs.Prelude.{◌≡◌, ◌<◌, ◌≤◌, ◌+◌, ◌-◌, ◌==◌, ℕ, false, List, map, length, replicate, slice_get, slice_index_or, bytes_eq, nat_lt}
use Rattle.std.specs.Prelude.{Option, Some, None, option_map, if◌then◌else◌}
use Rattle.std.specs.BTreeMap as tree
use Rattle.std.specs.BTreeMap.{BTreeMap}
use Rattle.uo_digest.specs.declared.digest.Digest.{Digest}
use Rattle.block_codec.specs.Block.{Block, block_hash_of, txids_of}
use Rattle.leaf_record.specs.Leaf.{Outpoint, Leaf}
use Rattle.leaf_record.specs.History.{History}
use Rattle.block_rules.specs.declared.chain.Found.{Found}
use Rattle.block_rules.specs.declared.outpoint.TxidKey.{TxidKey}
use Rattle.block_rules.specs.declared.origins.Origins.{Origins}
use Rattle.block_rules.specs.declared.made_outputs.Named.{Named}
use Rattle.block_rules.specs.declared.made_outputs.MadeOutputs.{MadeOutputs}
use Rattle.block_rules.specs.Blocks.{OutputOrigin, leaf_of}
use Rattle.block_rules.specs.KeptOutputs.{KeptOutput}
use Rattle.block_rules.specs.Keys.{key_of_id, id_cmp}
use Rattle.block_rules.specs.Money.{found_of}

-- ---- records

-- what the records of a block's outputs have in common
pub record ArisesFrom (b : Block) (h : ℕ) (o : Origins) : Type 0 where
  pub block : o.block ≡ block_hash_of b
  pub height : o.height ≡ h
  pub txids : o.txids.items ≡ txids_of b

abbrev pub txid_at : List Digest → ℕ → Digest
txid_at ids t = slice_index_or ids t (record { 0 = replicate 32 0 })

-- what made the outputs of transaction t
abbrev pub origin_at : Origins → ℕ → OutputOrigin
origin_at o t = record { block = o.block; height = o.height; coinbase = t == 0; txid = txid_at o.txids.items t }

abbrev pub leaf_at : Origins → KeptOutput → Leaf
leaf_at o kept = leaf_of (origin_at o kept.tx) kept.index (record { amount = kept.amount; script = kept.script })

abbrev pub history_at : Origins → List (Option KeptOutput) → History
history_at o outputs = map (option_map (leaf_at o)) outputs

abbrev pub history : MadeOutputs → History
history made = history_at made.origins made.outputs.items

-- ---- what is asked for

abbrev pub named_point : Digest → ℕ → Outpoint
named_point txid index = record { txid = txid; index = index }

abbrev pub found_if : Option (Option Leaf) → Option Found
found_if (Some (Some leaf)) = Some (found_of leaf.rest)
found_if (Some None) = None
found_if None = None

abbrev pub found_at : ℕ → History → Option Found
found_at n h = found_if (slice_get h n)

abbrev pub number_if : ℕ → Option (Option Leaf) → Option ℕ
number_if n (Some (Some leaf)) = Some n
number_if n (Some None) = None
number_if n None = None

-- the number of the output of a transaction at a place there, if it is left
abbrev pub number_in : Named → ℕ → History → Option ℕ
number_in named i h = if nat_lt i (named.end - named.start) then number_if (named.start + i) (slice_get h (named.start + i)) else None

-- ---- where the outputs of an id stand

-- no output that is left has this id, from one number on and up to another
abbrev pub NoneOf : Digest → ℕ → ℕ → History → Type 0
NoneOf id from to h = (n : ℕ) (leaf : Leaf) → from ≤ n → n < to → slice_get h n ≡ Some (Some leaf) → bytes_eq leaf.point.txid.0 id.0 ≡ false

-- the k-th transaction, one of the first few, has this id, and up to a number no output behind its own has
pub record IsLast (ids : List Digest) (named : List Named) (h : History) (id : Digest) (few to k : ℕ) : Type 0 where
  pub within : k < few
  pub same : txid_at ids k ≡ id
  pub none : (d : Named) → slice_get named k ≡ Some d → NoneOf id d.end to h

-- or no output up to that number has this id
abbrev pub IsNewest : List Digest → List Named → History → Digest → ℕ → ℕ → Option ℕ → Type 0
IsNewest ids named h id few to None = NoneOf id 0 to h
IsNewest ids named h id few to (Some k) = IsLast ids named h id few to k

-- where the outputs of the k-th transaction stand, and what is the newest one of its id before it
pub record IsPlaced (ids : List Digest) (named : List Named) (h : History) (known k : ℕ) (d : Named) : Type 0 where
  pub ordered : d.start ≤ d.end
  pub within : d.end ≤ known
  pub own : (n : ℕ) (leaf : Leaf) → d.start ≤ n → n < d.end → slice_get h n ≡ Some (Some leaf) → (leaf.point.txid ≡ txid_at ids k)
      × (d.start + leaf.point.index ≡ n)
  pub before : IsNewest ids named h (txid_at ids k) k d.start d.before

-- the outputs up to a number are found by their names
pub record IsNamed (ids : List Digest) (named : List Named) (names : BTreeMap TxidKey ℕ) (known : ℕ) (h : History) : Type 0 where
  pub few : known ≤ length h
  pub placed : (k : ℕ) (d : Named) → slice_get named k ≡ Some d → IsPlaced ids named h known k d
  pub newest : (id : Digest) → IsNewest ids named h id (length named) known (tree.get id_cmp names (key_of_id id))

-- the outputs from a number on are those of transaction t, each at its place
abbrev pub AreOf : List Digest → ℕ → ℕ → History → Type 0
AreOf ids t known h = (n : ℕ) (leaf : Leaf) → known ≤ n → slice_get h n ≡ Some (Some leaf) → (leaf.point.txid ≡ txid_at ids t)
    × (known + leaf.point.index ≡ n)

-- all but those of the last transaction are named
pub record Knows (made : MadeOutputs) : Type 0 where
  pub front : IsNamed made.origins.txids.items made.named.items made.newest made.known (history made)
  pub last : AreOf made.origins.txids.items (length made.named.items) made.known (history made)

-- all are
pub record KnowsAll (made : MadeOutputs) : Type 0 where
  pub front : IsNamed made.origins.txids.items made.named.items made.newest made.known (history made)
  pub all : made.known ≡ length made.outputs.items
