-- What bytes are beside the tip of a chain.
use Rattle.std.specs.Prelude.{◌≡◌, ℕ, true, false, List, Some, None}
use Rattle.uo_digest.specs.declared.digest.Digest.{Digest}
use Rattle.block_codec.specs.Block.{Block, BlockFits, block_hash_of}
use Rattle.block_codec.specs.Merkle.{is_same}
use Rattle.block_codec.specs.Reading.{block_in}
use Rattle.node_rules.specs.declared.arrival.Arrival.{Arrival}
use Rattle.node_rules.specs.declared.arrival.Arrival.TheVariants.{NoBlock, Unlinked, Linked}

-- a block that does not name it, and this is its hash
pub record IsUnlinked (tip : Digest) (bytes : List ℕ) (hash : Digest) : Type 0 where
  pub block : Block
  pub is : block_in bytes ≡ Some block
  pub fits : BlockFits block
  pub other : is_same block.header.prev tip ≡ false
  pub named : hash ≡ block_hash_of block

-- this block, which names it
pub record IsLinked (tip : Digest) (bytes : List ℕ) (block : Block) : Type 0 where
  pub is : block_in bytes ≡ Some block
  pub fits : BlockFits block
  pub same : is_same block.header.prev tip ≡ true

abbrev pub IsArrival : Digest → List ℕ → Arrival → Type 0
IsArrival tip bytes NoBlock = block_in bytes ≡ None
IsArrival tip bytes (Unlinked hash) = IsUnlinked tip bytes hash
IsArrival tip bytes (Linked block) = IsLinked tip bytes block
