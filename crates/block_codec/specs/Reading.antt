-- Reading a block from left to right.
use Rattle.std.specs.Prelude.{◌≡◌, ℕ, List, length, Option, Some, None, Result, Ok, Err, option_map, ◌==◌, if◌then◌else◌}
use Rattle.std.specs.Int.{w32}
use Rattle.uo_base.specs.Reading.{◌>>=◌, number_at, times}
use Rattle.uo_digest.specs.Reading.{digest_in_front}
use Rattle.tx_codec.specs.Transaction.{Transaction}
use Rattle.tx_codec.specs.Reading.{some_count_at, tx_at}
use Rattle.block_codec.specs.declared.fault.BlockFault.{BlockFault}
use Rattle.block_codec.specs.declared.fault.BlockFault.TheVariants.{NotABlock, NoMemory}
use Rattle.block_codec.specs.declared.header.HeaderView.{HeaderView}
use Rattle.block_codec.specs.Block.{Block}

unfoldable pub header_at : List ℕ → Option (HeaderView × List ℕ)
header_at bytes = do
  version ← number_at w32 bytes
  prev ← digest_in_front version.1
  merkle ← digest_in_front prev.1
  time ← number_at w32 merkle.1
  bits ← number_at w32 time.1
  nonce ← number_at w32 bits.1
  Some (record { version = version.0; prev = prev.0; merkle = merkle.0; time = time.0; bits = bits.0; nonce = nonce.0 }, nonce.1)

abbrev pub txs_at : List ℕ → Option (List Transaction × List ℕ)
txs_at bytes = do
  n ← some_count_at bytes
  times tx_at n.0 n.1

unfoldable pub block_at : List ℕ → Option (Block × List ℕ)
block_at bytes = do
  header ← header_at bytes
  txs ← txs_at header.1
  Some (record { header = header.0; txs = txs.0 }, txs.1)

-- a block, and nothing after it
unfoldable pub whole_at : List ℕ → Option (Block × List ℕ)
whole_at bytes = do
  block ← block_at bytes
  if length block.1 == 0 then Some block else None

-- the block that a whole text is
abbrev pub block_in : List ℕ → Option Block
block_in bytes = option_map (λ p. p.0) (whole_at bytes)

-- What a fault says of a text, from "it is the text of no block".
abbrev pub claims : BlockFault → Type 0 → Type 0
claims NotABlock none = none
claims NoMemory none = Unit {0}

-- What a call that takes memory answered is the block that was found in a text, or that there is none.
abbrev pub IsWhatWasFound : Result Block BlockFault → Option Block → Type 0
IsWhatWasFound (Ok b) found = found ≡ Some b
IsWhatWasFound (Err fault) found = claims fault (found ≡ None)
