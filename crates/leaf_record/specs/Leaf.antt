-- What a leaf of the forest stands for: an output that a block made, and the texts of it.
use Rattle.std.specs.Prelude.{ℕ, ◌+◌, ◌*◌, ◌<◌, ◌≤◌, ◌^◌, Bool, List, ◌++◌, length, codes, if◌then◌else◌}
use Rattle.std.specs.Int.{w32, w64, to_le_bytes}
use Rattle.sha2.specs.Sha512.{sha512}
use Rattle.uo_base.specs.Compact.{sized}
use Rattle.uo_digest.specs.declared.digest.Digest.{Digest}
use Rattle.uo_digest.specs.Reading.{IsDigest}

-- an output's name: the id of the transaction that made it, and its index there
pub record Outpoint : Type 0 where
  pub txid : Digest
  pub index : ℕ

-- what an output is beside its name: the hash and the height of the block that made it, whether the
-- block's coinbase made it, the amount and the script
pub record Rest : Type 0 where
  pub block : Digest
  pub height : ℕ
  pub coinbase : Bool
  pub amount : ℕ
  pub script : List ℕ

-- an output: its name, and the rest of it
pub record Leaf : Type 0 where
  pub point : Outpoint
  pub rest : Rest

-- ---- its texts

-- height and coinbase as one number
abbrev pub code_of : Rest → ℕ
code_of r = 2 * r.height + (if r.coinbase then 1 else 0)

-- code, amount and script, with which both texts end
unfoldable pub payload_text : ℕ → ℕ → List ℕ → List ℕ
payload_text code amount script = to_le_bytes w32 code ++ to_le_bytes w64 amount ++ sized script

-- all but the name, as a message shows it
unfoldable pub rest_text : Rest → List ℕ
rest_text r = r.block.0 ++ payload_text (code_of r) r.amount r.script

-- the 64 bytes that set leaf texts apart from all other texts
unfoldable pub tag : List ℕ
tag = sha512 (codes "UtreexoV1")

-- what it says of the output
unfoldable pub output_text : Leaf → List ℕ
output_text l = l.rest.block.0 ++ l.point.txid.0 ++ to_le_bytes w32 l.point.index ++ payload_text (code_of l.rest) l.rest.amount l.rest.script

-- the text that a leaf's digest is taken of
unfoldable pub leaf_text : Leaf → List ℕ
leaf_text l = tag ++ tag ++ output_text l

-- ---- which have a text

-- the most bytes that a script has that can be run, so an output with a longer one can not be spent
abbrev pub longest_script : ℕ
longest_script = 10000

-- each part in the range of its field, and a script that can be run
pub record RestFits (r : Rest) : Type 0 where
  pub block : IsDigest r.block
  pub height : r.height < 2 ^ 31
  pub amount : r.amount < 2 ^ 64
  pub script : length r.script ≤ longest_script

-- likewise, with the name
pub record LeafFits (l : Leaf) : Type 0 where
  pub txid : IsDigest l.point.txid
  pub index : l.point.index < 2 ^ 32
  pub rest : RestFits l.rest
