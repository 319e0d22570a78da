-- Texts that are blocks.
use Rattle.std.specs.Prelude.{◌≡◌, ℕ, ◌<◌, ◌^◌, List, length}
use Rattle.block_codec.specs.Block.{Block, BlockFits, block_text}

-- the text of this block, which can be read
pub record IsTextOf (b : Block) (bytes : List ℕ) : Type 0 where
  pub fits : BlockFits b
  pub text : bytes ≡ block_text b
  pub short : length bytes < 2 ^ 32

abbrev pub IsText : List ℕ → Type 0
IsText bytes = (b : Block) × IsTextOf b bytes
