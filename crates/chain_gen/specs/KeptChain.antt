-- The same with what the code keeps: the present stage, and the one before the last two blocks of each fifty.
use Rattle.std.specs.Prelude.{ℕ, zero, suc, ◌%◌, ◌==◌, List, [], ◌++◌, if◌then◌else◌}
use Rattle.uo_base.specs.declared.event.Net.{Net}
use Rattle.uo_digest.specs.declared.digest.Digest.{Digest}
use Rattle.block_codec.specs.Block.{Block, block_text, block_hash_of}
use Rattle.feed_frame.specs.Frames.{block_magic}
use Rattle.feed_frame.specs.Written.{frame_text}
use Rattle.chain_gen.specs.Purses.{PurseValue}
use Rattle.chain_gen.specs.Drafts.{Draft, draft_of, block_with, purse_behind}
use Rattle.chain_gen.specs.Generated.{rolls, rollback_text}

pub record StageValue : Type 0 where
  pub tip : Digest
  pub purse : PurseValue

-- the block of this number on a stage
abbrev pub stage_draft : Net → ℕ → ℕ → StageValue → Draft
stage_draft net number word s = draft_of net number word s.purse

abbrev pub stage_block : Net → ℕ → ℕ → StageValue → Block
stage_block net number word s = block_with number s.tip (stage_draft net number word s).txs

unfoldable pub stage_behind : Net → ℕ → ℕ → StageValue → StageValue
stage_behind net number word s = record {
  tip = block_hash_of (stage_block net number word s);
  purse = purse_behind net number word s.purse;
}

pub record KeptChain : Type 0 where
  pub word : ℕ
  pub now : StageValue
  pub saved : StageValue

-- before the block of this number
unfoldable pub ready : ℕ → KeptChain → KeptChain
ready number k =
    if rolls number then record { word = k.word; now = k.saved; saved = k.now }
    else if number % 50 == 48 then record { word = k.word; now = k.now; saved = k.now }
    else k

abbrev pub kept_behind : Net → ℕ → KeptChain → KeptChain
kept_behind net number k = record { word = (stage_draft net number k.word k.now).word; now = stage_behind net number k.word k.now; saved = k.saved }

abbrev pub kept_text : Net → ℕ → KeptChain → List ℕ
kept_text net number k = rollback_text number
    ++ frame_text (block_magic net) (block_text (stage_block net number (ready number k).word (ready number k).now))

unfoldable pub kept_feed : Net → ℕ → ℕ → KeptChain → List ℕ
kept_feed net number zero k = []
kept_feed net number (suc more) k = kept_text net number k ++ kept_feed net (suc number) more (kept_behind net number (ready number k))
