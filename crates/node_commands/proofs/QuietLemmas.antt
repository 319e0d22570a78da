-- Where nothing is stored.
use Rattle.std.proofs.Common.{◌≡◌, ℕ, suc, zero, List, [], refl}
use Rattle.uo_base.specs.declared.event.Net.{Net}
use Rattle.uo_base.specs.declared.event.Net.TheVariants.{Main, Regtest}
use Rattle.feed_frame.specs.Frames.{block_magic}
use Rattle.feed_frame.specs.Written.{frame_text}
use Rattle.feed_frame.proofs.Progress.{front_none, back_none}
use Rattle.block_codec.specs.Block.{block_text}
use Rattle.chain_gen.specs.Generated.{World, rolled, rollback_text, block_on, world_behind, turn_text, feed_from, generated}
use Rattle.compact_node.specs.Node.{NodeState}
use Rattle.compact_node.specs.State.{stored_text}

-- a state is never the empty text
pub stored_some : (s : NodeState) → stored_text s ≡ [] → ⊥
stored_some s e = cc

frame_some : (net : Net) (body : List ℕ) → frame_text (block_magic net) body ≡ [] → ⊥
frame_some Main body e = cc
frame_some Regtest body e = cc

-- nor is a generated feed that has a block
pub no_blocks : (number blocks : ℕ) (net : Net) → generated number blocks net ≡ [] → blocks ≡ 0
unfolding feed_from
no_blocks number zero net e = refl
no_blocks number (suc more) net e =
    let w : World = record { word = number; levels = [] } in
    let block = block_text (block_on net 0 (rolled 0 w)) in
    absurd (frame_some net block (back_none (rollback_text 0) (frame_text (block_magic net) block)
    (front_none (turn_text net 0 w) (feed_from net 1 more (world_behind net 0 (rolled 0 w))) e)))
