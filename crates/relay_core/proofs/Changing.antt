-- An outcome tells what an act changes.
use Rattle.std.proofs.Common.{◌≡◌, ℕ, Bool, true, false, List, length, Option, Some, None, cond, refl, sym}
use Rattle.std.specs.Prelude.{nat_le, slice_get, slice_set}
use Rattle.std.proofs.lemmas.Bool.{false≢true}
use Rattle.uo_base.specs.FeedEvent.{FeedEvent}
use Rattle.uo_base.specs.FeedEvent as Feed
use Rattle.uo_digest.specs.declared.digest.Digest.{Digest}
use Rattle.block_codec.specs.Block.{Block}
use Rattle.block_codec.specs.Reading.{block_in}
use Rattle.block_rules.specs.declared.refusal.Refusal.{Refusal}
use Rattle.block_rules.specs.declared.verdict.Verdict.TheVariants.{TooDeep}
use Rattle.block_rules.specs.Blocks.{new_records}
use Rattle.node_rules.specs.Reading.{handed_in, Handed}
use Rattle.node_rules.specs.Machine.{BlockCame, event_in, gone_to, is_made, verdict_by}
use Rattle.bridge_prover.specs.Bridge.{BridgeState, refusal_on, verdict_on, after_block, bridge_by, next_bridge, gone_back, chain_back}
use Rattle.relay_core.specs.declared.act.Outcome.TheVariants.{Moved, Stale}
use Rattle.relay_core.specs.declared.store.Reply.{Reply}
use Rattle.relay_core.specs.Acts.{BridgeTook, FollowerAsked, AskServed, ReplyDelivered}
use Rattle.relay_core.specs.World.{FollowerState, WorldState, newest_serial, serials_after, with_ask, ask_outcome, with_reply, replied, applies}
use Rattle.relay_core.specs.World.{follower_moved}
use Rattle.relay_core.specs.World.{followers_after, delivered}
use Rattle.relay_core.specs.Changes.{ChangesAsTold, OutcomesTellChanges, moves_node}

module _ (H : List ℕ → Digest) where
  -- a bridge that did not do what was asked for is as it was
  same_block : (s : BridgeState) (y : Option Block) (handed : Handed) → is_made (Some (verdict_on s (BlockCame y handed))) ≡ false
      → next_bridge H s (BlockCame y handed) ≡ s
  same_block s None handed off = refl
  same_block s (Some b) handed off = by (refusal_on s b) off
    where
      by : (x : Option Refusal) → is_made (Some (verdict_by s.chain b (length (new_records b s.chain.blocks)) x)) ≡ false
          → bridge_by x (after_block H s b) s ≡ s
      by None off = absurd (false≢true (sym off))
      by (Some why) off = refl

  same_bridge : (s : BridgeState) (event : FeedEvent) → is_made (Some (verdict_on s (event_in event))) ≡ false
      → next_bridge H s (event_in event) ≡ s
  same_bridge s (Feed.BlockCame bytes message) off = same_block s (block_in bytes) (handed_in message) off
  same_bridge s (Feed.RollbackCame k) off = by (nat_le k (length s.undo)) off
    where
      by : (x : Bool) → is_made (Some (cond x (gone_to k (chain_back k s.chain s.undo)) (TooDeep k (length s.undo)))) ≡ false
          → cond x (gone_back H k s) s ≡ s
      by true off = absurd (false≢true (sym off))
      by false off = refl
  same_bridge s Feed.StrayCame off = refl

  asking : (w : WorldState) (x : Option FollowerState) → ChangesAsTold (ask_outcome w x) w (with_ask w x)
  asking w None = record { bridge = λ off. refl; followers = λ off. refl }
  asking w (Some x) = record { bridge = λ off. refl; followers = λ off. refl }

  serving : (w : WorldState) (x : Option (List ℕ)) → ChangesAsTold (replied w x) w (with_reply w x)
  serving w None = record { bridge = λ off. refl; followers = λ off. refl }
  serving w (Some serials) = record { bridge = λ off. refl; followers = λ off. refl }

  unmoved : (w : WorldState) (f : ℕ) (x : Option FollowerState) (r : Option Reply) → moves_node (delivered x r) ≡ false
      → followers_after H w.sent w.followers f x r ≡ w.followers
  unmoved w f None r off = refl
  unmoved w f (Some x) None off = refl
  unmoved w f (Some x) (Some r) off = by (applies r x) off
    where
      by : (b : Bool) → moves_node (cond b (Moved (newest_serial (serials_after r.kind x.serials))) Stale) ≡ false
          → cond b (slice_set w.followers f (follower_moved H w.sent r.kind x)) w.followers ≡ w.followers
      by true off = absurd (false≢true (sym off))
      by false off = refl

pub outcomes_tell_changes : OutcomesTellChanges
outcomes_tell_changes H w (BridgeTook event) = record { bridge = same_bridge H w.bridge event; followers = λ off. refl }
outcomes_tell_changes H w (FollowerAsked f) = asking H w (slice_get w.followers f)
outcomes_tell_changes H w (AskServed j) = serving H w (slice_get w.asks j)
outcomes_tell_changes H w (ReplyDelivered f j) =
    record { bridge = λ off. refl; followers = unmoved H w f (slice_get w.followers f) (slice_get w.replies j) }
