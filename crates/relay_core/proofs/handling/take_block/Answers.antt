use Rattle.std.proofs.Common.{◌≡◌, ◌∙◌, sym, ap, suc, length, reverse, false}
use Rattle.std.specs.Prelude.{option_copied}
use Rattle.uo_base.specs.FeedEvent as Feed
use Rattle.block_codec.specs.Reading.{block_in}
use Rattle.node_rules.specs.Reading.{handed_in}
use Rattle.node_rules.specs.Machine.{event_in}
use Rattle.bridge_prover.specs.Bridge.{verdict_on, message_on}
use Rattle.relay_core.specs.World.{is_acceptance}
use Rattle.relay_core.proofs.Judged.{not_accepted, sent_same, chain_same}
use Rattle.relay_core.proofs.handling.take_block.Goals as goal

pub returns-in_default : goal.returns-in_default
returns-in_default g c =
    let event = Feed.BlockCame c.args.block.now (option_copied c.args.message) in
    let s = c.args.bridge.now in
    let off : is_acceptance (verdict_on s (event_in event)) ≡ false = ap is_acceptance (sym c.in_ok-proved.ensures.verdict)
    ∙ not_accepted c.in_ok-proved.proved.verdict c.in_default.not-Accepted in
    record {
      verdict = c.in_ok-proved.ensures.verdict;
      bridge = c.in_ok-proved.ensures.next;
      sent = c.reserve.ensures.items ∙ sym (sent_same (verdict_on s (event_in event)) event (message_on g.D.Digester.digest_of s (event_in event))
          c.args.sent.now.items off);
      chain = ap reverse c.reserve-2.ensures.items ∙ sym (chain_same s (block_in c.args.block.now) (handed_in (option_copied c.args.message))
          (suc (length c.args.sent.now.items)) (reverse c.args.chain.now.items) off);
      rising = rw (c.reserve.ensures.items, c.reserve-2.ensures.items) c.requires.rising;
      bridge_stays = tt;
      sent_stays = tt;
      chain_stays = tt;
    }
