use Rattle.std.proofs.Common.{ℕ, List, ◌++◌, ap, ◌∙◌, append_assoc}
use Rattle.std.specs.Prelude.{option_map, option_copied}
use Rattle.feed_frame.specs.FeedText.{event_text, proof_frame_text}
use Rattle.feed_frame.specs.Frames.{block_magic}
use Rattle.feed_frame.specs.Written.{frame_text}
use Rattle.message_upgrade.specs.Upgrade.{upgraded}
use Rattle.feed_upgrade.proofs.upgrader.push_proved.Goals as goal

pub returns-clause-sent : goal.returns-clause-sent
unfolding event_text
returns-clause-sent c =
    let frame = frame_text (block_magic c.args.net) c.args.block.now in
    let message = option_map (upgraded c.args.n) (option_copied c.args.message) in
    c.in_ok-push_block.ensures.whole ∙ ap (λ (w : List ℕ). w ++ frame) c.in_ok-old.ensures.sent
    ∙ append_assoc c.args.sent.now.bytes.items (proof_frame_text message) frame
