use Rattle.std.proofs.Common.{ℕ, List, ◌++◌, ap, ◌∙◌, append_assoc}
use Rattle.std.specs.Prelude.{option_map}
use Rattle.feed_frame.specs.FeedText.{event_text, proof_frame_text}
use Rattle.feed_frame.specs.Frames.{block_magic}
use Rattle.feed_frame.specs.Written.{frame_text}
use Rattle.node_commands.proofs.ProveLemmas.{OnOk-map}
use Rattle.node_commands.proofs.prover.push_proved.Goals as goal

pub returns : goal.returns
unfolding event_text
returns c =
    let frame = frame_text (block_magic c.args.net) c.args.block.now in
    let message = option_map (λ bytes. bytes.items) c.args.proved.now.message in
    OnOk-map c.push_block.result
    (λ e. e ∙ ap (λ (w : List ℕ). w ++ frame) c.in_ok-push_message.ensures
    ∙ append_assoc c.args.sent.now.bytes.items (proof_frame_text message) frame)
    c.push_block.ensures.whole
