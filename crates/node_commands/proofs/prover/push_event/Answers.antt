use Rattle.std.proofs.Common.{◌++◌, sym, ap, ◌∙◌}
use Rattle.std.specs.Prelude.{option_map}
use Rattle.uo_base.specs.FeedEvent.{event_of}
use Rattle.feed_frame.specs.FeedText.{event_text}
use Rattle.node_commands.specs.Prover.{beside}
use Rattle.node_commands.proofs.ProveLemmas.{OnOk-map}
use Rattle.node_commands.proofs.prover.push_event.Goals as goal

pub returns-in-Rollback : goal.returns-in-Rollback
unfolding event_text
returns-in-Rollback c =
    OnOk-map c.push_rollback.result
    (λ e. e ∙ ap (λ w. c.args.sent.now.bytes.items ++ w) (sym (ap
    (λ ev. event_text c.args.net (beside (option_map (λ bytes. bytes.items) c.args.proved.now.message) (event_of ev))) c.in-Rollback.is)))
    c.push_rollback.ensures.whole
