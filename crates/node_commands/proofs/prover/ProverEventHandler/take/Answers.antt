use Rattle.std.proofs.Common.{◌++◌, ap, ◌∙◌}
use Rattle.std.specs.Prelude.{option_map}
use Rattle.uo_base.specs.FeedEvent.{event_of}
use Rattle.node_commands.specs.Prover.{ProverState, made_frames, proved_of, proved_frames}
use Rattle.node_commands.proofs.ServeLemmas.{OnOk-any}
use Rattle.node_commands.proofs.prover.ProverEventHandler.take.Goals as goal

pub returns-clause-sent : goal.returns-clause-sent
unfolding proved_frames
returns-clause-sent g c =
    let event = event_of c.args.event in
    let message = option_map (λ bytes. bytes.items) c.in_ok-proved.proved.message in
    OnOk-any c.line_of.result (
    c.in_ok-push_made.ensures
    ∙ ap (λ n. c.args.sent.now.bytes.items ++ made_frames n c.in_ok-proved.proved.verdict message event)
    (ap (λ (p : ProverState). p.net) c.self.view_is)
    ∙ ap (λ v. c.args.sent.now.bytes.items ++ made_frames c.args.self.now.net v message event) c.in_ok-proved.ensures.verdict
    ∙ ap (λ m. c.args.sent.now.bytes.items ++ made_frames c.args.self.now.net (proved_of c.args.self.now event) m event)
    c.in_ok-proved.ensures.message
    )
