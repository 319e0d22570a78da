use Rattle.std.proofs.Common.{Err, ap}
use Rattle.node_commands.proofs.RelayLemmas.{script-stopped, script-last}
use Rattle.node_commands.proofs.relay.serve_script.Goals as goal

pub returns-in_err-ending-clause-served : goal.returns-in_err-ending-clause-served
returns-in_err-ending-clause-served g c =
    script-stopped g.D.Digester.digest_of c.args.relayer.now c.args.net c.args.bytes c.from_residual.result c.in_err-ending.field-0.0
    c.from_residual.ensures.0 c.from_residual.ensures.1
    c.in_err-ending.ensures.stopped (λ e. c.in_err-ending.ensures.taken (ap Err e)) (λ e. c.in_err-ending.ensures.at_once (ap Err e))

pub returns-clause-served : goal.returns-clause-served
returns-clause-served g c =
    script-last g.D.Digester.digest_of c.args.relayer.now c.args.net c.args.bytes c.handle_feed.new.handler c.in_ok-ending.ending
    c.in_ok-ending.ensures.ended
    c.write_last.result c.write_last.ensures.status c.write_last.ensures.said c.write_last.ensures.part c.write_last.ensures.read
    c.in_ok-ending.ensures.kept_up c.in_ok-ending.ensures.wanted
