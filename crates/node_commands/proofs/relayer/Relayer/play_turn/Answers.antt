use Rattle.std.proofs.Common.{sym, ap, ◌∙◌}
use Rattle.std.specs.Prelude.{option_map}
use Rattle.uo_base.specs.FeedEvent.{event_of}
use Rattle.relay_core.specs.Acts.{act_of}
use Rattle.node_commands.proofs.RelayLemmas.{ok-then, turning-own, turning-bridge, turning-none}
use Rattle.node_commands.proofs.relayer.Relayer.play_turn.Goals as goal

pub returns-in_default-clause-next : goal.returns-in_default-clause-next
returns-in_default-clause-next g c =
    (turning-none g.D.Digester.digest_of (event_of c.args.event) c.args.self.now c.loop-line.self c.args.said.now.items c.loop-line.said.items
    c.loop-line.invariant
    c.next_line.result c.next_line.new.self c.in_default.is c.next_line.ensures).0

pub returns-in_default-clause-said : goal.returns-in_default-clause-said
returns-in_default-clause-said g c =
    (turning-none g.D.Digester.digest_of (event_of c.args.event) c.args.self.now c.loop-line.self c.args.said.now.items c.loop-line.said.items
    c.loop-line.invariant
    c.next_line.result c.next_line.new.self c.in_default.is c.next_line.ensures).1

pub loop-line-preserved : goal.loop-line-preserved
loop-line-preserved g c =
    turning-own g.D.Digester.digest_of (event_of c.args.event) c.args.self.now c.loop-line.self c.args.said.now.items c.loop-line.said.items
    c.loop-line.invariant
    c.next_line.result c.next_line.new.self c.in-Some.line (act_of c.in-Some-own_act.act) c.in-Some.is c.next_line.ensures
    (sym c.own_act.ensures ∙ ap (option_map act_of) c.in-Some-own_act.is)
    c.play.new.self c.play.new.said.items c.in_ok-play-in-Some-own_act.ensures.next c.in_ok-play-in-Some-own_act.ensures.said

pub returns-in-None-clause-next : goal.returns-in-None-clause-next
returns-in-None-clause-next g c =
    let t = turning-bridge g.D.Digester.digest_of (event_of c.args.event) c.args.self.now c.loop-line.self c.args.said.now.items
    c.loop-line.said.items c.loop-line.invariant
    c.next_line.result c.next_line.new.self c.in-Some.line c.in-Some.is c.next_line.ensures
    (sym c.own_act.ensures ∙ ap (option_map act_of) c.in-None.is) in
    ok-then c.play-in-None.result _ _ _ c.play-in-None.ensures.next t.0

pub returns-in-None-clause-said : goal.returns-in-None-clause-said
returns-in-None-clause-said g c =
    let t = turning-bridge g.D.Digester.digest_of (event_of c.args.event) c.args.self.now c.loop-line.self c.args.said.now.items
    c.loop-line.said.items c.loop-line.invariant
    c.next_line.result c.next_line.new.self c.in-Some.line c.in-Some.is c.next_line.ensures
    (sym c.own_act.ensures ∙ ap (option_map act_of) c.in-None.is) in
    ok-then c.play-in-None.result _ _ _ c.play-in-None.ensures.said t.1
