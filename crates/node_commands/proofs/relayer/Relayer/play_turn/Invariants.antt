use Rattle.std.proofs.Common.{length}
use Rattle.uo_base.specs.FeedEvent.{event_of}
use Rattle.node_commands.proofs.RelayLemmas.{IsTurning}
use Rattle.node_commands.proofs.relayer.Relayer.play_turn.Given as goal

abbrev pub invariant-loop-line : goal.invariant-loop-line
invariant-loop-line g l = IsTurning g.D.Digester.digest_of (event_of l.fn.event) l.fn.self l.self l.fn.said.items l.said.items

abbrev pub decreases-loop-line : goal.decreases-loop-line
decreases-loop-line g l = length l.self.script
