use Rattle.std.proofs.Common.{length}
use Rattle.node_commands.proofs.RelayLemmas.{IsPlaying}
use Rattle.node_commands.proofs.relayer.Relayer.play_rest.Given as goal

abbrev pub invariant-loop-line : goal.invariant-loop-line
invariant-loop-line g l = IsPlaying g.D.Digester.digest_of l.fn.whole l.fn.self l.self l.fn.said.items l.said.items

abbrev pub decreases-loop-line : goal.decreases-loop-line
decreases-loop-line g l = length l.self.script
