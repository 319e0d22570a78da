use Rattle.block_rules.specs.Known.{named_point, history}
use Rattle.block_rules.proofs.Finding.{IsSought, steps_left}
use Rattle.block_rules.proofs.made_outputs.MadeOutputs.number.Given as goal

abbrev pub invariant-loop-next : goal.invariant-loop-next
invariant-loop-next l = IsSought l.fn.self.origins.txids.items l.fn.self.named.items (history l.fn.self) (named_point l.fn.txid l.fn.index) l.next

abbrev pub decreases-loop-next : goal.decreases-loop-next
decreases-loop-next l = steps_left l.next
