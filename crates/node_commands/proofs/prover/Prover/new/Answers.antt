use Rattle.std.proofs.Common.{false, sym, subst}
use Rattle.node_commands.specs.Prover.{IsReached}
use Rattle.node_commands.proofs.ProveLemmas.{reached-fresh}
use Rattle.node_commands.proofs.prover.Prover.new.Goals as goal

pub invariant_of-result : goal.invariant_of-result
invariant_of-result g c =
    subst (λ b. IsReached g.D.Digester.digest_of (record { net = c.args.net; bridge = b; events = 0; refused = false })) (sym c.in_ok-new.ensures)
    (reached-fresh g.D.Digester.digest_of c.args.net c.args.limits c.args.watch c.requires.leaves)
