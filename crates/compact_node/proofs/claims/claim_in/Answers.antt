use Rattle.std.specs.Prelude.{option_copied}
use Rattle.node_rules.specs.Claimed.{view_by}
use Rattle.compact_node.proofs.Claiming.{proof_errs}
use Rattle.compact_node.proofs.claims.claim_in.Goals as goal

pub returns-clause-err : goal.returns-clause-err
returns-clause-err g c =
    proof_errs g.D.Digester.digest_of (view_by c.args.roots.now c.args.held.now) c.args.spends.now.external _ (option_copied c.args.message)
    _ _ _ c.in_ok-message.ensures c.in-Some.is c.external.ensures
    c.claim_of.ensures.err
