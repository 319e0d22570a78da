use Rattle.std.proofs.Common.{List, length, ap, sym, ◌∙◌, arith}
use Rattle.std.specs.Prelude.{slice_get}
use Rattle.leaf_record.specs.Leaf.{Leaf}
use Rattle.node_rules.proofs.ClaimedLeaves.{message-long}
use Rattle.node_rules.proofs.claims.MessageLeavesLeaves.leaf.Goals as goal

pub claim_at-requires-clause-within : goal.claim_at-requires-clause-within
claim_at-requires-clause-within c =
    omega (arith, message-long c.self.inside.external.now c.self.inside.message.now c.self.invariant, ap length c.self.view_is, c.requires)

pub returns : goal.returns
returns c = ap (λ (leaves : List Leaf). slice_get leaves c.args.index) (sym c.self.view_is) ∙ c.claim_at.ensures
