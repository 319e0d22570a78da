use Rattle.std.proofs.Common.{◌≡◌, Bool, true, false, [], subst}
use Rattle.std.specs.Bool.{OnTrue, OnFalse}
use Rattle.std.specs.Prelude.{not}
use Rattle.compact_node.specs.Node.{NodeState}
use Rattle.compact_node.proofs.node.Node.keeps_some.Goals as goal

turned : {P Q : Type 0} (b : Bool) → (P → Q) → OnTrue b P → OnFalse (not b) Q
turned true f p = f p
turned false f p = tt

pub returns : goal.returns
returns g c =
    subst (λ (s : NodeState). OnFalse (not c.watches_nothing.result) ((s.newest.kept ≡ []) × (s.newest.held ≡ []))) c.self.view_is
    (turned c.watches_nothing.result (λ p. p.1) c.watches_nothing.ensures)
