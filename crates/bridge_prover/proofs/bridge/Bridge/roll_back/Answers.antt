use Rattle.std.proofs.Common.{◌≡◌, true, length, ap, ◌∙◌, arith}
use Rattle.std.specs.Prelude.{nat_le}
use Rattle.std.proofs.lemmas.Bool.{le-leb}
use Rattle.node_rules.specs.Machine.{gone_to}
use Rattle.bridge_prover.specs.Bridge.{BridgeState}
use Rattle.bridge_prover.proofs.Refining.{chain-back}
use Rattle.bridge_prover.proofs.bridge.Bridge.roll_back.Goals as goal

pub returns-then-count-kept-clause-verdict : goal.returns-then-count-kept-clause-verdict
returns-then-count-kept-clause-verdict g c =
    let s = c.args.self.now in
    let within : nat_le c.args.count (length s.undo) ≡ true = le-leb c.args.count (length s.undo) (omega arith) in
    rw within (c.gone_to.ensures ∙ ap (gone_to c.args.count)
    (ap (λ (x : BridgeState). x.chain) c.go_back.ensures.next ∙ chain-back g.D.Digester.digest_of c.args.count s))
