use Rattle.std.proofs.Common.{sym, ap, ◌∙◌}
use Rattle.bridge_prover.specs.Watched.{scripts_of, noted_in}
use Rattle.bridge_prover.proofs.Holding.{holds_none}
use Rattle.bridge_prover.proofs.Refining.{fresh_like}
use Rattle.bridge_prover.proofs.bridge.Bridge.new.Goals as goal

pub invariant_of-result : goal.invariant_of-result
invariant_of-result g c = (
  fresh_like g.D.Digester.digest_of c.args.net c.args.limits c.args.watch _ _ _ c.new.ensures.entries
      c.new-2.ensures c.in_ok-new.ensures c.requires,
  c.new-5.ensures.items ∙ ap (noted_in (scripts_of c.args.watch)) (sym c.new-2.ensures),
  holds_none _ _ _ c.new-2.ensures c.new.ensures.entries c.new.ensures.held,
)
