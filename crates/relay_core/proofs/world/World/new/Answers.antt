use Rattle.std.proofs.Common.{◌∙◌, ap, ◌++◌, ◌∷◌, []}
use Rattle.relay_core.specs.World.{fresh_follower}
use Rattle.relay_core.proofs.Lines.{kept_new}
use Rattle.relay_core.proofs.world.World.new.Goals as goal

pub invariant_of-result : goal.invariant_of-result
invariant_of-result g c =
    kept_new c.new-2.result.items c.push.new.self.items (fresh_follower c.args.net c.args.limits) c.args.watches.items
    c.in_ok-followers_of.field-0.items
    c.new-2.ensures.items (c.in_ok-push.ensures.items ∙ ap (λ l. l ++ 0 ∷ []) c.new-chain.ensures.items) c.in_ok-followers_of.ensures c.requires.few
