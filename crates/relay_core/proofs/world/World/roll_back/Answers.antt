use Rattle.std.proofs.Common.{◌≡◌, reverse, subst}
use Rattle.std.specs.Prelude.{OnOk}
use Rattle.uo_base.specs.FeedEvent as Feed
use Rattle.relay_core.specs.World.{WorldState, with_event}
use Rattle.relay_core.proofs.Stepped.{rolled_ok}
use Rattle.relay_core.proofs.world.World.roll_back.Goals as goal

pub returns-clause-next : goal.returns-clause-next
returns-clause-next g c =
    let H = g.D.Digester.digest_of in
    let i = c.self.inside in
    let w : WorldState = record {
      bridge = i.bridge;
      sent = i.sent.items;
      chain = reverse i.chain.items;
      asks = i.asks.items;
      replies =
          i.replies.items;
      followers = i.followers.items;
    } in
    subst (λ v. OnOk c.roll_back.result (record w { bridge = c.roll_back.new.bridge; chain = reverse c.roll_back.new.chain.items }
    ≡ with_event H v (Feed.RollbackCame c.args.count))) c.self.view_is
    (rolled_ok H w c.roll_back.result c.args.count c.roll_back.new.bridge (reverse c.roll_back.new.chain.items) c.roll_back.ensures.bridge
    c.roll_back.ensures.chain)
