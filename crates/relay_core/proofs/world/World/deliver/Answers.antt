use Rattle.std.proofs.Common.{◌≡◌, List, cond, Some, length, refl, reverse, subst, arith}
use Rattle.std.proofs.lemmas.Option.{slice_get_read}
use Rattle.std.specs.Prelude.{OnOk, OnErr, slice_get, slice_set}
use Rattle.relay_core.specs.World.{Sent, WorldState, applies, follower_moved, with_moved}
use Rattle.relay_core.proofs.Stepped.{handed_ok, handed_err}
use Rattle.relay_core.proofs.world.World.deliver.Goals as goal

pub returns-clause-next : goal.returns-clause-next
returns-clause-next g c =
    let H = g.D.Digester.digest_of in
    let i = c.self.inside in
    let w : WorldState = record {
      bridge = i.bridge;
      sent = i.sent.items;
      chain = reverse i.chain.items;
      asks = i.asks.items;
      replies =
          i.replies.items;
      followers = i.followers.items;
    } in
    let x = c.index_mut.result.now in
    let r = c.in-Some.reply.now in
    let at_f : slice_get i.followers.items c.args.follower ≡ Some x =
    slice_get_read i.followers.items i.followers.len c.args.follower x i.followers.ok.0 (omega (arith, c.if-i-len.false, c.len.ensures))
    c.index_mut.ensures.value in
    let look = c.in-Some.ensures.lookup in
    let at_j : slice_get i.replies.items c.args.reply ≡ Some r =
    subst (λ xs. slice_get xs c.args.reply ≡ Some r) c.deref.ensures.value
    (slice_get_read c.deref.result.now (length c.deref.result.now) c.args.reply r refl look.3.0 look.1) in
    subst (λ v. OnOk c.hand.result (record w { followers = slice_set w.followers c.args.follower c.hand.new.follower }
    ≡ with_moved H v c.args.follower (slice_get v.followers c.args.follower) (slice_get v.replies c.args.reply))) c.self.view_is
    (handed_ok H w c.hand.result c.args.follower x c.hand.new.follower r c.args.reply at_f at_j
    (subst (λ (ys : List Sent). OnOk c.hand.result (c.hand.new.follower ≡ cond (applies r x) (follower_moved H ys r.kind x) x))
    c.as_slice.ensures.value c.hand.ensures.next))

pub returns-clause-stays : goal.returns-clause-stays
returns-clause-stays g c =
    let H = g.D.Digester.digest_of in
    let i = c.self.inside in
    let w : WorldState = record {
      bridge = i.bridge;
      sent = i.sent.items;
      chain = reverse i.chain.items;
      asks = i.asks.items;
      replies =
          i.replies.items;
      followers = i.followers.items;
    } in
    let x = c.index_mut.result.now in
    let at_f : slice_get i.followers.items c.args.follower ≡ Some x =
    slice_get_read i.followers.items i.followers.len c.args.follower x i.followers.ok.0 (omega (arith, c.if-i-len.false, c.len.ensures))
    c.index_mut.ensures.value in
    subst (λ v. OnErr c.hand.result (record w { followers = slice_set w.followers c.args.follower c.hand.new.follower } ≡ v)) c.self.view_is
    (handed_err H w c.hand.result c.args.follower x c.hand.new.follower at_f c.hand.ensures.stays)
