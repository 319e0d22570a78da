use Rattle.std.proofs.Common.{◌≡◌, ◌++◌, map}
use Rattle.std.specs.Vec.Iter.{into_iter_items}
use Rattle.relay_core.specs.World.{fresh_follower}
use Rattle.relay_core.proofs.world.followers_of.Given as goal

abbrev pub invariant-loop-watch : goal.invariant-loop-watch
invariant-loop-watch g l = record {
  rest : l.fn.watches.items ≡ l.yielded ++ into_iter_items l.watch-iterator;
  made : l.followers.items ≡ map (fresh_follower l.net l.limits) l.yielded;
}
