use Rattle.std.proofs.Common.{length, ◌-◌, ◌≡◌, ◌≤◌, drop}
use Rattle.forest_place.specs.declared.place.Place.{Place}
use Rattle.cache_model.specs.Cache.{look}
use Rattle.node_rules.specs.Filled.{IsFrom}
use Rattle.node_rules.proofs.lean.known_from.Given as goal

abbrev pub invariant-loop-next : goal.invariant-loop-next
invariant-loop-next l = record {
  within : l.next ≤ length l.known;
  same : (q : Place) → IsFrom l.place q → look (drop l.fn.from l.known) q.row q.off ≡ look (drop l.next l.known) q.row q.off;
}

abbrev pub decreases-loop-next : goal.decreases-loop-next
decreases-loop-next l = length l.known - l.next
