use Rattle.std.proofs.Common.{◌≡◌, ◌≤◌, true, map, take, drop, length}
use Rattle.forest_place.specs.declared.place.Place.{Place}
use Rattle.forest_place.specs.Places.{has_place}
use Rattle.cache_model.specs.Cache.{look}
use Rattle.node_rules.proofs.lean.known_beside.Given as goal

abbrev pub invariant-loop-place : goal.invariant-loop-place
invariant-loop-place l = record {
  found : l.found.items ≡ map (λ p. look l.known p.row p.off) (take l.place-index l.places);
  within : l.next ≤ length l.known;
  ahead : (q : Place) → has_place (drop l.place-index l.places) q.row q.off ≡ true
      → look l.known q.row q.off ≡ look (drop l.next l.known) q.row q.off;
}
