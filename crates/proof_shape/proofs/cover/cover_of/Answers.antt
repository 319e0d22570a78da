use Rattle.std.proofs.Common.{◌<◌, ◌^◌, length, sym, subst, arith}
use Rattle.forest_place.specs.Places.{place_in}
use Rattle.proof_shape.specs.Swept.{IsAdded, IsSweep, ClimbsNext, NumberNext, AreFree}
use Rattle.proof_shape.proofs.Sweeping.{index_low, small_position, in_forest, climbed, numbered, sweep_begins}
use Rattle.std.specs.Prelude.{MatchBool}
use Rattle.std.proofs.lemmas.Bool.{and_parts}
use Rattle.proof_shape.proofs.Freed.{free_begins, free_climbed, free_numbered}
use Rattle.proof_shape.proofs.cover.cover_of.Goals as goal
use Rattle.proof_shape.proofs.cover.cover_of.Goals.{then-k-len, else-k-len+then-j-sorted}

pub loop-k-smaller-then-climbs_next : goal.loop-k-smaller-then-climbs_next
loop-k-smaller-then-climbs_next c =
    let cs = c.loop-k.covered.items in
    let s = c.loop-k.invariant.sweep in
    let next = subst (λ l. ClimbsNext c.args.n l c.loop-k.k c.args.sorted.now c.loop-k.j) c.deref.ensures.value c.if-climbs_next.ensures in
    let there = next.there in
    let low = index_low c.args.n cs s.rises c.loop-k.k there in
    let small = small_position c.args.n (place_in cs c.loop-k.k) c.requires.small
    (in_forest c.args.n c.args.sorted.now cs c.loop-k.k c.loop-k.j s c.requires.sorted c.loop-k.k there) in
    let lt : c.loop-k.k < 2 ^ 41 = omega (arith, low, small) in
    omega (arith, lt)

pub loop-k-preserved-then-climbs_next : goal.loop-k-preserved-then-climbs_next
loop-k-preserved-then-climbs_next c =
    let next = subst (λ l. ClimbsNext c.args.n l c.loop-k.k c.args.sorted.now c.loop-k.j) c.deref.ensures.value c.if-climbs_next.ensures in
    let xs = c.args.sorted.now in
    let cs = c.loop-k.covered.items in
    let s = c.loop-k.invariant.sweep in
    record {
      sweep = climbed c.args.n xs cs c.loop-k.k c.loop-k.j s c.requires.sorted c.push_parent.new.places.items next c.in_ok-push_parent.ensures;
      free = λ t. free_climbed c.args.n xs cs c.loop-k.k c.loop-k.j s c.requires.places c.requires.sorted (c.loop-k.invariant.free t)
          c.push_parent.new.places.items next c.in_ok-push_parent.ensures;
    }

pub loop-k-preserved : goal.loop-k-preserved
loop-k-preserved c =
    let s = c.loop-k.invariant.sweep in
    let next = subst (λ l. NumberNext c.args.n l c.loop-k.k c.args.sorted.now c.loop-k.j) c.deref.ensures.value c.if-climbs_next.ensures in
    let below : c.loop-k.j < length c.args.sorted.now = elim c.if-k-len.branch
    [ then-k-len w ↦ (next.least (omega (arith, w.if-k-len.true, c.len.ensures))).1 | else-k-len+then-j-sorted w ↦ w.if-j-sorted.true ] in
    let xs = c.args.sorted.now in
    let cs = c.loop-k.covered.items in
    record {
      sweep = numbered c.args.n xs cs c.loop-k.k c.loop-k.j s c.requires.sorted c.push_new.new.places.items c.place_at.result next below
          c.place_at.ensures.within c.place_at.ensures.is c.in_ok-fresh.ensures.pushed;
      free = λ t.
          let both = and_parts c.loop-k.free c.in_ok-fresh.fresh t in
          free_numbered c.args.n xs cs c.loop-k.k c.loop-k.j s c.requires.places c.requires.sorted (c.loop-k.invariant.free both.0)
          c.push_new.new.places.items c.place_at.result next below c.place_at.ensures.within c.place_at.ensures.is
          (subst (λ b. MatchBool b (IsAdded cs c.place_at.result c.push_new.new.places.items) (Unit {0})) both.1 c.in_ok-fresh.ensures.added);
    }

pub loop-k-init : goal.loop-k-init
loop-k-init c =
    let empty = sym c.in_ok-covered.ensures.items in
    record {
      sweep = subst (λ l. IsSweep c.args.n c.args.sorted.now l 0 0) empty (sweep_begins c.args.n c.args.sorted.now);
      free = λ t. subst (λ l. AreFree c.args.n c.args.sorted.now l 0) empty (free_begins c.args.n c.args.sorted.now);
    }
