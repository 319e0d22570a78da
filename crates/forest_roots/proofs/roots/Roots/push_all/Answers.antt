use Rattle.std.proofs.Common.{◌≡◌, ◌^◌, ◌<◌, ◌+◌, ◌∙◌, length, take, ap, arith}
use Rattle.std.proofs.lemmas.List.{length-take-le}
use Rattle.forest_place.specs.Forest.{is_slot}
use Rattle.forest_roots.specs.Stump.{Stump}
use Rattle.forest_roots.proofs.Rising.{rising_small, rising_more, rising_ends}
use Rattle.forest_roots.proofs.roots.Roots.push_all.Goals as goal

pub loop-count-preserved : goal.loop-count-preserved
loop-count-preserved g c =
    let r = c.loop-count.invariant.rising in
    let leaves : c.self.inside.count ≡ c.args.self.now.leaves = ap (λ (f : Stump). f.leaves) c.self.view_is in
    let few : c.self.inside.count + length c.args.digests.now < 2 ^ 40 = omega (arith, leaves, c.requires) in
    let long : length (take c.loop-count.count c.loop-count.digests) ≡ c.loop-count.count =
    length-take-le c.loop-count.count c.loop-count.digests (omega (arith, r.within, r.long)) in
    record {
      same_count = c.loop-count.invariant.same_count;
      rising = rising_more g.D.Digester.digest_of c.self.inside.count c.self.inside.slots c.args.digests.now c.args.steps.now c.loop-count.row
          c.loop-count.self-inside.slots c.loop-count.digests c.loop-count.count c.loop-count.steps r c.loop-count-test.true few
          c.is_slot-slot.result c.raise_row.result c.raise_row.new.nodes c.count_above-count.result
          c.raise_row.new.steps
          (c.is_slot-slot.ensures ∙ ap (λ n. is_slot n c.loop-count.row) c.loop-count.invariant.same_count) c.raise_row.ensures.stays
          (c.raise_row.ensures.len ∙ long) c.count_above-count.ensures (rw long at c.raise_row.ensures.above) (rw long at c.raise_row.ensures.steps);
    }

pub prove-unreachable-requires : goal.prove-unreachable-requires
prove-unreachable-requires g c =
    let leaves : c.self.inside.count ≡ c.args.self.now.leaves = ap (λ (f : Stump). f.leaves) c.self.view_is in
    let few : c.self.inside.count + length c.args.digests.now < 2 ^ 40 = omega (arith, leaves, c.requires) in
    let small = rising_small g.D.Digester.digest_of c.self.inside.count c.self.inside.slots c.args.digests.now c.args.steps.now c.loop-count.row
    c.loop-count.self-inside.slots c.loop-count.digests c.loop-count.count c.loop-count.steps
    c.loop-count.invariant.rising c.loop-count-test.true few in
    omega (arith, small, c.if-prove.true)

pub invariant_of-self : goal.invariant_of-self
invariant_of-self g c =
    let leaves : c.self.inside.count ≡ c.args.self.now.leaves = ap (λ (f : Stump). f.leaves) c.self.view_is in
    let few : c.self.inside.count + length c.args.digests.now < 2 ^ 40 = omega (arith, leaves, c.requires) in
    let rose = rising_ends g.D.Digester.digest_of c.args.self.now c.self.inside.count c.self.inside.slots c.args.digests.now c.args.steps.now
    c.loop-count.row c.loop-count.self-inside.slots c.loop-count.digests c.loop-count.count c.loop-count.steps
    (c.loop-count.self-inside.count + length c.args.digests.now) c.loop-count.invariant.rising (λ some. omega (arith, some, c.loop-count-test.false))
    c.self.view_is c.self.invariant few (omega (arith, c.loop-count.invariant.same_count)) in
    rose.stump

pub returns : goal.returns
returns g c =
    let leaves : c.self.inside.count ≡ c.args.self.now.leaves = ap (λ (f : Stump). f.leaves) c.self.view_is in
    let few : c.self.inside.count + length c.args.digests.now < 2 ^ 40 = omega (arith, leaves, c.requires) in
    let rose = rising_ends g.D.Digester.digest_of c.args.self.now c.self.inside.count c.self.inside.slots c.args.digests.now c.args.steps.now
    c.loop-count.row c.loop-count.self-inside.slots c.loop-count.digests c.loop-count.count c.loop-count.steps
    (c.loop-count.self-inside.count + length c.args.digests.now) c.loop-count.invariant.rising (λ some. omega (arith, some, c.loop-count-test.false))
    c.self.view_is c.self.invariant few (omega (arith, c.loop-count.invariant.same_count)) in
    record { roots = rose.are; len = c.loop-count.invariant.rising.long; counted = rose.counted; few = rose.few }
