use Rattle.std.proofs.Common.{◌≡◌, suc, ◌/◌, ◌%◌, ◌^◌, ◌<◌, length, sym, ap, ◌∙◌, arith}
use Rattle.std.proofs.lemmas.List.FromFn.{length-map-range_with_len}
use Rattle.forest_place.specs.Forest.{is_slot}
use Rattle.forest_roots.specs.Joined.{join_at}
use Rattle.forest_roots.proofs.Added.{joined_once, addition_ends}
use Rattle.forest_roots.proofs.roots.Roots.add_into.Goals as goal

pub push-requires : goal.push-requires
push-requires g c =
    let j = c.slots.invariant.joining in
    omega (
      arith,
      j.small,
      ap length j.listed,
      length-map-range_with_len
          (join_at g.D.Digester.digest_of (record { leaves = c.self.inside.count; rows = c.self.inside.slots }) c.args.digest) 0 c.slots.row,
    )

pub slots-preserved : goal.slots-preserved
slots-preserved g c =
    let leaves : c.self.inside.count ≡ c.args.self.now.leaves = ap (λ f. f.leaves) c.self.view_is in
    let few : suc c.self.inside.count < 2 ^ 40 = omega (arith, leaves, c.requires) in
    record {
      same_count = c.slots.invariant.same_count;
      joining = joined_once g.D.Digester.digest_of c.self.inside.count c.self.inside.slots c.args.digest c.args.steps.now c.slots.row
          c.slots.self-inside.slots c.slots.carried c.slots.joins c.slots.steps
          c.slots.invariant.joining few (ap (λ n. is_slot n c.slots.row) (sym c.slots.invariant.same_count) ∙ sym c.slots-test.ensures)
          c.join_root-carried.result c.push.new.self c.join_root-carried.new.steps c.join_root-carried.ensures.value c.push.ensures
          c.join_root-carried.ensures.steps;
    }

pub invariant_of-self : goal.invariant_of-self
invariant_of-self g c =
    let whole = addition_ends g.D.Digester.digest_of c.args.self.now c.self.inside.count c.self.inside.slots c.args.digest c.args.steps.now
    c.slots.row c.slots.self-inside.count c.slots.self-inside.slots c.slots.carried c.slots.joins c.slots.steps
    c.slots.invariant.joining c.self.view_is c.self.invariant c.requires c.slots.invariant.same_count (sym c.slots-test.ensures) in
    whole.stump

pub returns : goal.returns
returns g c =
    let whole = addition_ends g.D.Digester.digest_of c.args.self.now c.self.inside.count c.self.inside.slots c.args.digest c.args.steps.now
    c.slots.row c.slots.self-inside.count c.slots.self-inside.slots c.slots.carried c.slots.joins c.slots.steps
    c.slots.invariant.joining c.self.view_is c.self.invariant c.requires c.slots.invariant.same_count (sym c.slots-test.ensures) in
    record { roots = whole.roots; joins = whole.joins_are; steps = whole.steps_listed; counted = whole.steps_are; few = whole.few }
