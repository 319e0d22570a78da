use Rattle.std.proofs.Common.{suc, ◌/◌, ◌^◌, ◌≤◌, ◌∙◌, ap, subst, sym, arith}
use Rattle.std.specs.Prelude.{nat_le}
use Rattle.std.proofs.lemmas.Bool.{le-leb}
use Rattle.forest_place.specs.Forest.{InForest}
use Rattle.forest_place.proofs.Slots.{in_forest_iff}
use Rattle.live_forest.proofs.Renewing.{step_same, step_more}
use Rattle.live_forest.proofs.Growing.{last_in, last_later, last_within, spanned_begins, spanned_more}
use Rattle.live_forest.proofs.growth.gather.Goals as goal

pub loop-next-init : goal.loop-next-init
loop-next-init g c = record {
  spanned = spanned_begins g.D.Digester.digest_of c.args.n c.args.before c.args.store.now c.args.row c.args.from c.args.waiting.now
      c.requires.waiting;
  step = step_same g.D.Digester.digest_of (nat_le c.args.before) c.args.row c.args.store.now;
  few = omega arith;
  within = omega (arith, c.requires.from);
}

pub last_of-requires-clause-small : goal.last_of-requires-clause-small
last_of-requires-clause-small g c =
    let within : InForest c.args.n (suc c.args.row) c.loop-next.next = omega (arith, c.loop-next-test.true, c.part_of-end.ensures) in
    omega (arith, (in_forest_iff c.args.n (suc c.args.row) c.loop-next.next).0 within, c.requires.small)

pub renew-requires-clause-room : goal.renew-requires-clause-room
renew-requires-clause-room g c = omega (arith, c.requires.room, c.loop-next.invariant.step.room.len)

pub renew-requires-clause-within : goal.renew-requires-clause-within
renew-requires-clause-within g c =
    let row = c.args.row in
    let within : InForest c.args.n (suc row) c.loop-next.next = omega (arith, c.loop-next-test.true, c.part_of-end.ensures) in
    subst (λ o. InForest c.args.n (suc row) o)
    (sym (ap (λ i. i / 2 ^ suc row) c.last_of.ensures ∙ last_in (suc row) c.loop-next.next)) within

pub renew-requires-clause-listed : goal.renew-requires-clause-listed
renew-requires-clause-listed g c =
    let row = c.args.row in
    let next = c.loop-next.next in
    let within : InForest c.args.n (suc row) next = omega (arith, c.loop-next-test.true, c.part_of-end.ensures) in
    let from : c.args.before / 2 ^ suc row ≤ next = omega (arith, c.requires.first, c.loop-next.invariant.few) in
    c.loop-next.invariant.step.room.listed c.last_of.result ∙ c.requires.listed c.last_of.result
    (omega (arith, c.last_of.ensures, last_later c.args.before (suc row) next from))
    (omega (arith, c.last_of.ensures, last_within c.args.n (suc row) next within))

pub loop-next-preserved : goal.loop-next-preserved
loop-next-preserved g c =
    let H = g.D.Digester.digest_of in
    let row = c.args.row in
    let next = c.loop-next.next in
    let from : c.args.before / 2 ^ suc row ≤ next = omega (arith, c.requires.first, c.loop-next.invariant.few) in
    let later : c.args.before ≤ c.last_of.result = omega (arith, c.last_of.ensures, last_later c.args.before (suc row) next from) in
    record {
      spanned = spanned_more H c.args.n c.args.before c.loop-next.store c.renew.new.store row c.args.from next c.last_of.result
          c.loop-next.waiting c.renew.new.waiting (ap (λ i. i / 2 ^ suc row) c.last_of.ensures ∙ last_in (suc row) next) later
          c.renew.ensures.renewed c.loop-next.invariant.spanned;
      step = step_more H (nat_le c.args.before) row c.args.store.now c.loop-next.store c.renew.new.store c.loop-next.invariant.step
          (c.renew.ensures.renewed.step (nat_le c.args.before) (le-leb c.args.before c.last_of.result later));
      few = omega (arith, c.renew.ensures.few, c.loop-next.invariant.few);
      within = omega (arith, c.loop-next-test.true, c.part_of-end.ensures);
    }
