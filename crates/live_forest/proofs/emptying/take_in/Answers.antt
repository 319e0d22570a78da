use Rattle.std.proofs.Common.{arith}
use Rattle.live_forest.specs.Rows.{is_one}
use Rattle.live_forest.proofs.Renewing.{one_at, step_same, taken_skipped, taken_renewed}
use Rattle.live_forest.proofs.emptying.take_in.Goals as goal

pub returns-then-part_of-clause-taken : goal.returns-then-part_of-clause-taken
returns-then-part_of-clause-taken g c =
    taken_skipped g.D.Digester.digest_of c.args.n c.args.store.now c.args.numbers.now c.args.row c.args.at c.args.waiting.now
    (λ h. absurd (omega (arith, h, c.if-part_of.true, c.part_of.ensures, c.part_of-2.ensures))) c.requires.taken

pub returns-then-part_of-clause-step : goal.returns-then-part_of-clause-step
returns-then-part_of-clause-step g c = step_same g.D.Digester.digest_of (is_one c.args.numbers.now) c.args.row c.args.store.now

pub returns-then-is_shared-clause-taken : goal.returns-then-is_shared-clause-taken
returns-then-is_shared-clause-taken g c =
    taken_skipped g.D.Digester.digest_of c.args.n c.args.store.now c.args.numbers.now c.args.row c.args.at c.args.waiting.now
    (λ h. c.is_shared.ensures c.if-is_shared.true) c.requires.taken

pub returns-then-is_shared-clause-step : goal.returns-then-is_shared-clause-step
returns-then-is_shared-clause-step g c = step_same g.D.Digester.digest_of (is_one c.args.numbers.now) c.args.row c.args.store.now

pub renew-requires-clause-within : goal.renew-requires-clause-within
renew-requires-clause-within g c = omega (arith, c.if-part_of.false, c.part_of.ensures, c.part_of-2.ensures)

pub returns-clause-taken : goal.returns-clause-taken
returns-clause-taken g c =
    taken_renewed g.D.Digester.digest_of c.args.n c.args.store.now c.renew.new.store c.args.numbers.now c.args.row c.args.at
    c.args.waiting.now c.renew.new.waiting c.requires.at c.renew.ensures.renewed c.requires.taken

pub returns-clause-step : goal.returns-clause-step
returns-clause-step g c = c.renew.ensures.renewed.step (is_one c.args.numbers.now) (one_at c.args.numbers.now c.args.at c.requires.at)
