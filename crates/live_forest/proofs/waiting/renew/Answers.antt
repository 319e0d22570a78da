use Rattle.std.proofs.Common.{◌≡◌, suc, ◌+◌, ◌*◌, ◌/◌, ◌^◌, ◌∙◌, false, sym, ap, subst, arith}
use Rattle.std.specs.Prelude.{is_some}
use Rattle.forest_place.specs.Forest.{InForest}
use Rattle.live_forest.specs.Stores.{stored}
use Rattle.live_forest.proofs.Renewing.{renewed_put, renewed_noted, alone_left, alone_right}
use Rattle.live_forest.proofs.waiting.renew.Goals as goal

pub has_halves-left-requires-clause-within : goal.has_halves-left-requires-clause-within
has_halves-left-requires-clause-within g c = subst (λ o. InForest c.args.n (suc c.args.row) o) (sym c.part_of-off.ensures) c.requires.within

pub returns-then-not-left-clause-renewed : goal.returns-then-not-left-clause-renewed
returns-then-not-left-clause-renewed g c =
    let H = g.D.Digester.digest_of in
    let s = c.args.store.now in
    let row = c.args.row in
    let first = 2 * (c.args.number / 2 ^ suc row) in
    let none : is_some (stored s row first) ≡ false = ap (λ o. is_some (stored s row (2 * o))) (sym c.part_of-off.ensures)
    ∙ sym c.has_halves-left.ensures.left ∙ c.if-not-left.true in
    renewed_put H c.args.n row c.args.number s c.put_alone.new.self (stored s row (first + 1)) c.args.waiting.now
    (alone_right H (stored s row first) (stored s row (first + 1)) none) c.put_alone.ensures.put c.put_alone.ensures.room c.requires.waiting

pub returns-then-not-right-clause-renewed : goal.returns-then-not-right-clause-renewed
returns-then-not-right-clause-renewed g c =
    let H = g.D.Digester.digest_of in
    let s = c.args.store.now in
    let row = c.args.row in
    let first = 2 * (c.args.number / 2 ^ suc row) in
    let here : first + 0 ≡ first = omega arith in
    let none : is_some (stored s row (first + 1)) ≡ false = ap (λ o. is_some (stored s row (2 * o + 1))) (sym c.part_of-off.ensures)
    ∙ sym c.has_halves-left.ensures.right ∙ c.if-not-right.true in
    renewed_put H c.args.n row c.args.number s c.put_alone-then-not-right.new.self (stored s row (first + 0)) c.args.waiting.now
    (ap (stored s row) here ∙ alone_left H (stored s row first) (stored s row (first + 1)) none) c.put_alone-then-not-right.ensures.put
    c.put_alone-then-not-right.ensures.room c.requires.waiting

pub returns-else-not-right-clause-renewed : goal.returns-else-not-right-clause-renewed
returns-else-not-right-clause-renewed g c =
    let s = c.args.store.now in
    let row = c.args.row in
    let left = ap (λ o. is_some (stored s row (2 * o))) (sym c.part_of-off.ensures) ∙ sym c.has_halves-left.ensures.left ∙ c.if-not-left.false in
    let right = ap (λ o. is_some (stored s row (2 * o + 1))) (sym c.part_of-off.ensures) ∙ sym c.has_halves-left.ensures.right
    ∙ c.if-not-right.false in
    renewed_noted g.D.Digester.digest_of c.args.n row c.args.number s c.args.waiting.now c.note.new.self c.requires.one c.note.ensures.numbers
    c.note.ensures.count c.requires.within c.requires.listed left right c.requires.waiting
