use Rattle.std.proofs.Common.{◌≡◌, suc, ◌+◌, ◌*◌, ◌/◌, ◌^◌, ◌∙◌, ◌++◌, ◌<◌, List, [], Some, get_or, sym, ap, ap₂, subst, arith}
use Rattle.std.specs.Prelude.{is_some}
use Rattle.std.proofs.lemmas.List.{get_or-map, get_or-take, length-take-le}
use Rattle.uo_digest.specs.declared.digest.Digest.{Digest}
use Rattle.forest_place.specs.Forest.{InForest}
use Rattle.forest_model.specs.Content.{join_digests}
use Rattle.live_forest.specs.Stores.{stored, is_listed}
use Rattle.live_forest.specs.Rows.{IsJoined}
use Rattle.live_forest.proofs.waiting.put_some.Goals as goal

pub put_each-requires-clause-within : goal.put_each-requires-clause-within
put_each-requires-clause-within g c = λ j lt.
    let w = c.args.waiting.now in
    let room = c.requires.waiting.room in
    let long = length-take-le w.count w.numbers (omega (arith, room.numbers, room.few)) in
    let low : j < w.count = omega (arith, lt, long) in
    subst (λ i. InForest c.args.n (suc c.args.row) (i / 2 ^ suc c.args.row)) (sym (get_or-take w.count w.numbers j 0 low))
    (c.requires.waiting.within j low)

pub put_each-requires-clause-listed : goal.put_each-requires-clause-listed
put_each-requires-clause-listed g c = λ j lt.
    let w = c.args.waiting.now in
    let room = c.requires.waiting.room in
    let long = length-take-le w.count w.numbers (omega (arith, room.numbers, room.few)) in
    let low : j < w.count = omega (arith, lt, long) in
    ap (is_listed c.args.store.now.pages) (get_or-take w.count w.numbers j 0 low) ∙ c.requires.waiting.listed j low

pub put_each-requires-clause-left : goal.put_each-requires-clause-left
put_each-requires-clause-left g c = λ j lt.
    let w = c.args.waiting.now in
    let row = c.args.row in
    let room = c.requires.waiting.room in
    let long = length-take-le w.count w.numbers (omega (arith, room.numbers, room.few)) in
    let low : j < w.count = omega (arith, lt, long) in
    ap (λ i. is_some (stored c.args.store.now row (2 * (i / 2 ^ suc row)))) (get_or-take w.count w.numbers j 0 low)
    ∙ c.requires.waiting.left j low

pub put_each-requires-clause-right : goal.put_each-requires-clause-right
put_each-requires-clause-right g c = λ j lt.
    let w = c.args.waiting.now in
    let row = c.args.row in
    let room = c.requires.waiting.room in
    let long = length-take-le w.count w.numbers (omega (arith, room.numbers, room.few)) in
    let low : j < w.count = omega (arith, lt, long) in
    ap (λ i. is_some (stored c.args.store.now row (2 * (i / 2 ^ suc row) + 1))) (get_or-take w.count w.numbers j 0 low)
    ∙ c.requires.waiting.right j low

pub put_each-requires-clause-digests : goal.put_each-requires-clause-digests
put_each-requires-clause-digests g c = λ j d lt.
    let H = g.D.Digester.digest_of in
    let w = c.args.waiting.now in
    let none : Digest × Digest = (record { 0 = [] }, record { 0 = [] }) in
    let ps = c.read_each.new.pairs in
    let pair : Digest × Digest → Digest = λ p. H (p.0.0 ++ p.1.0) in
    let made : get_or c.digest_pairs.new.out j d ≡ pair (get_or ps j none) =
    ap (λ (xs : List Digest). get_or xs j d) c.digest_pairs.ensures.value
    ∙ get_or-map pair ps j none d (omega (arith, lt, c.read_each.ensures.count)) in
    ap Some made ∙ ap₂ (join_digests H) (sym (c.read_each.ensures.left j none lt)) (sym (c.read_each.ensures.right j none lt))

pub read_each-requires-clause-within : goal.read_each-requires-clause-within
read_each-requires-clause-within g c = λ j lt.
    let w = c.args.waiting.now in
    let room = c.requires.waiting.room in
    let long = length-take-le w.count w.numbers (omega (arith, room.numbers, room.few)) in
    let low : j < w.count = omega (arith, lt, long) in
    subst (λ i. InForest c.args.n (suc c.args.row) (i / 2 ^ suc c.args.row)) (sym (get_or-take w.count w.numbers j 0 low))
    (c.requires.waiting.within j low)

pub read_each-requires-clause-left : goal.read_each-requires-clause-left
read_each-requires-clause-left g c = λ j lt.
    let w = c.args.waiting.now in
    let row = c.args.row in
    let room = c.requires.waiting.room in
    let long = length-take-le w.count w.numbers (omega (arith, room.numbers, room.few)) in
    let low : j < w.count = omega (arith, lt, long) in
    ap (λ i. is_some (stored c.args.store.now row (2 * (i / 2 ^ suc row)))) (get_or-take w.count w.numbers j 0 low)
    ∙ c.requires.waiting.left j low

pub read_each-requires-clause-right : goal.read_each-requires-clause-right
read_each-requires-clause-right g c = λ j lt.
    let w = c.args.waiting.now in
    let row = c.args.row in
    let room = c.requires.waiting.room in
    let long = length-take-le w.count w.numbers (omega (arith, room.numbers, room.few)) in
    let low : j < w.count = omega (arith, lt, long) in
    ap (λ i. is_some (stored c.args.store.now row (2 * (i / 2 ^ suc row) + 1))) (get_or-take w.count w.numbers j 0 low)
    ∙ c.requires.waiting.right j low

pub returns-clause-step : goal.returns-clause-step
returns-clause-step g c = λ new all.
    let w = c.args.waiting.now in
    let room = c.requires.waiting.room in
    let long = length-take-le w.count w.numbers (omega (arith, room.numbers, room.few)) in
    c.put_each.ensures.step new (λ j lt.
    let low : j < w.count = omega (arith, lt, long) in
    ap new (get_or-take w.count w.numbers j 0 low) ∙ all j low)

pub returns-clause-done : goal.returns-clause-done
returns-clause-done g c = λ j lt.
    let w = c.args.waiting.now in
    let room = c.requires.waiting.room in
    let long = length-take-le w.count w.numbers (omega (arith, room.numbers, room.few)) in
    subst (λ i. IsJoined g.D.Digester.digest_of c.put_each.new.store c.args.row (i / 2 ^ suc c.args.row)) (get_or-take w.count w.numbers j 0 lt)
    (c.put_each.ensures.done j (omega (arith, lt, long)))
