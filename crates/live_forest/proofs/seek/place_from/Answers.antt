use Rattle.std.proofs.Common.{length, sym, ap, ◌∙◌, arith}
use Rattle.forest_place.specs.declared.place.Place.{Place}
use Rattle.forest_place.proofs.Positions.{row_small}
use Rattle.live_forest.proofs.Ascending.{ascent-on, ascent-ends, off-below}
use Rattle.live_forest.specs.Parts.{entries_in}
use Rattle.live_forest.proofs.seek.place_from.Goals as goal

pub risen-ascent-requires-clause-row : goal.risen-ascent-requires-clause-row
risen-ascent-requires-clause-row c = row_small (length (entries_in c.args.n c.args.store.now)) c.ascent.ascent.part.row c.ascent.ascent.part.off 40
    c.ascent.invariant.within c.requires.small

pub risen-ascent-requires-clause-rows : goal.risen-ascent-requires-clause-rows
risen-ascent-requires-clause-rows c =
    let row = row_small (length (entries_in c.args.n c.args.store.now)) c.ascent.ascent.part.row c.ascent.ascent.part.off 40
    c.ascent.invariant.within c.requires.small in
    omega (arith, row, c.ascent.invariant.few)

pub ascent-smaller : goal.ascent-smaller
ascent-smaller c =
    let row = row_small (length (entries_in c.args.n c.args.store.now)) c.ascent.ascent.part.row c.ascent.ascent.part.off 40
    c.ascent.invariant.within c.requires.small in
    let up = ap (λ (p : Place). p.row) c.risen-ascent.ensures.part in
    omega (arith, row, up)

pub ascent-preserved : goal.ascent-preserved
ascent-preserved c =
    let a = c.ascent.ascent in
    let b = c.risen-ascent.result in
    ascent-on (entries_in c.args.n c.args.store.now) c.args.store.now c.requires.alike c.args.place c.has_sibling.result a.part.row a.part.off a.rows
    a.width a.left
    b.rows b.width b.left b.part (sym c.is_root.ensures ∙ c.ascent-test.true) c.has_sibling.ensures c.risen-ascent.ensures.part
    c.risen-ascent.ensures.deeper c.risen-ascent.ensures.same c.ascent.invariant

pub overflow_mul-result : goal.overflow_mul-result
overflow_mul-result c =
    let a = c.ascent.ascent in
    let end = ascent-ends (entries_in c.args.n c.args.store.now) c.args.store.now c.requires.alike c.args.place a.part.row a.part.off a.rows a.width
    a.left
    (sym c.is_root.ensures ∙ c.ascent-test.false) c.ascent.invariant c.requires.within c.requires.some in
    let low = off-below (length (entries_in c.args.n c.args.store.now)) _ _ end.2 in
    omega (arith, low, c.requires.small)

pub overflow_add-result : goal.overflow_add-result
overflow_add-result c =
    let a = c.ascent.ascent in
    let end = ascent-ends (entries_in c.args.n c.args.store.now) c.args.store.now c.requires.alike c.args.place a.part.row a.part.off a.rows a.width
    a.left
    (sym c.is_root.ensures ∙ c.ascent-test.false) c.ascent.invariant c.requires.within c.requires.some in
    let low = off-below (length (entries_in c.args.n c.args.store.now)) _ _ end.2 in
    omega (arith, low, c.requires.small)

pub returns-clause-stands : goal.returns-clause-stands
returns-clause-stands c =
    let a = c.ascent.ascent in
    (ascent-ends (entries_in c.args.n c.args.store.now) c.args.store.now c.requires.alike c.args.place a.part.row a.part.off a.rows a.width a.left
    (sym c.is_root.ensures ∙ c.ascent-test.false) c.ascent.invariant c.requires.within c.requires.some).1

pub returns-clause-within : goal.returns-clause-within
returns-clause-within c =
    let a = c.ascent.ascent in
    (ascent-ends (entries_in c.args.n c.args.store.now) c.args.store.now c.requires.alike c.args.place a.part.row a.part.off a.rows a.width a.left
    (sym c.is_root.ensures ∙ c.ascent-test.false) c.ascent.invariant c.requires.within c.requires.some).2
