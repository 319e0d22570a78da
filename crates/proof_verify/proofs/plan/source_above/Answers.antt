use Rattle.std.proofs.Common.{◌≡◌, true, false, refl, sym, ◌∙◌, arith}
use Rattle.std.proofs.lemmas.Bool.{false≢true}
use Rattle.forest_place.specs.Places.{place_in}
use Rattle.proof_shape.specs.Survey.{is_top}
use Rattle.proof_shape.proofs.Ordered.{has_at}
use Rattle.proof_verify.proofs.Links.{rank_top, rank_small, even_paired, even_alone, odd_paired, odd_alone}
use Rattle.proof_verify.proofs.plan.source_above.Goals as goal

pub is_root-requires-clause-within : goal.is_root-requires-clause-within
is_root-requires-clause-within c =
    let p = place_in c.args.covered.now c.args.i in
    c.requires.within p.row p.off (has_at c.args.covered.now c.args.i (record { row = 0; off = 0 }) c.requires.index)

pub returns-then-is_root : goal.returns-then-is_root
returns-then-is_root c =
    let top : is_top c.args.n (place_in c.args.covered.now c.args.i) ≡ true = sym c.is_root.ensures ∙ c.if-is_root.true in
    (top, c.requires.rank ∙ rank_top c.args.n c.args.covered.now c.args.i c.requires.index top)

pub overflow_add-result-in-true-false : goal.overflow_add-result-in-true-false
overflow_add-result-in-true-false c =
    let z = rank_small c.args.n c.args.covered.now c.args.i c.requires.small c.requires.within c.requires.rises c.requires.index in
    let e = c.requires.rank in omega (arith, z, e)

pub overflow_add-result-in-false-false : goal.overflow_add-result-in-false-false
overflow_add-result-in-false-false c =
    let z = rank_small c.args.n c.args.covered.now c.args.i c.requires.small c.requires.within c.requires.rises c.requires.index in
    let e = c.requires.rank in omega (arith, z, e)

pub returns-in-true-true : goal.returns-in-true-true
returns-in-true-true c =
    let other : is_top c.args.n (place_in c.args.covered.now c.args.i) ≡ false = sym c.is_root.ensures ∙ c.if-is_root.false in
    even_paired c.args.n c.args.covered.now c.args.i c.requires.index c.requires.rises c.args.rank c.requires.rank c.sibling.result
    c.sibling.ensures.row c.sibling.ensures.off other (sym c.side.ensures.is ∙ c.in-true-true.is-0) (c.in-true-true.ensures.0 refl)

pub returns-in-true-false : goal.returns-in-true-false
returns-in-true-false c =
    let other : is_top c.args.n (place_in c.args.covered.now c.args.i) ≡ false = sym c.is_root.ensures ∙ c.if-is_root.false in
    even_alone c.args.n c.args.covered.now c.args.i c.requires.index c.requires.rises c.args.rank c.requires.rank c.sibling.result
    c.sibling.ensures.row c.sibling.ensures.off other (sym c.side.ensures.is ∙ c.in-true-false.is-0) (λ near. false≢true (c.in-true-false.ensures.1 near))

pub returns-in-false-true : goal.returns-in-false-true
returns-in-false-true c =
    let other : is_top c.args.n (place_in c.args.covered.now c.args.i) ≡ false = sym c.is_root.ensures ∙ c.if-is_root.false in
    odd_paired c.args.n c.args.covered.now c.args.i c.requires.index c.requires.rises c.args.rank c.requires.rank c.sibling.result
    c.sibling.ensures.row c.sibling.ensures.off other (λ e. c.in-false-true.is-0 (c.side.ensures.is ∙ e)) (c.in-false-true.ensures.0 refl)

pub returns-in-false-false : goal.returns-in-false-false
returns-in-false-false c =
    let other : is_top c.args.n (place_in c.args.covered.now c.args.i) ≡ false = sym c.is_root.ensures ∙ c.if-is_root.false in
    odd_alone c.args.n c.args.covered.now c.args.i c.requires.index c.requires.rises c.args.rank c.requires.rank c.sibling.result
    c.sibling.ensures.row c.sibling.ensures.off other (λ e. c.in-false-false.is-0 (c.side.ensures.is ∙ e))
    (λ near. false≢true (c.in-false-false.ensures.1 near))
