use Rattle.std.proofs.Common.{◌≡◌, ◌+◌, ◌++◌, length, take, sym, ap, ◌∙◌, subst, arith}
use Rattle.std.proofs.lemmas.List.{length-take-le}
use Rattle.output_index.specs.Held.{IsAbove, is_live}
use Rattle.bridge_prover.specs.Own.{numbered, cut_in}
use Rattle.bridge_prover.proofs.Indexing.{above-numbered, live-numbered, cut_added, inserted_more}
use Rattle.bridge_prover.proofs.held.insert_all.Goals as goal

pub insert-requires-clause-above : goal.insert-requires-clause-above
insert-requires-clause-above c =
    let new = c.args.spends.now.new in
    let long : length (take c.loop-i.i new) ≡ c.loop-i.i =
    length-take-le c.loop-i.i new (omega (arith, c.loop-i-test.true, c.new_count-i-end.ensures)) in
    subst (IsAbove (c.args.n + c.loop-i.i)) (sym c.loop-i.invariant)
    (subst (λ k. IsAbove (c.args.n + k) (c.args.outputs.now ++ numbered c.args.n (take c.loop-i.i new))) long
    (above-numbered c.args.n (take c.loop-i.i new) c.args.outputs.now c.requires.above))

pub loop-i-preserved : goal.loop-i-preserved
loop-i-preserved c =
    let new = c.args.spends.now.new in
    let long : length (take c.loop-i.i new) ≡ c.loop-i.i =
    length-take-le c.loop-i.i new (omega (arith, c.loop-i-test.true, c.new_count-i-end.ensures)) in
    let w = c.in-Ok.ensures.ok in
    inserted_more c.args.n c.loop-i.i new w.0 c.args.outputs.now c.loop-i.outputs c.insert.new.outputs w.1 long c.loop-i.invariant w.2

pub cut-requires-clause-live : goal.cut-requires-clause-live
cut-requires-clause-live c =
    let new = c.args.spends.now.new in
    let long : length (take c.loop-i.i new) ≡ c.loop-i.i =
    length-take-le c.loop-i.i new (omega (arith, c.loop-i-test.true, c.new_count-i-end.ensures)) in
    λ j le lt. ap (is_live j) (c.in_default.ensures.err ∙ c.loop-i.invariant)
    ∙ live-numbered c.args.n j (take c.loop-i.i new) c.args.outputs.now le (omega (arith, lt, long))

pub cut-requires-clause-above : goal.cut-requires-clause-above
cut-requires-clause-above c =
    let new = c.args.spends.now.new in
    let long : length (take c.loop-i.i new) ≡ c.loop-i.i =
    length-take-le c.loop-i.i new (omega (arith, c.loop-i-test.true, c.new_count-i-end.ensures)) in
    subst (IsAbove (c.args.n + c.loop-i.i)) (sym (c.in_default.ensures.err ∙ c.loop-i.invariant))
    (subst (λ k. IsAbove (c.args.n + k) (c.args.outputs.now ++ numbered c.args.n (take c.loop-i.i new))) long
    (above-numbered c.args.n (take c.loop-i.i new) c.args.outputs.now c.requires.above))

pub returns-in_default-clause-err : goal.returns-in_default-clause-err
returns-in_default-clause-err c =
    c.cut.ensures ∙ (ap (cut_in c.args.n) (c.in_default.ensures.err ∙ c.loop-i.invariant)
    ∙ cut_added c.args.n (take c.loop-i.i c.args.spends.now.new) c.args.outputs.now c.requires.above)
