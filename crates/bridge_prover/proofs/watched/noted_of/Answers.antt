use Rattle.std.proofs.Common.{◌≡◌, length, take, sym, ap, ◌∙◌, arith}
use Rattle.std.specs.Prelude.{not}
use Rattle.std.proofs.lemmas.List.{length-take-le}
use Rattle.bridge_prover.specs.Own.{numbered}
use Rattle.bridge_prover.specs.Watched.{scripts_of}
use Rattle.bridge_prover.proofs.Noting.{noted_more, noted_without}
use Rattle.bridge_prover.proofs.watched.noted_of.Goals as goal

pub loop-i-preserved : goal.loop-i-preserved
loop-i-preserved c =
    let new = c.args.spends.now.new in
    let long : length (take c.loop-i.i new) ≡ c.loop-i.i =
    length-take-le c.loop-i.i new (omega (arith, c.loop-i-test.true, c.new_count-i-end.ensures)) in
    noted_more (scripts_of c.args.watch.now) c.args.n c.loop-i.i new c.new_output.result c.loop-i.numbers.items c.note.new.numbers.items
    c.new_output.ensures long c.loop-i.invariant c.in_ok-note.ensures

pub returns-then-is_none : goal.returns-then-is_none
returns-then-is_none c =
    c.new-numbers.ensures.items ∙ sym (noted_without c.args.watch.now (c.is_none.ensures ∙ ap not c.if-is_none.true)
    (numbered c.args.n c.args.spends.now.new))
