use Rattle.std.proofs.Common.{sym, ap, ◌∙◌, ◌≡◌, ◌++◌, arith, ◌∷◌, length}
use Rattle.std.specs.BTreeSet as set
use Rattle.tx_codec.specs.Views.{input_of}
use Rattle.block_rules.specs.Blocks.{placed_from}
use Rattle.block_rules.specs.Rules.{double}
use Rattle.block_rules.specs.Keys.{key_cmp}
use Rattle.block_rules.proofs.Keyed.{was_there, was_absent}
use Rattle.block_rules.proofs.Doubles.{seen_here, seen_on}
use Rattle.block_rules.proofs.double.first_seen.Goals as goal

pub loop-input-init : goal.loop-input-init
loop-input-init c =
    let e : c.into_iter-input-iterator.result ≡ c.args.tx.now.inputs = c.into_iter-input-iterator.ensures.into_iter_gives
    ∙ c.inputs-input-items.ensures.value in
    record {
      at = rw e (omega arith);
      reaches = λ t before more has. record { points = before; has = has; same = ap (λ xs. double before (placed_from t 0 xs ++ more)) (sym e) };
    }

pub returns-then-not-branch : goal.returns-then-not-branch
returns-then-not-branch c = λ t before more has.
    let e : c.loop-input.input-iterator ≡ input_of c.in-Some.input ∷ c.next.new.self = c.in-Some.ensures.steps in
    let was = was_there c.in_ok-insert.field-0 (set.contains key_cmp c.loop-input.seen c.key_of_input.result) c.in_ok-insert.ensures.added
    c.if-not-branch.true in
    seen_here t c.loop-input.i before _ more _ _ _ _ _ e c.key_of_input.ensures (c.loop-input.invariant.reaches t before more has) was

pub loop-input-preserved : goal.loop-input-preserved
loop-input-preserved c =
    let e : c.loop-input.input-iterator ≡ input_of c.in-Some.input ∷ c.next.new.self = c.in-Some.ensures.steps in
    let was = was_absent c.in_ok-insert.field-0 (set.contains key_cmp c.loop-input.seen c.key_of_input.result) c.in_ok-insert.ensures.added
    c.if-not-branch.false in
    let long = ap length e in
    record {
      at = omega (arith, c.loop-input.invariant.at, long);
      reaches = λ t before more has. seen_on t c.loop-input.i before _ more _ _ _ _ _ e c.key_of_input.ensures
          (c.loop-input.invariant.reaches t before more has) c.insert.new.self was c.in_ok-insert.ensures.updates;
    }
