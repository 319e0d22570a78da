use Rattle.std.proofs.Common.{[], sym, ap, ◌∙◌, slice_index_or}
use Rattle.std.specs.Prelude.{is_some}
use Rattle.block_rules.specs.Steps.{unless}
use Rattle.block_rules.specs.declared.chain.Outside.{Outside}
use Rattle.block_rules.specs.declared.refusal.Refusal.TheVariants as Why
use Rattle.output_index.specs.Held.{newest}
use Rattle.node_rules.specs.Messages.{point_of}
use Rattle.bridge_prover.specs.Own.{missing_in}
use Rattle.bridge_prover.proofs.Gathering.{answered_more, made_at, first_more, first_here}
use Rattle.bridge_prover.proofs.find.numbers_of.Goals as goal

abbrev none : Outside
none = record { tx = 0; input = 0; txid = record { 0 = [] }; index = 0 }

pub returns-in_default-clause-err : goal.returns-in_default-clause-err
returns-in_default-clause-err c =
    let hs = c.args.outputs.now in
    let ext = c.args.external.now in
    let i = c.loop-i.i in
    let at = slice_index_or ext i none in
    let told = made_at point_of (λ p. newest p hs) ext c.deref.result.now c.in_ok-newest.newest.items i none c.index.result.now c.loop-i-test.true
    (c.deref.ensures.value ∙ c.in_ok-names.ensures) c.in_ok-newest.ensures in
    sym c.loop-i.invariant.left
    ∙ first_here (missing_in hs) ext i none (Why.Missing at.tx at.input) c.loop-i-test.true
    (ap (λ r. unless (is_some r) (Why.Missing at.tx at.input)) (sym told ∙ (sym c.index.ensures ∙ c.in_default.is)))

pub loop-i-preserved : goal.loop-i-preserved
loop-i-preserved c =
    let hs = c.args.outputs.now in
    let ext = c.args.external.now in
    let i = c.loop-i.i in
    let at = slice_index_or ext i none in
    let told = made_at point_of (λ p. newest p hs) ext c.deref.result.now c.in_ok-newest.newest.items i none c.index.result.now c.loop-i-test.true
    (c.deref.ensures.value ∙ c.in_ok-names.ensures) c.in_ok-newest.ensures in
    let here = sym told ∙ (sym c.index.ensures ∙ c.in-Some.is) in
    record {
      found = answered_more (λ o. newest (point_of o) hs) ext i none c.in-Some.number _ _ c.loop-i-test.true here c.loop-i.invariant.found
          c.in_ok-push.ensures.items;
      left = sym (first_more (missing_in hs) ext i none c.loop-i-test.true (ap (λ r. unless (is_some r) (Why.Missing at.tx at.input)) here))
          ∙ c.loop-i.invariant.left;
    }
