use Rattle.std.proofs.Common.{◌≡◌, ◌-◌, ◌<◌, get_or, refl, ap, inl, inr, ⊎_elim, arith, eq-eqb}
use Rattle.std.specs.Prelude.{◌==◌}
use Rattle.std.proofs.lemmas.Bool.{cases_lt}
use Rattle.std.proofs.lemmas.List.Folds.{list_any_at}
use Rattle.std.proofs.lemmas.List.Kept.{AllPairs-from_increasing}
use Rattle.proof_shape.proofs.Ordered.{past_has}
use Rattle.proof_shape.proofs.Ends.{alike_more, end_has, all_alike, last_lacked}
use Rattle.proof_shape.proofs.leaving.last_gone.Goals as goal
use Rattle.proof_shape.proofs.leaving.last_gone.Goals.{then-loop-i-test+then-j-gt0+else-covered-i, then-loop-i-test+else-j-gt0, else-loop-i-test}

pub loop-i-preserved : goal.loop-i-preserved
loop-i-preserved c = record {
  low = omega (arith, c.loop-i.invariant.low);
  kept_low = omega (arith, c.loop-i.invariant.kept_low);
  ends = alike_more c.args.covered.now c.args.kept.now c.loop-i.i c.loop-i.j c.loop-i.invariant.ends c.loop-i-test.true c.if-j-gt0.true
      c.if-covered-i.true;
}

pub returns-then-i-eq0-clause-lacked : goal.returns-then-i-eq0-clause-lacked
returns-then-i-eq0-clause-lacked c =
    inr (all_alike c.args.covered.now c.args.kept.now c.loop-i.i c.loop-i.j c.loop-i.invariant.ends c.if-i-eq0.true, refl)

pub returns-then-i-eq0-clause-past : goal.returns-then-i-eq0-clause-past
returns-then-i-eq0-clause-past c =
    λ number lt there. all_alike c.args.covered.now c.args.kept.now c.loop-i.i c.loop-i.j c.loop-i.invariant.ends c.if-i-eq0.true number there

pub returns-else-i-eq0-clause-lacked : goal.returns-else-i-eq0-clause-lacked
returns-else-i-eq0-clause-lacked c =
    let xs = c.args.covered.now in
    let i = c.loop-i.i in
    let low = c.loop-i.invariant.low in
    let there = list_any_at (λ y. y == get_or xs (i - 1) 0) xs (i - 1) 0 (omega (arith, low, c.if-i-eq0.false))
    (eq-eqb (get_or xs (i - 1) 0) (get_or xs (i - 1) 0) refl) in
    let differ : 0 < c.loop-i.j → get_or xs (i - 1) 0 ≡ get_or c.args.kept.now (c.loop-i.j - 1) 0 → ⊥ = λ some same.
    elim c.loop-i-test.branch [
      | then-loop-i-test+then-j-gt0+else-covered-i w ↦ w.if-covered-i.false same
      | then-loop-i-test+else-j-gt0 w ↦ omega (arith, w.if-j-gt0.false, some)
      | else-loop-i-test w ↦ omega (arith, w.loop-i-test.false, c.if-i-eq0.false)
    ] in
    let lacked = last_lacked xs c.args.kept.now i c.loop-i.j c.loop-i.invariant.ends c.requires (omega (arith, c.if-i-eq0.false)) differ in
    inl (there, lacked)

pub returns-else-i-eq0-clause-past : goal.returns-else-i-eq0-clause-past
returns-else-i-eq0-clause-past c =
    let xs = c.args.covered.now in
    let i = c.loop-i.i in
    past_has xs c.args.kept.now i _ (end_has xs c.args.kept.now i c.loop-i.j c.loop-i.invariant.ends) (λ k lt past.
    ⊎_elim
    (λ below. ⊎_elim
    (λ before. let up = AllPairs-from_increasing xs c.requires.rises k (i - 1) 0 before (omega (arith, c.loop-i.invariant.low, c.if-i-eq0.false)) in
    absurd (omega (arith, up, past)))
    (λ on. let same : k ≡ i - 1 = omega (arith, on, below) in let at = ap (λ m. get_or xs m 0) same in absurd (omega (arith, at, past)))
    (cases_lt k (i - 1)))
    (λ on. on)
    (cases_lt k i))
