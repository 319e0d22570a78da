use Rattle.std.proofs.Common.{[], Some, None, map, sym, ap, ◌∙◌, refl, arith}
use Rattle.std.proofs.lemmas.Bool.{false≢true}
use Rattle.std.proofs.lemmas.List.{take_all}
use Rattle.std.proofs.lemmas.Option.{slice_get-get_or}
use Rattle.uo_digest.specs.declared.digest.Digest.{Digest}
use Rattle.bridge_prover.proofs.Righted.{hash-more, hash-other}
use Rattle.bridge_prover.proofs.shown.do_hashes_stand.Goals as goal

pub returns-then-not-stands : goal.returns-then-not-stands
returns-then-not-stands c =
    let none : Digest = record { 0 = [] } in (
      λ t. absurd (false≢true t),
      λ same. absurd (hash-other _ _ c.loop-i.i _ _ (slice_get-get_or c.args.hashes.now c.loop-i.i none c.loop-i-test.true)
          (slice_get-get_or c.args.found.now c.loop-i.i None (omega (arith, c.loop-i-test.true, c.requires)))
          (λ e. (let t = c.if-not-stands.ensures.1 e in cc)) same),
    )

pub loop-i-preserved : goal.loop-i-preserved
loop-i-preserved c =
    let none : Digest = record { 0 = [] } in
    hash-more _ _ c.loop-i.i _ (slice_get-get_or c.args.hashes.now c.loop-i.i none c.loop-i-test.true)
    (slice_get-get_or c.args.found.now c.loop-i.i None (omega (arith, c.loop-i-test.true, c.requires)) ∙ ap Some (c.if-not-stands.ensures.0 refl))
    c.loop-i.invariant

pub returns : goal.returns
returns c = (
  λ t. ap (map Some) (sym (take_all c.loop-i.i c.args.hashes.now (omega (arith, c.loop-i-test.false)))) ∙ (c.loop-i.invariant
      ∙ take_all c.loop-i.i c.args.found.now (omega (arith, c.loop-i-test.false, c.requires))),
  λ same. refl,
)
