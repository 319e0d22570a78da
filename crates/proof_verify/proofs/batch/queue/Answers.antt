use Rattle.std.proofs.Common.{◌+◌, ◌*◌, ◌≤◌, List, ◌++◌, length, take, flat_map, sym, ap, ◌∙◌, subst, arith}
use Rattle.std.specs.Prelude.{count_by}
use Rattle.std.proofs.lemmas.List.{length-append, take_all}
use Rattle.uo_digest.specs.declared.digest.Digest.{Digest}
use Rattle.proof_verify.specs.PlaceNodes.{is_inner}
use Rattle.proof_verify.specs.PlaceSources.{source_at}
use Rattle.proof_verify.specs.Batches.{pairs_for}
use Rattle.proof_verify.specs.declared.place_source.PlaceSource.{PlaceSource}
use Rattle.proof_verify.specs.declared.place_source.PlaceSource.TheVariants.{Target}
use Rattle.proof_verify.proofs.Queued.{two_for, queued_more, one_inner, queued_few}
use Rattle.proof_verify.proofs.batch.queue.Goals as goal

pub loop-i-preserved : goal.loop-i-preserved
loop-i-preserved c =
    let i = c.loop-i.i in
    let os = c.args.sources.now in
    let f = pairs_for c.args.below.now c.args.hashes.now in
    let old = flat_map f (take i os) in
    let more = queued_more f (λ (p : Digest × Digest). p) os i (Target 0) c.loop-i-test.true in
    let here = two_for c.args.below.now c.args.hashes.now (source_at os i) in
    let most = one_inner (source_at os i) in
    let count = c.queue_place-count.ensures.count in
    let few = c.loop-i.invariant.few in
    record {
      pairs = c.queue_place-count.ensures.pairs ∙ (ap (λ (l : List (Digest × Digest)). l ++ f (source_at os i)) c.loop-i.invariant.pairs ∙ sym more);
      count = count
          ∙ (ap (λ n. n + length (f (source_at os i))) c.loop-i.invariant.count
          ∙ (sym (length-append old (f (source_at os i))) ∙ ap length (sym more)));
      few = omega (arith, count, few, here, most);
      long = c.queue_place-count.ensures.long ∙ c.loop-i.invariant.long;
    }

pub returns-clause-few : goal.returns-clause-few
returns-clause-few c =
    let os = c.args.sources.now in
    let count = c.loop-i.invariant.count in
    let few = queued_few c.args.below.now c.args.hashes.now (take c.loop-i.i os) in
    subst (λ (l : List PlaceSource). c.loop-i.count ≤ 2 * count_by is_inner l) (take_all c.loop-i.i os c.loop-i-test.false)
    (omega (arith, count, few))
