use Rattle.std.proofs.Common.{◌∙◌}
use Rattle.std.proofs.lemmas.List.{length-set}
use Rattle.proof_verify.specs.PlaceNodes.{node_from}
use Rattle.uo_digest.specs.Batches.{pair_digest}
use Rattle.proof_verify.specs.Batches.{pairs_for}
use Rattle.proof_verify.specs.declared.place_source.PlaceSource.TheVariants.{Target}
use Rattle.proof_verify.proofs.Queued.{made_front, made_behind, written_more}
use Rattle.proof_verify.proofs.batch.settle.Goals as goal

pub settle_place-requires-clause-made : goal.settle_place-requires-clause-made
settle_place-requires-clause-made g c =
    made_front (pairs_for c.args.below.now c.args.hashes.now) (pair_digest g.D.Digester.digest_of) c.args.sources.now c.loop-i.i (Target 0)
    c.loop-i-test.true c.loop-i.rest.now c.loop-i.invariant.made

pub loop-i-preserved : goal.loop-i-preserved
loop-i-preserved g c =
    let H = g.D.Digester.digest_of in
    let os = c.args.sources.now in
    let i = c.loop-i.i in
    let nodes = c.loop-i.nodes in
    let node = c.settle_place.result.0 in
    let long = c.loop-i.invariant.long in
    let lt = c.loop-i-test.true in
    let f = node_from H c.args.leaves.now c.args.hashes.now c.args.below.now in
    record {
      nodes = written_more f os nodes i (Target 0) node lt long c.loop-i.invariant.nodes c.settle_place.ensures.node;
      made = made_behind (pairs_for c.args.below.now c.args.hashes.now) (pair_digest H) os i (Target 0) lt c.loop-i.rest.now _ c.loop-i.invariant.made
          c.settle_place.ensures.rest;
      long = length-set nodes i node ∙ long;
    }
