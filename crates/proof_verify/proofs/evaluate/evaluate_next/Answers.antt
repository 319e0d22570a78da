use Rattle.std.proofs.Common.{◌≡◌, ◌+◌, List, length, take, sym, ap, subst, arith}
use Rattle.std.specs.Prelude.{count_by}
use Rattle.std.proofs.lemmas.List.{length-take-le}
use Rattle.proof_verify.specs.PlaceNodes.{is_inner}
use Rattle.proof_verify.specs.Batches.{batch_at, AreWithin}
use Rattle.proof_verify.specs.declared.place_source.PlaceSource.{PlaceSource}
use Rattle.proof_verify.proofs.Batched.{batch_few, batch_within, batch_some, batch_can, batch_counted, evaluated_on}
use Rattle.proof_verify.proofs.evaluate.evaluate_next.Goals as goal

pub slice_bounds-evaluate_batch-end : goal.slice_bounds-evaluate_batch-end
slice_bounds-evaluate_batch-end g c =
    let lt = c.requires.left in
    let some : length c.next_batch-batch.result.now ≡ length (batch_at c.args.sources.now c.args.made) = ap length c.next_batch-batch.ensures in
    let within = batch_within c.args.sources.now c.args.made (omega (arith, lt)) in
    let left = c.split_at_mut-below.ensures.back_len in
    let long = c.requires.made.long in
    omega (arith, some, within, left, long)

pub slice_bounds-evaluate_batch-end-2 : goal.slice_bounds-evaluate_batch-end-2
slice_bounds-evaluate_batch-end-2 g c =
    let lt = c.requires.left in
    let some : length c.next_batch-batch.result.now ≡ length (batch_at c.args.sources.now c.args.made) = ap length c.next_batch-batch.ensures in
    let within = batch_within c.args.sources.now c.args.made (omega (arith, lt)) in
    let left = c.split_at_mut-below.ensures.back_len in
    let long = c.requires.made.long in
    sym (length-take-le (length c.next_batch-batch.result.now) c.split_at_mut-below.result.1.now (omega (arith, some, within, left, long)))

pub evaluate_batch-requires-clause-within : goal.evaluate_batch-requires-clause-within
evaluate_batch-requires-clause-within g c =
    let leaves = length c.args.leaves.now in
    let hashes = length c.args.hashes.now in
    subst (λ n. AreWithin n leaves hashes c.next_batch-batch.result.now) (sym c.split_at_mut-below.ensures.front_len)
    (subst (λ (l : List PlaceSource). AreWithin c.args.made leaves hashes l) (sym c.next_batch-batch.ensures)
    (batch_can c.args.sources.now c.args.made leaves hashes c.requires.can))

pub evaluate_batch-requires-clause-few : goal.evaluate_batch-requires-clause-few
evaluate_batch-requires-clause-few g c =
    let some : length c.next_batch-batch.result.now ≡ length (batch_at c.args.sources.now c.args.made) = ap length c.next_batch-batch.ensures in
    let few = batch_few c.args.sources.now c.args.made in
    omega (arith, some, few)

pub evaluate_batch-requires-clause-long : goal.evaluate_batch-requires-clause-long
evaluate_batch-requires-clause-long g c =
    let lt = c.requires.left in
    let some : length c.next_batch-batch.result.now ≡ length (batch_at c.args.sources.now c.args.made) = ap length c.next_batch-batch.ensures in
    let within = batch_within c.args.sources.now c.args.made (omega (arith, lt)) in
    let left = c.split_at_mut-below.ensures.back_len in
    let long = c.requires.made.long in
    length-take-le (length c.next_batch-batch.result.now) c.split_at_mut-below.result.1.now (omega (arith, some, within, left, long))

pub returns-clause-more : goal.returns-clause-more
returns-clause-more g c =
    let some : length c.next_batch-batch.result.now ≡ length (batch_at c.args.sources.now c.args.made) = ap length c.next_batch-batch.ensures in
    let first = batch_some c.args.sources.now c.args.made (length c.args.leaves.now) (length c.args.hashes.now) c.requires.can c.requires.left in
    omega (arith, some, first)

pub returns-clause-nodes : goal.returns-clause-nodes
returns-clause-nodes g c =
    evaluated_on g.D.Digester.digest_of c.args.sources.now c.args.leaves.now c.args.hashes.now c.args.made c.next_batch-batch.result.now
    c.args.nodes.now c.split_at_mut-below.result.0.now c.evaluate_batch.new.nodes c.split_at_mut-below.result.1.now
    c.requires.can c.requires.left c.requires.made
    c.next_batch-batch.ensures c.split_at_mut-below.ensures.front c.evaluate_batch.ensures.nodes c.split_at_mut-below.ensures.back_len

pub returns-clause-steps : goal.returns-clause-steps
returns-clause-steps g c =
    let os = c.args.sources.now in
    let made = c.args.made in
    let some = c.evaluate_batch.ensures.steps in
    let counted : count_by is_inner (take (made + length c.next_batch-batch.result.now) os)
    ≡ count_by is_inner (take made os) + count_by is_inner c.next_batch-batch.result.now =
    subst (λ (l : List PlaceSource). count_by is_inner (take (made + length l) os) ≡ count_by is_inner (take made os) + count_by is_inner l)
    (sym c.next_batch-batch.ensures) (batch_counted os made) in
    omega (arith, some, counted)
