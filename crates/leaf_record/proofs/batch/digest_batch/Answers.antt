use Rattle.std.proofs.Common.{◌++◌, ◌∙◌, take, drop}
use Rattle.uo_digest.proofs.BatchLemmas.{put_part}
use Rattle.leaf_record.specs.Leaf.{tag, leaf_text}
use Rattle.leaf_record.proofs.BatchLaws.{cut_texts, digests_behind}
use Rattle.leaf_record.proofs.batch.digest_batch.Goals as goal

pub returns-clause-given : goal.returns-clause-given
returns-clause-given g c =
    let leaves = g.S.Leaves.leaves c.args.leaves.now in
    let count = c.put_texts-count.result in
    let digest = g.D.Digester.digest_of in
    let texts = cut_texts _ _ _ _ count _ (take count (drop c.args.from leaves)) c.split_at.ensures.front c.split_at.ensures.front_len
    c.cut-texts.ensures c.put_texts-count.ensures.texts c.split_at-2.ensures.front in
    put_part (λ leaf. digest (leaf_text leaf)) leaves c.args.out.now c.args.from count c.digest_each_behind.new.out _
    c.put_texts-count.ensures.within c.requires.before
    (c.digest_each_behind.ensures.value (tag ++ tag) c.requires.tags
    ∙ digests_behind digest c.split_at-2.result.0.now (take count (drop c.args.from leaves)) texts)
