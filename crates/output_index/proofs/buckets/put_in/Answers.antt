use Rattle.std.proofs.Common.{◌≡◌, ◌<◌, length, ap, ◌∙◌, arith}
use Rattle.output_index.specs.Buckets.{bucket_of}
use Rattle.output_index.proofs.Bucketed.{put-at, put-others-at}
use Rattle.output_index.proofs.buckets.put_in.Goals as goal

pub returns-clause-put : goal.returns-clause-put
returns-clause-put c =
    let list = c.args.list.now.items in
    let at = c.bucket_of-at.result in
    let count : c.len.result ≡ length list = omega (arith, c.len.ensures, c.args.list.now.ok.0) in
    let within : at < length list = omega (arith, c.if-at-len.false, c.len-2.ensures, c.args.list.now.ok.0) in
    put-at c.try_put.result c.args.bits c.args.mark c.args.number list c.index_mut.result.now c.try_put.new.self at
    (c.bucket_of-at.ensures ∙ ap (λ n. bucket_of c.args.bits n c.args.mark) count) within c.index_mut.ensures.value c.try_put.ensures.put
    c.requires.none

pub returns-clause-others : goal.returns-clause-others
returns-clause-others c =
    let list = c.args.list.now.items in
    let at = c.bucket_of-at.result in
    let within : at < length list = omega (arith, c.if-at-len.false, c.len-2.ensures, c.args.list.now.ok.0) in
    put-others-at c.try_put.result c.args.bits c.args.mark c.args.number list c.index_mut.result.now c.try_put.new.self at within
    c.index_mut.ensures.value c.try_put.ensures.put c.try_put.ensures.full
