use Rattle.std.proofs.Common.{◌≡◌, ◌+◌, ◌-◌, length, refl, ap, ◌∙◌, arith}
use Rattle.std.specs.List.{filter}
use Rattle.output_index.specs.Buckets.{is_own}
use Rattle.output_index.proofs.Bucketed.{split-by, split-own}
use Rattle.output_index.proofs.buckets.split.Goals as goal

pub returns-clause-same : goal.returns-clause-same
returns-clause-same c =
    let list = c.args.list.now.items in
    let count : c.len-count.result ≡ length list = omega (arith, c.len-count.ensures, c.args.list.now.ok.0) in
    split-by c.args.bits c.len-count.result c.power_of_two.result (c.len-count.result - c.power_of_two.result) list c.push.new.self.items
    c.index.result.now c.keep_own.new.self c.index_mut.result.now c.keep_own-2.new.self
    count c.power_of_two.ensures.is refl c.requires.least c.requires.most c.index.ensures c.in_ok-push.ensures.items c.index_mut.ensures.value
    (c.keep_own.ensures ∙ ap (filter (is_own c.args.bits (c.len-count.result + 1) c.len-count.result)) c.copied-added.ensures)
    c.keep_own-2.ensures

pub returns-clause-own : goal.returns-clause-own
returns-clause-own c =
    let list = c.args.list.now.items in
    let count : c.len-count.result ≡ length list = omega (arith, c.len-count.ensures, c.args.list.now.ok.0) in
    split-own c.args.bits c.len-count.result c.power_of_two.result (c.len-count.result - c.power_of_two.result) list c.push.new.self.items
    c.index.result.now c.keep_own.new.self c.index_mut.result.now c.keep_own-2.new.self
    count c.power_of_two.ensures.is refl c.requires.least c.in_ok-push.ensures.items
    (c.keep_own.ensures ∙ ap (filter (is_own c.args.bits (c.len-count.result + 1) c.len-count.result)) c.copied-added.ensures)
    c.keep_own-2.ensures
