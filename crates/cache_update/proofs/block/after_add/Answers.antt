use Rattle.std.proofs.Common.{List, length, ◌^◌, ◌<◌, suc, ap, ◌∙◌, is_some, arith}
use Rattle.forest_model.proofs.Adding.{all_slots_small}
use Rattle.forest_roots.specs.declared.joins.Join.{Join}
use Rattle.cache_model.specs.Lists.{leaves_more}
use Rattle.leaf_cache.specs.Parted.{Parted}
use Rattle.cache_update.specs.Joins.{is_empty_of, added_by}
use Rattle.cache_update.proofs.Changed.{added_stands_by}
use Rattle.cache_update.proofs.block.after_add.Goals as goal

pub add_in-requires-clause-forty : goal.add_in-requires-clause-forty
add_in-requires-clause-forty g c =
    let low = all_slots_small c.args.n (length c.args.joins.now) 40 c.requires.slots (let z : suc c.args.n < 2 ^ 40 = omega (arith, c.requires.few) in
    z) in
    let same = ap length c.list.ensures in
    omega (arith, low, same)

pub returns-clause-stands : goal.returns-clause-stands
returns-clause-stands g c = λ H scripts us u f count stands digest joins free leaf cache.
    added_stands_by H scripts us u f c.args.joins.now c.args.n c.args.digest c.args.leaf c.args.cache.now.parts.kept c.add_in.new.parts.kept
    c.args.cache.now.parts.held c.add_in.new.parts.held
    count stands digest joins free c.requires.slots leaf cache
    (c.add_in.ensures.kept ∙ (ap (λ (js : List Join). leaves_more (is_empty_of js) c.args.n (length js) c.args.leaf c.args.digest
    c.parts.result.now.kept) c.list.ensures
    ∙ ap (λ (p : Parted). leaves_more (is_empty_of c.args.joins.now) c.args.n (length c.args.joins.now) c.args.leaf c.args.digest p.kept)
    c.parts.ensures.value))
    (c.add_in.ensures.held ∙ (ap (λ (js : List Join). added_by js c.args.digest c.args.n (is_some c.args.leaf) c.parts.result.now.held) c.list.ensures
    ∙ ap (λ (p : Parted). added_by c.args.joins.now c.args.digest c.args.n (is_some c.args.leaf) p.held) c.parts.ensures.value))
