use Rattle.std.proofs.Common.{ap, ◌∙◌}
use Rattle.node_rules.specs.Judging.{Rules}
use Rattle.state_text.specs.Cached.{CachedState}
use Rattle.compact_node.proofs.Levels.{made_of, made_same, made_marked}
use Rattle.compact_node.proofs.read.node_of.Goals as goal

pub invariant_of-result-2 : goal.invariant_of-result-2
invariant_of-result-2 g c =
    let rules : Rules = record { net = c.left.inside.net; limits = c.args.limits } in
    made_marked rules c.args.state c.index-newest.result.now c.fill.new.cache.parts c.older.inside.items.items c.chain_of.result c.copy.result
    c.fill.new.cache.watch
    (made_of c.args.state _ _ c.index-newest.result.now c.deref.result.now c.older_of.new.cache.parts c.fill.new.cache.parts c.in_ok-older.older
    c.older.inside.items.items c.chain_of.result c.copy.result c.fill.new.cache.watch
    (c.left.view_is ∙ c.take_watch-watch.ensures.rest) c.deref.ensures.value c.in_ok-older.ensures.marked c.older.view_is c.index-newest.ensures
    c.newest.view_is c.in_ok-fill.ensures.lists c.fill.ensures.kept_room c.fill.ensures.held_room
    c.chain_of.ensures c.copy.ensures (c.fill.ensures.watch
    ∙ (c.older_of.ensures.watch ∙ (c.new-cache.ensures.watch ∙ c.take_watch-watch.ensures.watch))))
    g.D.Digester.digest_of c.requires.state c.requires.filled c.requires.leaves c.requires.bytes

pub returns-clause-same : goal.returns-clause-same
returns-clause-same g c =
    let rules : Rules = record { net = c.left.inside.net; limits = c.args.limits } in
    made_same rules c.args.state c.index-newest.result.now c.fill.new.cache.parts c.older.inside.items.items c.chain_of.result c.copy.result
    c.fill.new.cache.watch
    (made_of c.args.state _ _ c.index-newest.result.now c.deref.result.now c.older_of.new.cache.parts c.fill.new.cache.parts c.in_ok-older.older
    c.older.inside.items.items c.chain_of.result c.copy.result c.fill.new.cache.watch
    (c.left.view_is ∙ c.take_watch-watch.ensures.rest) c.deref.ensures.value c.in_ok-older.ensures.marked c.older.view_is c.index-newest.ensures
    c.newest.view_is c.in_ok-fill.ensures.lists c.fill.ensures.kept_room c.fill.ensures.held_room
    c.chain_of.ensures c.copy.ensures (c.fill.ensures.watch
    ∙ (c.older_of.ensures.watch ∙ (c.new-cache.ensures.watch ∙ c.take_watch-watch.ensures.watch))))
    (ap (λ (x : CachedState). x.net) (c.left.view_is ∙ c.take_watch-watch.ensures.rest))
