use Rattle.std.proofs.lemmas.Bool.{OnTrue_at}
use Rattle.cache_update.specs.Marks.{pairs_within}
use Rattle.compact_node.proofs.Deciding.{on_ok}
use Rattle.compact_node.proofs.Unmoved.{unwatched_kept, unwatched_held}
use Rattle.compact_node.proofs.grow.grow.Goals as goal

pub grow_unwatched-requires-clause-nothing : goal.grow_unwatched-requires-clause-nothing
grow_unwatched-requires-clause-nothing g c = (OnTrue_at c.if-watches_nothing.true c.watches_nothing.ensures).1

pub returns-then-watches_nothing-clause-kept : goal.returns-then-watches_nothing-clause-kept
returns-then-watches_nothing-clause-kept g c =
    let none = OnTrue_at c.if-watches_nothing.true c.watches_nothing.ensures in
    let t = c.args.targets.now in
    on_ok c.grow_unwatched.result c.grow_unwatched.ensures.roots
    (λ _. unwatched_kept g.D.Digester.digest_of c.args.cache.now.watch c.args.roots.now c.args.spends.now.new t.leaves t.targets
    c.args.cache.now.parts.kept _ c.args.cache.now.parts.held c.grow_unwatched.new.cache.parts.held none.0 none.1.0 none.1.1
    c.grow_unwatched.ensures.lists.0)

pub returns-then-watches_nothing-clause-held : goal.returns-then-watches_nothing-clause-held
returns-then-watches_nothing-clause-held g c =
    let none = OnTrue_at c.if-watches_nothing.true c.watches_nothing.ensures in
    let t = c.args.targets.now in
    on_ok c.grow_unwatched.result c.grow_unwatched.ensures.roots
    (λ _. unwatched_held g.D.Digester.digest_of c.args.cache.now.watch c.args.roots.now c.args.spends.now.new t.leaves t.targets
    c.args.cache.now.parts.kept c.grow_unwatched.new.cache.parts.kept c.args.cache.now.parts.held _ none.0 none.1.0 none.1.1
    (pairs_within t.leaves c.args.changes.now) c.grow_unwatched.ensures.lists.1)
