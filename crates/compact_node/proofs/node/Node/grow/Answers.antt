use Rattle.std.proofs.Common.{◌≡◌, ℕ, ◌+◌, refl, sym, ap, ◌∙◌, subst}
use Rattle.block_rules.specs.declared.chain.Chain.{Chain}
use Rattle.node_rules.specs.Judging.{Rules}
use Rattle.cache_update.specs.Refused.{IsOfForest}
use Rattle.compact_node.specs.Node.{LevelState, NodeState, IsNode, with_level}
use Rattle.compact_node.specs.Judged.{level_grown}
use Rattle.compact_node.specs.Marked.{PastState, node_of}
use Rattle.compact_node.proofs.Grown.{grown_level}
use Rattle.compact_node.proofs.Marks.{same_marked, pushed_node, pushed_marks}
use Rattle.compact_node.proofs.node.Node.grow.Goals as goal

pub grow-requires-clause-forest : goal.grow-requires-clause-forest
grow-requires-clause-forest g c =
    let i = c.self.inside in
    let lists = c.self.invariant.node.newest.lists in
    let same : i.roots.leaves ≡ c.args.roots.now.leaves = ap (λ (s : NodeState). s.newest.roots.leaves) c.self.view_is ∙ sym c.requires.same in
    subst (λ (n : ℕ). IsOfForest n i.cache.parts) same (record { numbers = lists.numbers; shape = lists.shape; held = lists.held })

pub invariant_of-self : goal.invariant_of-self
invariant_of-self g c =
    let i = c.self.inside in
    same_marked (record { net = i.net; limits = i.limits }) i.cache.watch c.grow.new.cache.watch i.chain i.roots i.cache.parts c.grow.new.cache.parts
    i.older c.grow.ensures.watch c.in_err-mark.ensures.stays c.grow.ensures.kept_room
    c.grow.ensures.held_room c.self.invariant

pub invariant_of-self-2 : goal.invariant_of-self-2
invariant_of-self-2 g c =
    let i = c.self.inside in
    let H = g.D.Digester.digest_of in
    let rules : Rules = record { net = i.net; limits = i.limits } in
    let chain : Chain = record { blocks = i.chain.blocks + 1; tip = c.args.hash; leaves = c.leaves.result } in
    let x : PastState = record { chain = i.chain; roots = c.in_ok-before.before; mark = c.in_ok-mark.mark } in
    let before = node_of rules i.cache.watch i.chain i.roots i.cache.parts i.older in
    let leaves : before.newest.roots.leaves ≡ c.args.self.now.newest.roots.leaves = ap (λ (s : NodeState). s.newest.roots.leaves) c.self.view_is in
    let level = grown_level H i.cache.watch before.newest c.args.hash c.args.targets.now.leaves c.args.targets.now.targets
    c.args.changes.now c.args.roots.now c.args.spends.now.new chain c.leaves.result c.set.new.self
    c.grow.new.roots c.grow.new.cache.parts.kept c.grow.new.cache.parts.held (c.requires.entries ∙ sym leaves) (c.requires.same ∙ sym leaves)
    c.self.invariant.node.newest.counted refl c.leaves.ensures.is
    c.set.ensures c.in_ok-mark.ensures.roots c.in_ok-mark.ensures.kept c.in_ok-mark.ensures.held in
    let next = pushed_node rules i.cache.watch i.chain chain i.roots c.set.new.self i.cache.parts c.grow.new.cache.parts x i.older c.keep.new.self
    (record {
      chain_is = refl;
      roots_are = c.in_ok-before.ensures;
      taken_are = c.keep.ensures;
      kept = c.in_ok-mark.ensures.kept_back;
      held = c.in_ok-mark.ensures.held_back;
    }) c.grow.new.cache.watch c.grow.ensures.watch
    ∙ (ap (λ (l : LevelState). with_level l before) level
    ∙ ap (λ (s : NodeState). with_level (level_grown H s.scripts s.newest c.args.hash c.args.targets.now.targets c.args.changes.now
    c.args.roots.now c.args.spends.now.new) s) c.self.view_is) in
    record {
      node = subst IsNode (sym next) c.requires.next;
      marks = pushed_marks rules i.cache.watch i.chain chain i.roots c.set.new.self i.cache.parts c.grow.new.cache.parts x i.older c.keep.new.self
          (record {
            chain_is = refl;
            roots_are = c.in_ok-before.ensures;
            taken_are = c.keep.ensures;
            kept = c.in_ok-mark.ensures.kept_back;
            held = c.in_ok-mark.ensures.held_back;
          }) c.in_ok-mark.ensures.fits
          c.grow.ensures.kept_room c.grow.ensures.held_room c.self.invariant.marks;
    }

pub returns-clause-next : goal.returns-clause-next
returns-clause-next g c =
    let i = c.self.inside in
    let H = g.D.Digester.digest_of in
    let rules : Rules = record { net = i.net; limits = i.limits } in
    let chain : Chain = record { blocks = i.chain.blocks + 1; tip = c.args.hash; leaves = c.leaves.result } in
    let x : PastState = record { chain = i.chain; roots = c.in_ok-before.before; mark = c.in_ok-mark.mark } in
    let before = node_of rules i.cache.watch i.chain i.roots i.cache.parts i.older in
    let leaves : before.newest.roots.leaves ≡ c.args.self.now.newest.roots.leaves = ap (λ (s : NodeState). s.newest.roots.leaves) c.self.view_is in
    let level = grown_level H i.cache.watch before.newest c.args.hash c.args.targets.now.leaves c.args.targets.now.targets
    c.args.changes.now c.args.roots.now c.args.spends.now.new chain c.leaves.result c.set.new.self
    c.grow.new.roots c.grow.new.cache.parts.kept c.grow.new.cache.parts.held (c.requires.entries ∙ sym leaves) (c.requires.same ∙ sym leaves)
    c.self.invariant.node.newest.counted refl c.leaves.ensures.is
    c.set.ensures c.in_ok-mark.ensures.roots c.in_ok-mark.ensures.kept c.in_ok-mark.ensures.held in
    pushed_node rules i.cache.watch i.chain chain i.roots c.set.new.self i.cache.parts c.grow.new.cache.parts x i.older c.keep.new.self
    (record {
      chain_is = refl;
      roots_are = c.in_ok-before.ensures;
      taken_are = c.keep.ensures;
      kept = c.in_ok-mark.ensures.kept_back;
      held = c.in_ok-mark.ensures.held_back;
    }) c.grow.new.cache.watch c.grow.ensures.watch
    ∙ (ap (λ (l : LevelState). with_level l before) level
    ∙ ap (λ (s : NodeState). with_level (level_grown H s.scripts s.newest c.args.hash c.args.targets.now.targets c.args.changes.now
    c.args.roots.now c.args.spends.now.new) s) c.self.view_is)
