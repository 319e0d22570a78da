use Rattle.std.proofs.Common.{ap, ◌∙◌}
use Rattle.leaf_cache.specs.Parted.{Parted}
use Rattle.state_text.proofs.Written.{as_part}
use Rattle.compact_node.proofs.Writing.{newest_shape, older_can, levels_same, as_written}
use Rattle.compact_node.proofs.node.Node.write_all_levels.Goals as goal

pub write_levels-requires-clause-newest : goal.write_levels-requires-clause-newest
write_levels-requires-clause-newest g c =
    let i = c.self.inside in
    newest_shape _ _ _ _ i.cache.parts c.in-Ok.parts _ c.self.invariant (c.in-Ok.ensures.0 ∙ ap (λ (p : Parted). p.kept) c.seen.ensures)

pub write_levels-requires-clause-older : goal.write_levels-requires-clause-older
write_levels-requires-clause-older g c =
    let i = c.self.inside in
    older_can _ _ _ _ i.cache.parts c.in-Ok.parts _ c.self.invariant (c.in-Ok.ensures.0 ∙ ap (λ (p : Parted). p.kept) c.seen.ensures)

pub returns-in-Ok-clause-whole : goal.returns-in-Ok-clause-whole
returns-in-Ok-clause-whole g c =
    let i = c.self.inside in
    as_written c.write_levels.result _ _ _ _ (levels_same (record { net = i.net; limits = i.limits }) i.cache.watch i.chain i.roots i.cache.parts
    c.in-Ok.parts i.older c.args.self.now c.self.view_is
    (c.in-Ok.ensures.0 ∙ ap (λ (p : Parted). p.kept) c.seen.ensures, c.in-Ok.ensures.1 ∙ ap (λ (p : Parted). p.held) c.seen.ensures))
    c.write_levels.ensures.whole

pub returns-in-Ok-clause-part : goal.returns-in-Ok-clause-part
returns-in-Ok-clause-part g c =
    let i = c.self.inside in
    as_part _ _ _ _ (levels_same (record { net = i.net; limits = i.limits }) i.cache.watch i.chain i.roots i.cache.parts c.in-Ok.parts i.older
    c.args.self.now c.self.view_is
    (c.in-Ok.ensures.0 ∙ ap (λ (p : Parted). p.kept) c.seen.ensures, c.in-Ok.ensures.1 ∙ ap (λ (p : Parted). p.held) c.seen.ensures))
    c.write_levels.ensures.part
