use Rattle.std.proofs.Common.{sym, ap, ◌∙◌, length}
use Rattle.compact_node.specs.Node.{NodeState}
use Rattle.compact_node.proofs.Marks.{length-behind}
use Rattle.compact_node.proofs.node.Node.kept_levels.Goals as goal

pub returns : goal.returns
returns g c =
    let i = c.self.inside in
    c.kept.ensures.kept ∙ (sym (length-behind i.older i.cache.parts.kept i.cache.parts.held) ∙ ap (λ (s : NodeState). length s.older) c.self.view_is)
