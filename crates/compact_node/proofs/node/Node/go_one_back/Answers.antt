use Rattle.std.proofs.Common.{◌≡◌, sym, ap, ◌∙◌, Some, arith}
use Rattle.compact_node.specs.Marked.{PastState}
use Rattle.compact_node.proofs.Marks.{popped_marked}
use Rattle.compact_node.proofs.node.Node.go_one_back.Goals as goal

pub invariant_of-self : goal.invariant_of-self
invariant_of-self g c =
    let i = c.self.inside in
    let x : PastState = record { chain = c.into_parts-roots.result.0; roots = c.unpack.result; mark = c.into_parts-roots.result.2 } in
    let is : x ≡ c.in-Some.past = ap (λ f. let y : PastState = record {
      chain = c.into_parts-roots.result.0;
      roots = f;
      mark = c.into_parts-roots.result.2;
    } in y) c.unpack.ensures ∙ sym c.into_parts-roots.ensures in
    popped_marked (record { net = i.net; limits = i.limits }) i.cache.watch i.chain i.roots i.cache.parts i.older x c.pop.new.self
    (record { got = ap Some is ∙ (sym c.in-Some.is ∙ c.pop.ensures.newest); left = c.pop.ensures.kept })
    c.undo.new.cache.parts c.undo.ensures.kept c.undo.ensures.held c.undo.new.cache.watch c.undo.ensures.watch
    (omega (arith, c.undo.ensures.kept_room)) (omega (arith, c.undo.ensures.held_room)) c.self.invariant
