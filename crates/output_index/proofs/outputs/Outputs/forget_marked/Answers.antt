use Rattle.std.proofs.Common.{ap, ◌∙◌}
use Rattle.output_index.specs.Held.{without}
use Rattle.output_index.specs.Entries.{held_in}
use Rattle.output_index.proofs.Holding.{spent_held, held_there, held_back, held-removed}
use Rattle.output_index.proofs.Forgetting.{mark-inside}
use Rattle.output_index.proofs.outputs.Outputs.forget_marked.Goals as goal

pub unlink-requires-clause-mark : goal.unlink-requires-clause-mark
unlink-requires-clause-mark c = mark-inside c.args.number c.args.mark c.self.inside.entries c.args.self.now c.self.view_is c.requires.mark

pub remove-requires : goal.remove-requires
remove-requires c =
    let n = c.args.number in
    let es = c.self.inside.entries in
    let hs = c.args.self.now in
    held_back n c.unlink.new.entries hs (c.unlink.ensures.same ∙ c.self.view_is)
    (held_there n es hs c.self.view_is (spent_held n es hs c.self.view_is c.self.invariant.rising c.requires.spent))

pub returns : goal.returns
returns c =
    let n = c.args.number in
    ap held_in c.remove.ensures ∙ (held-removed n c.unlink.new.entries ∙ ap (without n) (c.unlink.ensures.same ∙ c.self.view_is))
