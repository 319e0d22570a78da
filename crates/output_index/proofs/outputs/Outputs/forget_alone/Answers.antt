use Rattle.std.proofs.Common.{sym, ap, subst, ◌∙◌}
use Rattle.output_index.specs.Held.{without}
use Rattle.output_index.specs.Entries.{held_in}
use Rattle.output_index.specs.Forgetting.{IsAlone}
use Rattle.output_index.proofs.Chaining.{newest-there, mark-held}
use Rattle.output_index.proofs.Holding.{held-removed}
use Rattle.output_index.proofs.Forgetting.{mark-inside, chained-alone}
use Rattle.output_index.proofs.outputs.Outputs.forget_alone.Goals as goal

pub take_newest-requires : goal.take_newest-requires
take_newest-requires c =
    let there = mark-inside c.args.number c.args.mark c.self.inside.entries c.args.self.now c.self.view_is c.requires.mark in
    newest-there c.args.number c.args.mark c.self.inside.entries c.self.inside.marks there c.self.invariant

pub remove-requires : goal.remove-requires
remove-requires c = mark-held c.args.number c.args.mark c.self.inside.entries
    (mark-inside c.args.number c.args.mark c.self.inside.entries c.args.self.now c.self.view_is c.requires.mark)

pub invariant_of-self : goal.invariant_of-self
invariant_of-self c =
    let n = c.args.number in
    let m = c.args.mark in
    let es = c.self.inside.entries in
    let there = mark-inside n m es c.args.self.now c.self.view_is c.requires.mark in
    let alone = subst (λ hs. IsAlone hs n m) (sym c.self.view_is) c.requires.alone in
    let taken = c.take_newest.ensures in
    rw c.remove.ensures
    (chained-alone n m es c.self.inside.marks c.take_newest.new.self c.take_newest.result there alone taken.other taken.older taken.others
    c.self.invariant)

pub returns : goal.returns
returns c =
    let n = c.args.number in
    ap held_in c.remove.ensures ∙ (held-removed n c.self.inside.entries ∙ ap (without n) c.self.view_is)
