use Rattle.std.proofs.Common.{sym, ◌∙◌}
use Rattle.output_index.specs.Marks.{mark_of}
use Rattle.output_index.proofs.Chaining.{first-newest}
use Rattle.output_index.proofs.outputs.head_of.Goals as goal

pub returns-in-Some : goal.returns-in-Some
returns-in-Some c = sym (first-newest c.args.marks.now (mark_of c.args.name.now) c.in-Some.number (sym c.requires ∙ c.in-Some.is))
