use Rattle.std.proofs.Common.{◌++◌, ap, ◌∙◌}
use Rattle.leaf_record.specs.Leaf.{tag}
use Rattle.leaf_record.proofs.LeafLaws.{behind_tags}
use Rattle.leaf_record.proofs.leaf.digest_in.Goals as goal

pub returns-clause-value : goal.returns-clause-value
returns-clause-value g c =
    c.digest_behind.ensures.value (tag ++ tag) c.requires.tags
    ∙ ap (λ t. g.D.Digester.digest_of ((tag ++ tag) ++ t)) c.fill-end.ensures.text
    ∙ ap g.D.Digester.digest_of (behind_tags c.args.leaf.now)
