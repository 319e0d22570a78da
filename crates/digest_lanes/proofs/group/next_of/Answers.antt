use Rattle.std.proofs.Common.{arith, sym, ◌∙◌}
use Rattle.std.proofs.lemmas.Bool.{false≢true}
use Rattle.digest_lanes.specs.Groups.{HasLength}
use Rattle.digest_lanes.specs.Texts.{text_at}
use Rattle.digest_lanes.proofs.ListLemmas.{one_more, text_there}
use Rattle.digest_lanes.proofs.group.next_of.Goals as goal

pub loop-i-preserved : goal.loop-i-preserved
loop-i-preserved c =
    let texts = c.args.texts.now in (
      omega arith,
      one_more (λ k. ¬ HasLength c.args.lengths (text_at texts k)) c.args.from c.loop-i.i c.loop-i.invariant.1
          (λ has. false≢true (sym c.if-has_length.false ∙ c.has_length.ensures.1 (rw (text_there texts c.loop-i.i) has))),
    )
