use Rattle.std.proofs.Common.{Some, ap, ◌∙◌}
use Rattle.std.proofs.lemmas.List.{length-map}
use Rattle.bridge_prover.proofs.Righted.{shown-here, shown-more, shown-end}
use Rattle.bridge_prover.proofs.shown.entries_shown.Goals as goal

pub returns-in_default : goal.returns-in_default
returns-in_default g c = (
  c.loop-i.i,
  shown-here _ _ _ _ _ c.loop-i.i _ _ _ _ _ c.loop-i-test.true c.requires.places c.rest.ensures c.with_outpoint-claim.ensures.leaf
      c.entry_shown.ensures ∙ ap Some c.in_default.is,
)

pub loop-i-preserved : goal.loop-i-preserved
loop-i-preserved g c =
    shown-more _ c.loop-i.i _ _ _
    (shown-here _ _ _ _ _ c.loop-i.i _ _ _ _ _ c.loop-i-test.true c.requires.places c.rest.ensures c.with_outpoint-claim.ensures.leaf
    c.entry_shown.ensures ∙ ap Some c.in-Some.is) c.loop-i.invariant c.in_ok-push.ensures.items

pub returns : goal.returns
returns g c = shown-end _ _ _ _ _ c.loop-i.i _ c.requires.places (length-map c.args.message.now.proof.spends (λ s. s.rest) ∙ c.requires.count)
    c.loop-i-test.false c.loop-i.invariant
