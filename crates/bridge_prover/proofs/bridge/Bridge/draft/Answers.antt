use Rattle.std.proofs.Common.{sym, ap, ◌∙◌}
use Rattle.std.specs.Prelude.{is_some}
use Rattle.std.proofs.lemmas.Bool.{eqb-true}
use Rattle.std.proofs.lemmas.List.{nil_from_length}
use Rattle.bridge_prover.proofs.Drafting.{draft_none, draft_some}
use Rattle.bridge_prover.proofs.bridge.Bridge.draft.Goals as goal

pub returns-then-is_empty : goal.returns-then-is_empty
returns-then-is_empty g c = draft_none c.args.self.now c.args.rests c.args.external.now
    (nil_from_length _ (eqb-true _ _ (sym c.is_empty.ensures ∙ c.if-is_empty.true)))

pub returns : goal.returns
returns g c = draft_some c.args.self.now c.args.rests c.args.external.now _ _ (sym c.is_empty.ensures ∙ c.if-is_empty.false)
    (c.is_some-lean.ensures ∙ ap (λ s. is_some s.watch) c.self.view_is) c.in_ok-kept.ensures.leaves c.in_ok-kept.ensures.targets
