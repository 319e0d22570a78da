use Rattle.std.proofs.Common.{sym, ◌∙◌, arith}
use Rattle.std.proofs.lemmas.Bool.{OnTrue_from}
use Rattle.cache_update.proofs.Walked.{before_last}
use Rattle.cache_update.proofs.put.is_behind.Goals as goal

pub returns-then-at-held : goal.returns-then-at-held
returns-then-at-held c =
    OnTrue_from _ _ (λ yes. before_last c.args.held.now c.args.place c.args.at _ c.requires (omega (arith, c.if-at-eq0.false))
    (omega (arith, c.if-at-held.true)) (sym c.is_before.ensures.is ∙ yes))
