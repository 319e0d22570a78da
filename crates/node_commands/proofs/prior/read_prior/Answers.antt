use Rattle.std.proofs.Common.{ℕ, ◌≤◌, List, length, sym, subst, ◌∙◌}
use Rattle.node_commands.specs.PriorText.{IsPriorRead}
use Rattle.node_commands.proofs.StartLemmas.{starts-long, starts-read}
use Rattle.node_commands.proofs.prior.read_prior.Goals as goal

pub prior_in-requires-clause-short : goal.prior_in-requires-clause-short
prior_in-requires-clause-short g c =
    let t = subst (IsPriorRead _ _) c.in-Ok.is c.in_ok-text.ensures.text in
    subst (λ (x : List ℕ). length x ≤ c.args.limits.bytes) (sym (c.deref.ensures.value ∙ t.is.0)) t.is.1

pub returns-in-Ok-clause-begun : goal.returns-in-Ok-clause-begun
returns-in-Ok-clause-begun g c =
    let t = subst (IsPriorRead _ _) c.in-Ok.is c.in_ok-text.ensures.text in
    starts-read _ _ _ t.text t.told c.prior_in.result (rw (c.deref.ensures.value ∙ t.is.0) at c.prior_in.ensures.begun)

pub returns-in-Err-clause-begun : goal.returns-in-Err-clause-begun
returns-in-Err-clause-begun g c =
    let t = subst (IsPriorRead _ _) c.in-Err.is c.in_ok-text.ensures.text in
    starts-long _ _ _ c.in-Err.bad t.text t.told t.is.0 t.is.1
