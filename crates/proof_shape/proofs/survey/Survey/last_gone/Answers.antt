use Rattle.std.proofs.Common.{◌≡◌, [], subst}
use Rattle.std.specs.Prelude.{◌⊎◌}
use Rattle.proof_shape.specs.Targeted.{Targeted, IsGoneAt}
use Rattle.proof_shape.proofs.Gone.{last_is}
use Rattle.proof_shape.proofs.survey.Survey.last_gone.Goals as goal

pub returns-clause-gone : goal.returns-clause-gone
returns-clause-gone c =
    let t = c.self.inside in
    let lacked = rw (c.deref.ensures.value, c.deref-2.ensures.value) at c.last_gone.ensures.lacked in
    subst (λ (f : Targeted). IsGoneAt f.leaves f.targets c.last_gone.result ⊎ ((f.targets ≡ []) × (c.last_gone.result ≡ 0))) c.self.view_is
    (last_is t.count t.list.items t.among.items t.kept.items c.last_gone.result c.self.invariant.0.shape c.self.invariant.1.gone lacked)
