use Rattle.std.proofs.Common.{◌≡◌, None, sym, ap, subst, ◌∙◌, ⊎_elim}
use Rattle.std.specs.Prelude.{IsSome}
use Rattle.std.proofs.lemmas.Bool.{cases_eq, false≢true}
use Rattle.std.proofs.lemmas.Option.{none-some}
use Rattle.output_index.specs.Buckets.{in_table}
use Rattle.output_index.proofs.newest_by_mark.NewestByMark.take_newest.Goals as goal

pub invariant_of-self-in-None : goal.invariant_of-self-in-None
invariant_of-self-in-None c =
    let new = c.take_newest.new.self in
    let gone : in_table new c.args.mark ≡ None = c.take_newest.ensures.stays (λ s. none-some c.args.number (sym c.in-None.is ∙ s))
    ∙ (sym c.take_newest.ensures.told ∙ c.in-None.is) in
    λ m some.
    ⊎_elim
    (λ e. absurd (false≢true (subst IsSome (ap (in_table new) e ∙ gone) some)))
    (λ o. c.take_newest-in-None.ensures.others m o ∙ c.self.invariant m (subst IsSome (c.take_newest.ensures.others m o) some))
    (cases_eq m c.args.mark)
