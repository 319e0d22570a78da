use Rattle.std.proofs.Common.{sym, ◌∙◌, subst}
use Rattle.forest_place.specs.Places.{AreWithin}
use Rattle.state_text.proofs.writing.targets_in.Goals as goal

pub targets_of-requires-clause-within : goal.targets_of-requires-clause-within
targets_of-requires-clause-within c = subst (AreWithin c.args.n) (sym (c.deref.ensures.value ∙ c.in_ok-places.ensures))
    (λ r o h. c.requires.shape.within (record { row = r; off = o }) h)
