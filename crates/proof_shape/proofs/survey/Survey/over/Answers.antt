use Rattle.std.proofs.Common.{◌≡◌, ◌∙◌, sym, ap, subst}
use Rattle.std.specs.List.Sorted.{IsStrictlyIncreasing}
use Rattle.forest_place.specs.Places.{AreWithin}
use Rattle.forest_place.specs.Position.{positions_of}
use Rattle.proof_shape.specs.Moves.{CoversTell}
use Rattle.proof_shape.specs.Survey.{Rises}
use Rattle.proof_shape.specs.Swept.{ArePositions}
use Rattle.proof_shape.proofs.Needing.{rises_strictly, positions_placed, positions_tell}
use Rattle.proof_shape.proofs.survey.Survey.over.Goals as goal
use Rattle.proof_shape.proofs.survey.Survey.over.Goals.{After-deref-6}

numbers_are : (c : After-deref-6) → c.in_ok-numbers.numbers.items ≡ positions_of c.args.n c.args.paths.covered.items
numbers_are c = c.in_ok-numbers.ensures ∙ ap (positions_of c.args.n) c.deref-3.ensures.value

pub needed_count-count-requires-clause-rises : goal.needed_count-count-requires-clause-rises
needed_count-count-requires-clause-rises c = subst (Rises c.args.n) (sym c.deref.ensures.value) c.requires.cover_is.rises

pub needed_of-requires-clause-rises : goal.needed_of-requires-clause-rises
needed_of-requires-clause-rises c = subst (Rises c.args.n) (sym c.deref-2.ensures.value) c.requires.cover_is.rises

pub gone_among-requires-clause-within : goal.gone_among-requires-clause-within
gone_among-requires-clause-within c = subst (AreWithin c.args.n) (sym c.deref-4.ensures.value)
    (λ r o h. c.requires.shaped.shape.within (record { row = r; off = o }) h)

pub gone_among-requires-clause-rises : goal.gone_among-requires-clause-rises
gone_among-requires-clause-rises c =
    let n = c.args.n in
    let cs = c.args.paths.covered.items in
    subst IsStrictlyIncreasing (sym (c.deref-5.ensures.value ∙ numbers_are c)) (rises_strictly n cs c.requires.cover_is.rises)

pub gone_among-requires-clause-places : goal.gone_among-requires-clause-places
gone_among-requires-clause-places c =
    let n = c.args.n in
    let cs = c.args.paths.covered.items in
    subst (ArePositions n) (sym (c.deref-5.ensures.value ∙ numbers_are c)) (positions_placed n cs c.requires.cover_is.within)

pub gone_among-requires-clause-tell : goal.gone_among-requires-clause-tell
gone_among-requires-clause-tell c =
    let n = c.args.n in
    let ts = c.args.paths.targets.items in
    let cs = c.args.paths.covered.items in
    subst (CoversTell n c.deref-4.result.now) (sym (c.deref-5.ensures.value ∙ numbers_are c))
    (subst (λ l. CoversTell n l (positions_of n cs)) (sym c.deref-4.ensures.value) (positions_tell n ts cs c.requires.cover_is))
