use Rattle.std.proofs.Common.{◌≡◌, sym, ap, ap₂, ◌∙◌, subst}
use Rattle.std.specs.List.Sorted.{IsNonDecreasing}
use Rattle.forest_model.specs.Deletion.{moved}
use Rattle.proof_shape.specs.Moves.{gone_by}
use Rattle.proof_shape.specs.Targeted.{Targeted, IsShaped}
use Rattle.proof_shape.proofs.Ordered.{sorted_from_rising}
use Rattle.proof_shape.proofs.Gone.{none_exactly}
use Rattle.proof_shape.proofs.Goes.{stays_goes, entry_stays}
use Rattle.proof_shape.proofs.survey.Survey.moved.Goals as goal

is_moved : (c : goal.After-moved_from) → c.moved_from.result ≡ moved c.args.self.now.leaves c.args.self.now.targets c.args.place.row c.args.place.off
is_moved c =
    c.moved_from.ensures.is c.self.inside.list.items (λ r o h. ap₂ (λ x y. gone_by c.self.inside.count x y r o) c.deref.ensures.value
    c.deref-2.ensures.value ∙ c.self.invariant.1.gone.tell r o h) ∙
    ap (λ (f : Targeted). moved f.leaves f.targets c.args.place.row c.args.place.off) c.self.view_is

pub moved_from-requires-clause-covered : goal.moved_from-requires-clause-covered
moved_from-requires-clause-covered c = subst IsNonDecreasing (sym c.deref.ensures.value)
    (sorted_from_rising c.self.inside.among.items c.self.invariant.1.gone.part.rises)

pub moved_from-requires-clause-kept : goal.moved_from-requires-clause-kept
moved_from-requires-clause-kept c = subst IsNonDecreasing (sym c.deref-2.ensures.value)
    (sorted_from_rising c.self.inside.kept.items c.self.invariant.1.gone.part.part_rises)

pub returns-clause-none : goal.returns-clause-none
returns-clause-none c =
    let t = c.args.self.now in
    let p = c.args.place in
    let shape = (subst IsShaped c.self.view_is c.self.invariant.0).shape in
    let w = none_exactly t.leaves t.targets shape p c.requires in
    (λ none. w.0 (sym (is_moved c) ∙ none), λ h. is_moved c ∙ w.1 h)

pub returns-clause-stays : goal.returns-clause-stays
returns-clause-stays c =
    let t = c.args.self.now in
    let p = c.args.place in
    stays_goes t p c.moved_from.result (is_moved c)

pub returns-clause-entries : goal.returns-clause-entries
returns-clause-entries c =
    let t = c.args.self.now in
    let p = c.args.place in
    entry_stays t p c.moved_from.result (is_moved c)
