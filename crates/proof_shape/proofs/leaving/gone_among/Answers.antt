use Rattle.std.proofs.Common.{◌≡◌, sym, ap, ◌∙◌, subst, arith}
use Rattle.std.specs.List.Sorted.{IsStrictlyIncreasing}
use Rattle.std.proofs.lemmas.Bool.{false≢true}
use Rattle.forest_place.specs.Places.{AreWithin}
use Rattle.forest_model.specs.Cover.{need}
use Rattle.forest_model.proofs.Lists.{need_had}
use Rattle.proof_shape.specs.Moves.{AreApart, HasPart, GoneTell, CoversTell}
use Rattle.proof_shape.specs.Swept.{ArePositions}
use Rattle.proof_shape.proofs.Gone.{gone_tell, alone_tell, has_above}
use Rattle.proof_shape.proofs.Needing.{positions_are}
use Rattle.proof_shape.proofs.Ordered.{rising_from_distinct}
use Rattle.proof_shape.proofs.Parents.{ups, ups_within}
use Rattle.proof_shape.proofs.leaving.gone_among.Goals as goal

pub parents_of-requires-clause-within : goal.parents_of-requires-clause-within
parents_of-requires-clause-within c =
    subst (AreWithin c.args.n) (sym c.requires.needed) (λ r o h. (need_had c.args.n c.args.targets.now r o h).0)

pub covered_positions-requires-clause-within : goal.covered_positions-requires-clause-within
covered_positions-requires-clause-within c =
    let is : c.deref-then-have_neighbours.result.now ≡ ups (need c.args.n c.args.targets.now) = c.deref-then-have_neighbours.ensures.value
    ∙ (c.in_ok-above.ensures ∙ ap ups c.requires.needed) in
    subst (AreWithin c.args.n) (sym is) (ups_within c.args.n c.args.targets.now)

pub returns-in_ok-from_slice : goal.returns-in_ok-from_slice
returns-in_ok-from_slice c =
    let n = c.args.n in
    let ts = c.args.targets.now in
    let same = sym c.in_ok-from_slice.ensures.items in
    let is : c.deref-then-have_neighbours.result.now ≡ ups (need n ts) = c.deref-then-have_neighbours.ensures.value
    ∙ (c.in_ok-above.ensures ∙ ap ups c.requires.needed) in
    let all = subst (CoversTell n ts) same c.requires.tell in
    let above = subst (λ l. CoversTell n l c.in_ok-kept.kept.items) is c.in_ok-kept.ensures.tell in
    record {
      part = record {
        rises = subst IsStrictlyIncreasing same c.requires.rises;
        part_rises = c.in_ok-kept.ensures.rises;
        there = has_above n ts _ _ all above c.in_ok-kept.ensures.places;
      };
      places = subst (ArePositions n) same c.requires.places;
      tell = gone_tell n ts c.requires.shape _ _ all above;
    }

pub returns-else-have_neighbours : goal.returns-else-have_neighbours
returns-else-have_neighbours c =
    let n = c.args.n in
    let ts = c.args.targets.now in
    let apart = subst AreApart c.deref.ensures.value (rw c.if-have_neighbours.false at c.have_neighbours.ensures) in
    let empty = sym c.new.ensures.items in
    record {
      part = subst (HasPart c.args.sorted.items) empty
          record {
            rises = rising_from_distinct n ts c.args.sorted.items c.requires.within c.requires.same c.requires.sorted c.requires.shape.distinct;
            part_rises = λ k lt. absurd (omega (arith, lt));
            there = λ x h. absurd (false≢true h);
          };
      places = positions_are n ts c.args.sorted.items c.requires.within c.requires.same;
      tell = subst (GoneTell n ts c.args.sorted.items) empty (alone_tell n ts c.args.sorted.items c.requires.within c.requires.same apart);
    }
