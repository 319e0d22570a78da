use Rattle.std.proofs.Common.{◌≡◌, ◌<◌, ℕ, length, Option, None, refl, sym, ap, ◌∙◌, subst, All, arith}
use Rattle.cache_model.specs.Lists.{moved_leaf}
use Rattle.cache_update.specs.declared.mark.Mark.{Mark}
use Rattle.cache_update.specs.declared.mark.BlockRoom.{BlockRoom}
use Rattle.cache_update.specs.Marks.{BoxedRoom, HasRoomLeft, HasRoomFor, AreOfForest, IsUnused, IsUnusedIn, IsKnownIn, IsIdle, held_from}
use Rattle.cache_update.specs.Marks.{pairs_within}
use Rattle.proof_shape.specs.Targeted.{Targeted}
use Rattle.cache_update.proofs.Growing.{passed_length}
use Rattle.cache_update.proofs.Marking.{IsNamed, deletion_keeps, named_moved}
use Rattle.cache_update.proofs.Idle.{none_moved, none_deleted, same_held, idle_on}
use Rattle.cache_update.proofs.block.delete_in.Goals as goal

pub go_on-requires : goal.go_on-requires
go_on-requires c =
    let was = sym c.take.ensures.value ∙ c.in-Some.is in
    let there = sym c.deref_mut-lists.ensures.value in
    let old : HasRoomFor c.args.mark.now c.args.parts.now c.deref_mut-lists.result.now =
    subst (HasRoomFor c.args.mark.now c.args.parts.now) there (subst (HasRoomLeft c.args.mark.now c.args.parts.now) was c.requires.fits.left) in
    let begun : IsUnused c.args.targets.now c.args.mark.now c.args.parts.now c.deref_mut-lists.result.now =
    subst (IsUnused c.args.targets.now c.args.mark.now c.args.parts.now) there
    (subst (IsUnusedIn c.args.targets.now c.args.mark.now c.args.parts.now) was c.requires.begun) in
    let shorter = passed_length (moved_leaf c.args.targets.now.leaves c.args.targets.now.targets) c.args.parts.now.kept in
    let same = ap length c.delete_from.ensures.kept in
    let few = begun.known.1 c.delete_from.new.parts.held c.delete_from.ensures.ordered.1
    (subst (λ (t : Targeted). All (IsKnownIn t.leaves t.targets) c.delete_from.new.parts.held) begun.kept c.delete_from.ensures.known) in
    record {
      ordered = c.delete_from.ensures.ordered;
      forest = subst (λ (n : ℕ). AreOfForest n c.delete_from.new.parts) begun.leaves c.delete_from.ensures.forest;
      named = subst (All (IsNamed c.args.mark.now.stood.items c.args.mark.now.added.items)) (sym c.delete_from.ensures.kept)
          (named_moved c.args.targets.now.leaves c.args.targets.now.targets c.args.mark.now.stood.items c.args.mark.now.added.items
          c.args.parts.now.kept old.named);
      stood = old.stood;
      before = old.before;
      kept_room = omega (arith, old.kept_room, shorter, same, c.delete_from.ensures.kept_room);
      held_most = omega (arith, few, begun.known.2);
      held_room = omega (arith, old.held_room, c.delete_from.ensures.held_room);
      added = old.added;
      spare = omega (arith, old.spare, c.delete_from.ensures.spare_room);
      lost = old.lost;
      gained = old.gained;
      moved = old.moved;
      empty = old.empty;
    }

pub returns-clause-kept_back : goal.returns-clause-kept_back
returns-clause-kept_back c =
    let was = sym c.take.ensures.value ∙ c.in-Some.is in
    let old : HasRoomFor c.args.mark.now c.args.parts.now c.in-Some.left.value =
    subst (HasRoomLeft c.args.mark.now c.args.parts.now) was c.requires.fits.left in
    let begun : IsUnused c.args.targets.now c.args.mark.now c.args.parts.now c.in-Some.left.value =
    subst (IsUnusedIn c.args.targets.now c.args.mark.now c.args.parts.now) was c.requires.begun in
    c.go_on.ensures.kept ∙ deletion_keeps c.args.targets.now.leaves c.args.targets.now.targets c.args.parts.now.kept _ c.args.mark.now.taken.items _
    c.args.mark.now.stood.items c.args.mark.now.added.items old.ordered.0 begun.taken.0 begun.taken.2 begun.taken.1 c.delete_from.ensures.taken
    c.delete_from.ensures.kept

pub returns-clause-fits : goal.returns-clause-fits
returns-clause-fits c =
    let was = sym c.take.ensures.value ∙ c.in-Some.is in
    let kept = ap length (returns-clause-kept_back c) in
    let held = ap length (c.go_on.ensures.held ∙ (ap (λ (r : BlockRoom). r.before.items) c.deref_mut-lists.ensures.value
    ∙ sym (ap (λ (r : Option BoxedRoom). held_from r c.args.mark.now.lost.items c.args.mark.now.gained.items c.args.parts.now.held) was))) in
    record {
      kept_room = omega (arith, kept, c.requires.fits.kept_room, c.delete_from.ensures.kept_room);
      held_room = omega (arith, held, c.requires.fits.held_room, c.delete_from.ensures.held_room);
      left = c.go_on.ensures.left;
    }

-- where there is no room, nothing is known
pub returns-in_default-clause-kept : goal.returns-in_default-clause-kept
returns-in_default-clause-kept c =
    let was : c.args.mark.now.room ≡ None = sym c.take.ensures.value ∙ c.in_default.is in
    let some : 0 < c.args.mark.now.adds = subst (IsUnusedIn c.args.targets.now c.args.mark.now c.args.parts.now) was c.requires.begun in
    let idle : IsIdle c.args.mark.now c.args.parts.now = subst (HasRoomLeft c.args.mark.now c.args.parts.now) was c.requires.fits.left some in
    none_moved c.args.targets.now.leaves c.args.targets.now.targets c.args.parts.now.kept idle.kept

pub returns-in_default-clause-held : goal.returns-in_default-clause-held
returns-in_default-clause-held c =
    let was : c.args.mark.now.room ≡ None = sym c.take.ensures.value ∙ c.in_default.is in
    let some : 0 < c.args.mark.now.adds = subst (IsUnusedIn c.args.targets.now c.args.mark.now c.args.parts.now) was c.requires.begun in
    let idle : IsIdle c.args.mark.now c.args.parts.now = subst (HasRoomLeft c.args.mark.now c.args.parts.now) was c.requires.fits.left some in
    none_deleted c.args.targets.now.leaves c.args.targets.now.targets (pairs_within c.args.targets.now.leaves c.args.pairs.now) c.args.parts.now.kept
    c.args.parts.now.held idle.kept idle.held

pub returns-in_default-clause-held_back : goal.returns-in_default-clause-held_back
returns-in_default-clause-held_back c =
    let was : c.args.mark.now.room ≡ None = sym c.take.ensures.value ∙ c.in_default.is in
    let left : Mark = record c.args.mark.now { room = c.take.new.self } in
    same_held c.args.mark.now left c.args.parts.now.held was c.take.ensures.after refl refl

pub returns-in_default-clause-fits : goal.returns-in_default-clause-fits
returns-in_default-clause-fits c =
    let was : c.args.mark.now.room ≡ None = sym c.take.ensures.value ∙ c.in_default.is in
    let some : 0 < c.args.mark.now.adds = subst (IsUnusedIn c.args.targets.now c.args.mark.now c.args.parts.now) was c.requires.begun in
    let idle : IsIdle c.args.mark.now c.args.parts.now = subst (HasRoomLeft c.args.mark.now c.args.parts.now) was c.requires.fits.left some in
    let left : Mark = record c.args.mark.now { room = c.take.new.self } in
    idle_on c.args.mark.now left c.args.parts.now c.take.ensures.after refl (returns-in_default-clause-held_back c) idle.watched idle c.requires.fits
