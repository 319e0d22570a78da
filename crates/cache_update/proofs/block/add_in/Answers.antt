use Rattle.std.proofs.Common.{◌≡◌, ◌<◌, ◌+◌, ◌++◌, ℕ, Bool, List, ◌∷◌, [], length, Option, Some, None, is_some, refl, sym, ap, ap₂, ◌∙◌, subst, All}
use Rattle.std.proofs.Common.{arith, cond}
use Rattle.leaf_record.specs.Leaf.{Leaf}
use Rattle.std.specs.Prelude.{option_map, count_ones}
use Rattle.std.specs.Option.{option_to_list}
use Rattle.cache_model.specs.declared.kept.Kept.{Kept}
use Rattle.cache_update.specs.Joins.{is_empty_of}
use Rattle.cache_update.specs.Marks.{BoxedRoom, HasRoomLeft, HasRoomFor, AreOfForest, IsIdle, held_from}
use Rattle.cache_update.specs.declared.mark.Mark.{Mark}
use Rattle.cache_update.specs.declared.mark.BlockRoom.{BlockRoom}
use Rattle.cache_update.specs.Given.{kept_given}
use Rattle.cache_update.proofs.Giving.{stood_key}
use Rattle.cache_model.specs.Undo.{Ascends, is_same_number, is_before_number}
use Rattle.forest_place.specs.declared.place.Place.{Place}
use Rattle.cache_update.proofs.Growing.{growth_step, more_length}
use Rattle.cache_update.proofs.Marking.{IsNamed, addition_keeps, named_more}
use Rattle.cache_update.proofs.Idle.{unwatched, none_more, none_added, none_counted, same_back, same_held, idle_on}
use Rattle.cache_update.proofs.block.add_in.Goals as goal

-- the numbers of the entries that were added
added_is : (leaf : Option Leaf) (w : Bool) (n leaves : ℕ) (added new : List ℕ) → w ≡ is_some leaf → n ≡ leaves
    → new ≡ added ++ cond w (leaves ∷ []) [] → new ≡ added ++ option_to_list (option_map (λ _. n) leaf)
added_is leaf w n leaves added new e f g =
    g ∙ (ap (λ b. added ++ cond b (leaves ∷ []) []) e ∙ (ap (λ k. added ++ cond (is_some leaf) (k ∷ []) []) (sym f) ∙ by_leaf leaf))
  where
    by_leaf : (leaf : Option Leaf) → added ++ cond (is_some leaf) (n ∷ []) [] ≡ added ++ option_to_list (option_map (λ _. n) leaf)
    by_leaf None = refl
    by_leaf (Some x) = refl

pub add_to-requires-clause-held_room : goal.add_to-requires-clause-held_room
add_to-requires-clause-held_room c =
    let was = sym c.count_one.ensures.room ∙ (sym c.take.ensures.value ∙ c.in-Some.is) in
    let old : HasRoomFor c.args.mark.now c.args.parts.now c.in-Some.left.value =
    subst (HasRoomLeft c.args.mark.now c.args.parts.now) was c.requires.fits.left in
    let step = growth_step c.args.n (length c.args.joins.now) c.args.mark.now.adds c.count_one.new.self.adds c.requires.slots
    c.count_one.ensures.adds in
    let ones = ap count_ones c.requires.count in
    omega (arith, step, ones, old.held_most, old.held_room)

pub go_on-requires : goal.go_on-requires
go_on-requires c =
    let was = sym c.count_one.ensures.room ∙ (sym c.take.ensures.value ∙ c.in-Some.is) in
    let there = sym c.deref_mut.ensures.value in
    let old : HasRoomFor c.args.mark.now c.args.parts.now c.deref_mut.result.now =
    subst (HasRoomFor c.args.mark.now c.args.parts.now) there (subst (HasRoomLeft c.args.mark.now c.args.parts.now) was c.requires.fits.left) in
    let step = growth_step c.args.n (length c.args.joins.now) c.args.mark.now.adds c.count_one.new.self.adds c.requires.slots
    c.count_one.ensures.adds in
    let ones = ap count_ones c.requires.count in
    let leaves : c.args.n + 1 ≡ c.count_one.new.self.leaves = ap (λ k. k + 1) c.requires.count ∙ sym c.count_one.ensures.leaves in
    let more_ones = ap count_ones leaves in
    let e = is_empty_of c.args.joins.now in
    let added = added_is c.args.leaf c.is_some.result c.args.n c.args.mark.now.leaves c.args.mark.now.added.items _ c.is_some.ensures c.requires.count
    c.count_one.ensures.added in
    let longer = more_length e c.args.n (length c.args.joins.now) c.args.leaf c.args.digest c.args.parts.now.kept (cond c.is_some.result 1 0)
    (λ t. ap (λ b. cond b 1 0) (c.is_some.ensures ∙ t)) in
    let long = ap length c.add_to.ensures.kept in
    record {
      ordered = c.add_to.ensures.ordered;
      forest = subst (λ (n : ℕ). AreOfForest n c.add_to.new.parts) leaves c.add_to.ensures.forest;
      named = subst (λ (s : List (ℕ × Place)). All (IsNamed s c.count_one.new.self.added.items) c.add_to.new.parts.kept)
          (sym c.count_one.ensures.stood)
          (subst (λ (j : List ℕ). All (IsNamed c.args.mark.now.stood.items j) c.add_to.new.parts.kept) (sym added)
          (subst (All (IsNamed c.args.mark.now.stood.items (c.args.mark.now.added.items ++ option_to_list (option_map (λ _. c.args.n) c.args.leaf))))
          (sym c.add_to.ensures.kept)
          (named_more e c.args.n (length c.args.joins.now) c.args.mark.now.stood.items c.args.mark.now.added.items c.args.leaf c.args.digest
          c.args.parts.now.kept old.named)));
      stood = subst (Ascends is_same_number is_before_number stood_key) (sym c.count_one.ensures.stood) old.stood;
      before = old.before;
      kept_room = omega (arith, longer, long, c.count_one.ensures.watched, old.kept_room, c.add_to.ensures.kept_room);
      held_most = omega (arith, step, ones, more_ones, c.add_to.ensures.len, old.held_most);
      held_room = omega (arith, old.held_room, c.add_to.ensures.held_room);
      added = omega (arith, c.count_one.ensures.added_room, old.added);
      spare = omega (arith, old.spare, c.add_to.ensures.spare_room);
      lost = old.lost;
      gained = old.gained;
      moved = omega (arith, old.moved, c.count_one.ensures.stood_len);
      empty = old.empty;
    }

pub returns-clause-kept_back : goal.returns-clause-kept_back
returns-clause-kept_back c =
    let was = sym c.count_one.ensures.room ∙ (sym c.take.ensures.value ∙ c.in-Some.is) in
    let old : HasRoomFor c.args.mark.now c.args.parts.now c.in-Some.left.value =
    subst (HasRoomLeft c.args.mark.now c.args.parts.now) was c.requires.fits.left in
    let added = added_is c.args.leaf c.is_some.result c.args.n c.args.mark.now.leaves c.args.mark.now.added.items _ c.is_some.ensures c.requires.count
    c.count_one.ensures.added in
    c.go_on.ensures.kept
    ∙ (ap₂ (λ (t : List Kept) (s : List (ℕ × Place)). kept_given t s c.count_one.new.self.added.items c.add_to.new.parts.kept)
    c.count_one.ensures.taken c.count_one.ensures.stood
    ∙ addition_keeps c.args.mark.now.taken.items c.args.mark.now.stood.items c.args.mark.now.added.items c.count_one.new.self.added.items
    c.args.parts.now.kept c.add_to.new.parts.kept (is_empty_of c.args.joins.now) c.args.n (length c.args.joins.now) c.args.digest c.args.leaf
    old.ordered.0 (subst (λ (n : ℕ). All (λ (k : Kept). k.number < n) c.args.parts.now.kept) (sym c.requires.count) old.forest.numbers) old.named
    added c.add_to.ensures.kept)

pub returns-clause-fits : goal.returns-clause-fits
returns-clause-fits c =
    let was = sym c.count_one.ensures.room ∙ (sym c.take.ensures.value ∙ c.in-Some.is) in
    let kept = ap length (returns-clause-kept_back c) in
    let held = ap length (c.go_on.ensures.held ∙ (ap (λ (r : BlockRoom). r.before.items) c.deref_mut.ensures.value
    ∙ sym (ap (λ (r : Option BoxedRoom). held_from r c.args.mark.now.lost.items c.args.mark.now.gained.items c.args.parts.now.held) was))) in
    record {
      kept_room = omega (arith, kept, c.requires.fits.kept_room, c.add_to.ensures.kept_room);
      held_room = omega (arith, held, c.requires.fits.held_room, c.add_to.ensures.held_room);
      left = c.go_on.ensures.left;
    }

-- where there is no room, nothing is known, and nothing comes that is watched
pub returns-in_default-clause-kept : goal.returns-in_default-clause-kept
returns-in_default-clause-kept c =
    let was : c.args.mark.now.room ≡ None = sym c.count_one.ensures.room ∙ (sym c.take.ensures.value ∙ c.in_default.is) in
    let idle : IsIdle c.args.mark.now c.args.parts.now =
    subst (HasRoomLeft c.args.mark.now c.args.parts.now) was c.requires.fits.left c.requires.left in
    let none = unwatched c.args.leaf c.args.mark.now.watched c.requires.watched idle.watched in
    none_more (is_empty_of c.args.joins.now) c.args.n (length c.args.joins.now) c.args.leaf c.args.digest c.args.parts.now.kept idle.kept none

pub returns-in_default-clause-held : goal.returns-in_default-clause-held
returns-in_default-clause-held c =
    let was : c.args.mark.now.room ≡ None = sym c.count_one.ensures.room ∙ (sym c.take.ensures.value ∙ c.in_default.is) in
    let idle : IsIdle c.args.mark.now c.args.parts.now =
    subst (HasRoomLeft c.args.mark.now c.args.parts.now) was c.requires.fits.left c.requires.left in
    let none = unwatched c.args.leaf c.args.mark.now.watched c.requires.watched idle.watched in
    none_added c.args.joins.now c.args.digest c.args.n c.args.leaf c.args.parts.now.held idle.held none

pub returns-in_default-clause-kept_back : goal.returns-in_default-clause-kept_back
returns-in_default-clause-kept_back c =
    let was : c.args.mark.now.room ≡ None = sym c.count_one.ensures.room ∙ (sym c.take.ensures.value ∙ c.in_default.is) in
    let idle : IsIdle c.args.mark.now c.args.parts.now =
    subst (HasRoomLeft c.args.mark.now c.args.parts.now) was c.requires.fits.left c.requires.left in
    let none = unwatched c.args.leaf c.args.mark.now.watched c.requires.watched idle.watched in
    let left : Mark = record c.count_one.new.self { room = c.take.new.self } in
    same_back c.args.mark.now left c.args.parts.now.kept c.count_one.ensures.taken c.count_one.ensures.stood
    (none_counted c.args.leaf c.args.mark.now.added.items _ c.args.mark.now.leaves c.is_some.result c.is_some.ensures none c.count_one.ensures.added)

pub returns-in_default-clause-held_back : goal.returns-in_default-clause-held_back
returns-in_default-clause-held_back c =
    let was : c.args.mark.now.room ≡ None = sym c.count_one.ensures.room ∙ (sym c.take.ensures.value ∙ c.in_default.is) in
    let left : Mark = record c.count_one.new.self { room = c.take.new.self } in
    same_held c.args.mark.now left c.args.parts.now.held was c.take.ensures.after c.count_one.ensures.lost c.count_one.ensures.gained

pub returns-in_default-clause-fits : goal.returns-in_default-clause-fits
returns-in_default-clause-fits c =
    let was : c.args.mark.now.room ≡ None = sym c.count_one.ensures.room ∙ (sym c.take.ensures.value ∙ c.in_default.is) in
    let idle : IsIdle c.args.mark.now c.args.parts.now =
    subst (HasRoomLeft c.args.mark.now c.args.parts.now) was c.requires.fits.left c.requires.left in
    let none = unwatched c.args.leaf c.args.mark.now.watched c.requires.watched idle.watched in
    let left : Mark = record c.count_one.new.self { room = c.take.new.self } in
    idle_on c.args.mark.now left c.args.parts.now c.take.ensures.after (returns-in_default-clause-kept_back c) (returns-in_default-clause-held_back c)
    (omega (arith, c.count_one.ensures.watched, idle.watched)) idle c.requires.fits
