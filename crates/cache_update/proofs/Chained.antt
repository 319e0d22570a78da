-- What a mark gives back ascends, and a mark fits with more room.
use Rattle.std.proofs.Common.{◌≡◌, ◌<◌, ◌≤◌, true, List, [], ◌∷◌, map, length, Option, Some, None, sym, ap, ◌∙◌, subst, All, arith}
use Rattle.std.proofs.lemmas.Option.{none-some, same_Some}
use Rattle.uo_digest.specs.declared.digest.Digest.{Digest}
use Rattle.forest_place.specs.declared.place.Place.{Place}
use Rattle.forest_place.specs.Forest.{InForest}
use Rattle.forest_place.specs.Places.{is_before_place}
use Rattle.cache_model.specs.declared.kept.Kept.{Kept}
use Rattle.cache_model.specs.Lists.{AscendByNumber, AscendByPlace}
use Rattle.cache_model.specs.Undo.{KeepKeys, held_key, is_same_place}
use Rattle.cache_model.proofs.Undoing.{place_order, undone}
use Rattle.leaf_cache.specs.Parted.{Parted, IsParted}
use Rattle.cache_update.specs.Given.{digest_was, digest_none, undo_digests, held_given}
use Rattle.cache_update.specs.Marks.{BoxedRoom, is_named, AreOfForest, HasRoomFor, HasRoomLeft, Fits, GivesInOrder, kept_back, held_back, held_from}
use Rattle.cache_update.specs.declared.mark.Mark.{Mark}
use Rattle.cache_update.specs.declared.mark.BlockRoom.{BlockRoom}
use Rattle.cache_update.proofs.Giving.{given_is}

was_keep : (lost : List (Place × Digest)) → KeepKeys held_key (map digest_was lost)
was_keep [] = tt
was_keep (x ∷ lost) = (λ now v e. ap held_key (sym (same_Some (x.0, x.1) v e)), was_keep lost)

none_keep : (gained : List Place) → KeepKeys held_key (map digest_none gained)
none_keep [] = tt
none_keep (p ∷ gained) = (λ now v e. absurd (none-some v e), none_keep gained)

pub given_ascends : (lost : List (Place × Digest)) (gained : List Place) (hs : List (Place × Digest)) → AscendByPlace hs
    → AscendByPlace (held_given lost gained hs)
given_ascends lost gained hs a =
    (undone is_same_place is_before_place held_key place_order (map digest_was lost) (undo_digests (map digest_none gained) hs)
    (undone is_same_place is_before_place held_key place_order (map digest_none gained) hs a (none_keep gained)).0 (was_keep lost)).0

pub ascends_back : (m : Mark) (p : Parted) → IsParted p → Fits m p → AscendByNumber (kept_back m p.kept) × AscendByPlace (held_back m p.held)
ascends_back m p o fits = ((given_is m.taken.items m.stood.items m.added.items p.kept o.0).0, by_room m.room fits.left)
  where
    by_room : (r : Option BoxedRoom) → HasRoomLeft m p r → AscendByPlace (held_from r m.lost.items m.gained.items p.held)
    by_room None h = given_ascends m.lost.items m.gained.items p.held o.1
    by_room (Some r) h = h.before

pub in_order : (m : Mark) (p : Parted) → Fits m p → GivesInOrder m.room
in_order m p fits = by_room m.room fits.left
  where
    by_room : (r : Option BoxedRoom) → HasRoomLeft m p r → GivesInOrder r
    by_room None h = tt
    by_room (Some r) h = h.before

-- the same lists in more room
module _ (m : Mark) (p q : Parted) (kept : q.kept ≡ p.kept) (held : q.held ≡ p.held) (kept_room : p.kept_room ≤ q.kept_room)
    (held_room : p.held_room ≤ q.held_room) where
  forest_more : AreOfForest m.leaves p → AreOfForest m.leaves q
  forest_more f = record {
    numbers = subst (All (λ (k : Kept). k.number < m.leaves)) (sym kept) f.numbers;
    kept = subst (All (λ (k : Kept). InForest m.leaves k.place.row k.place.off)) (sym kept) f.kept;
    held = subst (All (λ (x : Place × Digest). InForest m.leaves x.0.row x.0.off)) (sym held) f.held;
  }

  room_more : (r : BlockRoom) → HasRoomFor m p r → HasRoomFor m q r
  room_more r h =
      let long = ap length kept in
      let wide = ap length held in
      record {
        ordered = (subst AscendByNumber (sym kept) h.ordered.0, subst AscendByPlace (sym held) h.ordered.1);
        forest = forest_more h.forest;
        named = subst (All (λ (k : Kept). is_named m.stood.items m.added.items k ≡ true)) (sym kept) h.named;
        stood = h.stood;
        before = h.before;
        kept_room = omega (arith, h.kept_room, long, kept_room);
        held_most = omega (arith, h.held_most, wide);
        held_room = omega (arith, h.held_room, held_room);
        added = h.added;
        spare = h.spare;
        lost = h.lost;
        gained = h.gained;
        moved = h.moved;
        empty = h.empty;
      }

  left_more : (r : Option BoxedRoom) → HasRoomLeft m p r → HasRoomLeft m q r
  left_more None h = λ lt. let idle = h lt in record { kept = kept ∙ idle.kept; held = held ∙ idle.held; watched = idle.watched }
  left_more (Some r) h = room_more r.value h

  pub fits_more : Fits m p → Fits m q
  fits_more fits =
      let long = ap (λ (ks : List Kept). length (kept_back m ks)) kept in
      let wide = ap (λ (hs : List (Place × Digest)). length (held_back m hs)) held in
      record {
        kept_room = omega (arith, fits.kept_room, long, kept_room);
        held_room = omega (arith, fits.held_room, wide, held_room);
        left = left_more m.room fits.left;
      }
