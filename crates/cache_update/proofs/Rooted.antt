-- The lists of a cache beside roots, through a deletion and an addition, whatever a proof said.
use Rattle.std.proofs.Common.{◌≡◌, ℕ, zero, suc, ◌+◌, ◌-◌, ◌*◌, ◌/◌, ◌^◌, ◌<◌, ◌≤◌, Bool, true, false, cond, ◌&&◌, ◌||◌, List, [], ◌∷◌, filter}
use Rattle.std.proofs.Common.{filter_map, length, Option, Some, None, is_some, is_none, refl, sym, ap, ◌∙◌, subst, ⊎_elim, All, arith, add-one}
use Rattle.std.proofs.Common.{ltb-true}
use Rattle.std.specs.Prelude.{◌⊎◌, option_map}
use Rattle.std.specs.List.{cons_option}
use Rattle.std.proofs.lemmas.Bool.{cases_Bool, cases_lt, cases_eq, and_cases, true≢false, false≢true, false_from_ne_true}
use Rattle.std.proofs.lemmas.List.{append-nil, map-append}
use Rattle.std.proofs.lemmas.List.Elements.{All-nil, All-cons, All-head, All-tail, All-append, All-map, All-filter}
use Rattle.std.proofs.lemmas.Option.{none-some, same_Some}
use Rattle.uo_digest.specs.declared.digest.Digest.{Digest}
use Rattle.leaf_record.specs.Leaf.{Leaf}
use Rattle.forest_place.specs.declared.place.Place.{Place}
use Rattle.forest_place.specs.Forest.{is_slot, root_off, IsSlotOf}
use Rattle.forest_place.specs.Places.{has_place, is_within}
use Rattle.forest_place.proofs.Listed.{place}
use Rattle.forest_place.proofs.Parts.{InForest-root, is_root-root_off}
use Rattle.forest_model.specs.Content.{join_digests}
use Rattle.forest_model.specs.Cover.{Cover, target, both, given, cover, cover_of_halves, slot_cover, HasShape}
use Rattle.forest_model.specs.Deletion.{digest_without, root_after, is_gone, moved}
use Rattle.forest_model.specs.Evaluation.{hash_of, nothing_known}
use Rattle.forest_model.specs.Addition.{all_slots, carried_place}
use Rattle.forest_model.proofs.Adding.{parts_more, parts_same}
use Rattle.forest_model.proofs.Moving.{moved_stays}
use Rattle.forest_roots.specs.declared.joins.Join.{Join}
use Rattle.forest_roots.specs.Stump.{Stump, root_in}
use Rattle.forest_roots.specs.Joined.{IsAdded, joins_of}
use Rattle.proof_verify.specs.Verified.{AreRootsAfter}
use Rattle.cache_model.specs.declared.kept.Kept.{Kept}
use Rattle.cache_model.specs.Cache.{raised}
use Rattle.cache_model.specs.Known.{is_known}
use Rattle.cache_model.specs.Lists.{moved_leaf, moved_leaves, leaf_places, raised_leaves, leaves_more}
use Rattle.cache_model.specs.Steps.{held_deleted, put_all, moving, staying}
use Rattle.cache_model.proofs.Raising.{raised-same, slot_from}
use Rattle.cache_update.specs.Beside.{IsRooted, AreOfRoots}
use Rattle.cache_update.specs.Joins.{is_empty_of, added_by}
use Rattle.cache_update.specs.Marks.{pairs_within}
use Rattle.cache_update.proofs.Apart.{GoesWithRoot, with_root, free_apart}
use Rattle.cache_update.proofs.Going.{moved_up, moved_halves, moved_roots, moved_root_is, rise, IsMet, carried, raised_up, raised_halves}
use Rattle.cache_update.proofs.Going.{raised_roots, root_in_made, last_in_made, root_beside_last}
use Rattle.cache_update.proofs.Growing.{free_above}
use Rattle.cache_update.proofs.Joined.{joins_are}
use Rattle.cache_update.proofs.Moves.{goes_within}
use Rattle.cache_update.proofs.Shaped.{IsPlaceIn, LieApart, apart_shape, shape_within, each_from, go_apart, apart_more}
use Rattle.cache_update.proofs.Spans.{IsIn, AreApart, in_in, apart_in, same_slot}
use Rattle.cache_update.proofs.Within.{IsHeldIn, IsNumbered, passed, put_all_in, known_held, sorted_known, more_in, added_in, numbers_moved}
use Rattle.cache_update.proofs.Within.{numbers_more}

-- what holds of the places of kept entries
pub of_places : (P : Place → Type 0) (ks : List Kept) → All P (leaf_places ks) → All (λ k. P k.place) ks
of_places P [] a = All-nil (λ k. P k.place)
of_places P (k ∷ ks) a = All-cons (λ k. P k.place) k ks (All-head P k.place (leaf_places ks) a)
    (of_places P ks (All-tail P k.place (leaf_places ks) a))

both_hold : {X : Type 0} (P Q : X → Type 0) (xs : List X) → All P xs → All Q xs → All (λ x. P x × Q x) xs
both_hold P Q [] a b = All-nil (λ x. P x × Q x)
both_hold P Q (x ∷ xs) a b = All-cons (λ x. P x × Q x) x xs (All-head P x xs a, All-head Q x xs b)
    (both_hold P Q xs (All-tail P x xs a) (All-tail Q x xs b))

-- ---- a deletion

abbrev AnySlot : ℕ → Type 0
AnySlot h = Unit {0}

module _ (n : ℕ) (ts : List Place) where
  abbrev go : Place → Option Place
  go p = moved n ts p.row p.off

  places_move : (ks : List Kept) → leaf_places (moved_leaves n ts ks) ≡ filter_map go (leaf_places ks)
  places_move [] = refl
  places_move (k ∷ ks) = by_move (moved n ts k.place.row k.place.off) (places_move ks)
    where
      by_move : (q : Option Place) → leaf_places (moved_leaves n ts ks) ≡ filter_map go (leaf_places ks) →
          leaf_places (cons_option (option_map (λ (q : Place). let x : Kept =
          record { number = k.number; leaf = k.leaf; place = q; digest = k.digest } in x) q) (moved_leaves n ts ks))
          ≡ cons_option q (filter_map go (leaf_places ks))
      by_move None rest = rest
      by_move (Some q) rest = ap (λ (ps : List Place). q ∷ ps) rest

  pub moved_shape : (ks : List Kept) → HasShape n (leaf_places ks) → HasShape n (leaf_places (moved_leaves n ts ks))
  moved_shape ks s =
      subst (HasShape n) (sym (places_move ks))
      (apart_shape n (filter_map go (leaf_places ks))
      (passed (IsPlaceIn n) (IsPlaceIn n) go (λ p q h e. (goes_within n ts (n - p.row) p.row p.off q refl h e).1) (leaf_places ks)
      (shape_within n (leaf_places ks) s))
      (go_apart n (λ p. Unit {0}) go
      (λ p q x y h i free a b e f. free_apart n (moved n ts) AnySlot (moved_up n ts) (moved_halves n ts) (moved_roots n ts) p q x y h i free
      (λ h s. tt) (λ h s. tt) e f)
      (leaf_places ks) s (each_from (λ p. Unit {0}) (leaf_places ks) (λ q h. tt))))

joins_right : (H : List ℕ → Digest) (x y : Option Digest) → is_some y ≡ true → is_some (join_digests H x y) ≡ true
joins_right H None y s = s
joins_right H (Some a) None s = refl
joins_right H (Some a) (Some b) s = refl

joins_left : (H : List ℕ → Digest) (x y : Option Digest) → is_some x ≡ true → is_some (join_digests H x y) ≡ true
joins_left H None y s = absurd (false≢true s)
joins_left H (Some a) None s = refl
joins_left H (Some a) (Some b) s = refl

-- something is left of a cover where its place is not gone
cover_left : (H : List ℕ → Digest) (hashes : ℕ → ℕ → Digest) (ts : List Place) (r o : ℕ) (c : Cover) → cover ts r o ≡ Some c → is_gone ts r o ≡ false
    → is_some (digest_without H hashes c) ≡ true
cover_left H hashes ts zero o c e not_root = let t : has_place ts zero o ≡ false = not_root in absurd (none-some c (rw t at e))
cover_left H hashes ts (suc r) o c e not_root =
    by_target (has_place ts (suc r) o) not_root e (λ d a b. cover_left H hashes ts r (2 * o) d a b)
    (λ d a b. cover_left H hashes ts r (2 * o + 1) d a b)
  where
    by_halves : (x y : Option Cover) → cover ts r (2 * o) ≡ x → cover ts r (2 * o + 1) ≡ y → (is_gone ts r (2 * o) ≡ false)
        ⊎ (is_gone ts r (2 * o + 1) ≡ false) →
        ((d : Cover) → cover ts r (2 * o) ≡ Some d → is_gone ts r (2 * o) ≡ false → is_some (digest_without H hashes d) ≡ true) →
        ((d : Cover) → cover ts r (2 * o + 1) ≡ Some d → is_gone ts r (2 * o + 1) ≡ false → is_some (digest_without H hashes d) ≡ true) →
        cover_of_halves r o x y ≡ Some c → is_some (digest_without H hashes c) ≡ true
    by_halves None None a b g left right f = absurd (none-some c f)
    by_halves (Some l) None a b g left right f =
        subst (λ (z : Cover). is_some (digest_without H hashes z) ≡ true) (same_Some (both l (given r (2 * o + 1))) c f)
        (joins_right H (digest_without H hashes l) (Some (hashes r (2 * o + 1))) refl)
    by_halves None (Some m) a b g left right f =
        subst (λ (z : Cover). is_some (digest_without H hashes z) ≡ true) (same_Some (both (given r (2 * o)) m) c f)
        (joins_left H (Some (hashes r (2 * o))) (digest_without H hashes m) refl)
    by_halves (Some l) (Some m) a b g left right f =
        subst (λ (z : Cover). is_some (digest_without H hashes z) ≡ true) (same_Some (both l m) c f)
        (⊎_elim
        (λ k. joins_left H (digest_without H hashes l) (digest_without H hashes m) (left l a k))
        (λ k. joins_right H (digest_without H hashes l) (digest_without H hashes m) (right m b k))
        g)

    by_target : (b : Bool) → (b || (is_gone ts r (2 * o) && is_gone ts r (2 * o + 1))) ≡ false
        → cond b (Some (target (suc r) o)) (cover_of_halves r o (cover ts r (2 * o)) (cover ts r (2 * o + 1))) ≡ Some c →
        ((d : Cover) → cover ts r (2 * o) ≡ Some d → is_gone ts r (2 * o) ≡ false → is_some (digest_without H hashes d) ≡ true) →
        ((d : Cover) → cover ts r (2 * o + 1) ≡ Some d → is_gone ts r (2 * o + 1) ≡ false → is_some (digest_without H hashes d) ≡ true)
        → is_some (digest_without H hashes c) ≡ true
    by_target true k f left right = absurd (true≢false k)
    by_target false k f left right =
        by_halves (cover ts r (2 * o)) (cover ts r (2 * o + 1)) refl refl (and_cases (is_gone ts r (2 * o)) (is_gone ts r (2 * o + 1)) k) left right f

passing : {X : Type 0} (t : X → Bool) (P : X → Type 0) → ((x : X) → t x ≡ true → P x) → (xs : List X) → All P (filter t xs)
passing t P f [] = All-nil P
passing t P f (x ∷ xs) = ⊎_elim (λ k. rw k (All-cons P x (filter t xs) (f x k) (passing t P f xs))) (λ k. rw k (passing t P f xs)) (cases_Bool (t x))

-- the held digests stay at places of the forest
deleted_in : (n : ℕ) (ts ps : List Place) (pairs hs : List (Place × Digest)) → All (IsHeldIn n) hs
    → All (IsHeldIn n) (held_deleted n ts (pairs_within n pairs) ps hs)
deleted_in n ts ps pairs hs a =
    put_all_in (IsHeldIn n) (filter (λ (x : Place × Digest). is_known n ps x.0) (pairs_within n pairs))
    (put_all (filter_map (moving n ts ps) hs) (filter_map (staying n ts ps) hs))
    (All-filter (λ (x : Place × Digest). is_known n ps x.0) (IsHeldIn n) (pairs_within n pairs)
    (passing (λ (x : Place × Digest). is_within n x.0) (IsHeldIn n) (λ x t. ltb-true x.0.off (n / 2 ^ x.0.row) t) pairs))
    (known_held n ps (put_all (filter_map (moving n ts ps) hs) (filter_map (staying n ts ps) hs)) (sorted_known n ts ps hs a))

module _ (H : List ℕ → Digest) (f g : Stump) (ts : List Place) (hashes : List Digest) (after : AreRootsAfter H f ts hashes g) where
  root_left : (row : ℕ) → is_slot f.leaves row ≡ true → is_gone ts row (root_off f.leaves row) ≡ false → is_some (root_in f row) ≡ true
      → is_some (root_in g row) ≡ true
  root_left row slot kept some = ap is_some (after.roots row slot) ∙ by_cover (slot_cover f.leaves ts row) refl
    where
      by_cover : (c : Option Cover) → slot_cover f.leaves ts row ≡ c
          → is_some (root_after H (hash_of H f.leaves ts nothing_known hashes) (root_in f row) c) ≡ true
      by_cover None e = some
      by_cover (Some c) e = cover_left H (hash_of H f.leaves ts nothing_known hashes) ts row (root_off f.leaves row) c e kept

  moved_rooted : (p q : Place) → IsPlaceIn f.leaves p → IsRooted f p → moved f.leaves ts p.row p.off ≡ Some q → IsRooted g q
  moved_rooted p q h rooted e row s =
      let w = with_root f.leaves (moved f.leaves ts) AnySlot (moved_up f.leaves ts) (moved_halves f.leaves ts) (moved_roots f.leaves ts) p.row p.off q
      h e in
      let slot = w.of_slot.slot in
      let to = moved_root_is f.leaves ts w.h w.to slot w.goes in
      let i : IsIn q (place w.h (root_off f.leaves w.h)) = subst (IsIn q) to w.within in
      let same : row ≡ w.h = same_slot f.leaves q w.h row slot i (subst (λ k. IsSlotOf k q.row q.off row) after.leaves s) in
      let kept = moved_stays f.leaves ts w.h (root_off f.leaves w.h) w.to
      (InForest-root f.leaves w.h (root_off f.leaves w.h) (is_root-root_off f.leaves w.h slot)) w.goes in
      ap (λ x. is_some (root_in g x)) same ∙ root_left w.h slot kept (rooted w.h w.of_slot)

  abbrev IsSoundIn : Kept → Type 0
  IsSoundIn k = IsPlaceIn f.leaves k.place × IsRooted f k.place

  leaf_rooted : (x y : Kept) → IsSoundIn x → moved_leaf f.leaves ts x ≡ Some y → IsRooted g y.place
  leaf_rooted x y h e = goes (moved f.leaves ts x.place.row x.place.off) refl e
    where
      goes : (q : Option Place) → moved f.leaves ts x.place.row x.place.off ≡ q
          → option_map (λ (q : Place). let k : Kept = record { number = x.number; leaf = x.leaf; place = q; digest = x.digest } in k) q ≡ Some y
          → IsRooted g y.place
      goes None m e = absurd (none-some y e)
      goes (Some q) m e = subst (λ (k : Kept). IsRooted g k.place) (same_Some _ y e) (moved_rooted x.place q h.0 h.1 m)

  pub deleted_of_roots : (pairs : List (Place × Digest)) (ks : List Kept) (hs : List (Place × Digest)) → AreOfRoots f ks hs →
      AreOfRoots g (moved_leaves f.leaves ts ks)
      (held_deleted f.leaves ts (pairs_within f.leaves pairs) (leaf_places (moved_leaves f.leaves ts ks)) hs)
  deleted_of_roots pairs ks hs a = record {
    numbers = subst (λ (n : ℕ). All (IsNumbered n) (moved_leaves f.leaves ts ks)) (sym after.leaves)
        (numbers_moved f.leaves ts f.leaves ks a.numbers);
    shape = subst (λ (n : ℕ). HasShape n (leaf_places (moved_leaves f.leaves ts ks))) (sym after.leaves) (moved_shape f.leaves ts ks a.shape);
    rooted = passed IsSoundIn (λ (k : Kept). IsRooted g k.place) (moved_leaf f.leaves ts) leaf_rooted ks
        (both_hold (λ (k : Kept). IsPlaceIn f.leaves k.place) (λ (k : Kept). IsRooted f k.place) ks
        (of_places (IsPlaceIn f.leaves) ks (shape_within f.leaves (leaf_places ks) a.shape)) a.rooted);
    held = subst (λ (n : ℕ). All (IsHeldIn n) (held_deleted f.leaves ts (pairs_within f.leaves pairs) (leaf_places (moved_leaves f.leaves ts ks)) hs))
        (sym after.leaves)
        (deleted_in f.leaves ts (leaf_places (moved_leaves f.leaves ts ks)) pairs hs a.held);
  }

-- ---- an addition

none_is : (x : Option Digest) → is_some x ≡ true → is_none x ≡ false
none_is None s = absurd (false≢true s)
none_is (Some d) s = refl

not_joined : (n m h : ℕ) → is_slot n m ≡ false → is_slot n h ≡ true → m ≤ h → all_slots n h ≡ false
not_joined n m h free slot le =
    false_from_ne_true (all_slots n h) (λ a. ⊎_elim
    (λ same. true≢false (sym slot ∙ (ap (is_slot n) (sym same) ∙ free)))
    (λ ne. true≢false (sym (slot_from n h m a (omega (arith, le, ne))) ∙ free))
    (cases_eq m h))

module _ (H : List ℕ → Digest) (f g : Stump) (d : Digest) (added : IsAdded H f d g) (e : ℕ → Bool) (m : ℕ) (all : all_slots f.leaves m ≡ true)
    (free : is_slot f.leaves m ≡ false)
    (e_is : (row : ℕ) → row < m → e row ≡ is_none (root_in f row)) where
  met : (p : Place) → IsRooted f p → (h : ℕ) → IsSlotOf f.leaves p.row p.off h → IsMet e f.leaves m all h
  met p r h s lt = e_is h lt ∙ none_is (root_in f h) (r h s)

  next : g.leaves ≡ suc f.leaves
  next = added.leaves ∙ add-one f.leaves

  -- what stands within the tree that is made is of its slot
  made_off : root_off (suc f.leaves) m ≡ f.leaves / 2 ^ m
  made_off = let w = parts_more f.leaves m all in omega (arith, w)

  made_rooted : (q : Place) → IsIn q (place m (f.leaves / 2 ^ m)) → IsRooted g q
  made_rooted q i row s =
      let made = added.roots.first_free m all free in
      let i' : IsIn q (place m (root_off (suc f.leaves) m)) = subst (λ x. IsIn q (place m x)) (sym made_off) i in
      let same : row ≡ m = same_slot (suc f.leaves) q m row made.0 i' (subst (λ k. IsSlotOf k q.row q.off row) next s) in
      ap (λ x. is_some (root_in g x)) same ∙ ap is_some made.1

  -- and a slot above it stays
  above_rooted : (q : Place) (h : ℕ) → is_slot f.leaves h ≡ true → m ≤ h → is_some (root_in f h) ≡ true → IsIn q (place h (root_off f.leaves h))
      → IsRooted g q
  above_rooted q h slot le some i row s =
      let apart = not_joined f.leaves m h free slot le in
      let stays_so = added.roots.above h apart in
      let off : root_off (suc f.leaves) h ≡ root_off f.leaves h = ap (λ x. x - 1) (parts_same f.leaves h apart) in
      let i' : IsIn q (place h (root_off (suc f.leaves) h)) = subst (λ x. IsIn q (place h x)) (sym off) i in
      let same : row ≡ h = same_slot (suc f.leaves) q h row (stays_so.0 ∙ slot) i' (subst (λ k. IsSlotOf k q.row q.off row) next s) in
      ap (λ x. is_some (root_in g x)) same ∙ (ap is_some (stays_so.1 slot) ∙ some)

  abbrev goes_up : Place → Place
  goes_up p = raised e f.leaves m p.row p.off

  way : (p : Place) → IsPlaceIn f.leaves p → GoesWithRoot f.leaves (rise e f.leaves m all) (IsMet e f.leaves m all) (raised_up e f.leaves m all)
      (raised_halves e f.leaves m all) (raised_roots e f.leaves m all) p.row p.off (goes_up p)
  way p h = with_root f.leaves (rise e f.leaves m all) (IsMet e f.leaves m all) (raised_up e f.leaves m all) (raised_halves e f.leaves m all)
      (raised_roots e f.leaves m all) p.row p.off (goes_up p) h refl

  up_rooted : (p : Place) → IsPlaceIn f.leaves p → IsRooted f p → IsRooted g (goes_up p)
  up_rooted p h r =
      let w = way p h in
      let slot = w.of_slot.slot in
      let to : raised e f.leaves m w.h (root_off f.leaves w.h) ≡ w.to = same_Some (raised e f.leaves m w.h (root_off f.leaves w.h)) w.to w.goes in
      let i : IsIn (goes_up p) (raised e f.leaves m w.h (root_off f.leaves w.h)) = subst (IsIn (goes_up p)) (sym to) w.within in
      ⊎_elim
      (λ lt. made_rooted (goes_up p) (in_in (goes_up p) (raised e f.leaves m w.h (root_off f.leaves w.h)) (place m (f.leaves / 2 ^ m)) i
      (root_in_made e f.leaves m all w.h lt slot)))
      (λ le. above_rooted (goes_up p) w.h slot le (r w.h w.of_slot)
      (subst (IsIn (goes_up p)) (raised-same e f.leaves m w.h (root_off f.leaves w.h) (is_root-root_off f.leaves w.h slot) le) i))
      (cases_lt w.h m)

  abbrev last : Place
  last = carried_place e f.leaves m 0

  last_is : carried e f.leaves m all 0 ≡ last
  last_is = let z : m - 0 ≡ m = omega arith in ap (λ k. carried_place e f.leaves k 0) z

  up_beside_last : (p : Place) → IsPlaceIn f.leaves p → IsRooted f p → AreApart (goes_up p) last
  up_beside_last p h r =
      let w = way p h in
      let to : raised e f.leaves m w.h (root_off f.leaves w.h) ≡ w.to = same_Some (raised e f.leaves m w.h (root_off f.leaves w.h)) w.to w.goes in
      let away : AreApart (raised e f.leaves m w.h (root_off f.leaves w.h)) last =
      subst (AreApart (raised e f.leaves m w.h (root_off f.leaves w.h))) last_is
      (root_beside_last e f.leaves m all w.h w.of_slot.slot (met p r w.h w.of_slot)) in
      apart_in (goes_up p) w.to last w.within (subst (λ (x : Place). AreApart x last) to away)

  last_rooted : IsRooted g last
  last_rooted = made_rooted last (subst (λ (x : Place). IsIn x (place m (f.leaves / 2 ^ m))) last_is (last_in_made e f.leaves m all))

  abbrev up : Place → Option Place
  up p = rise e f.leaves m all p.row p.off

  places_rise : (ks : List Kept) → leaf_places (raised_leaves e f.leaves m ks) ≡ filter_map up (leaf_places ks)
  places_rise [] = refl
  places_rise (k ∷ ks) = ap (λ (ps : List Place). goes_up k.place ∷ ps) (places_rise ks)

  raised_lie : (ks : List Kept) → HasShape f.leaves (leaf_places ks) → All (IsRooted f) (leaf_places ks)
      → LieApart (leaf_places (raised_leaves e f.leaves m ks))
  raised_lie ks s r =
      subst LieApart (sym (places_rise ks))
      (go_apart f.leaves (IsRooted f) up
      (λ p q x y h i away a b k l. free_apart f.leaves (rise e f.leaves m all) (IsMet e f.leaves m all) (raised_up e f.leaves m all)
      (raised_halves e f.leaves m all) (raised_roots e f.leaves m all) p q x y h i away (met p a) (met q b) k l)
      (leaf_places ks) s r)

  abbrev IsSound : Kept → Type 0
  IsSound k = IsPlaceIn f.leaves k.place × IsRooted f k.place

  all_beside_last : (ks : List Kept) → All IsSound ks → All (λ p. AreApart p last) (leaf_places (raised_leaves e f.leaves m ks))
  all_beside_last [] a = All-nil (λ p. AreApart p last)
  all_beside_last (k ∷ ks) a =
      let h = All-head IsSound k ks a in
      All-cons (λ p. AreApart p last) (goes_up k.place) (leaf_places (raised_leaves e f.leaves m ks)) (up_beside_last k.place h.0 h.1)
      (all_beside_last ks (All-tail IsSound k ks a))

  all_rooted : (ks : List Kept) → All IsSound ks → All (λ (k : Kept). IsRooted g k.place) (raised_leaves e f.leaves m ks)
  all_rooted [] a = All-nil (λ (k : Kept). IsRooted g k.place)
  all_rooted (k ∷ ks) a =
      let h = All-head IsSound k ks a in
      All-cons (λ (k : Kept). IsRooted g k.place) _ (raised_leaves e f.leaves m ks) (up_rooted k.place h.0 h.1)
      (all_rooted ks (All-tail IsSound k ks a))

  module _ (ks : List Kept) (s : HasShape f.leaves (leaf_places ks)) (r : All (λ (k : Kept). IsRooted f k.place) ks) where
    sound : All IsSound ks
    sound = both_hold (λ (k : Kept). IsPlaceIn f.leaves k.place) (λ (k : Kept). IsRooted f k.place) ks
        (of_places (IsPlaceIn f.leaves) ks (shape_within f.leaves (leaf_places ks) s)) r

    lie : LieApart (leaf_places (raised_leaves e f.leaves m ks))
    lie = raised_lie ks s (All-map (IsRooted f) (λ (k : Kept). k.place) ks r)

    more_lie : (watched : Option Leaf) → LieApart (leaf_places (leaves_more e f.leaves m watched d ks))
    more_lie None = subst (λ (xs : List Kept). LieApart (leaf_places xs)) (sym (append-nil (raised_leaves e f.leaves m ks))) lie
    more_lie (Some leaf) =
        let new : Kept = record { number = f.leaves; leaf = leaf; place = carried_place e f.leaves m 0; digest = d } in
        subst LieApart (sym (map-append (λ (k : Kept). k.place) (raised_leaves e f.leaves m ks) (new ∷ [])))
        (apart_more (leaf_places (raised_leaves e f.leaves m ks)) last lie (all_beside_last ks sound))

    pub more_shape : (watched : Option Leaf) → HasShape (suc f.leaves) (leaf_places (leaves_more e f.leaves m watched d ks))
    more_shape watched =
        apart_shape (suc f.leaves) (leaf_places (leaves_more e f.leaves m watched d ks))
        (All-map (IsPlaceIn (suc f.leaves)) (λ (k : Kept). k.place) (leaves_more e f.leaves m watched d ks)
        (more_in e f.leaves m all watched d ks (of_places (IsPlaceIn f.leaves) ks (shape_within f.leaves (leaf_places ks) s))))
        (more_lie watched)

    pub more_rooted : (watched : Option Leaf) → All (λ (k : Kept). IsRooted g k.place) (leaves_more e f.leaves m watched d ks)
    more_rooted None = subst (All (λ (k : Kept). IsRooted g k.place)) (sym (append-nil (raised_leaves e f.leaves m ks))) (all_rooted ks sound)
    more_rooted (Some leaf) =
        All-append (λ (k : Kept). IsRooted g k.place) (raised_leaves e f.leaves m ks) _ (all_rooted ks sound)
        (All-cons (λ (k : Kept). IsRooted g k.place) _ [] last_rooted (All-nil (λ (k : Kept). IsRooted g k.place)))

pub added_of_roots : (H : List ℕ → Digest) (f g : Stump) (d : Digest) (watched : Option Leaf) (ks : List Kept) (hs : List (Place × Digest))
    → IsAdded H f d g → AreOfRoots f ks hs →
    AreOfRoots g (leaves_more (is_empty_of (joins_of H f d)) f.leaves (length (joins_of H f d)) watched d ks)
    (added_by (joins_of H f d) d f.leaves (is_some watched) hs)
added_of_roots H f g d watched ks hs added a =
    let w = free_above f.leaves (suc f.leaves) 0 refl (omega arith) in
    let j = joins_are H f (λ row. root_in f row) d w.0 w.2 w.3 (λ row e. refl) in
    of_joins (joins_of H f d) (ap (all_slots f.leaves) j.each ∙ w.2) (ap (is_slot f.leaves) j.each ∙ w.3)
    (λ row lt. let l : row < w.0 = subst (λ k. row < k) j.each lt in ap is_none (j.left row l))
  where
    of_joins : (js : List Join) → all_slots f.leaves (length js) ≡ true → is_slot f.leaves (length js) ≡ false
        → ((row : ℕ) → row < length js → is_empty_of js row ≡ is_none (root_in f row)) →
        AreOfRoots g (leaves_more (is_empty_of js) f.leaves (length js) watched d ks) (added_by js d f.leaves (is_some watched) hs)
    of_joins js all free e_is = record {
      numbers = subst (λ (n : ℕ). All (IsNumbered n) (leaves_more (is_empty_of js) f.leaves (length js) watched d ks)) (sym added.leaves)
          (numbers_more (is_empty_of js) f.leaves (length js) watched d ks a.numbers);
      shape = subst (λ (n : ℕ). HasShape n (leaf_places (leaves_more (is_empty_of js) f.leaves (length js) watched d ks)))
          (sym (added.leaves ∙ add-one f.leaves))
          (more_shape H f g d added (is_empty_of js) (length js) all free e_is ks a.shape a.rooted watched);
      rooted = more_rooted H f g d added (is_empty_of js) (length js) all free e_is ks a.shape a.rooted watched;
      held = subst (λ (n : ℕ). All (IsHeldIn n) (added_by js d f.leaves (is_some watched) hs)) (sym (added.leaves ∙ add-one f.leaves))
          (added_in js d f.leaves (is_some watched) hs all a.held);
    }

-- lists of nothing are of any roots
pub nothing_of_roots : (f : Stump) → AreOfRoots f [] []
nothing_of_roots f = record {
  numbers = All-nil (IsNumbered f.leaves);
  shape = apart_shape f.leaves [] (All-nil (IsPlaceIn f.leaves)) tt;
  rooted = All-nil (λ (k : Kept). IsRooted f k.place);
  held = All-nil (IsHeldIn f.leaves);
}
