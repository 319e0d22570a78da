-- The places of the kept entries behind a deletion, and a mark right after it was made.
use Rattle.std.proofs.Common.{◌≡◌, ℕ, ◌+◌, ◌<◌, ◌≤◌, List, [], ◌∷◌, map, filter_map, length, Option, Some, None, refl, sym, ap, ap₂, ◌∙◌, subst}
use Rattle.std.proofs.Common.{⊎_elim, All, arith}
use Rattle.std.specs.Prelude.{option_map, count_ones}
use Rattle.std.specs.List.{cons_option}
use Rattle.std.specs.Prelude.{Result, IfOk}
use Rattle.std.proofs.lemmas.Bool.{cases_Bool, true≢false}
use Rattle.std.proofs.lemmas.Result.{IfOk-weaker}
use Rattle.std.proofs.lemmas.List.{length-map}
use Rattle.std.proofs.lemmas.List.Elements.{All-head, All-tail}
use Rattle.uo_digest.specs.declared.digest.Digest.{Digest}
use Rattle.forest_place.specs.declared.place.Place.{Place}
use Rattle.forest_place.specs.Forest.{InForest}
use Rattle.forest_place.specs.Places.{AreWithin, is_at}
use Rattle.forest_place.specs.Position.{position, positions_of}
use Rattle.forest_place.proofs.Listed.{same_from_is_at}
use Rattle.forest_place.proofs.Positions.{same_places}
use Rattle.forest_model.specs.Deletion.{moved}
use Rattle.proof_shape.specs.Shape.{AreTargets}
use Rattle.proof_shape.specs.Targeted.{Targeted}
use Rattle.cache_model.specs.declared.kept.Kept.{Kept}
use Rattle.cache_model.specs.Lists.{moved_leaves, leaf_places}
use Rattle.leaf_cache.specs.Parted.{Parted, IsParted}
use Rattle.cache_update.specs.declared.mark.Mark.{Mark}
use Rattle.cache_update.specs.Begun.{BeginsBlock, new_position, IsRoom, IsMark}
use Rattle.cache_update.specs.DeletionGoals.{TellGoals}
use Rattle.cache_update.specs.Differences.{where_stood}
use Rattle.cache_update.specs.Given.{kept_given}
use Rattle.cache_update.specs.Marks.{BoxedRoom, AreOfForest, HasRoomFor, HasRoomLeft, Fits, IsUnusedIn, WasBegun, kept_back, held_back, held_from}
use Rattle.cache_update.specs.Marks.{HoldKnown}
use Rattle.cache_update.proofs.Marking.{fresh_back, stood_ascends, stood_names, IsNamed}
use Rattle.cache_update.proofs.Giving.{stood_key}
use Rattle.cache_model.specs.Undo.{Ascends, is_same_number, is_before_number}
use Rattle.cache_model.specs.Lists.{AscendByPlace, AscendByNumber}
use Rattle.cache_update.proofs.Within.{IsKeptIn, IsHeldIn, moved_in}

pub positions_are : (n : ℕ) (ts : List Place) (ks : List Kept)
    → filter_map (λ (k : Kept). new_position n ts k.place) ks ≡ positions_of n (leaf_places (moved_leaves n ts ks))
positions_are n ts [] = refl
positions_are n ts (k ∷ ks) = by_move (moved n ts k.place.row k.place.off) (positions_are n ts ks)
  where
    by_move : (q : Option Place) → filter_map (λ (k : Kept). new_position n ts k.place) ks ≡ positions_of n (leaf_places (moved_leaves n ts ks)) →
        cons_option (option_map (λ (p : Place). position n p.row p.off) q) (filter_map (λ (k : Kept). new_position n ts k.place) ks)
        ≡ positions_of n (leaf_places (cons_option (option_map (λ (p : Place). let x : Kept =
        record { number = k.number; leaf = k.leaf; place = p; digest = k.digest } in x) q) (moved_leaves n ts ks)))
    by_move None rest = rest
    by_move (Some q) rest = ap (λ ps. position n q.row q.off ∷ ps) rest

kept_within : (n : ℕ) (ks : List Kept) → All (IsKeptIn n) ks → AreWithin n (leaf_places ks)
kept_within n [] a r o h = absurd (true≢false (sym h))
kept_within n (k ∷ ks) a r o h =
    ⊎_elim
    (λ t. subst (λ (p : Place). InForest n p.row p.off) (same_from_is_at r o k.place t) (All-head (IsKeptIn n) k ks a))
    (λ t. kept_within n ks (All-tail (IsKeptIn n) k ks a) r o (rw t at h))
    (cases_Bool (is_at r o k.place))

-- targets at the new positions are the new places
pub places_are : (n n' : ℕ) (ts : List Place) (ks : List Kept) (t : Targeted) (numbers : List ℕ) → All (IsKeptIn n) ks → n' ≡ n → t.leaves ≡ n'
    → AreTargets n' numbers t.targets → numbers ≡ positions_of n (leaf_places (moved_leaves n ts ks)) →
    t ≡ record { leaves = n; targets = leaf_places (moved_leaves n ts ks) }
places_are n n' ts ks t numbers a e f are g =
    let are' : AreTargets n numbers t.targets = subst (λ (k : ℕ). AreTargets k numbers t.targets) e are in
    let within : AreWithin n t.targets = (λ r o h. are'.shape.within (record { row = r; off = o }) h) in
    ap₂ (λ (l : ℕ) (ps : List Place). let x : Targeted = record { leaves = l; targets = ps } in x) (f ∙ e)
    (same_places n t.targets (leaf_places (moved_leaves n ts ks)) within (kept_within n (moved_leaves n ts ks) (moved_in n ts ks a))
    (are'.numbered ∙ g))

-- a mark that was just made
module _ (t : Targeted) (p q : Parted) (adds watched : ℕ) (r : BoxedRoom) (m : Mark) (ordered : IsParted p) (forest : AreOfForest t.leaves p)
    (room : IsRoom t p adds r.value) (mark : IsMark t p adds watched r m) (kept : q.kept ≡ p.kept) (held : q.held ≡ p.held)
    (kept_room : length p.kept + watched < q.kept_room) (held_room : r.value.most ≤ q.held_room) where
  begun_kept : kept_back m q.kept ≡ p.kept
  begun_kept =
      ap (kept_back m) kept
      ∙ (ap (λ (x : List Kept). kept_given x m.stood.items m.added.items p.kept) mark.taken
      ∙ (ap₂ (λ (s : List (ℕ × Place)) (j : List ℕ). kept_given [] s j p.kept) mark.stood mark.added
      ∙ fresh_back p.kept ordered.0))

  begun_held : held_back m q.held ≡ p.held
  begun_held = ap (λ (x : Option BoxedRoom). held_from x m.lost.items m.gained.items q.held) mark.room ∙ room.before

  begun_room : HasRoomFor m q r.value
  begun_room =
      let long = ap length kept in
      let wide = ap length held in
      let leaves = mark.leaves in
      let count = ap count_ones mark.leaves in
      let added = ap length mark.added in
      let stood = ap length mark.stood in
      let named = ap length room.before in
      record {
        ordered = (subst AscendByNumber (sym kept) ordered.0, subst AscendByPlace (sym held) ordered.1);
        forest = record {
          numbers = subst (λ (n : ℕ). All (λ (k : Kept). k.number < n) q.kept) (sym mark.leaves)
              (subst (All (λ (k : Kept). k.number < t.leaves)) (sym kept) forest.numbers);
          kept = subst (λ (n : ℕ). All (IsKeptIn n) q.kept) (sym mark.leaves) (subst (All (IsKeptIn t.leaves)) (sym kept) forest.kept);
          held = subst (λ (n : ℕ). All (IsHeldIn n) q.held) (sym mark.leaves) (subst (All (IsHeldIn t.leaves)) (sym held) forest.held);
        };
        named = subst (λ (s : List (ℕ × Place)). All (IsNamed s m.added.items) q.kept) (sym mark.stood)
            (subst (λ (j : List ℕ). All (IsNamed (map where_stood p.kept) j) q.kept) (sym mark.added)
            (subst (All (IsNamed (map where_stood p.kept) [])) (sym kept) (stood_names p.kept)));
        stood = subst (Ascends is_same_number is_before_number stood_key) (sym mark.stood) (stood_ascends p.kept ordered.0);
        before = subst AscendByPlace (sym room.before) ordered.1;
        kept_room = omega (arith, long, mark.watched_are, kept_room);
        held_most = omega (arith, wide, count, mark.adds_are, room.held);
        held_room = held_room;
        added = omega (arith, added, mark.watched_are, mark.added_room);
        spare = room.spare;
        lost = omega (arith, named, room.lost);
        gained = room.gained;
        moved = (let w = length-map p.kept where_stood in omega (arith, stood, w, room.moved));
        empty = room.empty;
      }

  begun_fits : Fits m q
  begun_fits =
      let a = ap length begun_kept in
      let b = ap length begun_held in
      let most = room.held in
      record {
        kept_room = omega (arith, a, kept_room);
        held_room = omega (arith, b, most, held_room);
        left = subst (HasRoomLeft m q) (sym mark.room) begun_room;
      }

  was_begun : WasBegun t m q
  was_begun =
      let count = ap count_ones mark.leaves in
      let long = ap length kept in
      subst (IsUnusedIn t m q) (sym mark.room) (record {
        leaves = sym mark.leaves;
        kept = room.kept ∙ ap (λ (ks : List Kept). let x : Targeted =
            record { leaves = t.leaves; targets = leaf_places (moved_leaves t.leaves t.targets ks) } in x) (sym kept);
        known = (
          room.known.0,
          subst (λ (ks : List Kept). HoldKnown t.leaves (leaf_places (moved_leaves t.leaves t.targets ks)) room.known.0)
              (sym kept) room.known.1,
          omega (arith, count, mark.adds_are, room.known.2),
        );
        taken = (mark.taken, mark.added, mark.stood ∙ ap (map where_stood) (sym kept));
        taken_room = omega (arith, long, mark.taken_room);
        moves = room.moves;
        goals = subst (λ (hs : List (Place × Digest)). TellGoals t.leaves t.targets hs r.value.scratch.goals.items) (sym held) room.goals;
        each = room.each ∙ ap length (sym held);
      })

  pub begins : BeginsBlock t adds watched p q m
  begins = record {
    fit = begun_fits;
    begun = was_begun;
    kept = begun_kept;
    held = begun_held;
    left = (mark.leaves, mark.adds_are, mark.watched_are);
  }

-- where a mark begins a block, what is said of it holds one by one
module _ {E : Type 0} (r : Result Mark E) (t : Targeted) (adds watched : ℕ) (old new : Parted)
    (h : IfOk r (BeginsBlock t adds watched old new)) where
  abbrev Begins : Mark → Type 0
  Begins = BeginsBlock t adds watched old new

  pub begins-fits : IfOk r (λ m. Fits m new)
  begins-fits = IfOk-weaker r Begins (λ m. Fits m new) (λ m b. b.fit) h

  pub begins-begun : IfOk r (λ m. WasBegun t m new)
  begins-begun = IfOk-weaker r Begins (λ m. WasBegun t m new) (λ m b. b.begun) h

  pub begins-kept : IfOk r (λ m. kept_back m new.kept ≡ old.kept)
  begins-kept = IfOk-weaker r Begins (λ m. kept_back m new.kept ≡ old.kept) (λ m b. b.kept) h

  pub begins-held : IfOk r (λ m. held_back m new.held ≡ old.held)
  begins-held = IfOk-weaker r Begins (λ m. held_back m new.held ≡ old.held) (λ m b. b.held) h

  pub begins-left : IfOk r (λ m. (m.leaves ≡ t.leaves) × (m.adds ≡ adds) × (m.watched ≡ watched))
  begins-left = IfOk-weaker r Begins (λ m. (m.leaves ≡ t.leaves) × (m.adds ≡ adds) × (m.watched ≡ watched)) (λ m b. b.left) h

-- a mark with no block fits where there is room for what it gives back
pub between_fits : (m : Mark) (p newer older : Parted) → m.room ≡ None → m.adds ≡ 0 → kept_back m newer.kept ≡ older.kept
    → held_back m newer.held ≡ older.held → (p.kept ≡ newer.kept) × (p.held ≡ newer.held) →
    length older.kept < p.kept_room → length older.held < p.held_room → Fits m p
between_fits m p newer older none done kept held same kept_room held_room =
    let a = ap length (ap (kept_back m) same.0 ∙ kept) in
    let b = ap length (ap (held_back m) same.1 ∙ held) in
    record {
      kept_room = omega (arith, a, kept_room);
      held_room = omega (arith, b, held_room);
      left = subst (HasRoomLeft m p) (sym none) (λ lt. absurd (omega (arith, lt, done)));
    }
