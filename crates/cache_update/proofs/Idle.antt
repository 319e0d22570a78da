-- What a block leaves of a cache that keeps and holds nothing.
use Rattle.std.proofs.Common.{◌≡◌, ℕ, zero, suc, ◌<◌, Bool, true, false, cond, List, [], ◌∷◌, ◌++◌, filter, length, Option}
use Rattle.std.proofs.Common.{Some, None, is_some, refl, sym, ap, ap₂, ◌∙◌, subst, arith}
use Rattle.std.proofs.lemmas.List.{append-nil}
use Rattle.leaf_record.specs.Leaf.{Leaf}
use Rattle.uo_digest.specs.declared.digest.Digest.{Digest}
use Rattle.forest_place.specs.declared.place.Place.{Place}
use Rattle.forest_roots.specs.declared.joins.Join.{Join}
use Rattle.cache_model.specs.declared.kept.Kept.{Kept}
use Rattle.cache_model.specs.Cache.{is_root_held}
use Rattle.cache_model.specs.Known.{is_known}
use Rattle.cache_model.specs.Lists.{moved_leaves, leaf_places, leaves_more}
use Rattle.cache_model.specs.Steps.{put_all, held_deleted}
use Rattle.cache_model.proofs.Known.{none_known}
use Rattle.leaf_cache.specs.Parted.{Parted}
use Rattle.cache_update.specs.Begun.{BeginsBlock, IsIdleMark}
use Rattle.cache_update.specs.Given.{kept_given, held_given}
use Rattle.cache_update.specs.Joins.{shown_by, added_by}
use Rattle.cache_update.specs.Marks.{BoxedRoom, Fits, HasRoomLeft, IsIdle, WasBegun, IsUnusedIn, kept_back, held_back, held_from}
use Rattle.cache_update.specs.declared.mark.Mark.{Mark}
use Rattle.proof_shape.specs.Targeted.{Targeted}

-- nothing is known where nothing is kept
no_pair : (n : ℕ) (pairs : List (Place × Digest)) → filter (λ x. is_known n [] x.0) pairs ≡ []
no_pair n [] = refl
no_pair n (x ∷ pairs) = rw (none_known n x.0) (no_pair n pairs)

-- so a deletion leaves empty lists
pub none_moved : (n : ℕ) (ts : List Place) (ks : List Kept) → ks ≡ [] → ks ≡ moved_leaves n ts ks
none_moved n ts ks e = subst (λ (xs : List Kept). xs ≡ moved_leaves n ts xs) (sym e) refl

pub none_deleted : (n : ℕ) (ts : List Place) (pairs : List (Place × Digest)) (ks : List Kept) (hs : List (Place × Digest)) → ks ≡ [] → hs ≡ []
    → hs ≡ held_deleted n ts pairs (leaf_places (moved_leaves n ts ks)) hs
none_deleted n ts pairs ks hs e f =
    subst (λ (xs : List Kept). hs ≡ held_deleted n ts pairs (leaf_places (moved_leaves n ts xs)) hs) (sym e)
    (subst (λ (xs : List (Place × Digest)). xs ≡ held_deleted n ts pairs [] xs) (sym f)
    (sym (ap (λ (xs : List (Place × Digest)). put_all xs []) (no_pair n pairs))))

-- and so does an addition that is not watched
none_shown : (js : List Join) (d : Digest) (n k row : ℕ) → shown_by js d n (is_root_held n []) false k row ≡ []
none_shown js d n zero row = refl
none_shown js d n (suc k) row = none_shown js d n k (suc row)

pub unwatched : (leaf : Option Leaf) (w : ℕ) → (is_some leaf ≡ true → 0 < w) → w ≡ 0 → leaf ≡ None
unwatched None w h e = refl
unwatched (Some x) w h e = let some = h refl in absurd (omega (arith, some, e))

pub none_more : (e : ℕ → Bool) (n m : ℕ) (leaf : Option Leaf) (d : Digest) (ks : List Kept) → ks ≡ [] → leaf ≡ None → ks ≡ leaves_more e n m leaf d ks
none_more e n m leaf d ks f g =
    subst (λ (x : Option Leaf). ks ≡ leaves_more e n m x d ks) (sym g) (subst (λ (xs : List Kept). xs ≡ leaves_more e n m None d xs) (sym f) refl)

pub none_added : (js : List Join) (d : Digest) (n : ℕ) (leaf : Option Leaf) (hs : List (Place × Digest)) → hs ≡ [] → leaf ≡ None
    → hs ≡ added_by js d n (is_some leaf) hs
none_added js d n leaf hs f g =
    subst (λ (x : Option Leaf). hs ≡ added_by js d n (is_some x) hs) (sym g)
    (subst (λ (xs : List (Place × Digest)). xs ≡ added_by js d n false xs) (sym f)
    (sym (ap (λ (xs : List (Place × Digest)). put_all xs []) (none_shown js d n (length js) 0))))

-- a mark that was just made
module _ (leaves adds : ℕ) (m : Mark) (p q : Parted) (idle : IsIdleMark leaves adds m) (no_kept : p.kept ≡ []) (no_held : p.held ≡ [])
    (kept : q.kept ≡ p.kept) (held : q.held ≡ p.held) where
  pub idle_kept : kept_back m q.kept ≡ p.kept
  idle_kept =
      ap (kept_back m) kept
      ∙ (ap (λ (x : List Kept). kept_given x m.stood.items m.added.items p.kept) idle.nothing.0
      ∙ ap₂ (λ (s : List (ℕ × Place)) (j : List ℕ). kept_given [] s j p.kept) idle.nothing.1 idle.nothing.2)

  pub idle_held : held_back m q.held ≡ p.held
  idle_held =
      ap (held_back m) held
      ∙ (ap (λ (r : Option BoxedRoom). held_from r m.lost.items m.gained.items p.held) idle.room
      ∙ ap₂ (λ (x : List (Place × Digest)) (g : List Place). held_given x g p.held) idle.nothing.3 idle.nothing.4)

  pub idle_fits : 0 < q.kept_room → 0 < q.held_room → Fits m q
  idle_fits a b =
      let k = ap length (idle_kept ∙ no_kept) in
      let h = ap length (idle_held ∙ no_held) in
      record {
        kept_room = omega (arith, k, a);
        held_room = omega (arith, h, b);
        left = subst (HasRoomLeft m q) (sym idle.room) (λ lt. record { kept = kept ∙ no_kept; held = held ∙ no_held; watched = idle.watched });
      }

  idle_begun : 0 < adds → (t : Targeted) → WasBegun t m q
  idle_begun some t = subst (IsUnusedIn t m q) (sym idle.room) (omega (arith, some, idle.adds_are))

  pub idle_begins : (t : Targeted) (watched : ℕ) → leaves ≡ t.leaves → 0 < adds → watched ≡ 0 → 0 < q.kept_room → 0 < q.held_room
      → BeginsBlock t adds watched p q m
  idle_begins t watched e some none a b = record {
    fit = idle_fits a b;
    begun = idle_begun some t;
    kept = idle_kept;
    held = idle_held;
    left = (idle.leaves_are ∙ e, idle.adds_are, idle.watched ∙ sym none);
  }

-- a mark that only counts
pub same_back : (m m' : Mark) (ks : List Kept) → m'.taken.items ≡ m.taken.items → m'.stood.items ≡ m.stood.items → m'.added.items ≡ m.added.items
    → kept_back m' ks ≡ kept_back m ks
same_back m m' ks e f g =
    ap (λ (x : List Kept). kept_given x m'.stood.items m'.added.items ks) e
    ∙ ap₂ (λ (s : List (ℕ × Place)) (j : List ℕ). kept_given m.taken.items s j ks) f g

pub none_counted : (leaf : Option Leaf) (added new : List ℕ) (n : ℕ) (b : Bool) → b ≡ is_some leaf → leaf ≡ None → new ≡ added ++ cond b (n ∷ []) []
    → new ≡ added
none_counted leaf added new n b e f g = let h : b ≡ false = e ∙ ap is_some f in g ∙ (ap (λ c. added ++ cond c (n ∷ []) []) h ∙ append-nil added)

pub same_held : (m m' : Mark) (hs : List (Place × Digest)) → m.room ≡ None → m'.room ≡ None → m'.lost.items ≡ m.lost.items
    → m'.gained.items ≡ m.gained.items → held_back m' hs ≡ held_back m hs
same_held m m' hs e f g h =
    ap (λ (r : Option BoxedRoom). held_from r m'.lost.items m'.gained.items hs) f
    ∙ (ap₂ (λ (x : List (Place × Digest)) (y : List Place). held_given x y hs) g h
    ∙ sym (ap (λ (r : Option BoxedRoom). held_from r m.lost.items m.gained.items hs) e))

pub idle_on : (m m' : Mark) (p : Parted) → m'.room ≡ None → kept_back m' p.kept ≡ kept_back m p.kept → held_back m' p.held ≡ held_back m p.held
    → m'.watched ≡ 0 → IsIdle m p → Fits m p → Fits m' p
idle_on m m' p none kept held watched idle fits =
    let k = ap length kept in let h = ap length held in let a = fits.kept_room in let b = fits.held_room in
    record {
      kept_room = omega (arith, k, a);
      held_room = omega (arith, h, b);
      left = subst (HasRoomLeft m' p) (sym none) (λ lt. record { kept = idle.kept; held = idle.held; watched = watched });
    }
