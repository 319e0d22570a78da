-- The roots, the lists and the mark while a block adds its outputs.
use Rattle.std.proofs.Common.{◌≡◌, ℕ, zero, suc, ◌+◌, ◌<◌, ◌≤◌, ◌^◌, Bool, true, false, cond, List, [], ◌∷◌, ◌++◌, map, length, take, drop, get_or}
use Rattle.std.proofs.Common.{Option, Some, None, is_some, refl, sym, ap, ap₂, ◌∙◌, arith}
use Rattle.std.specs.Prelude.{slice_get, count_by, count_ones}
use Rattle.std.proofs.lemmas.List.{length-map, take_all}
use Rattle.std.proofs.lemmas.List.Sums.{sum_by-append}
use Rattle.std.proofs.lemmas.Option.{same_Some, get_or_from_slice_get}
use Rattle.std.proofs.lemmas.Nat.{ones-le}
use Rattle.uo_base.proofs.Lists.{take_one, got-map}
use Rattle.uo_digest.specs.declared.digest.Digest.{Digest}
use Rattle.forest_place.specs.declared.place.Place.{Place}
use Rattle.forest_roots.specs.Stump.{Stump}
use Rattle.forest_roots.specs.Joined.{joins_of}
use Rattle.leaf_record.specs.Leaf.{Leaf, leaf_text}
use Rattle.cache_model.specs.declared.kept.Kept.{Kept}
use Rattle.cache_model.specs.Known.{is_watched}
use Rattle.cache_model.specs.Lists.{leaves_more}
use Rattle.cache_model.proofs.Histories.{watched_is}
use Rattle.leaf_cache.specs.Parted.{Parted}
use Rattle.cache_update.specs.declared.mark.Mark.{Mark}
use Rattle.cache_update.specs.Joins.{is_empty_of, added_by}
use Rattle.cache_update.specs.Marks.{Fits}
use Rattle.compact_node.specs.After.{with_leaf, with_leaves, kept_with, held_with, kept_with_all, held_with_all}
use Rattle.compact_node.specs.Judged.{watched_leaf}
use Rattle.compact_node.specs.Marked.{GoesOn}
use Rattle.forest_roots.proofs.Additions.{with_leaf-leaves}
use Rattle.compact_node.proofs.Taking.{IsAppending, appending_begins, appended_once}

-- ---- lists whose head is taken off

dropped : {X : Type 0} (xs : List X) (i : ℕ) (x : X) (ys : List X) → x ∷ ys ≡ drop i xs → (slice_get xs i ≡ Some x) × (ys ≡ drop (i + 1) xs)
    × (i < length xs)
dropped [] zero x ys e = absurd (let z = ap length e in omega (arith, z))
dropped [] (suc i) x ys e = absurd (let z = ap length e in omega (arith, z))
dropped (z ∷ xs) zero x ys e = (ap Some (sym (head_of e)), tail_of e, omega arith)
  where
    head_of : x ∷ ys ≡ z ∷ xs → x ≡ z
    head_of f = cc

    tail_of : x ∷ ys ≡ z ∷ xs → ys ≡ xs
    tail_of f = cc
dropped (z ∷ xs) (suc i) x ys e = let w = dropped xs i x ys e in
    (w.0, w.1 ∙ ap (λ k. drop k (z ∷ xs)) (let n : suc (i + 1) ≡ suc i + 1 = omega arith in n), omega (arith, w.2))

pub empty : {X : Type 0} (xs : List X) → length xs ≡ 0 → xs ≡ []
empty [] e = refl
empty (x ∷ xs) e = absurd (omega (arith, e))

none_dropped : {X : Type 0} (xs : List X) (i : ℕ) → [] ≡ drop i xs → length xs ≤ i
none_dropped [] i e = omega arith
none_dropped (x ∷ xs) zero e = absurd (let z = ap length e in omega (arith, z))
none_dropped (x ∷ xs) (suc i) e = let h = none_dropped xs i e in omega (arith, h)

dropped_long : {X : Type 0} (xs : List X) (i : ℕ) → i ≤ length xs → length (drop i xs) + i ≡ length xs
dropped_long xs zero h = omega arith
dropped_long [] (suc i) h = absurd (omega (arith, h))
dropped_long (x ∷ xs) (suc i) h = let e = dropped_long xs i (omega (arith, h)) in omega (arith, e)

count_more : (x : Option Leaf) (xs : List (Option Leaf)) → count_by is_some (x ∷ xs) ≡ count_by is_some (x ∷ []) + count_by is_some xs
count_more x xs = sum_by-append (λ (y : Option Leaf). cond (is_some y) 1 0) (x ∷ []) xs

count_one : (x : Option Leaf) → is_some x ≡ true → 0 < count_by is_some (x ∷ [])
count_one (Some x) h = omega arith
count_one None h = absurd (let z : false ≡ true = h in cc)

-- an item at an index
pub item_there : {X : Type 0} (xs : List X) (i : ℕ) → i < length xs → (x : X) × (slice_get xs i ≡ Some x)
item_there [] i lt = absurd (omega (arith, lt))
item_there (x ∷ xs) zero lt = (x, refl)
item_there (x ∷ xs) (suc i) lt = item_there xs i (omega (arith, lt))

-- and what a function gives of it
pub got_of : {X Y : Type 0} (f : X → Y) (xs : List X) (ys : List Y) (i : ℕ) (x : X) (d : Y) → ys ≡ map f xs → slice_get xs i ≡ Some x
    → get_or ys i d ≡ f x
got_of f xs ys i x d are got = ap (λ zs. get_or zs i d) are ∙ get_or_from_slice_get (map f xs) i (f x) d (got-map f xs i x got)

-- ---- one output more

module _ (H : List ℕ → Digest) (scripts : List (List ℕ)) where
  kept_more : (f : Stump) (xs : List Leaf) (x : Leaf) (ks : List Kept)
      → kept_with_all H scripts f (xs ++ x ∷ []) ks ≡ kept_with H scripts (with_leaves H f (map (λ leaf. H (leaf_text leaf)) xs)) x
      (kept_with_all H scripts f xs ks)
  kept_more f [] x ks = refl
  kept_more f (y ∷ ys) x ks = kept_more (with_leaf H f (H (leaf_text y))) ys x (kept_with H scripts f y ks)

  held_more : (f : Stump) (xs : List Leaf) (x : Leaf) (hs : List (Place × Digest))
      → held_with_all H scripts f (xs ++ x ∷ []) hs ≡ held_with H scripts (with_leaves H f (map (λ leaf. H (leaf_text leaf)) xs)) x
      (held_with_all H scripts f xs hs)
  held_more f [] x hs = refl
  held_more f (y ∷ ys) x hs = held_more (with_leaf H f (H (leaf_text y))) ys x (held_with H scripts f y hs)

-- one change after the other
pub goes_on : (m m' m'' : Mark) (p p' p'' : Parted) → GoesOn m p m' p' → GoesOn m' p' m'' p'' → GoesOn m p m'' p''
goes_on m m' m'' p p' p'' a b = record {
  fits = b.fits;
  same_kept = b.same_kept ∙ a.same_kept;
  same_held = b.same_held ∙ a.same_held;
  kept_room = omega (arith, a.kept_room, b.kept_room);
  held_room = omega (arith, a.held_room, b.held_room);
}

-- ---- after i outputs: left are those that come, where they are watched

pub record IsGrowing (H : List ℕ → Digest) (scripts : List (List ℕ)) (f : Stump) (p : Parted) (m : Mark) (start : ℕ)
    (new : List Leaf) (i : ℕ) (left : List (Option Leaf)) (roots : Stump) (now : Parted) (watch : List (List ℕ)) (mark : Mark) (steps : ℕ) : Type
    0 where
  pub appending : IsAppending H f start new i roots steps
  pub within : i ≤ length new
  pub rest : left ≡ drop i (map (watched_leaf scripts) new)
  pub kept : now.kept ≡ kept_with_all H scripts f (take i new) p.kept
  pub held : now.held ≡ held_with_all H scripts f (take i new) p.held
  pub watch_is : watch ≡ scripts
  pub on : GoesOn m p mark now
  pub leaves : mark.leaves ≡ roots.leaves
  pub adds : mark.adds ≡ length left
  pub watched : mark.watched ≡ count_by is_some left

module _ (H : List ℕ → Digest) (scripts : List (List ℕ)) (f : Stump) (p : Parted) (m : Mark) (start : ℕ)
    (new : List Leaf) where
  pub growing_begins : (left : List (Option Leaf)) → Fits m p → left ≡ map (watched_leaf scripts) new → m.adds ≡ length new
      → m.watched ≡ count_by is_some left → m.leaves ≡ f.leaves →
      IsGrowing H scripts f p m start new 0 left f p scripts m start
  growing_begins left fits are adds watched leaves = record {
    appending = appending_begins H f start new;
    within = omega arith;
    rest = are;
    kept = refl;
    held = refl;
    watch_is = refl;
    on = record { fits = fits; same_kept = refl; same_held = refl; kept_room = omega arith; held_room = omega arith };
    leaves = leaves;
    adds = adds ∙ (sym (length-map new (watched_leaf scripts)) ∙ ap length (sym are));
    watched = watched;
  }

  module _ (i : ℕ) (left : List (Option Leaf)) (roots : Stump) (now : Parted) (watch : List (List ℕ)) (mark : Mark) (steps : ℕ)
      (g : IsGrowing H scripts f p m start new i left roots now watch mark steps) where
    module _ (x : Option Leaf) (later : List (Option Leaf)) (head : left ≡ x ∷ later) where
      next : (slice_get (map (watched_leaf scripts) new) i ≡ Some x) × (later ≡ drop (i + 1) (map (watched_leaf scripts) new))
          × (i < length (map (watched_leaf scripts) new))
      next = dropped (map (watched_leaf scripts) new) i x later (sym head ∙ g.rest)

      pub growing_within : i < length new
      growing_within = let lt = next.2 in omega (arith, lt, length-map new (watched_leaf scripts))

      pub growing_left : 0 < mark.adds
      growing_left = let e = ap length head in omega (arith, g.adds, e)

      pub growing_watched : is_some x ≡ true → 0 < mark.watched
      growing_watched h = let a = count_one x h in let b = g.watched ∙ (ap (count_by is_some) head ∙ count_more x later) in omega (arith, a, b)

      pub growing_few : f.leaves + length new < 2 ^ 40 → roots.leaves + 1 < 2 ^ 40
      growing_few few = omega (arith, few, g.appending.counted, growing_within)

      -- what the addition makes
      pub grown_once : (leaf : Leaf) (d : Digest) (roots' : Stump) (now' : Parted) (watch' : List (List ℕ)) (mark' : Mark) (after : ℕ)
          → slice_get new i ≡ Some leaf → d ≡ H (leaf_text leaf) →
          roots' ≡ with_leaf H roots d → after + count_ones roots'.leaves ≤ steps + 1 + count_ones roots.leaves →
          now'.kept ≡ leaves_more (is_empty_of (joins_of H roots d)) roots.leaves (length (joins_of H roots d)) x d now.kept →
          now'.held ≡ added_by (joins_of H roots d) d roots.leaves (is_some x) now.held →
          watch' ≡ watch → GoesOn mark now mark' now' → mark'.leaves ≡ mark.leaves + 1 → mark'.adds + 1 ≡ mark.adds
          → mark'.watched + count_by is_some (x ∷ []) ≡ mark.watched →
          IsGrowing H scripts f p m start new (i + 1) later roots' now' watch' mark' after
      grown_once leaf d roots' now' watch' mark' after got digest added le kept held same on leaves adds watched =
          let w : x ≡ watched_leaf scripts leaf = same_Some x (watched_leaf scripts leaf)
          (sym next.0 ∙ got-map (watched_leaf scripts) new i leaf got) in
          let front = take_one new i leaf got in
          let digests = with_leaves H f (map (λ (l : Leaf). H (leaf_text l)) (take i new)) in
          record {
            appending = appended_once H f start new i roots steps g.appending leaf d roots' after got digest added le;
            within = let lt = growing_within in omega (arith, lt);
            rest = next.1;
            kept = kept
                ∙ (ap (λ (y : Option Leaf). leaves_more (is_empty_of (joins_of H roots d)) roots.leaves (length (joins_of H roots d)) y d now.kept) w
                ∙ (ap (λ (c : Digest). leaves_more (is_empty_of (joins_of H roots c)) roots.leaves (length (joins_of H roots c))
                (watched_leaf scripts leaf) c now.kept) digest
                ∙ (ap₂ (λ (h : Stump) (ks : List Kept). kept_with H scripts h leaf ks) g.appending.are g.kept
                ∙ (sym (kept_more H scripts f (take i new) leaf p.kept)
                ∙ ap (λ xs. kept_with_all H scripts f xs p.kept) (sym front)))));
            held = held
                ∙ (ap (λ (b : Bool). added_by (joins_of H roots d) d roots.leaves b now.held)
                (ap is_some w ∙ watched_is leaf (is_watched scripts (Some leaf)))
                ∙ (ap (λ (c : Digest). added_by (joins_of H roots c) c roots.leaves (is_watched scripts (Some leaf)) now.held) digest
                ∙ (ap₂ (λ (h : Stump) (hs : List (Place × Digest)). held_with H scripts h leaf hs) g.appending.are g.held
                ∙ (sym (held_more H scripts f (take i new) leaf p.held)
                ∙ ap (λ xs. held_with_all H scripts f xs p.held) (sym front)))));
            watch_is = same ∙ g.watch_is;
            on = goes_on m mark mark' p now now' g.on on;
            leaves = let n = ap (λ (h : Stump). h.leaves) added in let k = with_leaf-leaves H roots d in omega (arith, leaves, g.leaves, n, k);
            adds = let n = ap length head in omega (arith, adds, g.adds, n);
            watched = let n = g.watched ∙ (ap (count_by is_some) head ∙ count_more x later) in omega (arith, watched, n);
          }

    -- and when none is left
    module _ (none : left ≡ []) where
      all : take i new ≡ new
      all = take_all i new (let h = none_dropped (map (watched_leaf scripts) new) i (sym none ∙ g.rest) in
          omega (arith, h, length-map new (watched_leaf scripts)))

      pub grown_roots : roots ≡ with_leaves H f (map (λ leaf. H (leaf_text leaf)) new)
      grown_roots = g.appending.are ∙ ap (λ xs. with_leaves H f (map (λ leaf. H (leaf_text leaf)) xs)) all

      pub grown_kept : now.kept ≡ kept_with_all H scripts f new p.kept
      grown_kept = g.kept ∙ ap (λ xs. kept_with_all H scripts f xs p.kept) all

      pub grown_held : now.held ≡ held_with_all H scripts f new p.held
      grown_held = g.held ∙ ap (λ xs. held_with_all H scripts f xs p.held) all

      pub grown_steps : f.leaves < 2 ^ 40 → steps ≤ start + length new + 40
      grown_steps few = let h = none_dropped (map (watched_leaf scripts) new) i (sym none ∙ g.rest) in
          omega (arith, g.appending.few, ones-le 40 f.leaves few, g.within)
