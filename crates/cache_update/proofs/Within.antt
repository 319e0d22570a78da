-- Places stay in the forest, whatever a proof said.
use Rattle.std.proofs.Common.{◌≡◌, ℕ, zero, suc, ◌+◌, ◌-◌, ◌*◌, ◌/◌, ◌%◌, ◌<◌, ◌≤◌, Bool, true, false, cond, ◌||◌, List, [], ◌∷◌, filter_map, length}
use Rattle.std.proofs.Common.{Option, Some, None, refl, sym, ap, ◌∙◌, subst, ⊎_elim, All, arith, ◌^◌, ltb-true}
use Rattle.std.specs.Prelude.{option_map}
use Rattle.std.specs.List.{cons_option}
use Rattle.std.proofs.lemmas.Bool.{cases_Bool, cases_lt, and_parts}
use Rattle.std.proofs.lemmas.List.{append-nil}
use Rattle.std.proofs.lemmas.List.Elements.{All-nil, All-cons, All-head, All-tail, All-append}
use Rattle.std.proofs.lemmas.Option.{none-some, same_Some, option_and_then_some}
use Rattle.uo_digest.specs.declared.digest.Digest.{Digest}
use Rattle.leaf_record.specs.Leaf.{Leaf}
use Rattle.forest_place.specs.declared.place.Place.{Place}
use Rattle.forest_place.specs.Forest.{InForest, is_root}
use Rattle.forest_place.specs.Places.{is_at, is_within, is_before_place, child}
use Rattle.forest_place.proofs.Listed.{place, same_from_is_at}
use Rattle.forest_place.proofs.Parts.{row_below, InForest-up}
use Rattle.forest_place.proofs.Slots.{in_forest_iff}
use Rattle.forest_model.specs.Addition.{all_slots, carried_place}
use Rattle.forest_model.specs.Deletion.{moved}
use Rattle.forest_model.proofs.Adding.{parts_more}
use Rattle.forest_roots.specs.declared.joins.Join.{Join}
use Rattle.cache_model.specs.declared.kept.Kept.{Kept}
use Rattle.cache_model.specs.Cache.{raised, raised_held, noted, is_root_held}
use Rattle.cache_model.specs.Known.{is_known}
use Rattle.cache_model.specs.Lists.{moved_leaf, moved_leaves, raised_leaves, leaves_more}
use Rattle.cache_model.specs.Steps.{put, put_all, staying, moving, destined}
use Rattle.cache_model.specs.Undo.{is_same_place}
use Rattle.cache_model.proofs.Raising.{raised-step, raised-joined, raised-same}
use Rattle.cache_update.specs.Joins.{is_empty_of, root_of, carried_to, shown_by, added_by}
use Rattle.cache_update.specs.Marks.{IsKnownIn, is_pair_known}
use Rattle.cache_update.proofs.Moves.{IsAt, goes_within, child_within}

abbrev pub IsHeldIn : ℕ → Place × Digest → Type 0
IsHeldIn n x = InForest n x.0.row x.0.off

abbrev pub IsKeptIn : ℕ → Kept → Type 0
IsKeptIn n k = InForest n k.place.row k.place.off

-- what is put in is of one kind with what is there
module _ (P : Place × Digest → Type 0) where
  pub put_in : (p : Place) (d : Digest) (hs : List (Place × Digest)) → P (p, d) → All P hs → All P (put p d hs)
  put_in p d [] h a = All-cons P (p, d) [] h a
  put_in p d (y ∷ ys) h a =
      let first = All-head P y ys a in
      let rest = All-tail P y ys a in
      ⊎_elim
      (λ t. let s : is_same_place p y.0 ≡ true = t in rw s (All-cons P (p, d) ys h rest))
      (λ t. let s : is_same_place p y.0 ≡ false = t in ⊎_elim
      (λ u. let b : is_before_place p y.0 ≡ true = u in rw (s, b) (All-cons P (p, d) (y ∷ ys) h a))
      (λ u. let b : is_before_place p y.0 ≡ false = u in rw (s, b) (All-cons P y (put p d ys) first (put_in p d ys h rest)))
      (cases_Bool (is_before_place p y.0)))
      (cases_Bool (is_same_place p y.0))

  pub put_all_in : (xs hs : List (Place × Digest)) → All P xs → All P hs → All P (put_all xs hs)
  put_all_in [] hs a b = b
  put_all_in (x ∷ xs) hs a b = put_all_in xs (put x.0 x.1 hs) (All-tail P x xs a) (put_in x.0 x.1 hs (All-head P x xs a) b)

pub passed : {X Y : Type 0} (P : X → Type 0) (Q : Y → Type 0) (f : X → Option Y) → ((x : X) (y : Y) → P x → f x ≡ Some y → Q y) → (xs : List X)
    → All P xs → All Q (filter_map f xs)
passed P Q f g [] a = All-nil Q
passed {Y = Y} P Q f g (x ∷ xs) a = by_first (f x) refl (passed P Q f g xs (All-tail P x xs a))
  where
    by_first : (y : Option Y) → f x ≡ y → All Q (filter_map f xs) → All Q (cons_option y (filter_map f xs))
    by_first None e rest = rest
    by_first (Some y) e rest = All-cons Q y (filter_map f xs) (g x y (All-head P x xs a) e) rest

-- where a deletion moves to
known_goes : (n : ℕ) (ts ps : List Place) (p q : Place) → InForest n p.row p.off → destined n ts ps p ≡ Some q → InForest n q.row q.off
known_goes n ts ps p q h e =
    option_and_then_some (λ q. cond (is_known n ps q) (Some q) None) (moved n ts p.row p.off) q e (λ u m k.
    ⊎_elim
    (λ t. subst (λ (x : Place). InForest n x.row x.off) (same_Some u q (rw t at k)) (goes_within n ts (n - p.row) p.row p.off u refl h m).1)
    (λ t. absurd (none-some q (rw t at k)))
    (cases_Bool (is_known n ps u)))

-- and it is known there
known_there : (n : ℕ) (ts ps : List Place) (p q : Place) → destined n ts ps p ≡ Some q → is_known n ps q ≡ true
known_there n ts ps p q e =
    option_and_then_some (λ q. cond (is_known n ps q) (Some q) None) (moved n ts p.row p.off) q e (λ u m k.
    ⊎_elim
    (λ t. subst (λ (x : Place). is_known n ps x ≡ true) (same_Some u q (rw t at k)) t)
    (λ t. absurd (none-some q (rw t at k)))
    (cases_Bool (is_known n ps u)))

moving_in : (n : ℕ) (ts ps : List Place) (x y : Place × Digest) → IsHeldIn n x → moving n ts ps x ≡ Some y → IsHeldIn n y
moving_in n ts ps x y h e =
    option_and_then_some (λ q. cond (is_at x.0.row x.0.off q) None (Some (q, x.1))) (destined n ts ps x.0) y e (λ q m k.
    ⊎_elim
    (λ t. absurd (none-some y (rw t at k)))
    (λ t. subst (IsHeldIn n) (same_Some (q, x.1) y (rw t at k)) (known_goes n ts ps x.0 q h m))
    (cases_Bool (is_at x.0.row x.0.off q)))

staying_in : (n : ℕ) (ts ps : List Place) (x y : Place × Digest) → IsHeldIn n x → staying n ts ps x ≡ Some y → IsHeldIn n y
staying_in n ts ps x y h e =
    option_and_then_some (λ q. cond (is_at x.0.row x.0.off q) (Some x) None) (destined n ts ps x.0) y e (λ q m k.
    ⊎_elim
    (λ t. subst (IsHeldIn n) (same_Some x y (rw t at k)) h)
    (λ t. absurd (none-some y (rw t at k)))
    (cases_Bool (is_at x.0.row x.0.off q)))

moving_known : (n : ℕ) (ts ps : List Place) (x y : Place × Digest) → IsHeldIn n x → moving n ts ps x ≡ Some y → IsKnownIn n ps y
moving_known n ts ps x y h e = (
  moving_in n ts ps x y h e,
  option_and_then_some (λ q. cond (is_at x.0.row x.0.off q) None (Some (q, x.1))) (destined n ts ps x.0) y e (λ q m k.
      ⊎_elim
      (λ t. absurd (none-some y (rw t at k)))
      (λ t. subst (λ (z : Place × Digest). is_known n ps z.0 ≡ true) (same_Some (q, x.1) y (rw t at k)) (known_there n ts ps x.0 q m))
      (cases_Bool (is_at x.0.row x.0.off q))),
)

staying_known : (n : ℕ) (ts ps : List Place) (x y : Place × Digest) → IsHeldIn n x → staying n ts ps x ≡ Some y → IsKnownIn n ps y
staying_known n ts ps x y h e = (
  staying_in n ts ps x y h e,
  option_and_then_some (λ q. cond (is_at x.0.row x.0.off q) (Some x) None) (destined n ts ps x.0) y e (λ q m k.
      ⊎_elim
      (λ t. let same : q ≡ x.0 = same_from_is_at x.0.row x.0.off q t in
      subst (λ (z : Place × Digest). is_known n ps z.0 ≡ true) (same_Some x y (rw t at k))
      (ap (is_known n ps) (sym same) ∙ known_there n ts ps x.0 q m))
      (λ t. absurd (none-some y (rw t at k)))
      (cases_Bool (is_at x.0.row x.0.off q))),
)

-- what stays or moves is at known places then
pub sorted_known : (n : ℕ) (ts ps : List Place) (hs : List (Place × Digest)) → All (IsHeldIn n) hs
    → All (IsKnownIn n ps) (put_all (filter_map (moving n ts ps) hs) (filter_map (staying n ts ps) hs))
sorted_known n ts ps hs a =
    put_all_in (IsKnownIn n ps) (filter_map (moving n ts ps) hs) (filter_map (staying n ts ps) hs)
    (passed (IsHeldIn n) (IsKnownIn n ps) (moving n ts ps) (moving_known n ts ps) hs a)
    (passed (IsHeldIn n) (IsKnownIn n ps) (staying n ts ps) (staying_known n ts ps) hs a)

pub pair_known : (n : ℕ) (ps : List Place) (p : Place) (d : Digest) → is_pair_known n ps p ≡ true → IsKnownIn n ps (p, d)
pair_known n ps p d t = let w = and_parts (is_within n p) (is_known n ps p) t in (ltb-true p.off (n / 2 ^ p.row) w.0, w.1)

-- what is known is in the forest
pub known_held : (n : ℕ) (ps : List Place) (hs : List (Place × Digest)) → All (IsKnownIn n ps) hs → All (IsHeldIn n) hs
known_held n ps [] a = All-nil (IsHeldIn n)
known_held n ps (x ∷ hs) a = All-cons (IsHeldIn n) x hs (All-head (IsKnownIn n ps) x hs a).0 (known_held n ps hs (All-tail (IsKnownIn n ps) x hs a))

pub moved_in : (n : ℕ) (ts : List Place) (ks : List Kept) → All (IsKeptIn n) ks → All (IsKeptIn n) (moved_leaves n ts ks)
moved_in n ts ks a = passed (IsKeptIn n) (IsKeptIn n) (moved_leaf n ts) (λ x y h e. goes x y h (moved n ts x.place.row x.place.off) refl e) ks a
  where
    goes : (x y : Kept) → IsKeptIn n x → (q : Option Place) → moved n ts x.place.row x.place.off ≡ q
        → option_map (λ (q : Place). let k : Kept = record { number = x.number; leaf = x.leaf; place = q; digest = x.digest } in k) q ≡ Some y
        → IsKeptIn n y
    goes x y h None m e = absurd (none-some y e)
    goes x y h (Some q) m e = subst (IsKeptIn n) (same_Some _ y e) (goes_within n ts (n - x.place.row) x.place.row x.place.off q refl h m).1

-- a forest of one entry more has all places of the forest
pub one_more : (n r o : ℕ) → InForest n r o → InForest (suc n) r o
one_more n r o h = let e = (in_forest_iff n r o).0 h in (in_forest_iff (suc n) r o).1 (omega (arith, e))

module _ (e : ℕ → Bool) (n m : ℕ) (all : all_slots n m ≡ true) where
  pub carried_in : (k row : ℕ) → row + k ≡ m → IsAt (suc n) row (carried_place e n k row)
  carried_in zero row f =
      let top : all_slots n row ≡ true = (let z : row ≡ m = omega (arith, f) in ap (all_slots n) z ∙ all) in
      let parts = parts_more n row top in
      (omega arith, omega (arith, parts))
  carried_in (suc k) row f =
      let up = carried_in k (suc row) (omega (arith, f)) in
      by_empty (e row) up
    where
      by_empty : (b : Bool) → IsAt (suc n) (suc row) (carried_place e n k (suc row))
          → IsAt (suc n) row (cond b (carried_place e n k (suc row))
          (place ((carried_place e n k (suc row)).row - 1) (2 * (carried_place e n k (suc row)).off + 1)))
      by_empty true up = (omega (arith, up.0), up.1)
      by_empty false up = let le : row + 1 ≤ (carried_place e n k (suc row)).row = omega (arith, up.0) in
          child_within (suc n) row (carried_place e n k (suc row)).row (carried_place e n k (suc row)).off 1 le up.1 (omega arith)

  child_in : (side row : ℕ) (q : Place) → side < 2 → IsAt (suc n) (suc row) q → IsAt (suc n) row (child side q)
  child_in side row q lt up = let le : row + 1 ≤ q.row = omega (arith, up.0) in child_within (suc n) row q.row q.off side le up.1 lt

  pub raised_in : (k r o : ℕ) → n - r ≡ k → InForest n r o → IsAt (suc n) r (raised e n m r o)
  raised_in zero r o f h = let lt = row_below n r o h in absurd (omega (arith, lt, f))
  raised_in (suc k) r o f h = ⊎_elim at_root (λ t. below t (raised_in k (suc r) (o / 2) (omega (arith, f)) (InForest-up n r o h t)))
      (cases_Bool (is_root n r o))
    where
      at_root : is_root n r o ≡ true → IsAt (suc n) r (raised e n m r o)
      at_root t =
          ⊎_elim
          (λ lt. let z : suc r + (m - suc r) ≡ m = omega (arith, lt) in
          subst (IsAt (suc n) r) (sym (raised-joined e n m r o t lt))
          (child_in 0 r (carried_place e n (m - suc r) (suc r)) (omega arith) (carried_in (m - suc r) (suc r) z)))
          (λ ge. subst (IsAt (suc n) r) (sym (raised-same e n m r o t ge)) (omega arith, one_more n r o h))
          (cases_lt r m)

      below : is_root n r o ≡ false → IsAt (suc n) (suc r) (raised e n m (suc r) (o / 2)) → IsAt (suc n) r (raised e n m r o)
      below t up =
          subst (IsAt (suc n) r) (sym (raised-step e n m r o h ∙ rw t refl)) (child_in (o % 2) r (raised e n m (suc r) (o / 2)) (omega arith) up)

  pub raised_kept_in : (ks : List Kept) → All (IsKeptIn n) ks → All (IsKeptIn (suc n)) (raised_leaves e n m ks)
  raised_kept_in [] a = All-nil (IsKeptIn (suc n))
  raised_kept_in (k ∷ ks) a = All-cons (IsKeptIn (suc n)) _ (raised_leaves e n m ks)
      (raised_in (n - k.place.row) k.place.row k.place.off refl (All-head (IsKeptIn n) k ks a)).1 (raised_kept_in ks (All-tail (IsKeptIn n) k ks a))

  raised_held_in : (hs : List (Place × Digest)) → All (IsHeldIn n) hs → All (IsHeldIn (suc n)) (raised_held e n m hs)
  raised_held_in [] a = All-nil (IsHeldIn (suc n))
  raised_held_in (x ∷ hs) a = All-cons (IsHeldIn (suc n)) _ (raised_held e n m hs)
      (raised_in (n - x.0.row) x.0.row x.0.off refl (All-head (IsHeldIn n) x hs a)).1 (raised_held_in hs (All-tail (IsHeldIn n) x hs a))

  pub more_in : (watched : Option Leaf) (d : Digest) (ks : List Kept) → All (IsKeptIn n) ks → All (IsKeptIn (suc n)) (leaves_more e n m watched d ks)
  more_in None d ks a = subst (All (IsKeptIn (suc n))) (sym (append-nil (raised_leaves e n m ks))) (raised_kept_in ks a)
  more_in (Some leaf) d ks a = All-append (IsKeptIn (suc n)) (raised_leaves e n m ks) _ (raised_kept_in ks a)
      (All-cons (IsKeptIn (suc n)) _ [] (carried_in m 0 (omega arith)).1 (All-nil (IsKeptIn (suc n))))

module _ (js : List Join) (d : Digest) (n : ℕ) (w : ℕ → Bool) (all : all_slots n (length js) ≡ true) where
  shown_in : (c : Bool) (k row : ℕ) → row + k ≡ length js → All (IsHeldIn (suc n)) (shown_by js d n w c k row)
  shown_in true zero row f = All-cons (IsHeldIn (suc n)) _ [] (carried_in (is_empty_of js) n (length js) all zero row f).1
      (All-nil (IsHeldIn (suc n)))
  shown_in false zero row f = All-nil (IsHeldIn (suc n))
  shown_in c (suc k) row f =
      let up = carried_in (is_empty_of js) n (length js) all k (suc row) (omega (arith, f)) in
      by_known (c || w row) (root_of js row) (carried_in (is_empty_of js) n (length js) all (suc k) row f).1
      (child_in (is_empty_of js) n (length js) all 0 row (carried_place (is_empty_of js) n k (suc row)) (omega arith) up).1
      (shown_in (c || w row) k (suc row) (omega (arith, f)))
    where
      by_known : (b : Bool) (x : Option Digest) → IsHeldIn (suc n) (carried_place (is_empty_of js) n (suc k) row, carried_to d js row)
          → InForest (suc n) (child 0 (carried_place (is_empty_of js) n k (suc row))).row (child 0 (carried_place (is_empty_of js) n k (suc row))).off
          →
          All (IsHeldIn (suc n)) (shown_by js d n w (c || w row) k (suc row)) →
          All (IsHeldIn (suc n)) (noted b (carried_place (is_empty_of js) n (suc k) row, carried_to d js row)
          (option_map (λ x. (child 0 (carried_place (is_empty_of js) n k (suc row)), x)) x) (shown_by js d n w (c || w row) k (suc row)))
      by_known false x a b rest = rest
      by_known true None a b rest = All-cons (IsHeldIn (suc n)) (carried_place (is_empty_of js) n (suc k) row, carried_to d js row)
          (shown_by js d n w (c || w row) k (suc row)) a rest
      by_known true (Some x) a b rest =
          All-cons (IsHeldIn (suc n)) (carried_place (is_empty_of js) n (suc k) row, carried_to d js row)
          ((child 0 (carried_place (is_empty_of js) n k (suc row)), x) ∷ shown_by js d n w (c || w row) k (suc row)) a
          (All-cons (IsHeldIn (suc n)) (child 0 (carried_place (is_empty_of js) n k (suc row)), x) (shown_by js d n w (c || w row) k (suc row)) b
          rest)

pub added_in : (js : List Join) (d : Digest) (n : ℕ) (watched : Bool) (hs : List (Place × Digest)) → all_slots n (length js) ≡ true
    → All (IsHeldIn n) hs → All (IsHeldIn (suc n)) (added_by js d n watched hs)
added_in js d n watched hs all a =
    put_all_in (IsHeldIn (suc n)) (shown_by js d n (is_root_held n hs) watched (length js) zero)
    (put_all (raised_held (is_empty_of js) n (length js) hs) [])
    (shown_in js d n (is_root_held n hs) all watched (length js) zero (omega arith))
    (put_all_in (IsHeldIn (suc n)) (raised_held (is_empty_of js) n (length js) hs) [] (raised_held_in (is_empty_of js) n (length js) all hs a)
    (All-nil (IsHeldIn (suc n))))

-- the numbers stay below the count of entries
abbrev pub IsNumbered : ℕ → Kept → Type 0
IsNumbered n k = k.number < n

pub numbers_moved : (n : ℕ) (ts : List Place) (b : ℕ) (ks : List Kept) → All (IsNumbered b) ks → All (IsNumbered b) (moved_leaves n ts ks)
numbers_moved n ts b ks a = passed (IsNumbered b) (IsNumbered b) (moved_leaf n ts) (λ x y h e. goes x y h (moved n ts x.place.row x.place.off) e) ks a
  where
    goes : (x y : Kept) → IsNumbered b x → (q : Option Place) → option_map (λ (q : Place). let k : Kept =
        record { number = x.number; leaf = x.leaf; place = q; digest = x.digest } in k) q ≡ Some y → IsNumbered b y
    goes x y h None e = absurd (none-some y e)
    goes x y h (Some q) e = subst (IsNumbered b) (same_Some _ y e) h

raised_numbers : (e : ℕ → Bool) (n m : ℕ) (ks : List Kept) → All (IsNumbered n) ks → All (IsNumbered (n + 1)) (raised_leaves e n m ks)
raised_numbers e n m [] a = All-nil (IsNumbered (n + 1))
raised_numbers e n m (k ∷ ks) a = All-cons (IsNumbered (n + 1)) _ (raised_leaves e n m ks) (let lt = All-head (IsNumbered n) k ks a in
    omega (arith, lt)) (raised_numbers e n m ks (All-tail (IsNumbered n) k ks a))

pub numbers_more : (e : ℕ → Bool) (n m : ℕ) (watched : Option Leaf) (d : Digest) (ks : List Kept) → All (IsNumbered n) ks
    → All (IsNumbered (n + 1)) (leaves_more e n m watched d ks)
numbers_more e n m None d ks a = subst (All (IsNumbered (n + 1))) (sym (append-nil (raised_leaves e n m ks))) (raised_numbers e n m ks a)
numbers_more e n m (Some leaf) d ks a = All-append (IsNumbered (n + 1)) (raised_leaves e n m ks) _ (raised_numbers e n m ks a)
    (All-cons (IsNumbered (n + 1)) _ [] (omega arith) (All-nil (IsNumbered (n + 1))))
