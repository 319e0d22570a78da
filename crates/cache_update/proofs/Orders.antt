-- The kept entries ascend by number after each step.
use Rattle.std.proofs.Common.{◌≡◌, ℕ, Bool, true, false, List, [], ◌∷◌, ◌++◌, map, Option, Some, None, refl, sym, ap, ◌∙◌, ◌<◌, subst, ⊎_elim, All}
use Rattle.std.proofs.Common.{lt-ltb}
use Rattle.std.proofs.lemmas.List.{append-nil}
use Rattle.uo_digest.specs.declared.digest.Digest.{Digest}
use Rattle.leaf_record.specs.Leaf.{Leaf}
use Rattle.std.specs.Prelude.{option_map}
use Rattle.std.proofs.lemmas.Bool.{cases_Bool}
use Rattle.std.proofs.lemmas.List.Elements.{All-nil, All-cons, All-head, All-tail}
use Rattle.std.proofs.lemmas.Option.{none-some, same_Some}
use Rattle.forest_place.specs.declared.place.Place.{Place}
use Rattle.forest_model.specs.Deletion.{moved}
use Rattle.cache_model.specs.declared.kept.Kept.{Kept}
use Rattle.cache_model.specs.Lists.{leaf_key, AscendByNumber, moved_leaf, moved_leaves, raised_leaves, leaves_more}
use Rattle.cache_model.specs.Undo.{IsKeyOrder, find, Ascends, is_same_number, is_before_number}
use Rattle.cache_model.proofs.Logs.{pass_ascends}
use Rattle.cache_model.proofs.Undoing.{number_order}

module _ {K V : Type 0} (at before : K → K → Bool) (key : V → K) where
  -- elements that are changed, and keep their keys
  found_before : (f : V → V) → ((x : V) → key (f x) ≡ key x) → (k : K) (xs : List V) (v : V) → find at key k (map f xs) ≡ Some v
      → (u : V) × (find at key k xs ≡ Some u)
  found_before f same k [] v e = absurd (none-some v e)
  found_before f same k (x ∷ xs) v e =
      ⊎_elim
      (λ t. (x, rw t refl))
      (λ t. let z : at k (key (f x)) ≡ false = ap (at k) (same x) ∙ t in let w = found_before f same k xs v (rw z at e) in (w.0, rw t w.1))
      (cases_Bool (at k (key x)))

  pub mapped_ascends : (f : V → V) → ((x : V) → key (f x) ≡ key x) → (xs : List V) → Ascends at before key xs → Ascends at before key (map f xs)
  mapped_ascends f same [] a = tt
  mapped_ascends f same (x ∷ xs) a = (
    λ k v e. let w = found_before f same k xs v e in
        ap (λ u. before u k) (same x) ∙ a.0 k w.0 w.1,
    mapped_ascends f same xs a.1,
  )

  -- an element behind all others
  found_last : (o : IsKeyOrder at before) (k : K) (xs : List V) (y v : V) (b : K) → ((u : V) → find at key k xs ≡ Some u → before b k ≡ true)
      → before b (key y) ≡ true → find at key k (xs ++ y ∷ []) ≡ Some v → before b k ≡ true
  found_last o k [] y v b f g e =
      ⊎_elim (λ t. ap (before b) (o.same k (key y) t) ∙ g) (λ t. absurd (none-some v (rw t at e))) (cases_Bool (at k (key y)))
  found_last o k (x ∷ xs) y v b f g e =
      ⊎_elim
      (λ t. f x (rw t refl))
      (λ t. found_last o k xs y v b (λ u h. f u (rw t h)) g (rw t at e))
      (cases_Bool (at k (key x)))

  pub pushed_ascends : (o : IsKeyOrder at before) (xs : List V) (y : V) → Ascends at before key xs → All (λ x. before (key x) (key y) ≡ true) xs
      → Ascends at before key (xs ++ y ∷ [])
  pushed_ascends o [] y a h = (λ k v e. absurd (none-some v e), tt)
  pushed_ascends o (x ∷ xs) y a h = (
    λ k v e. found_last o k xs y v (key x) (a.0 k) (All-head (λ x. before (key x) (key y) ≡ true) x xs h) e,
    pushed_ascends o xs y a.1 (All-tail (λ x. before (key x) (key y) ≡ true) x xs h),
  )

pub moved_ascend : (n : ℕ) (ts : List Place) (ks : List Kept) → AscendByNumber ks → AscendByNumber (moved_leaves n ts ks)
moved_ascend n ts ks a = pass_ascends is_same_number is_before_number leaf_key (moved_leaf n ts)
    (λ x y e. keeps x y (moved n ts x.place.row x.place.off) e) ks a
  where
    keeps : (x y : Kept) (q : Option Place) → option_map (λ (q : Place). let k : Kept =
        record { number = x.number; leaf = x.leaf; place = q; digest = x.digest } in k) q ≡ Some y → y.number ≡ x.number
    keeps x y None e = absurd (none-some y e)
    keeps x y (Some q) e = ap (λ (k : Kept). k.number) (sym (same_Some _ y e))

pub raised_ascend : (is_empty : ℕ → Bool) (n m : ℕ) (ks : List Kept) → AscendByNumber ks → AscendByNumber (raised_leaves is_empty n m ks)
raised_ascend is_empty n m ks a = mapped_ascends is_same_number is_before_number leaf_key _ (λ x. refl) ks a

pub more_ascend : (is_empty : ℕ → Bool) (n m : ℕ) (watched : Option Leaf) (d : Digest) (ks : List Kept) → AscendByNumber ks
    → All (λ k. k.number < n) ks → AscendByNumber (leaves_more is_empty n m watched d ks)
more_ascend is_empty n m None d ks a h = subst AscendByNumber (sym (append-nil (raised_leaves is_empty n m ks))) (raised_ascend is_empty n m ks a)
more_ascend is_empty n m (Some leaf) d ks a h = pushed_ascends is_same_number is_before_number leaf_key number_order (raised_leaves is_empty n m ks) _
    (raised_ascend is_empty n m ks a) (below ks h)
  where
    below : (ks : List Kept) → All (λ k. k.number < n) ks → All (λ k. is_before_number k.number n ≡ true) (raised_leaves is_empty n m ks)
    below [] h = All-nil (λ k. is_before_number k.number n ≡ true)
    below (k ∷ ks) h = All-cons (λ k. is_before_number k.number n ≡ true) _ (raised_leaves is_empty n m ks)
        (lt-ltb k.number n (All-head (λ k. k.number < n) k ks h)) (below ks (All-tail (λ k. k.number < n) k ks h))
