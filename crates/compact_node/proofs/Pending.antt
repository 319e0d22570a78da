-- The watched outputs of a block, taken off one by one.
use Rattle.std.proofs.Common.{◌≡◌, ℕ, zero, suc, ◌+◌, ◌-◌, ◌<◌, ◌≤◌, Bool, true, false, cond, List, [], ◌∷◌, ◌++◌, map, length, take, drop, get_or}
use Rattle.std.proofs.Common.{Option, Some, None, is_some, refl, sym, ap, ◌∙◌, arith}
use Rattle.std.specs.Prelude.{slice_get, count_by}
use Rattle.std.proofs.lemmas.List.{length-append, length-map, append-nil, drop_all, get_or-append_right}
use Rattle.std.proofs.Math.Seq.{take-append_seam}
use Rattle.std.proofs.lemmas.List.Sums.{sum_by-append}
use Rattle.uo_base.proofs.Lists.{drop-got, got-map}
use Rattle.leaf_record.specs.Leaf.{Leaf}
use Rattle.cache_model.specs.Known.{is_watched}
use Rattle.compact_node.specs.Judged.{watched_leaf}
use Rattle.compact_node.specs.Pending.{pending}

-- ---- the last of a list

last_is : {X : Type 0} (xs : List X) (x d : X) → get_or (xs ++ x ∷ []) (length (xs ++ x ∷ []) - 1) d ≡ x
last_is xs x d =
    let long = length-append xs (x ∷ []) in
    get_or-append_right xs (x ∷ []) (length xs) (length (xs ++ x ∷ []) - 1) d refl (omega (arith, long))
    ∙ ap (λ k. get_or (x ∷ []) k d) (let z : length (xs ++ x ∷ []) - 1 - length xs ≡ 0 = omega (arith, long) in z)

front_is : {X : Type 0} (xs : List X) (x : X) → take (length (xs ++ x ∷ []) - 1) (xs ++ x ∷ []) ≡ xs
front_is xs x =
    let long = length-append xs (x ∷ []) in
    let same : length (xs ++ x ∷ []) - 1 ≡ length xs = omega (arith, long) in
    ap (λ k. take k (xs ++ x ∷ [])) same ∙ take-append_seam xs (x ∷ [])

-- ---- what is pending

module _ (scripts : List (List ℕ)) where
  -- one output further back
  pub pending_more : (new : List Leaf) (i j : ℕ) (leaf : Leaf) (had has : List (ℕ × Leaf)) → j ≡ suc i → slice_get new i ≡ Some leaf
      → had ≡ pending scripts j (drop j new) →
      has ≡ had ++ cond (is_watched scripts (Some leaf)) ((i, leaf) ∷ []) [] → has ≡ pending scripts i (drop i new)
  pending_more new i j leaf had has e got f g =
      g ∙ (ap (λ xs. xs ++ cond (is_watched scripts (Some leaf)) ((i, leaf) ∷ []) []) (f ∙ ap (λ k. pending scripts k (drop k new)) e)
      ∙ (by_test (is_watched scripts (Some leaf)) ∙ ap (pending scripts i) (sym (drop-got new i leaf got))))
    where
      by_test : (b : Bool) → pending scripts (suc i) (drop (suc i) new) ++ cond b ((i, leaf) ∷ []) []
          ≡ cond b (pending scripts (suc i) (drop (suc i) new) ++ (i, leaf) ∷ []) (pending scripts (suc i) (drop (suc i) new))
      by_test true = refl
      by_test false = append-nil (pending scripts (suc i) (drop (suc i) new))

  -- each index is at least that of the first output
  indices_above : (xs : List Leaf) (i k : ℕ) (d : ℕ × Leaf) → k < length (pending scripts i xs) → i ≤ (get_or (pending scripts i xs) k d).0
  indices_above [] i k d lt = absurd (omega (arith, lt))
  indices_above (x ∷ xs) i k d lt = by_test (is_watched scripts (Some x)) lt
      (λ k below. let h = indices_above xs (suc i) k d below in omega (arith, h))
    where
      in_both : (ys : List (ℕ × Leaf)) (k : ℕ) → ((k : ℕ) → k < length ys → i ≤ (get_or ys k d).0) → k < length (ys ++ (i, x) ∷ [])
          → i ≤ (get_or (ys ++ (i, x) ∷ []) k d).0
      in_both [] zero h lt = omega arith
      in_both [] (suc k) h lt = absurd (omega (arith, lt))
      in_both (y ∷ ys) zero h lt = h 0 (omega arith)
      in_both (y ∷ ys) (suc k) h lt = in_both ys k (λ j below. h (suc j) (omega (arith, below))) (omega (arith, lt))

      by_test : (b : Bool) → k < length (cond b (pending scripts (suc i) xs ++ (i, x) ∷ []) (pending scripts (suc i) xs))
          → ((k : ℕ) → k < length (pending scripts (suc i) xs) → i ≤ (get_or (pending scripts (suc i) xs) k d).0) →
          i ≤ (get_or (cond b (pending scripts (suc i) xs ++ (i, x) ∷ []) (pending scripts (suc i) xs)) k d).0
      by_test true lt later = in_both (pending scripts (suc i) xs) k later lt
      by_test false lt later = later k lt

  -- where the last has the index of the first output, that is watched
  module _ (i : ℕ) (leaf : Leaf) (later : List Leaf) (left : List (ℕ × Leaf)) (e : left ≡ pending scripts i (leaf ∷ later)) where
    pub none_taken : (0 < length left → (d : ℕ × Leaf) → (get_or left (length left - 1) d).0 ≡ i → ⊥) → (None ≡ watched_leaf scripts leaf)
        × (left ≡ pending scripts (suc i) later)
    none_taken other = by_test (is_watched scripts (Some leaf)) refl
      where
        by_test : (b : Bool) → is_watched scripts (Some leaf) ≡ b → (None ≡ watched_leaf scripts leaf) × (left ≡ pending scripts (suc i) later)
        by_test false t = (let w : None ≡ watched_leaf scripts leaf = rw t refl in w, e ∙ rw t refl)
        by_test true t =
            let whole : left ≡ pending scripts (suc i) later ++ (i, leaf) ∷ [] = e ∙ rw t refl in
            let long = ap length whole in
            let more = length-append (pending scripts (suc i) later) ((i, leaf) ∷ []) in
            absurd (other (omega (arith, long, more)) (i, leaf) (ap (λ (xs : List (ℕ × Leaf)). (get_or xs (length xs - 1) (i, leaf)).0) whole
            ∙ ap (λ (x : ℕ × Leaf). x.0) (last_is (pending scripts (suc i) later) (i, leaf) (i, leaf))))

    pub one_taken : 0 < length left → ((d : ℕ × Leaf) → (get_or left (length left - 1) d).0 ≡ i) → (x : ℕ × Leaf) (rest : List (ℕ × Leaf))
        → x ≡ get_or left (length left - 1) x → rest ≡ take (length left - 1) left →
        (Some x.1 ≡ watched_leaf scripts leaf) × (rest ≡ pending scripts (suc i) later)
    one_taken some there x rest is front = by_test (is_watched scripts (Some leaf)) refl
      where
        by_test : (b : Bool) → is_watched scripts (Some leaf) ≡ b → (Some x.1 ≡ watched_leaf scripts leaf) × (rest ≡ pending scripts (suc i) later)
        by_test true t =
            let whole : left ≡ pending scripts (suc i) later ++ (i, leaf) ∷ [] = e ∙ rw t refl in
            let last : x ≡ (i, leaf) = is ∙ (ap (λ (xs : List (ℕ × Leaf)). get_or xs (length xs - 1) x) whole
            ∙ last_is (pending scripts (suc i) later) (i, leaf) x) in (
              ap (λ (y : ℕ × Leaf). Some y.1) last ∙ (let w : Some leaf ≡ watched_leaf scripts leaf = rw t refl in w),
              front ∙ (ap (λ (xs : List (ℕ × Leaf)). take (length xs - 1) xs) whole ∙ front_is (pending scripts (suc i) later) (i, leaf)),
            )
        by_test false t =
            let whole : left ≡ pending scripts (suc i) later = e ∙ rw t refl in
            let long = ap length whole in
            let above = indices_above later (suc i) (length (pending scripts (suc i) later) - 1) x (omega (arith, long, some)) in
            let last = ap (λ (xs : List (ℕ × Leaf)). (get_or xs (length xs - 1) x).0) (sym whole) ∙ there x in
            absurd (omega (arith, above, last))

  -- there are as many as are watched
  pub pending_count : (xs : List Leaf) (i : ℕ) → length (pending scripts i xs) ≡ count_by is_some (map (watched_leaf scripts) xs)
  pending_count [] i = refl
  pending_count (x ∷ xs) i = by_test (is_watched scripts (Some x)) (pending_count xs (suc i))
    where
      by_test : (b : Bool) → length (pending scripts (suc i) xs) ≡ count_by is_some (map (watched_leaf scripts) xs) →
          length (cond b (pending scripts (suc i) xs ++ (i, x) ∷ []) (pending scripts (suc i) xs))
          ≡ count_by is_some (cond b (Some x) (let none : Option Leaf = None in none) ∷ map (watched_leaf scripts) xs)
      by_test true h =
          let more = length-append (pending scripts (suc i) xs) ((i, x) ∷ []) in
          let one = sum_by-append (λ (y : Option Leaf). cond (is_some y) 1 0) (Some x ∷ []) (map (watched_leaf scripts) xs) in
          omega (arith, more, one, h)
      by_test false h =
          let one = sum_by-append (λ (y : Option Leaf). cond (is_some y) 1 0) (None ∷ []) (map (watched_leaf scripts) xs) in
          omega (arith, one, h)

-- the next output, where it is watched
pub watched_head : (scripts : List (List ℕ)) (new : List Leaf) (i : ℕ) (leaf : Leaf) → slice_get new i ≡ Some leaf
    → drop i (map (watched_leaf scripts) new) ≡ watched_leaf scripts leaf ∷ drop (i + 1) (map (watched_leaf scripts) new)
watched_head scripts new i leaf got =
    let e : suc i ≡ i + 1 = omega arith in
    drop-got (map (watched_leaf scripts) new) i (watched_leaf scripts leaf) (got-map (watched_leaf scripts) new i leaf got)
    ∙ ap (λ k. watched_leaf scripts leaf ∷ drop k (map (watched_leaf scripts) new)) e

pub pending_next : (scripts : List (List ℕ)) (new : List Leaf) (i : ℕ) (leaf : Leaf) (left : List (ℕ × Leaf)) → slice_get new i ≡ Some leaf
    → left ≡ pending scripts i (drop i new) → left ≡ pending scripts i (leaf ∷ drop (suc i) new)
pending_next scripts new i leaf left got e = e ∙ ap (pending scripts i) (drop-got new i leaf got)

pub head_taken : (scripts : List (List ℕ)) (new : List Leaf) (i : ℕ) (leaf : Leaf) (x : Option Leaf) → slice_get new i ≡ Some leaf
    → x ≡ watched_leaf scripts leaf → drop i (map (watched_leaf scripts) new) ≡ x ∷ drop (i + 1) (map (watched_leaf scripts) new)
head_taken scripts new i leaf x got e = watched_head scripts new i leaf got
    ∙ ap (λ (y : Option Leaf). y ∷ drop (i + 1) (map (watched_leaf scripts) new)) (sym e)

pub pending_on : (scripts : List (List ℕ)) (new : List Leaf) (i : ℕ) (left : List (ℕ × Leaf)) → left ≡ pending scripts (suc i) (drop (suc i) new)
    → left ≡ pending scripts (i + 1) (drop (i + 1) new)
pending_on scripts new i left e = let f : suc i ≡ i + 1 = omega arith in e ∙ ap (λ k. pending scripts k (drop k new)) f

pub none_pending : (scripts : List (List ℕ)) (new : List Leaf) (i : ℕ) → length new ≤ i → drop i (map (watched_leaf scripts) new) ≡ []
none_pending scripts new i le = drop_all i (map (watched_leaf scripts) new) (let h = length-map new (watched_leaf scripts) in omega (arith, h, le))
