-- What the steps of a block leave of what a mark gives back of the kept entries.
use Rattle.std.proofs.Common.{◌≡◌, ℕ, ◌<◌, Bool, true, false, cond, ◌||◌, not, List, [], ◌∷◌, ◌++◌, map, filter, filter_map, Option, Some, None}
use Rattle.std.proofs.Common.{is_some, is_none, refl, sym, ap, ap₂, ◌∙◌, subst, ⊎_elim, All, arith}
use Rattle.std.specs.Prelude.{option_map, option_and_then}
use Rattle.std.specs.Option.{option_or, option_to_list}
use Rattle.std.proofs.lemmas.Bool.{cases_Bool, false≢true}
use Rattle.std.proofs.lemmas.List.{append-nil, append_assoc}
use Rattle.std.proofs.lemmas.List.Folds.{list_any-append}
use Rattle.std.proofs.lemmas.List.Elements.{All-nil, All-cons, All-head, All-tail, All-append}
use Rattle.std.proofs.lemmas.Option.{none-some, same_Some}
use Rattle.std.proofs.Math.Bool.{or-false, or-true}
use Rattle.uo_digest.specs.declared.digest.Digest.{Digest}
use Rattle.leaf_record.specs.Leaf.{Leaf}
use Rattle.forest_place.specs.declared.place.Place.{Place}
use Rattle.forest_place.proofs.Listed.{same_from_is_at}
use Rattle.forest_model.specs.Deletion.{moved}
use Rattle.forest_model.specs.Addition.{carried_place}
use Rattle.cache_model.specs.declared.kept.Kept.{Kept}
use Rattle.cache_model.specs.Cache.{raised}
use Rattle.cache_model.specs.Lists.{leaf_key, AscendByNumber, moved_leaf, moved_leaves, raised_leaves, leaves_more}
use Rattle.cache_model.specs.Undo.{Ascends, is_same_number, is_before_number, is_same_place}
use Rattle.cache_model.proofs.Logs.{found_key}
use Rattle.cache_model.proofs.Undoing.{number_order}
use Rattle.cache_update.specs.Given.{at_place, kept_given}
use Rattle.cache_update.specs.Kept.{is_gone_leaf}
use Rattle.cache_update.specs.Differences.{where_stood, is_elsewhere, moved_since}
use Rattle.cache_update.proofs.Finding.{find_map, find_filter, find_filter_map, if_test}
use Rattle.cache_update.proofs.Giving.{found, stood_key, stood_of, is_among, put_at, given, given_alike, given_back}
use Rattle.cache_update.proofs.Orders.{moved_ascend, more_ascend}
use Rattle.cache_update.proofs.Within.{passed}

number_found : (ks : List Kept) (i : ℕ) (k : Kept) → found i ks ≡ Some k → k.number ≡ i
number_found ks i k e = found_key is_same_number is_before_number leaf_key number_order i ks k e

-- a deletion: what it takes out comes back, and what it moves goes back
pub deleted_back : (n : ℕ) (ts : List Place) (ks : List Kept) → AscendByNumber ks
    → kept_given (filter (is_gone_leaf n ts) ks) (map where_stood ks) [] (moved_leaves n ts ks) ≡ ks
deleted_back n ts ks a = given_back (filter (is_gone_leaf n ts) ks) (map where_stood ks) [] (moved_leaves n ts ks) ks (moved_ascend n ts ks a) a (λ i.
    ap₂ (λ x y. option_or x (put_at (stood_of i (map where_stood ks)) y))
    (find_filter is_same_number is_before_number leaf_key number_order (is_gone_leaf n ts) i ks a)
    (find_filter_map is_same_number is_before_number leaf_key number_order (moved_leaf n ts)
    (λ x y e. keeps x y (moved n ts x.place.row x.place.off) e) i ks a)
    ∙ (ap (λ s. option_or (option_and_then (if_test (is_gone_leaf n ts)) (found i ks)) (put_at s (option_and_then (moved_leaf n ts) (found i ks))))
    (find_map is_same_number leaf_key stood_key where_stood (λ x. refl) i ks)
    ∙ by_entry (found i ks)))
  where
    keeps : (x y : Kept) (q : Option Place) → option_map (λ (q : Place). let k : Kept =
        record { number = x.number; leaf = x.leaf; place = q; digest = x.digest } in k) q ≡ Some y → y.number ≡ x.number
    keeps x y None e = absurd (none-some y e)
    keeps x y (Some q) e = ap (λ (k : Kept). k.number) (sym (same_Some _ y e))

    by_move : (k : Kept) (q : Option Place) →
        option_or (cond (is_none q) (Some k) None) (put_at (Some (where_stood k))
        (option_map (λ (q : Place). let k : Kept = record { number = k.number; leaf = k.leaf; place = q; digest = k.digest } in k) q)) ≡ Some k
    by_move k None = refl
    by_move k (Some q) = refl

    by_entry : (y : Option Kept) → option_or (option_and_then (if_test (is_gone_leaf n ts)) y)
        (put_at (option_map where_stood y) (option_and_then (moved_leaf n ts) y)) ≡ y
    by_entry None = refl
    by_entry (Some k) = by_move k (moved n ts k.place.row k.place.off)

-- each kept entry is named: it stood somewhere, or was added
abbrev pub IsNamed : List (ℕ × Place) → List ℕ → Kept → Type 0
IsNamed stood added k = (is_some (stood_of k.number stood) || is_among k.number added) ≡ true

all_found : (P : Kept → Type 0) (ks : List Kept) (i : ℕ) (k : Kept) → All P ks → found i ks ≡ Some k → P k
all_found P [] i k a e = absurd (none-some k e)
all_found P (x ∷ ks) i k a e =
    ⊎_elim
    (λ t. subst P (same_Some x k (rw t at e)) (All-head P x ks a))
    (λ t. all_found P ks i k (All-tail P x ks a) (rw t at e))
    (cases_Bool (is_same_number i x.number))

module _ (taken : List Kept) (stood : List (ℕ × Place)) (added : List ℕ) (ks : List Kept) (up : AscendByNumber ks) where
  -- an addition: what it moves goes back, and what it adds goes
  module _ (e : ℕ → Bool) (n m : ℕ) (d : Digest) (below : All (λ k. k.number < n) ks) (named : All (IsNamed stood added) ks) where
    abbrev raise : Kept → Kept
    raise k = record { number = k.number; leaf = k.leaf; place = raised e n m k.place.row k.place.off; digest = k.digest }

    same_again : (i : ℕ) (y : Option Kept) → found i ks ≡ y → put_at (stood_of i stood) (cond (is_among i added) None (option_map raise y))
        ≡ put_at (stood_of i stood) (cond (is_among i added) None y)
    same_again i None f = refl
    same_again i (Some k) f = by_place (stood_of i stood) (is_among i added) (let name = all_found (IsNamed stood added) ks i k named f in
        let same = number_found ks i k f in ap (λ j. is_some (stood_of j stood) || is_among j added) (sym same) ∙ name)
      where
        by_place : (s : Option (ℕ × Place)) (b : Bool) → (is_some s || b) ≡ true
            → put_at s (cond b None (Some (raise k))) ≡ put_at s (cond b None (Some k))
        by_place None true h = refl
        by_place None false h = absurd (false≢true h)
        by_place (Some s) true h = refl
        by_place (Some s) false h = refl

    raised_found : (i : ℕ) → found i (raised_leaves e n m ks) ≡ option_map raise (found i ks)
    raised_found i = find_map is_same_number leaf_key leaf_key raise (λ x. refl) i ks

    found_append : (i : ℕ) (xs : List Kept) (y : Kept)
        → found i (xs ++ y ∷ []) ≡ option_or (found i xs) (cond (is_same_number i y.number) (Some y) None)
    found_append i [] y = refl
    found_append i (x ∷ xs) y = ⊎_elim (λ t. rw t refl) (λ t. rw t (found_append i xs y)) (cases_Bool (is_same_number i x.number))

    no_number : (i : ℕ) → is_same_number i n ≡ true → found i ks ≡ None
    no_number i t = by_found (found i ks) refl
      where
        by_found : (y : Option Kept) → found i ks ≡ y → y ≡ None
        by_found None f = refl
        by_found (Some k) f =
            let lt : k.number < n = all_found (λ k. k.number < n) ks i k below f in
            let same : k.number ≡ i = number_found ks i k f in
            let last : i ≡ n = number_order.same i n t in
            absurd (omega (arith, lt, same, last))

    added_among : (i : ℕ) → is_among i (added ++ n ∷ []) ≡ (is_among i added || is_same_number i n)
    added_among i = list_any-append (is_same_number i) added (n ∷ []) ∙ ap (λ b. is_among i added || b) (or-false (is_same_number i n))

    pub added_back : (watched : Option Leaf) → kept_given taken stood (added ++ option_to_list (option_map (λ _. n) watched))
        (leaves_more e n m watched d ks) ≡ kept_given taken stood added ks
    added_back None =
        given_alike taken taken stood stood added (added ++ []) ks (leaves_more e n m None d ks) up (more_ascend e n m None d ks up below) (λ i.
        ap₂ (λ (more : List ℕ) (y : Option Kept). given taken stood more i y) (append-nil added)
        (ap (found i) (append-nil (raised_leaves e n m ks)) ∙ raised_found i)
        ∙ ap (option_or (found i taken)) (same_again i (found i ks) refl))
    added_back (Some leaf) =
        given_alike taken taken stood stood added (added ++ n ∷ []) ks (leaves_more e n m (Some leaf) d ks) up
        (more_ascend e n m (Some leaf) d ks up below) (λ i.
        ap (option_or (found i taken)) (by_number i (is_same_number i n) refl))
      where
        new : Kept
        new = record { number = n; leaf = leaf; place = carried_place e n m 0; digest = d }

        by_number : (i : ℕ) (b : Bool) → is_same_number i n ≡ b → put_at (stood_of i stood)
            (cond (is_among i (added ++ n ∷ [])) None (found i (leaves_more e n m (Some leaf) d ks)))
            ≡ put_at (stood_of i stood) (cond (is_among i added) None (found i ks))
        by_number i true t =
            ap (λ b. put_at (stood_of i stood) (cond b None (found i (leaves_more e n m (Some leaf) d ks))))
            (added_among i ∙ (ap (λ b. is_among i added || b) t ∙ or-true (is_among i added)))
            ∙ sym (ap (λ y. put_at (stood_of i stood) (cond (is_among i added) None y)) (no_number i t)
            ∙ ap (put_at (stood_of i stood)) (none_again (is_among i added)))
          where
            none_again : (b : Bool) → cond b None None ≡ (let x : Option Kept = None in x)
            none_again true = refl
            none_again false = refl
        by_number i false t =
            ap₂ (λ b y. put_at (stood_of i stood) (cond b None y))
            (added_among i ∙ (ap (λ b. is_among i added || b) t ∙ or-false (is_among i added)))
            (found_append i (raised_leaves e n m ks) new ∙ (ap (λ b. option_or (found i (raised_leaves e n m ks)) (cond b (Some new) None)) t
            ∙ (or_none (found i (raised_leaves e n m ks)) ∙ raised_found i)))
            ∙ same_again i (found i ks) refl
          where
            or_none : (y : Option Kept) → option_or y None ≡ y
            or_none None = refl
            or_none (Some y) = refl

  -- what stands where it stood needs no word
  pub settled_back : Ascends is_same_number is_before_number stood_key stood → kept_given taken (filter_map (moved_since ks) stood) added ks
      ≡ kept_given taken stood added ks
  settled_back a =
      given_alike taken taken stood (filter_map (moved_since ks) stood) added added ks ks up up (λ i.
      ap (option_or (found i taken))
      (ap (λ s. put_at s (cond (is_among i added) None (found i ks)))
      (find_filter_map is_same_number is_before_number stood_key number_order (moved_since ks)
      (λ x y e. keeps x y (is_elsewhere x.1 (option_map (λ (k : Kept). k.place) (found x.0 ks))) e) i stood a)
      ∙ by_stood i (stood_of i stood) refl))
    where
      keeps : (x y : ℕ × Place) (b : Bool) → cond b (Some x) None ≡ Some y → y.0 ≡ x.0
      keeps x y true e = ap stood_key (sym (same_Some x y e))
      keeps x y false e = absurd (none-some y e)

      by_test : (i : ℕ) (s : ℕ × Place) (k : Kept) (b : Bool) → s.0 ≡ i → k.number ≡ i → (c : Bool) → is_same_place s.1 k.place ≡ c
          → put_at (cond (not c) (Some s) None) (cond b None (Some k)) ≡ put_at (Some s) (cond b None (Some k))
      by_test i s k true same number true t = refl
      by_test i s k true same number false t = refl
      by_test i s k false same number true t =
          let place : k.place ≡ s.1 = same_from_is_at s.1.row s.1.off k.place t in
          let is : s.0 ≡ k.number = same ∙ sym number in
          ap Some (let whole : k ≡ at_place s k = ap₂ (λ j p. let x : Kept = record { number = j; leaf = k.leaf; place = p; digest = k.digest } in
          x) (sym is) place in whole)
      by_test i s k false same number false t = refl

      by_found : (i : ℕ) (s : ℕ × Place) (b : Bool) → s.0 ≡ i → (y : Option Kept) → found i ks ≡ y
          → put_at (cond (is_elsewhere s.1 (option_map (λ (k : Kept). k.place) y)) (Some s) None) (cond b None y) ≡ put_at (Some s) (cond b None y)
      by_found i s true same None f = refl
      by_found i s false same None f = refl
      by_found i s b same (Some k) f = by_test i s k b same (number_found ks i k f) (is_same_place s.1 k.place) refl

      by_stood : (i : ℕ) (y : Option (ℕ × Place)) → stood_of i stood ≡ y
          → put_at (option_and_then (moved_since ks) y) (cond (is_among i added) None (found i ks))
          ≡ put_at y (cond (is_among i added) None (found i ks))
      by_stood i None e = refl
      by_stood i (Some s) e =
          let same : s.0 ≡ i = found_key is_same_number is_before_number stood_key number_order i stood s e in
          ap (λ (j : ℕ). put_at (cond (is_elsewhere s.1 (option_map (λ (k : Kept). k.place) (found j ks))) (Some s) None)
          (cond (is_among i added) None (found i ks))) same
          ∙ by_found i s (is_among i added) same (found i ks) refl

-- before the deletion nothing is to be undone
pub fresh_back : (ks : List Kept) → AscendByNumber ks → kept_given [] (map where_stood ks) [] ks ≡ ks
fresh_back ks a = given_back [] (map where_stood ks) [] ks ks a a (λ i.
    ap (λ s. put_at s (found i ks)) (find_map is_same_number leaf_key stood_key where_stood (λ x. refl) i ks) ∙ by_entry (found i ks))
  where
    by_entry : (y : Option Kept) → put_at (option_map where_stood y) y ≡ y
    by_entry None = refl
    by_entry (Some k) = refl

-- the deletion of a block keeps what its mark gives back
pub deletion_keeps : (n : ℕ) (ts : List Place) (ks ks' taken taken' : List Kept) (stood : List (ℕ × Place)) (added : List ℕ) → AscendByNumber ks
    → taken ≡ [] → stood ≡ map where_stood ks → added ≡ [] →
    taken' ≡ taken ++ filter (is_gone_leaf n ts) ks → ks' ≡ moved_leaves n ts ks → kept_given taken' stood added ks' ≡ kept_given taken stood added ks
deletion_keeps n ts ks ks' taken taken' stood added a e f g h i =
    ap₂ (λ (t : List Kept) (k : List Kept). kept_given t stood added k) (h ∙ ap (λ (t : List Kept). t ++ filter (is_gone_leaf n ts) ks) e) i
    ∙ (ap₂ (λ (s : List (ℕ × Place)) (j : List ℕ). kept_given (filter (is_gone_leaf n ts) ks) s j (moved_leaves n ts ks)) f g
    ∙ (deleted_back n ts ks a ∙ (sym (fresh_back ks a)
    ∙ (ap₂ (λ (s : List (ℕ × Place)) (j : List ℕ). kept_given [] s j ks) (sym f) (sym g)
    ∙ ap (λ (t : List Kept). kept_given t stood added ks) (sym e)))))

-- an addition of a block too
pub addition_keeps : (taken : List Kept) (stood : List (ℕ × Place)) (added added' : List ℕ) (ks ks' : List Kept) (e : ℕ → Bool) (n m : ℕ) (d : Digest)
    (watched : Option Leaf) → AscendByNumber ks → All (λ k. k.number < n) ks → All (IsNamed stood added) ks →
    added' ≡ added ++ option_to_list (option_map (λ _. n) watched) → ks' ≡ leaves_more e n m watched d ks
    → kept_given taken stood added' ks' ≡ kept_given taken stood added ks
addition_keeps taken stood added added' ks ks' e n m d watched up below named f g =
    ap₂ (λ (j : List ℕ) (k : List Kept). kept_given taken stood j k) f g ∙ added_back taken stood added ks up e n m d below named watched

-- the end of a block too
pub settling_keeps : (taken taken' : List Kept) (stood start moved : List (ℕ × Place)) (added added' : List ℕ) (ks : List Kept) → AscendByNumber ks
    → Ascends is_same_number is_before_number stood_key stood → taken' ≡ taken → added' ≡ added → start ≡ [] →
    moved ≡ start ++ filter_map (moved_since ks) stood → kept_given taken' moved added' ks ≡ kept_given taken stood added ks
settling_keeps taken taken' stood start moved added added' ks up a e f g h =
    ap₂ (λ (t : List Kept) (j : List ℕ). kept_given t moved j ks) e f
    ∙ (ap (λ (s : List (ℕ × Place)). kept_given taken s added ks) (h ∙ ap (λ (s : List (ℕ × Place)). s ++ filter_map (moved_since ks) stood) g)
    ∙ settled_back taken stood added ks up a)

-- each entry is named behind the steps
pub named_moved : (n : ℕ) (ts : List Place) (stood : List (ℕ × Place)) (added : List ℕ) (ks : List Kept) → All (IsNamed stood added) ks
    → All (IsNamed stood added) (moved_leaves n ts ks)
named_moved n ts stood added ks a = passed (IsNamed stood added) (IsNamed stood added) (moved_leaf n ts)
    (λ x y h e. goes x y h (moved n ts x.place.row x.place.off) e) ks a
  where
    goes : (x y : Kept) → IsNamed stood added x → (q : Option Place)
        → option_map (λ (q : Place). let k : Kept = record { number = x.number; leaf = x.leaf; place = q; digest = x.digest } in k) q ≡ Some y
        → IsNamed stood added y
    goes x y h None e = absurd (none-some y e)
    goes x y h (Some q) e = subst (IsNamed stood added) (same_Some _ y e) h

module _ (e : ℕ → Bool) (n m : ℕ) (stood : List (ℕ × Place)) (added : List ℕ) where
  more_named : (more : List ℕ) (k : Kept) → IsNamed stood added k → IsNamed stood (added ++ more) k
  more_named more k h =
      ap (λ b. is_some (stood_of k.number stood) || b) (list_any-append (is_same_number k.number) added more)
      ∙ by_tests (is_some (stood_of k.number stood)) (is_among k.number added) (is_among k.number more) h
    where
      by_tests : (a b c : Bool) → (a || b) ≡ true → (a || (b || c)) ≡ true
      by_tests true b c h = refl
      by_tests false true c h = refl
      by_tests false false c h = absurd (false≢true h)

  raised_named : (more : List ℕ) (ks : List Kept) → All (IsNamed stood added) ks → All (IsNamed stood (added ++ more)) (raised_leaves e n m ks)
  raised_named more [] a = All-nil (IsNamed stood (added ++ more))
  raised_named more (k ∷ ks) a = All-cons (IsNamed stood (added ++ more)) _ (raised_leaves e n m ks)
      (more_named more k (All-head (IsNamed stood added) k ks a)) (raised_named more ks (All-tail (IsNamed stood added) k ks a))

  pub named_more : (watched : Option Leaf) (d : Digest) (ks : List Kept) → All (IsNamed stood added) ks
      → All (IsNamed stood (added ++ option_to_list (option_map (λ _. n) watched))) (leaves_more e n m watched d ks)
  named_more None d ks a = subst (All (IsNamed stood (added ++ []))) (sym (append-nil (raised_leaves e n m ks))) (raised_named [] ks a)
  named_more (Some leaf) d ks a =
      All-append (IsNamed stood (added ++ n ∷ [])) (raised_leaves e n m ks) _ (raised_named (n ∷ []) ks a)
      (All-cons (IsNamed stood (added ++ n ∷ [])) _ [] (ap (λ b. is_some (stood_of n stood) || b)
      (list_any-append (is_same_number n) added (n ∷ []) ∙ ap (λ b. is_among n added || (b || false)) (number_order.itself n))
      ∙ by_tests (is_some (stood_of n stood)) (is_among n added)) (All-nil (IsNamed stood (added ++ n ∷ []))))
    where
      by_tests : (a b : Bool) → (a || (b || (true || false))) ≡ true
      by_tests true b = refl
      by_tests false true = refl
      by_tests false false = refl

-- where the kept entries stood ascends
pub stood_ascends : (ks : List Kept) → AscendByNumber ks → Ascends is_same_number is_before_number stood_key (map where_stood ks)
stood_ascends [] a = tt
stood_ascends (k ∷ ks) a = (
  λ i s f. let w = by_found i s (found i ks) (sym (find_map is_same_number leaf_key stood_key where_stood (λ x. refl) i ks) ∙ f) refl in
      a.0 i w.0 w.1,
  stood_ascends ks a.1,
)
  where
    by_found : (i : ℕ) (s : ℕ × Place) (y : Option Kept) → option_map where_stood y ≡ Some s → found i ks ≡ y → (v : Kept) × (found i ks ≡ Some v)
    by_found i s None f e = absurd (none-some s f)
    by_found i s (Some v) f e = (v, e)

-- and names each of them
stood_by : (ks : List Kept) (xs : List Kept) → ((k : Kept) → is_some (found k.number ks) ≡ true
    → is_some (stood_of k.number (map where_stood (xs ++ ks))) ≡ true) → All (IsNamed (map where_stood (xs ++ ks)) []) ks
stood_by [] xs h = All-nil (IsNamed (map where_stood (xs ++ [])) [])
stood_by (k ∷ ks) xs h =
    All-cons (IsNamed (map where_stood (xs ++ k ∷ ks)) []) k ks
    (ap (λ b. b || false) (h k (let t : is_same_number k.number k.number ≡ true = number_order.itself k.number in rw t refl)))
    (subst (λ (ys : List Kept). All (IsNamed (map where_stood ys) []) ks) (append_assoc xs (k ∷ []) ks)
    (stood_by ks (xs ++ k ∷ []) (λ j f. subst (λ (ys : List Kept). is_some (stood_of j.number (map where_stood ys)) ≡ true)
    (sym (append_assoc xs (k ∷ []) ks)) (h j (later j f)))))
  where
    later : (j : Kept) → is_some (found j.number ks) ≡ true → is_some (found j.number (k ∷ ks)) ≡ true
    later j f = ⊎_elim (λ t. rw t refl) (λ t. rw t f) (cases_Bool (is_same_number j.number k.number))

pub stood_names : (ks : List Kept) → All (IsNamed (map where_stood ks) []) ks
stood_names ks = stood_by ks [] (λ k f. ap is_some (find_map is_same_number leaf_key stood_key where_stood (λ x. refl) k.number ks)
    ∙ still (found k.number ks) f)
  where
    still : (y : Option Kept) → is_some y ≡ true → is_some (option_map where_stood y) ≡ true
    still None f = f
    still (Some k) f = refl

-- other entries in place of all
among_found : (i : ℕ) (ks : List Kept) (k : Kept) → found i ks ≡ Some k → is_among i (map leaf_key ks) ≡ true
among_found i [] k e = absurd (none-some k e)
among_found i (x ∷ ks) k e = ⊎_elim (λ t. rw t refl) (λ t. rw t (among_found i ks k (rw t at e))) (cases_Bool (is_same_number i x.number))

pub replaced_back : (newer older : List Kept) → AscendByNumber newer → AscendByNumber older → kept_given older [] (map leaf_key newer) newer ≡ older
replaced_back newer older a b = given_back older [] (map leaf_key newer) newer older a b (λ i. by_older i (found i older))
  where
    by_newer : (i : ℕ) (y : Option Kept) → found i newer ≡ y → cond (is_among i (map leaf_key newer)) None y ≡ None
    by_newer i None e = by_test (is_among i (map leaf_key newer))
      where
        by_test : (b : Bool) → cond b None None ≡ (let x : Option Kept = None in x)
        by_test true = refl
        by_test false = refl
    by_newer i (Some k) e = rw (among_found i newer k e) refl

    by_older : (i : ℕ) (y : Option Kept) → option_or y (cond (is_among i (map leaf_key newer)) None (found i newer)) ≡ y
    by_older i None = by_newer i (found i newer) refl
    by_older i (Some k) = refl
