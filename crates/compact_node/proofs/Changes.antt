-- The changes of a deletion as one list.
use Rattle.std.proofs.Common.{◌≡◌, ℕ, zero, suc, ◌-◌, ◌/◌, ◌^◌, ◌<◌, Bool, true, false, ◌&&◌, List, [], ◌∷◌, map, length, get_or}
use Rattle.std.proofs.Common.{Option, Some, None, is_some, refl, sym, ap, ◌∙◌, ⊎_elim, lt-ltb, arith}
use Rattle.std.specs.Bool.{OnFalse}
use Rattle.std.specs.Prelude.{not, option_map, filter_map, option_and_then, Contains, All}
use Rattle.std.proofs.lemmas.Bool.{cases_Bool, false≢true, false_from_ne_true, and_parts, and_from, or_left, or_right, not-true}
use Rattle.std.proofs.lemmas.Option.{none-some, same_Some}
use Rattle.std.proofs.lemmas.List.Elements.{All-nil, All-cons, All-contains_itself}
use Rattle.proof_shape.proofs.Gone.{target_gone}
use Rattle.uo_digest.specs.declared.digest.Digest.{Digest}
use Rattle.forest_place.specs.declared.place.Place.{Place}
use Rattle.forest_place.specs.Forest.{InForest}
use Rattle.forest_place.specs.Places.{is_at, has_place, places, IsAscending, is_within}
use Rattle.forest_place.proofs.Before.{means_before}
use Rattle.forest_place.proofs.Listed.{place, is_at-same, same_from_is_at, filter_has, filter_had, places_have, places_had}
use Rattle.forest_model.specs.Standing.{digest_at}
use Rattle.forest_model.specs.Cover.{cover, is_needed}
use Rattle.forest_model.specs.Evaluation.{hash_of, nothing_known}
use Rattle.forest_model.specs.Deletion.{digest_without, entries_without, moved, StandAt}
use Rattle.forest_model.proofs.Covers.{some_from_test}
use Rattle.forest_model.proofs.Moving.{moved_stays}
use Rattle.forest_model.proofs.Pairs.{pair_right}
use Rattle.proof_verify.specs.Verified.{IsChange, AreChanges, AreTold, above_targets}
use Rattle.cache_model.specs.Cache.{look, ArePairs, HasPairs, IsPairOf}
use Rattle.cache_model.specs.declared.kept.Kept.{Kept}
use Rattle.cache_model.specs.Lists.{AscendByPlace, leaf_places, moved_leaves}
use Rattle.cache_model.specs.Steps.{held_deleted, put_all}
use Rattle.cache_model.specs.Undo.{find, is_same_place, held_key}
use Rattle.cache_model.proofs.Looking.{pairs_serve}
use Rattle.cache_model.proofs.Stepping.{same_look, put_all_table, put_all_only, put_all_each, find_is}
use Rattle.cache_model.proofs.Tables.{same_options, look_has, look_all}
use Rattle.cache_model.proofs.Undoing.{place_order}
use Rattle.cache_update.specs.Marks.{pairs_within}
use Rattle.cache_update.proofs.Idle.{none_deleted}
use Rattle.cache_update.proofs.Moves.{goes_within}
use Rattle.uo_base.proofs.Lists.{filter_all}
use Rattle.cache_update.proofs.Within.{put_all_in, passed}
use Rattle.compact_node.specs.After.{left_at, left_of, changes_of, held_without}

-- ---- lists of pairs that ascend

find_had : (xs : List (Place × Digest)) (k : Place) (v : Place × Digest) → find is_same_place held_key k xs ≡ Some v
    → has_place (map (λ x. x.0) xs) k.row k.off ≡ true
find_had [] k v e = absurd (none-some v e)
find_had (x ∷ xs) k v e =
    ⊎_elim
    (λ t. or_left (is_same_place k x.0) (has_place (map (λ y. y.0) xs) k.row k.off) t)
    (λ t. or_right (is_same_place k x.0) (has_place (map (λ y. y.0) xs) k.row k.off) (find_had xs k v (rw t at e)))
    (cases_Bool (is_same_place k x.0))

ascends : (xs : List (Place × Digest)) → IsAscending (map (λ x. x.0) xs) → AscendByPlace xs
ascends [] a = tt
ascends (x ∷ xs) a = ((λ k v e. means_before x.0 k (a.0 k (find_had xs k v e))), ascends xs a.1)

-- what is in such a list is found
contained : (xs : List (Place × Digest)) → AscendByPlace xs → (q : Place) (d : Digest) → Contains xs (q, d) → look xs q.row q.off ≡ Some d
contained xs a q d c = at xs a c.0 c.1 c.2
  where
    is_found : (xs : List (Place × Digest)) (k : ℕ) → k < length xs → get_or xs k (q, d) ≡ (q, d) → is_some (look xs q.row q.off) ≡ true
    is_found [] k lt e = absurd (omega arith)
    is_found (x ∷ xs) zero lt e = let t : is_at q.row q.off x.0 ≡ true = ap (λ (z : Place × Digest). is_at q.row q.off z.0) e
        ∙ is_at-same q.row q.off in rw t refl
    is_found (x ∷ xs) (suc k) lt e =
        let rest = is_found xs k (omega (arith, lt)) e in
        ⊎_elim (λ t. rw t refl) (λ t. rw t rest) (cases_Bool (is_at q.row q.off x.0))

    at : (xs : List (Place × Digest)) → AscendByPlace xs → (k : ℕ) → k < length xs → get_or xs k (q, d) ≡ (q, d) → look xs q.row q.off ≡ Some d
    at [] a k lt e = absurd (omega arith)
    at (x ∷ xs) a zero lt e =
        let t : is_at q.row q.off x.0 ≡ true = ap (λ (z : Place × Digest). is_at q.row q.off z.0) e ∙ is_at-same q.row q.off in
        rw t (ap (λ (z : Place × Digest). Some z.1) e)
    at (x ∷ xs) a (suc k) lt e =
        let w = some_from_test (look xs q.row q.off) (is_found xs k (omega (arith, lt)) e) in
        let f : find is_same_place held_key q xs ≡ Some (q, w.0) =
        find_is q xs ∙ ap (λ (o : Option Digest). option_map (λ (y : Digest). (q, y)) o) w.1 in
        let apart : is_same_place x.0 q ≡ false = place_order.apart x.0 q (a.0 q (q, w.0) f) in
        let other : is_at q.row q.off x.0 ≡ false = false_from_ne_true _
        (λ t. false≢true (sym apart ∙ (ap (λ p. is_same_place p q) (same_from_is_at q.row q.off x.0 t) ∙ is_at-same q.row q.off))) in
        rw other (at xs a.1 k (omega (arith, lt)) e)

-- ---- the list of changes

all_had : (P : Place → Type 0) (xs : List Place) → ((r o : ℕ) → has_place xs r o ≡ true → P (place r o)) → All P xs
all_had P [] h = All-nil P
all_had P (x ∷ xs) h = All-cons P x xs (h x.row x.off (or_left (is_at x.row x.off x) (has_place xs x.row x.off) (is_at-same x.row x.off)))
    (all_had P xs (λ r o i. h r o (or_right (is_at r o x) (has_place xs r o) i)))

left_parts : (m : Option Place) (d : Option Digest) (x : Place × Digest) → left_at m d ≡ Some x → (m ≡ Some x.0) × (d ≡ Some x.1)
left_parts None d x e = absurd (none-some x e)
left_parts (Some q) None x e = absurd (none-some x e)
left_parts (Some q) (Some d) x e = let same = same_Some (q, d) x e in
    (ap (λ (y : Place × Digest). Some y.0) same, ap (λ (y : Place × Digest). Some y.1) same)

not_from_false : (b : Bool) → b ≡ false → not b ≡ true
not_from_false true e = absurd (false≢true (sym e))
not_from_false false e = refl

module _ (H : List ℕ → Digest) (n : ℕ) (ts : List Place) (hashes : List Digest) where
  abbrev left : Place → Option (Place × Digest)
  left p = left_of H n ts hashes p

  abbrev given : ℕ → ℕ → Digest
  given r o = hash_of H n ts nothing_known hashes r o

  -- a place above targets
  record IsAbove (p : Place) : Type 0 where
    pub within : InForest n p.row p.off
    pub covered : is_some (cover ts p.row p.off) ≡ true
    pub no_target : has_place ts p.row p.off ≡ false

  abbrev test : Place → Bool
  test p = is_some (cover ts p.row p.off) && not (has_place ts p.row p.off)

  above : (r o : ℕ) → has_place (above_targets n ts) r o ≡ true → IsAbove (place r o)
  above r o h =
      let w = filter_had test (places n) r o h in
      let both = and_parts (is_some (cover ts r o)) (not (has_place ts r o)) w.1 in
      record { within = places_had n r o w.0; covered = both.0; no_target = not-true (has_place ts r o) both.1 }

  all_above : All IsAbove (above_targets n ts)
  all_above = all_had IsAbove (above_targets n ts) above

  is_change : (p : Place) (x : Place × Digest) → IsAbove p → left p ≡ Some x → IsChange H n ts hashes x.0 x.1
  is_change p x a e =
      let c = some_from_test (cover ts p.row p.off) a.covered in
      let w = left_parts (moved n ts p.row p.off) (option_and_then (digest_without H given) (cover ts p.row p.off)) x e in
      record {
        place = p;
        within = a.within;
        beneath = c.0;
        covered = c.1;
        no_target = a.no_target;
        goes = w.0;
        digest = ap (option_and_then (digest_without H given)) (sym c.1) ∙ w.1;
      }

  -- what is listed is a change
  listed : (r o : ℕ) (d : Digest) → look (changes_of H n ts hashes) r o ≡ Some d → IsChange H n ts hashes (place r o) d
  unfolding changes_of
  listed r o d e =
      put_all_only (λ r o d. IsChange H n ts hashes (place r o) d) (filter_map left (above_targets n ts)) [] tt
      (passed IsAbove (λ x. IsChange H n ts hashes x.0 x.1) left (λ p x a e. is_change p x a e) (above_targets n ts) all_above)
      (λ r o d e. absurd (none-some d e)) r o d e

  -- and where one goes, one is listed
  has_left : (r o : ℕ) (q : Place) (d : Digest) → InForest n r o → is_some (cover ts r o) ≡ true → has_place ts r o ≡ false
      → left (place r o) ≡ Some (q, d) → is_some (look (changes_of H n ts hashes) q.row q.off) ≡ true
  unfolding changes_of
  has_left r o q d h c t e =
      let here = filter_has test (places n) r o (places_have n r o h)
      (and_from (is_some (cover ts r o)) (not (has_place ts r o)) c (not_from_false (has_place ts r o) t)) in
      put_all_each (filter_map left (above_targets n ts)) [] tt q.row q.off (look_has left (above_targets n ts) r o q d here e)

  has_change : (q : Place) (d : Digest) → IsChange H n ts hashes q d → is_some (look (changes_of H n ts hashes) q.row q.off) ≡ true
  has_change q d c =
      has_left c.place.row c.place.off q d c.within (ap is_some c.covered) c.no_target
      (ap (λ m. left_at m (option_and_then (digest_without H given) (cover ts c.place.row c.place.off))) c.goes
      ∙ ap (λ (x : Option Digest). left_at (Some q) x) (ap (option_and_then (digest_without H given)) c.covered ∙ c.digest))

  table : AscendByPlace (changes_of H n ts hashes)
  unfolding changes_of
  table = put_all_table (filter_map left (above_targets n ts)) [] tt

  -- the changes of a deletion are these
  pub changes_are : (pairs : List (Place × Digest)) → AreChanges H n ts hashes pairs → pairs ≡ changes_of H n ts hashes
  changes_are pairs are =
      let a = ascends pairs are.ascending in
      let back : (r o : ℕ) (d : Digest) → look (changes_of H n ts hashes) r o ≡ Some d → look pairs r o ≡ Some d =
      λ r o d e. contained pairs a (place r o) d (are.all (place r o) d (listed r o d e)) in
      same_look pairs (changes_of H n ts hashes) a table
      (λ r o. same_options (look pairs r o) (look (changes_of H n ts hashes) r o)
      (λ d e.
      let c = are.sound (place r o) d (look_all (λ r o d. Contains pairs (place r o, d)) pairs r o d (All-contains_itself pairs) e) in
      let w = some_from_test (look (changes_of H n ts hashes) r o) (has_change (place r o) d c) in
      w.1 ∙ (sym (back r o w.0 w.1) ∙ e))
      (λ d e. back r o d e))

  -- and each of them is at a place of the forest
  pub within_all : pairs_within n (changes_of H n ts hashes) ≡ changes_of H n ts hashes
  unfolding changes_of
  within_all =
      filter_all (λ x. is_within n x.0) (put_all (filter_map left (above_targets n ts)) [])
      (put_all_in (λ x. is_within n x.0 ≡ true) (filter_map left (above_targets n ts)) []
      (passed IsAbove (λ x. is_within n x.0 ≡ true) left
      (λ p x a e. let change = is_change p x a e in
      lt-ltb x.0.off (n / 2 ^ x.0.row) (goes_within n ts (n - change.place.row) change.place.row change.place.off x.0 refl change.within
      change.goes).1)
      (above_targets n ts) all_above)
      (All-nil (λ (x : Place × Digest). is_within n x.0 ≡ true)))

  -- so by them as much is left of what is held
  pub left_held : (pairs : List (Place × Digest)) → AreChanges H n ts hashes pairs → (ks : List Kept) (hs : List (Place × Digest))
      → held_deleted n ts (pairs_within n pairs) (leaf_places (moved_leaves n ts ks)) hs ≡ held_without H n ts hashes ks hs
  left_held pairs are ks hs = ap (λ ps. held_deleted n ts ps (leaf_places (moved_leaves n ts ks)) hs)
      (ap (pairs_within n) (changes_are pairs are) ∙ within_all)

  -- where they are not told, nothing is held
  pub told_held : (tells : Bool) (pairs : List (Place × Digest)) → AreTold tells H n ts hashes pairs → (ks : List Kept) (hs : List (Place × Digest))
      → OnFalse tells ((ks ≡ []) × (hs ≡ [])) →
      held_deleted n ts (pairs_within n pairs) (leaf_places (moved_leaves n ts ks)) hs ≡ held_without H n ts hashes ks hs
  told_held true pairs are ks hs idle = left_held pairs are ks hs
  told_held false pairs none ks hs idle =
      sym (none_deleted n ts (pairs_within n pairs) ks hs idle.0 idle.1) ∙ none_deleted n ts (changes_of H n ts hashes) ks hs idle.0 idle.1

-- ---- of right hashes they are what the cache needs

module _ (H : List ℕ → Digest) (es : List (Option Digest)) (ts : List Place) (numbers : List ℕ) (hashes : List Digest) (at : StandAt es ts numbers)
    (right : (r o : ℕ) → InForest (length es) r o → is_needed (length es) ts (place r o) ≡ true
    → Some (hash_of H (length es) ts nothing_known hashes r o) ≡ digest_at H es r o) where
  pair_of : (x : Place × Digest) → IsChange H (length es) ts hashes x.0 x.1
      → IsPairOf H (length es) ts (hash_of H (length es) ts nothing_known hashes) x
  pair_of x c = record {
    row = c.place.row;
    off = c.place.off;
    covered = c.beneath;
    within = c.within;
    covered_is = c.covered;
    stays = moved_stays (length es) ts c.place.row c.place.off x.0 c.within c.goes;
    goes = c.goes;
    left = c.digest;
  }

  pairs_are : HasPairs H (length es) ts (hash_of H (length es) ts nothing_known hashes) (changes_of H (length es) ts hashes)
  unfolding changes_of
  pairs_are = record {
    only = put_all_in (IsPairOf H (length es) ts (hash_of H (length es) ts nothing_known hashes))
        (filter_map (left H (length es) ts hashes) (above_targets (length es) ts)) []
        (passed (IsAbove H (length es) ts hashes) (IsPairOf H (length es) ts (hash_of H (length es) ts nothing_known hashes))
        (left H (length es) ts hashes)
        (λ p x a e. pair_of x (is_change H (length es) ts hashes p x a e)) (above_targets (length es) ts) (all_above H (length es) ts hashes))
        (All-nil (IsPairOf H (length es) ts (hash_of H (length es) ts nothing_known hashes)));
    each = λ r o c q h e m.
        let gone = moved_stays (length es) ts r o q h m in
        let w = pair_right H es ts numbers at (hash_of H (length es) ts nothing_known hashes) right r o c h e gone in
        has_left H (length es) ts hashes r o q w.digest h (ap is_some e) (false_from_ne_true _ (λ t. false≢true (sym gone ∙ target_gone ts r o t)))
        (ap (λ x. left_at x (option_and_then (digest_without H (hash_of H (length es) ts nothing_known hashes)) (cover ts r o))) m
        ∙ ap (λ (x : Option Digest). left_at (Some q) x) (ap (option_and_then (digest_without H (hash_of H (length es) ts nothing_known hashes))) e
        ∙ w.evaluation));
  }

  pub changes_serve : ArePairs H (length es) ts (entries_without numbers es) (changes_of H (length es) ts hashes)
  changes_serve = pairs_serve H es ts numbers at (hash_of H (length es) ts nothing_known hashes) right (changes_of H (length es) ts hashes) pairs_are
