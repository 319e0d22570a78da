-- How many digests additions put, and how many known places there are.
use Rattle.std.proofs.Common.{◌≡◌, ℕ, zero, suc, ◌+◌, ◌-◌, ◌*◌, ◌≤◌, Bool, true, false, List, [], ◌∷◌, ◌++◌, map, filter_map, length, Option, Some}
use Rattle.std.proofs.Common.{None, is_some, refl, sym, ap, ◌∙◌, subst, ⊎_elim, All, arith}
use Rattle.std.specs.Prelude.{count_ones}
use Rattle.std.specs.List.{cons_option}
use Rattle.std.proofs.lemmas.Bool.{cases_Bool, true≢false, and_from, or_left, or_right, or_cases}
use Rattle.std.proofs.lemmas.List.{length-append, length-map}
use Rattle.std.proofs.lemmas.List.Folds.{list_any-append}
use Rattle.std.proofs.lemmas.List.Elements.{All-head, All-tail}
use Rattle.uo_digest.specs.declared.digest.Digest.{Digest}
use Rattle.leaf_record.specs.Leaf.{Leaf}
use Rattle.forest_place.specs.declared.place.Place.{Place}
use Rattle.forest_place.specs.Forest.{InForest, is_slot}
use Rattle.forest_place.specs.Places.{is_at, has_place, IsDistinct as HasNoRepeat, is_before_place}
use Rattle.forest_place.proofs.Counted.{few_made}
use Rattle.forest_place.proofs.Listed.{same_from_is_at}
use Rattle.forest_place.proofs.Parts.{row_below}
use Rattle.forest_model.specs.Addition.{all_slots, joined_slots, carried_place}
use Rattle.forest_model.specs.Cover.{cover, is_needed, need}
use Rattle.forest_model.proofs.Adding.{parts_more}
use Rattle.forest_model.proofs.Lists.{need_has}
use Rattle.forest_model.proofs.Ones.{joined_slots_are, joined_slots_ones}
use Rattle.proof_shape.specs.Survey.{IsCoverOf}
use Rattle.cache_model.specs.declared.kept.Kept.{Kept}
use Rattle.cache_model.specs.Known.{is_known}
use Rattle.cache_model.specs.Lists.{AscendByPlace, leaf_key, raised_leaves, leaves_more}
use Rattle.cache_model.specs.Undo.{find, is_same_place, held_key, is_same_number, is_before_number}
use Rattle.cache_model.proofs.Undoing.{place_order}
use Rattle.cache_update.specs.Given.{entry_was, entry_stood, entry_none, digest_was, digest_none, undo_entries, undo_digests, kept_given, held_given}
use Rattle.cache_update.proofs.Undone.{undo_short, undo_no_longer}
use Rattle.cache_update.specs.Marks.{growth, HoldKnown}

-- there is a row that is no slot, above rows that all are
pub free_above : (n k r : ℕ) → all_slots n r ≡ true → suc n - r ≡ k → (m : ℕ) × (r ≤ m) × (all_slots n m ≡ true) × (is_slot n m ≡ false)
free_above n zero r all e =
    let few = row_below (suc n) r 0 (let m = parts_more n r all in omega (arith, m)) in
    absurd (omega arith)
free_above n (suc k) r all e =
    ⊎_elim
    (λ slot. let w = free_above n k (suc r) (and_from (all_slots n r) (is_slot n r) all slot) (omega arith) in (w.0, omega (arith, w.1), w.2, w.3))
    (λ free. (r, omega arith, all, free))
    (cases_Bool (is_slot n r))

-- an addition puts no more than what is left to put goes down by
pub growth_step : (n m a b : ℕ) → all_slots n m ≡ true → b + 1 ≡ a → 2 * m + 1 + growth (n + 1) b ≤ growth n a
growth_step n m a b all e =
    let w = free_above n (suc n - m) m all refl in
    let joined : joined_slots n ≡ w.0 = joined_slots_are n w.0 w.2 w.3 in
    let ones = joined_slots_ones n in
    let same : count_ones (n + 1) ≡ count_ones (suc n) = (let z : n + 1 ≡ suc n = omega arith in ap count_ones z) in
    let low = w.1 in
    omega (arith, joined, ones, same, low, e)

-- the places of an ascending list, each once
held_has : (hs : List (Place × Digest)) (r o : ℕ) → has_place (map held_key hs) r o ≡ true
    → (x : Place × Digest) × (find is_same_place held_key (record { row = r; off = o }) hs ≡ Some x)
held_has [] r o h = absurd (true≢false (sym h))
held_has (x ∷ hs) r o h =
    ⊎_elim
    (λ t. (x, rw t refl))
    (λ t. let s : is_at r o x.0 ≡ false = t in let w = held_has hs r o (rw s at h) in (w.0, rw t w.1))
    (cases_Bool (is_at r o x.0))

held_once : (hs : List (Place × Digest)) → AscendByPlace hs → HasNoRepeat (map held_key hs)
held_once [] a = tt
held_once (x ∷ hs) a = (
  ⊎_elim (λ t. let w = held_has hs x.0.row x.0.off t in
      absurd (true≢false (sym (place_order.itself x.0) ∙ place_order.apart x.0 x.0 (a.0 x.0 w.0 w.1)))) (λ t. t)
      (cases_Bool (has_place (map held_key hs) x.0.row x.0.off)),
  held_once hs a.1,
)

all_has : (P : Place → Type 0) (hs : List (Place × Digest)) → All (λ x. P x.0) hs → (q : Place) → has_place (map held_key hs) q.row q.off ≡ true → P q
all_has P [] a q h = absurd (true≢false (sym h))
all_has P (x ∷ hs) a q h =
    ⊎_elim
    (λ t. subst P (same_from_is_at q.row q.off x.0 t) (All-head (λ x. P x.0) x hs a))
    (λ t. all_has P hs (All-tail (λ x. P x.0) x hs a) q (rw t at h))
    (cases_Bool (is_at q.row q.off x.0))

-- a list of known places is no longer than the covered and the needed ones
pub hold_known : (n : ℕ) (ps cs : List Place) → IsCoverOf n ps cs → HoldKnown n ps (length cs + length (need n ps))
hold_known n ps cs c hs a known =
    let few = few_made (λ k p. p) 1 (cs ++ need n ps) (map held_key hs) (held_once hs a) (λ q h.
    let w = all_has (λ (p : Place). InForest n p.row p.off × (is_known n ps p ≡ true)) hs known q h in (
      q,
      0,
      list_any-append (is_at q.row q.off) cs (need n ps) ∙
          ⊎_elim
          (λ t. or_left (has_place cs q.row q.off) (has_place (need n ps) q.row q.off) (c.covered q w.0 ∙ t))
          (λ t. or_right (has_place cs q.row q.off) (has_place (need n ps) q.row q.off) (need_has n ps q.row q.off w.0 t))
          (or_cases (is_some (cover ps q.row q.off)) (is_needed n ps q) w.1),
      omega arith,
      refl,
    )) in
    let long = length-append cs (need n ps) in
    let same = length-map hs held_key in
    omega (arith, few, long, same)

-- lengths of the kept entries
cons_length : {X : Type 0} (y : Option X) (xs : List X) (n : ℕ) → length xs ≤ n → length (cons_option y xs) ≤ suc n
cons_length None xs n h = omega (arith, h)
cons_length (Some y) xs n h = omega (arith, h)

pub passed_length : {X Y : Type 0} (f : X → Option Y) (xs : List X) → length (filter_map f xs) ≤ length xs
passed_length f [] = omega arith
passed_length f (x ∷ xs) = cons_length (f x) (filter_map f xs) (length xs) (passed_length f xs)

pub more_length : (e : ℕ → Bool) (n m : ℕ) (watched : Option Leaf) (d : Digest) (ks : List Kept) (b : ℕ) → (is_some watched ≡ true → b ≡ 1)
    → length (leaves_more e n m watched d ks) ≤ length ks + b
more_length e n m None d ks b h =
    let long = length-append (raised_leaves e n m ks) [] in
    let same : length (raised_leaves e n m ks) ≡ length ks = length-map ks _ in
    omega (arith, long, same)
more_length e n m (Some leaf) d ks b h =
    let new : Kept = record { number = n; leaf = leaf; place = carried_place e n m 0; digest = d } in
    let long = length-append (raised_leaves e n m ks) (new ∷ []) in
    let same : length (raised_leaves e n m ks) ≡ length ks = length-map ks _ in
    let one = h refl in
    omega (arith, long, same, one)

-- what a mark gives back is no longer than what there is and what it puts back
pub kept_short : (taken : List Kept) (stood : List (ℕ × Place)) (added : List ℕ) (ks : List Kept)
    → length (kept_given taken stood added ks) ≤ length ks + length taken
kept_short taken stood added ks =
    let a = undo_no_longer is_same_number is_before_number leaf_key entry_none (λ i. refl) added ks in
    let b = undo_no_longer is_same_number is_before_number leaf_key entry_stood (λ s. refl) stood (undo_entries (map entry_none added) ks) in
    let c = undo_short is_same_number is_before_number leaf_key entry_was taken
    (undo_entries (map entry_stood stood) (undo_entries (map entry_none added) ks)) in
    omega (arith, a, b, c)

pub held_short : (lost : List (Place × Digest)) (gained : List Place) (hs : List (Place × Digest))
    → length (held_given lost gained hs) ≤ length hs + length lost
held_short lost gained hs =
    let a = undo_no_longer is_same_place is_before_place held_key digest_none (λ p. refl) gained hs in
    let b = undo_short is_same_place is_before_place held_key digest_was lost (undo_digests (map digest_none gained) hs) in
    omega (arith, a, b)
