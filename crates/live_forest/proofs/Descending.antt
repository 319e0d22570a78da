-- The way down from a part to those of all entries that it has: what is noted on it.
use Rattle.std.proofs.Common.{◌≡◌, ℕ, zero, suc, ◌+◌, ◌-◌, ◌*◌, ◌/◌, ◌%◌, ◌^◌, ◌<◌, ◌≤◌, Bool, true, false, List, [], ◌∷◌, length, get_or}
use Rattle.std.proofs.Common.{Option, Some, None, refl, sym, ap, ap₂, ◌∙◌, subst, ⊎_elim, ◌⊎◌, arith, eq-eqb, All}
use Rattle.std.specs.Prelude.{◌==◌, not, nat_le, filter, option_map, Result, Ok, Err, OnOk}
use Rattle.std.proofs.lemmas.Bool.{true≢false, cases_Bool, cases_lt, eqb-true, le-leb, lt-leb, leb-true, leb-false, not-true, and_parts, and_from}
use Rattle.std.proofs.Math.Nat.{div-eq_of_lt}
use Rattle.std.proofs.lemmas.List.Elements.{All-nil, All-cons, All-head, All-tail, All-weaker}
use Rattle.std.proofs.lemmas.Option.{none-some}
use Rattle.uo_digest.specs.declared.digest.Digest.{Digest}
use Rattle.forest_place.specs.declared.place.Place.{Place}
use Rattle.forest_place.specs.Forest.{InForest, is_root, sibling_off}
use Rattle.forest_place.proofs.Parts.{parts-suc, not_root-left, not_root-right}
use Rattle.forest_place.proofs.Siblings.{sibling_off-left, sibling_off-right}
use Rattle.forest_place.proofs.Listed.{same_Bools}
use Rattle.forest_model.specs.Content.{leaf, content}
use Rattle.forest_model.specs.Standing.{tree_at}
use Rattle.forest_model.specs.Cover.{Cover, cover, is_needed}
use Rattle.forest_model.specs.Deletion.{StandAt}
use Rattle.forest_model.proofs.Deleting.{is_spent, place_at}
use Rattle.forest_model.proofs.Covers.{some_from_test}
use Rattle.forest_model.proofs.Living.{found_where_it_stands, content_none_iff}
use Rattle.live_forest.specs.declared.batch.Sibling.{Sibling}
use Rattle.live_forest.specs.State.{is_live}
use Rattle.live_forest.specs.Proving.{beneath, AreIn, AreBehind, AreMore, AreOfPart}
use Rattle.live_forest.proofs.Seeking.{within_left, within_right}
use Rattle.live_forest.proofs.Parting.{filter_alike, filter_twice, filter_spent, spent_filter, none_spent}
use Rattle.live_forest.proofs.Beneath.{beneath_nothing, covered_top, more_halves, more_across}
use Rattle.live_forest.proofs.Covering.{covered, uncovered, uncovered_under}

pub on_ok : {A F : Type 0} (done : Result A F) {P Q : Type 0} → (P → Q) → OnOk done P → OnOk done Q
on_ok (Ok x) f p = f p
on_ok (Err e) f p = tt

pub half_of : (i row : ℕ) (part : Place) → 0 < part.row → row ≡ part.row - 1 → i / 2 ^ part.row ≡ i / 2 ^ row / 2
half_of i row part some is =
    let e : part.row ≡ suc row = omega (arith, some, is) in
    ap (λ r. i / 2 ^ r) e ∙ parts-suc i row

-- the halves of a part of the forest
pub record HalvesOf (n : ℕ) (part left right : Place) : Type 0 where
  pub some : 0 < part.row
  pub left_row : left.row ≡ part.row - 1
  pub right_row : right.row ≡ part.row - 1
  pub left_within : InForest n left.row left.off
  pub right_within : InForest n right.row right.off

pub halves_of : (n : ℕ) (part left right : Place) → 0 < part.row → InForest n part.row part.off → (left.row + 1 ≡ part.row)
    × (right.row + 1 ≡ part.row) → left.off ≡ 2 * part.off → right.off ≡ 2 * part.off + 1 → HalvesOf n part left right
halves_of n part left right some within rows left_off right_off =
    let low : left.row ≡ part.row - 1 = omega (arith, rows.0) in
    let high : right.row ≡ part.row - 1 = omega (arith, rows.1) in
    record {
      some = some;
      left_row = low;
      right_row = high;
      left_within = rw (low, left_off) (within_left n part.row part.off some within);
      right_within = rw (high, right_off) (within_right n part.row part.off some within);
    }

-- what passes a test has what it is told by
filter_holds : (p : ℕ → Bool) (P Q : ℕ → Type 0) → ((i : ℕ) → P i → p i ≡ true → Q i) → (xs : List ℕ) → All P xs → All Q (filter p xs)
filter_holds p P Q f [] h = All-nil Q
filter_holds p P Q f (x ∷ xs) h =
    ⊎_elim
    (λ yes. rw yes (All-cons Q x (filter p xs) (f x (All-head P x xs h) yes) (filter_holds p P Q f xs (All-tail P x xs h))))
    (λ no. rw no (filter_holds p P Q f xs (All-tail P x xs h)))
    (cases_Bool (p x))

-- a live entry is in no part that has nothing
pub not_in : (es : List (Option Digest)) (row off i : ℕ) → content es row off ≡ None → is_live es i ≡ true → i / 2 ^ row ≡ off → ⊥
not_in es row off i none live here =
    let some = some_from_test (get_or es i None) live in
    none-some some.0 (sym ((content_none_iff es row off).0 none i here) ∙ some.1)

module _ (es : List (Option Digest)) (part left right : Place) (numbers : List ℕ) (h : HalvesOf (length es) part left right)
    (left_off : left.off ≡ 2 * part.off) (right_off : right.off ≡ 2 * part.off + 1) (inside : AreIn es part.row part.off numbers) where
  pub in_low : AreIn es left.row left.off (filter (λ i. nat_le (i / 2 ^ left.row) left.off) numbers)
  in_low = filter_holds (λ i. nat_le (i / 2 ^ left.row) left.off) (λ i. (is_live es i ≡ true) × (i / 2 ^ part.row ≡ part.off))
      (λ i. (is_live es i ≡ true) × (i / 2 ^ left.row ≡ left.off)) (λ i w yes.
      let half = half_of i left.row part h.some h.left_row in
      let upto : i / 2 ^ left.row ≤ left.off = leb-true _ _ yes in
      (w.0, omega (arith, half, w.1, upto, left_off))) numbers inside

  pub in_high : AreIn es right.row right.off (filter (λ i. not (nat_le (i / 2 ^ left.row) left.off)) numbers)
  in_high = filter_holds (λ i. not (nat_le (i / 2 ^ left.row) left.off)) (λ i. (is_live es i ≡ true) × (i / 2 ^ part.row ≡ part.off))
      (λ i. (is_live es i ≡ true) × (i / 2 ^ right.row ≡ right.off)) (λ i w yes.
      let half = half_of i right.row part h.some h.right_row in
      let low : i / 2 ^ left.row ≡ i / 2 ^ right.row = ap (λ r. i / 2 ^ r) (h.left_row ∙ sym h.right_row) in
      let over : left.off < i / 2 ^ left.row = leb-false _ _ (not-true _ yes) in
      (w.0, omega (arith, half, w.1, low, over, left_off, right_off))) numbers inside

-- those in a slot, and those behind it
pub in_slot : (es : List (Option Digest)) (row off : ℕ) (numbers : List ℕ) → length es / 2 ^ row % 2 ≡ 1 → off ≡ length es / 2 ^ row - 1
    → AreBehind es (suc row) numbers → AreIn es row off (filter (λ i. nat_le (i / 2 ^ row) off) numbers)
in_slot es row off numbers odd is later = filter_holds (λ i. nat_le (i / 2 ^ row) off)
    (λ i. (is_live es i ≡ true) × (length es / 2 ^ suc row ≤ i / 2 ^ suc row)) (λ i. (is_live es i ≡ true) × (i / 2 ^ row ≡ off)) (λ i w yes.
    let upto : i / 2 ^ row ≤ off = leb-true _ _ yes in
    (w.0, omega (arith, parts-suc i row, parts-suc (length es) row, w.1, upto, odd, is))) numbers later

pub behind_slot : (es : List (Option Digest)) (row off : ℕ) (numbers : List ℕ) → length es / 2 ^ row % 2 ≡ 1 → off ≡ length es / 2 ^ row - 1
    → AreBehind es (suc row) numbers → AreBehind es row (filter (λ i. not (nat_le (i / 2 ^ row) off)) numbers)
behind_slot es row off numbers odd is later = filter_holds (λ i. not (nat_le (i / 2 ^ row) off))
    (λ i. (is_live es i ≡ true) × (length es / 2 ^ suc row ≤ i / 2 ^ suc row)) (λ i. (is_live es i ≡ true) × (length es / 2 ^ row ≤ i / 2 ^ row))
    (λ i w yes.
    let over : off < i / 2 ^ row = leb-false _ _ (not-true _ yes) in
    (w.0, omega (arith, over, is))) numbers later

pub behind_none : (es : List (Option Digest)) (row : ℕ) (numbers : List ℕ) → length es / 2 ^ row % 2 ≡ 0 → AreBehind es (suc row) numbers
    → AreBehind es row numbers
behind_none es row numbers even later = All-weaker (λ i. (is_live es i ≡ true) × (length es / 2 ^ suc row ≤ i / 2 ^ suc row))
    (λ i. (is_live es i ≡ true) × (length es / 2 ^ row ≤ i / 2 ^ row)) (λ i w.
    (w.0, omega (arith, parts-suc i row, parts-suc (length es) row, w.1, even))) numbers later

-- a live entry is one of those that there are
live_below : (es : List (Option Digest)) (i : ℕ) → is_live es i ≡ true → i < length es
live_below [] i live = absurd (true≢false (sym live))
live_below (x ∷ es) zero live = omega arith
live_below (x ∷ es) (suc i) live = let up = live_below es i live in omega (arith, up)

pub behind_nothing : (es : List (Option Digest)) (numbers : List ℕ) → AreBehind es 0 numbers → numbers ≡ []
behind_nothing es [] later = refl
behind_nothing es (i ∷ is) later =
    let here = All-head (λ j. (is_live es j ≡ true) × (length es / 2 ^ 0 ≤ j / 2 ^ 0)) i is later in
    let low = live_below es i here.0 in
    absurd (let over : length es / 1 ≤ i / 1 = here.1 in omega (arith, low, over))

pub behind_all : (es : List (Option Digest)) (numbers : List ℕ) → length es < 2 ^ 40 → All (λ i. is_live es i ≡ true) numbers
    → AreBehind es 40 numbers
behind_all es numbers few live = All-weaker (λ i. is_live es i ≡ true) (λ i. (is_live es i ≡ true) × (length es / 2 ^ 40 ≤ i / 2 ^ 40))
    (λ i w. let none : length es / 2 ^ 40 ≡ 0 = div-eq_of_lt few in (w, omega (arith, none))) numbers live

module _ (es : List (Option Digest)) (ts : List Place) (all : List ℕ) (at : StandAt es ts all) where
  -- each of all entries is live
  alive : (i : ℕ) → is_spent all i ≡ true → (d : Digest) × (get_or es i None ≡ Some d)
  alive i h = let w = place_at es ts all i at h in (w.2, (found_where_it_stands es i w.2 (record { row = w.0; off = w.1 }) w.3).0)

  pub in_part : (part q : Place) (numbers : List ℕ) (i : ℕ) → AreOfPart es ts all part q numbers → is_spent numbers i ≡ true → (is_spent all i ≡ true)
      × (i / 2 ^ part.row ≡ part.off)
  in_part part q numbers i w h =
      let both = spent_filter (λ j. j / 2 ^ part.row == part.off) all i (ap (λ xs. is_spent xs i) (sym w.are) ∙ h) in
      (both.0, eqb-true _ _ both.1)

  of_part : (part q : Place) (numbers : List ℕ) (i : ℕ) → AreOfPart es ts all part q numbers → is_spent all i ≡ true → i / 2 ^ part.row ≡ part.off
      → is_spent numbers i ≡ true
  of_part part q numbers i w h e = ap (λ xs. is_spent xs i) w.are ∙ filter_spent (λ j. j / 2 ^ part.row == part.off) all i h (eq-eqb _ _ e)

  -- ---- nothing in the part: its place alone is noted

  pub way_none : (H : List ℕ → Digest) (part q : Place) (numbers : List ℕ) → numbers ≡ [] → InForest (length es) q.row q.off
      → tree_at es q.row q.off ≡ content es part.row part.off → AreOfPart es ts all part q numbers →
      (is_needed (length es) ts (record { row = q.row; off = q.off }) ≡ true) × ((row : ℕ) → row < q.row → beneath H es ts q row ≡ [])
  way_none H part q numbers none there stands w =
      let bare = uncovered es ts all at part.row part.off q there stands (λ i h e. none_spent numbers i none (of_part part q numbers i w h e)) in
      let r : q.row + 0 ≡ q.row = omega arith in
      let o : q.off / 1 ≡ q.off = omega arith in
      let beside = w.beside none in
      let here : cover ts q.row q.off ≡ None = bare 0 q.row q.off r o in
      let root : is_root (length es) q.row q.off ≡ false = beside.0 in
      let over : cover ts q.row (sibling_off q.off) ≡ Some beside.1.0 = beside.1.1 in
      (rw (root, here, over) refl, beneath_nothing H es ts q (λ k r o e f. bare (suc k) r o e f))

  -- ---- one entry: nothing is noted

  pub way_one : (H : List ℕ → Digest) (part q : Place) (numbers : List ℕ) (x : ℕ) → part.row ≡ 0 → is_spent numbers x ≡ true
      → tree_at es q.row q.off ≡ content es part.row part.off → AreOfPart es ts all part q numbers → (row : ℕ) → row ≤ q.row
      → beneath H es ts q row ≡ []
  way_one H part q numbers x one has stands w row under =
      ⊎_elim
      (λ below. beneath_nothing H es ts q (uncovered_under es ts all at q x live.0 leaf_there) row below)
      (λ top. let same : row ≡ q.row = omega (arith, under, top) in
      subst (λ r. beneath H es ts q r ≡ []) (sym same) (covered_top H es ts q over.0 over.1))
      (cases_lt row q.row)
    where
      its : (is_spent all x ≡ true) × (x / 2 ^ part.row ≡ part.off)
      its = in_part part q numbers x w has

      live : (d : Digest) × (get_or es x None ≡ Some d)
      live = alive x its.0

      over : (c : Cover) × (cover ts q.row q.off ≡ Some c)
      over = covered es ts all at part.row part.off q x stands its.0 its.1

      leaf_there : tree_at es q.row q.off ≡ Some (leaf x live.0)
      leaf_there =
          let same : part.off ≡ x = sym its.1 ∙ (ap (λ r. x / 2 ^ r) one ∙ (let e : x / 1 ≡ x = omega arith in e)) in
          stands ∙ (ap₂ (content es) one same ∙ ap (option_map (leaf x)) live.1)

  -- ---- one half has nothing: all are in the other

  right_alone : (part half : Place) (i : ℕ) → 0 < part.row → half.row ≡ part.row - 1 → half.off ≡ 2 * part.off + 1
      → content es half.row (2 * part.off) ≡ None → is_spent all i ≡ true → (i / 2 ^ part.row == part.off) ≡ (i / 2 ^ half.row == half.off)
  right_alone part half i some row off none h =
      let half_is = half_of i half.row part some row in
      same_Bools _ _
      (λ e. let there : i / 2 ^ half.row / 2 ≡ part.off = sym half_is ∙ eqb-true _ _ e in
      eq-eqb _ _ (⊎_elim
      (λ lt. let left : i / 2 ^ half.row ≡ 2 * part.off = omega (arith, there, lt) in
      let live = alive i h in absurd (none-some live.0 (sym ((content_none_iff es half.row (2 * part.off)).0 none i left) ∙ live.1)))
      (λ le. omega (arith, there, le, off))
      (cases_lt (i / 2 ^ half.row) (2 * part.off + 1))))
      (λ e. let there : i / 2 ^ half.row ≡ half.off = eqb-true _ _ e in eq-eqb _ _ (half_is ∙ omega (arith, there, off)))

  left_alone : (part half : Place) (i : ℕ) → 0 < part.row → half.row ≡ part.row - 1 → half.off ≡ 2 * part.off
      → content es half.row (2 * part.off + 1) ≡ None → is_spent all i ≡ true → (i / 2 ^ part.row == part.off) ≡ (i / 2 ^ half.row == half.off)
  left_alone part half i some row off none h =
      let half_is = half_of i half.row part some row in
      same_Bools _ _
      (λ e. let there : i / 2 ^ half.row / 2 ≡ part.off = sym half_is ∙ eqb-true _ _ e in
      eq-eqb _ _ (⊎_elim
      (λ lt. omega (arith, there, lt, off))
      (λ le. let right : i / 2 ^ half.row ≡ 2 * part.off + 1 = omega (arith, there, le) in
      let live = alive i h in absurd (none-some live.0 (sym ((content_none_iff es half.row (2 * part.off + 1)).0 none i right) ∙ live.1)))
      (cases_lt (i / 2 ^ half.row) (2 * part.off + 1))))
      (λ e. let there : i / 2 ^ half.row ≡ half.off = eqb-true _ _ e in eq-eqb _ _ (half_is ∙ omega (arith, there, off)))

  pub way_right : (part half q : Place) (numbers : List ℕ) → 0 < part.row → half.row ≡ part.row - 1 → half.off ≡ 2 * part.off + 1
      → content es half.row (2 * part.off) ≡ None → AreOfPart es ts all part q numbers → AreOfPart es ts all half q numbers
  way_right part half q numbers some row off none w =
      record { are = w.are ∙ filter_alike _ _ all (λ i h. right_alone part half i some row off none h); beside = w.beside }

  pub way_left : (part half q : Place) (numbers : List ℕ) → 0 < part.row → half.row ≡ part.row - 1 → half.off ≡ 2 * part.off
      → content es half.row (2 * part.off + 1) ≡ None → AreOfPart es ts all part q numbers → AreOfPart es ts all half q numbers
  way_left part half q numbers some row off none w =
      record { are = w.are ∙ filter_alike _ _ all (λ i h. left_alone part half i some row off none h); beside = w.beside }

  -- ---- both halves have something

  -- a part, its place, its halves and theirs
  pub record AreHalved (part q left right under beside : Place) : Type 0 where
    pub some : 0 < part.row
    pub high : 0 < q.row
    pub there : InForest (length es) q.row q.off
    pub left_row : left.row ≡ part.row - 1
    pub left_off : left.off ≡ 2 * part.off
    pub right_row : right.row ≡ part.row - 1
    pub right_off : right.off ≡ 2 * part.off + 1
    pub under_row : under.row ≡ q.row - 1
    pub under_off : under.off ≡ 2 * q.off
    pub beside_row : beside.row ≡ q.row - 1
    pub beside_off : beside.off ≡ 2 * q.off + 1
    pub left_stands : tree_at es under.row under.off ≡ content es left.row left.off
    pub right_stands : tree_at es beside.row beside.off ≡ content es right.row right.off

  module _ (part q left right under beside : Place) (numbers : List ℕ) (a : AreHalved part q left right under beside)
      (w : AreOfPart es ts all part q numbers) where
    -- those of the left half are those up to it
    low_are : filter (λ i. nat_le (i / 2 ^ left.row) left.off) numbers ≡ filter (λ i. i / 2 ^ left.row == left.off) all
    low_are =
        ap (filter (λ i. nat_le (i / 2 ^ left.row) left.off)) w.are
        ∙ (filter_twice _ _ all ∙ filter_alike _ _ all (λ i h. same_Bools _ _
        (λ e. let both = and_parts _ _ e in
        let there : i / 2 ^ left.row / 2 ≡ part.off = sym (half_of i left.row part a.some a.left_row) ∙ eqb-true _ _ both.0 in
        let upto : i / 2 ^ left.row ≤ left.off = leb-true _ _ both.1 in
        eq-eqb _ _ (omega (arith, there, upto, a.left_off)))
        (λ e. let is : i / 2 ^ left.row ≡ left.off = eqb-true _ _ e in
        and_from _ _ (eq-eqb _ _ (half_of i left.row part a.some a.left_row ∙ omega (arith, is, a.left_off))) (le-leb _ _ (omega (arith, is))))))

    -- and the others those of the right half
    high_are : filter (λ i. not (nat_le (i / 2 ^ left.row) left.off)) numbers ≡ filter (λ i. i / 2 ^ right.row == right.off) all
    high_are =
        ap (filter (λ i. not (nat_le (i / 2 ^ left.row) left.off))) w.are
        ∙ (filter_twice _ _ all ∙ filter_alike _ _ all (λ i h.
        let rows : i / 2 ^ right.row ≡ i / 2 ^ left.row = ap (λ r. i / 2 ^ r) (a.right_row ∙ sym a.left_row) in
        same_Bools _ _
        (λ e. let both = and_parts _ _ e in
        let there : i / 2 ^ left.row / 2 ≡ part.off = sym (half_of i left.row part a.some a.left_row) ∙ eqb-true _ _ both.0 in
        let over : left.off < i / 2 ^ left.row = leb-false _ _ (not-true _ both.1) in
        eq-eqb _ _ (rows ∙ omega (arith, there, over, a.left_off, a.right_off)))
        (λ e. let is : i / 2 ^ left.row ≡ right.off = sym rows ∙ eqb-true _ _ e in
        let over : nat_le (i / 2 ^ left.row) left.off ≡ false = lt-leb _ _ (omega (arith, is, a.left_off, a.right_off)) in
        and_from _ _ (eq-eqb _ _ (half_of i left.row part a.some a.left_row ∙ omega (arith, is, a.right_off))) (rw over refl))))

    above_row : q.row ≡ suc under.row
    above_row = omega (arith, a.high, a.under_row)

    there_above : InForest (length es) (suc under.row) q.off
    there_above = subst (λ r. InForest (length es) r q.off) above_row a.there

    no_root_under : is_root (length es) under.row under.off ≡ false
    no_root_under = ap (is_root (length es) under.row) a.under_off ∙ not_root-left (length es) under.row q.off there_above

    no_root_beside : is_root (length es) beside.row beside.off ≡ false
    no_root_beside = ap₂ (is_root (length es)) (a.beside_row ∙ sym a.under_row) a.beside_off ∙ not_root-right (length es) under.row q.off there_above

    -- an entry of the part is in one of its halves, of which the other has nothing
    pub way_low : (low : List ℕ) (x : ℕ) → low ≡ filter (λ i. nat_le (i / 2 ^ left.row) left.off) numbers → is_spent numbers x ≡ true
        → AreOfPart es ts all left under low
    way_low low x is has = record {
      are = is ∙ low_are;
      beside = λ none.
          let its = in_part part q numbers x w has in
          let there : x / 2 ^ left.row / 2 ≡ part.off = sym (half_of x left.row part a.some a.left_row) ∙ its.1 in
          let over : left.off < x / 2 ^ left.row = ⊎_elim
          (λ lt. lt)
          (λ le. absurd (none_spent low x none (ap (λ xs. is_spent xs x) is
          ∙ filter_spent (λ i. nat_le (i / 2 ^ left.row) left.off) numbers x has (le-leb _ _ le))))
          (cases_lt left.off (x / 2 ^ left.row)) in
          let right_is : x / 2 ^ right.row ≡ right.off = ap (λ r. x / 2 ^ r) (a.right_row ∙ sym a.left_row)
          ∙ omega (arith, there, over, a.left_off, a.right_off) in
          let c = covered es ts all at right.row right.off beside x a.right_stands its.0 right_is in (
            no_root_under,
            (
              c.0,
              ap₂ (cover ts) (a.under_row ∙ sym a.beside_row)
                  (ap sibling_off a.under_off ∙ (sibling_off-left q.off ∙ sym a.beside_off)) ∙ c.1,
            ),
          );
    }

    pub way_high : (high : List ℕ) (x : ℕ) → high ≡ filter (λ i. not (nat_le (i / 2 ^ left.row) left.off)) numbers → is_spent numbers x ≡ true
        → AreOfPart es ts all right beside high
    way_high high x is has = record {
      are = is ∙ high_are;
      beside = λ none.
          let its = in_part part q numbers x w has in
          let there : x / 2 ^ left.row / 2 ≡ part.off = sym (half_of x left.row part a.some a.left_row) ∙ its.1 in
          let upto : x / 2 ^ left.row ≤ left.off = ⊎_elim
          (λ lt. absurd (none_spent high x none (ap (λ xs. is_spent xs x) is
          ∙ filter_spent (λ i. not (nat_le (i / 2 ^ left.row) left.off)) numbers x has (let f : nat_le (x / 2 ^ left.row) left.off ≡ false =
          lt-leb _ _ lt in rw f refl))))
          (λ le. le)
          (cases_lt left.off (x / 2 ^ left.row)) in
          let left_is : x / 2 ^ left.row ≡ left.off = omega (arith, there, upto, a.left_off) in
          let c = covered es ts all at left.row left.off under x a.left_stands its.0 left_is in (
            no_root_beside,
            (
              c.0,
              ap₂ (cover ts) (a.beside_row ∙ sym a.under_row)
                  (ap sibling_off a.beside_off ∙ (sibling_off-right q.off ∙ sym a.under_off)) ∙ c.1,
            ),
          );
    }

    pub way_both : (H : List ℕ → Digest) (x : ℕ) (old mid new : List (List Sibling)) → tree_at es q.row q.off ≡ content es part.row part.off
        → is_spent numbers x ≡ true → AreMore H es ts under old mid → AreMore H es ts beside mid new → AreMore H es ts q old new
    way_both H x old mid new stands has one two =
        let its = in_part part q numbers x w has in
        let c = covered es ts all at part.row part.off q x stands its.0 its.1 in
        more_halves H es ts q under beside c.0 a.high a.under_row a.under_off a.beside_row a.beside_off c.1 old mid new one two

    -- the same where the right half is noted first, and each row has something of one half at most
    pub way_across : (H : List ℕ → Digest) (x : ℕ) (old mid new : List (List Sibling)) → tree_at es q.row q.off ≡ content es part.row part.off
        → is_spent numbers x ≡ true → ((row : ℕ) → (beneath H es ts under row ≡ []) ⊎ (beneath H es ts beside row ≡ []))
        → AreMore H es ts beside old mid → AreMore H es ts under mid new → AreMore H es ts q old new
    way_across H x old mid new stands has apart two one =
        let its = in_part part q numbers x w has in
        let c = covered es ts all at part.row part.off q x stands its.0 its.1 in
        more_across H es ts q under beside c.0 a.high a.under_row a.under_off a.beside_row a.beside_off c.1 old mid new apart two one
