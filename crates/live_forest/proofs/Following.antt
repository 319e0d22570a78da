-- The way down as far as entries go together, as a loop: at each part what is noted later, with what was noted so far, is what is beneath the first
-- place.
use Rattle.std.proofs.Common.{◌≡◌, ◌≢◌, ℕ, ◌+◌, ◌-◌, ◌*◌, ◌/◌, ◌%◌, ◌^◌, ◌<◌, true, false, List, [], ◌∷◌, ◌++◌, length, get_or, Option, Some, None}
use Rattle.std.proofs.Common.{All, refl, sym}
use Rattle.std.proofs.Common.{ap, ap₂, ◌∙◌, subst, ⊎_elim, ◌⊎◌, inl, inr, arith}
use Rattle.std.specs.Prelude.{nat_le, not, option_map}
use Rattle.std.specs.List.Sorted.{IsNonDecreasing}
use Rattle.std.proofs.lemmas.List.{get_or_default}
use Rattle.std.specs.List.{filter, filter_map}
use Rattle.std.proofs.lemmas.Bool.{le-leb, lt-leb, cases_lt}
use Rattle.uo_digest.specs.declared.digest.Digest.{Digest}
use Rattle.forest_place.specs.declared.place.Place.{Place}
use Rattle.forest_place.specs.Forest.{InForest, sibling_off}
use Rattle.forest_place.specs.Places.{child}
use Rattle.forest_place.proofs.Siblings.{sibling_cases, sibling_half, sibling_twice}
use Rattle.forest_model.specs.Content.{Tree, content, digest_of}
use Rattle.forest_model.specs.Standing.{tree_at}
use Rattle.forest_model.specs.Deletion.{StandAt}
use Rattle.forest_model.proofs.Deleting.{is_spent}
use Rattle.live_forest.specs.declared.batch.Sibling.{Sibling}
use Rattle.live_forest.specs.Stores.{StoreState}
use Rattle.live_forest.specs.Parts.{AreParts, kept}
use Rattle.live_forest.specs.State.{is_live}
use Rattle.live_forest.specs.Proving.{standing, beneath, list_of, AreIn, AreMore, AreOfPart, IsOn}
use Rattle.live_forest.proofs.Refreshing.{kept_right}
use Rattle.live_forest.proofs.Seeking.{within_left, within_right, alike}
use Rattle.live_forest.proofs.Noting.{AreHalves, stands_left, stands_right, stand_both}
use Rattle.uo_base.proofs.Lists.{filter_all, filter_none}
use Rattle.live_forest.proofs.Parting.{filter_spent, one_spent, spent_some, parts_rise}
use Rattle.live_forest.proofs.Beneath.{beneath_above, covered_top, more_nothing, more_one, by_order}
use Rattle.live_forest.proofs.Covering.{covered}
use Rattle.live_forest.proofs.Descending.{half_of, not_in, in_part, way_none, way_one, way_left, way_right, AreHalved, way_low, way_high, way_both}
use Rattle.live_forest.proofs.Descending.{way_across}

-- two halves of a part
pub record ArePair (part half other : Place) : Type 0 where
  pub some : 0 < part.row
  pub row : half.row ≡ part.row - 1
  pub same : other.row ≡ half.row
  pub off : half.off / 2 ≡ part.off
  pub beside : other.off ≡ sibling_off half.off

-- the place beneath on a side, and its sibling
pub pair_of : (part half other : Place) (side : ℕ) → side < 2 → 0 < part.row → half ≡ child side part
    → other.row ≡ half.row → other.off ≡ sibling_off half.off → ArePair part half other
pair_of part half other side small some is same beside =
    let off = ap (λ (p : Place). p.off) is in
    record { some = some; row = ap (λ (p : Place). p.row) is; same = same; off = omega (arith, off, small); beside = beside }

-- the half that has the first of some entries
abbrev pub first_half : Place → List ℕ → Place
first_half at numbers = record { row = at.row - 1; off = get_or numbers 0 0 / 2 ^ (at.row - 1) }

abbrev pub other_of : Place → Place
other_of half = record { row = half.row; off = sibling_off half.off }

pub first_pair : (es : List (Option Digest)) (at : Place) (numbers : List ℕ) → 0 < length numbers → 0 < at.row → AreIn es at.row at.off numbers
    → ArePair at (first_half at numbers) (other_of (first_half at numbers))
first_pair es at numbers some up inside = record {
  some = up;
  row = refl;
  same = refl;
  off = let here = (inside 0 0 some).1 in omega (arith, half_of (get_or numbers 0 0) (at.row - 1) at up refl, here);
  beside = refl;
}

-- all that are between two of one half are in that half
pub all_in_half : (es : List (Option Digest)) (at : Place) (numbers : List ℕ) → IsNonDecreasing numbers → 0 < length numbers
    → get_or numbers 0 0 / 2 ^ (at.row - 1) ≡ get_or numbers (length numbers - 1) 0 / 2 ^ (at.row - 1) → AreIn es at.row at.off numbers
    → AreIn es (first_half at numbers).row (first_half at numbers).off numbers
all_in_half es at numbers rise some share inside i d lt =
    let row = at.row - 1 in
    let here = inside i d lt in
    let same : get_or numbers i d ≡ get_or numbers i 0 = get_or_default numbers i d 0 lt in
    let low = parts_rise row (get_or numbers 0 0) (get_or numbers i 0) (rise 0 i 0 (omega arith) lt) in
    let high = parts_rise row (get_or numbers i 0) (get_or numbers (length numbers - 1) 0)
    (rise i (length numbers - 1) 0 (omega (arith, lt)) (omega (arith, some))) in
    let part : get_or numbers 0 0 / 2 ^ row ≡ get_or numbers i d / 2 ^ row = omega (arith, low, high, share, ap (λ x. x / 2 ^ row) same) in
    (here.0, sym part)

-- something is kept for each part that has a live entry
pub own_kept : (H : List ℕ → Digest) (es : List (Option Digest)) (parts : StoreState) → AreParts H (length es) es parts → (row off i : ℕ)
    → InForest (length es) row off → is_live es i ≡ true → i / 2 ^ row ≡ off → (d : Digest) × (Some d ≡ kept es parts row off)
own_kept H es parts right row off i within live here = by (content es row off) refl
  where
    by : (x : Option Tree) → content es row off ≡ x → (d : Digest) × (Some d ≡ kept es parts row off)
    by None e = absurd (not_in es row off i e live here)
    by (Some t) e = (digest_of H t, sym (kept_right H (length es) es parts row off right within ∙ ap (option_map (digest_of H)) e))

-- which of them is on which side
pub sides : (part half other : Place) → ArePair part half other → ((half.off ≡ 2 * part.off) × (other.off ≡ 2 * part.off + 1))
    ⊎ ((half.off ≡ 2 * part.off + 1) × (other.off ≡ 2 * part.off))
sides part half other p = ⊎_elim (λ a. inl (omega (arith, a, p.off), omega (arith, a, p.off, p.beside)))
    (λ a. inr (omega (arith, a, p.off), omega (arith, a, p.off, p.beside))) (sibling_cases half.off)

pub other_pair : (part half other : Place) → ArePair part half other → ArePair part other half
other_pair part half other p = record {
  some = p.some;
  row = p.same ∙ p.row;
  same = sym p.same;
  off = ap (λ o. o / 2) p.beside ∙ (sibling_half half.off ∙ p.off);
  beside = sym (ap sibling_off p.beside ∙ sibling_twice half.off);
}

pub half_within : (n : ℕ) (part half other : Place) → ArePair part half other → InForest n part.row part.off → InForest n half.row half.off
half_within n part half other p h =
    ⊎_elim
    (λ a. rw (p.row, a.0) (within_left n part.row part.off p.some h))
    (λ a. rw (p.row, a.0) (within_right n part.row part.off p.some h))
    (sides part half other p)

-- the tree of a part is that of its half where the other has nothing
pub half_stands : (H : List ℕ → Digest) (es : List (Option Digest)) (parts : StoreState) (right : AreParts H (length es) es parts)
    (part half other q : Place) → ArePair part half other → InForest (length es) part.row part.off
    → tree_at es q.row q.off ≡ content es part.row part.off → None ≡ kept es parts other.row other.off
    → tree_at es q.row q.off ≡ content es half.row half.off
half_stands H es parts right part half other q p h s none =
    ⊎_elim
    (λ a. stands_left H es parts right part.row part.off q p.some h s (none ∙ ap₂ (kept es parts) (p.same ∙ p.row) a.1)
    ∙ sym (ap₂ (content es) p.row a.0))
    (λ a. stands_right H es parts right part.row part.off q p.some h s (none ∙ ap₂ (kept es parts) (p.same ∙ p.row) a.1)
    ∙ sym (ap₂ (content es) p.row a.0))
    (sides part half other p)

-- a part with something in both halves stands above them
pub record StandBeneath (es : List (Option Digest)) (half other below beside : Place) : Type 0 where
  pub half_there : tree_at es below.row below.off ≡ content es half.row half.off
  pub other_there : tree_at es beside.row beside.off ≡ content es other.row other.off

pub high_above : (H : List ℕ → Digest) (es : List (Option Digest)) (parts : StoreState) (right : AreParts H (length es) es parts)
    (part half other q : Place) (x y : Digest) → ArePair part half other → InForest (length es) part.row part.off
    → tree_at es q.row q.off ≡ content es part.row part.off → Some x ≡ kept es parts half.row half.off → Some y ≡ kept es parts other.row other.off
    → 0 < q.row
high_above H es parts right part half other q x y p h s e f =
    ⊎_elim
    (λ a. (stand_both H es parts right part.row part.off q x y p.some h s (e ∙ ap₂ (kept es parts) p.row a.0)
    (f ∙ ap₂ (kept es parts) (p.same ∙ p.row) a.1)).high)
    (λ a. (stand_both H es parts right part.row part.off q y x p.some h s (f ∙ ap₂ (kept es parts) (p.same ∙ p.row) a.1)
    (e ∙ ap₂ (kept es parts) p.row a.0)).high)
    (sides part half other p)

pub stand_beneath : (H : List ℕ → Digest) (es : List (Option Digest)) (parts : StoreState) (right : AreParts H (length es) es parts)
    (part half other q below beside : Place) (x y : Digest) → ArePair part half other → ArePair q below beside → below.off % 2 ≡ half.off % 2
    → InForest (length es) part.row part.off → tree_at es q.row q.off ≡ content es part.row part.off → Some x ≡ kept es parts half.row half.off
    → Some y ≡ kept es parts other.row other.off → StandBeneath es half other below beside
stand_beneath H es parts right part half other q below beside x y p b alike h s e f =
    ⊎_elim
    (λ a.
    let two = stand_both H es parts right part.row part.off q x y p.some h s (e ∙ ap₂ (kept es parts) p.row a.0)
    (f ∙ ap₂ (kept es parts) (p.same ∙ p.row) a.1) in
    let under : below.off ≡ 2 * q.off = omega (arith, a.0, alike, b.off) in
    let over : beside.off ≡ 2 * q.off + 1 = ⊎_elim (λ d. d.1) (λ d. absurd (omega (arith, d.0, under))) (sides q below beside b) in
    record {
      half_there = ap₂ (tree_at es) b.row under ∙ (two.low ∙ sym (ap₂ (content es) p.row a.0));
      other_there = ap₂ (tree_at es) (b.same ∙ b.row) over ∙ (two.above ∙ sym (ap₂ (content es) (p.same ∙ p.row) a.1));
    })
    (λ a.
    let two = stand_both H es parts right part.row part.off q y x p.some h s (f ∙ ap₂ (kept es parts) (p.same ∙ p.row) a.1)
    (e ∙ ap₂ (kept es parts) p.row a.0) in
    let under : below.off ≡ 2 * q.off + 1 = omega (arith, a.0, alike, b.off) in
    let over : beside.off ≡ 2 * q.off = ⊎_elim (λ d. absurd (omega (arith, d.0, under))) (λ d. d.1) (sides q below beside b) in
    record {
      half_there = ap₂ (tree_at es) b.row under ∙ (two.above ∙ sym (ap₂ (content es) p.row a.0));
      other_there = ap₂ (tree_at es) (b.same ∙ b.row) over ∙ (two.low ∙ sym (ap₂ (content es) (p.same ∙ p.row) a.1));
    })
    (sides part half other p)

-- ---- what is noted on the way

module _ (H : List ℕ → Digest) (es : List (Option Digest)) (ts : List Place) (all : List ℕ) (at : StandAt es ts all) (top part half other q : Place)
    (numbers : List ℕ) (first rows : List (List Sibling)) (p : ArePair part half other) (o : IsOn H es ts all top part q numbers first rows) where
  -- the other half has nothing
  pub on_half : content es other.row other.off ≡ None → IsOn H es ts all top half q numbers first rows
  on_half none = record {
    has = ⊎_elim
        (λ a. way_left es ts all at part half q numbers p.some p.row a.0 (ap₂ (content es) (sym p.same) (sym a.1) ∙ none) o.has)
        (λ a. way_right es ts all at part half q numbers p.some p.row a.0 (ap₂ (content es) (sym p.same) (sym a.1) ∙ none) o.has)
        (sides part half other p);
    more = o.more;
  }

module _ (H : List ℕ → Digest) (es : List (Option Digest)) (ts : List Place) (all : List ℕ) (at : StandAt es ts all)
    (top part half other q below beside : Place) (numbers : List ℕ) (first rows mid : List (List Sibling)) (p : ArePair part half other)
    (b : ArePair q below beside) (some : 0 < length numbers) (inside : AreIn es half.row half.off numbers) (alike : below.off % 2 ≡ half.off % 2)
    (there : InForest (length es) q.row q.off) (stands : tree_at es q.row q.off ≡ content es part.row part.off)
    (s : StandBeneath es half other below beside) (here : list_of mid beside.row ≡ list_of rows beside.row
    ++ filter_map (standing H es) (beside ∷ [])) (others : (row : ℕ) → row ≢ beside.row → list_of mid row ≡ list_of rows row)
    (o : IsOn H es ts all top part q numbers first rows) where
  abbrev x : ℕ
  x = get_or numbers 0 0

  has : is_spent numbers x ≡ true
  has = one_spent numbers 0 0 some

  its : (is_spent all x ≡ true) × (x / 2 ^ part.row ≡ part.off)
  its = in_part es ts all at part q numbers x o.has has

  in_half : x / 2 ^ half.row ≡ half.off
  in_half = (inside 0 0 some).1

  within_beside : InForest (length es) beside.row beside.off
  within_beside = half_within (length es) q beside below (other_pair q below beside b) there

  -- what is beside has none of them, and is noted alone
  noted : AreOfPart es ts all other beside [] → AreMore H es ts beside rows mid
  noted none = let way = way_none es ts all at H other beside [] refl within_beside s.other_there none in
      more_one H es ts beside rows mid way.0 way.1 here others

  apart : AreOfPart es ts all other beside [] → (row : ℕ) → (beneath H es ts below row ≡ []) ⊎ (beneath H es ts beside row ≡ [])
  apart none row =
      let way = way_none es ts all at H other beside [] refl within_beside s.other_there none in
      let c = covered es ts all at half.row half.off below x s.half_there its.0 in_half in
      ⊎_elim
      (λ low. inl (⊎_elim
      (λ over. beneath_above H es ts below row over)
      (λ under. let e : row ≡ below.row = omega (arith, low, under) in
      subst (λ r. beneath H es ts below r ≡ []) (sym e) (covered_top H es ts below c.0 c.1))
      (cases_lt below.row row)))
      (λ under. inr (way.1 row (omega (arith, under, b.same))))
      (by_order below.row row)

  -- both halves have something
  pub on_both : IsOn H es ts all top half below numbers first mid
  on_both =
      ⊎_elim
      (λ a.
      let under : below.off ≡ 2 * q.off = omega (arith, a.0, alike, b.off) in
      let over : beside.off ≡ 2 * q.off + 1 = ⊎_elim (λ d. d.1) (λ d. absurd (omega (arith, d.0, under))) (sides q below beside b) in
      let halved : AreHalved es ts all at part q half other below beside =
      record {
        some = p.some;
        high = b.some;
        there = there;
        left_row = p.row;
        left_off = a.0;
        right_row = p.same ∙ p.row;
        right_off = a.1;
        under_row = b.row;
        under_off = under;
        beside_row = b.same ∙ b.row;
        beside_off = over;
        left_stands = s.half_there;
        right_stands =
            s.other_there;
      } in
      let yes : All (λ i. nat_le (i / 2 ^ half.row) half.off ≡ true) numbers = λ i d lt.
      let here = (inside i d lt).1 in le-leb _ _ (omega (arith, here)) in
      let no : All (λ i. not (nat_le (i / 2 ^ half.row) half.off) ≡ false) numbers = λ i d lt. rw (yes i d lt) refl in
      let low = way_low es ts all at part q half other below beside numbers halved o.has numbers x (sym (filter_all _ numbers yes)) has in
      let none = way_high es ts all at part q half other below beside numbers halved o.has [] x (sym (filter_none _ numbers no)) has in
      record {
        has = low;
        more = λ last one. o.more last (way_across es ts all at part q half other below beside numbers halved o.has H x rows mid
            last stands has (apart none) (noted none) one);
      })
      (λ a.
      let under : below.off ≡ 2 * q.off + 1 = omega (arith, a.0, alike, b.off) in
      let over : beside.off ≡ 2 * q.off = ⊎_elim (λ d. absurd (omega (arith, d.0, under))) (λ d. d.1) (sides q below beside b) in
      let halved : AreHalved es ts all at part q other half beside below =
      record {
        some = p.some;
        high = b.some;
        there = there;
        left_row = p.same ∙ p.row;
        left_off = a.1;
        right_row = p.row;
        right_off = a.0;
        under_row = b.same ∙ b.row;
        under_off = over;
        beside_row = b.row;
        beside_off = under;
        left_stands = s.other_there;
        right_stands =
            s.half_there;
      } in
      let no : All (λ i. nat_le (i / 2 ^ other.row) other.off ≡ false) numbers = λ i d lt.
      let here = ap (λ r. get_or numbers i d / 2 ^ r) p.same ∙ (inside i d lt).1 in lt-leb _ _ (omega (arith, here, a)) in
      let yes : All (λ i. not (nat_le (i / 2 ^ other.row) other.off) ≡ true) numbers = λ i d lt. rw (no i d lt) refl in
      let none = way_low es ts all at part q other half beside below numbers halved o.has [] x (sym (filter_none _ numbers no)) has in
      let high = way_high es ts all at part q other half beside below numbers halved o.has numbers x (sym (filter_all _ numbers yes)) has in
      record {
        has = high;
        more = λ last one. o.more last (way_both es ts all at part q other half beside below numbers halved o.has H x rows mid
            last stands has (noted none) one);
      })
      (sides part half other p)

-- at one entry nothing more is noted
pub on_entry : (H : List ℕ → Digest) (es : List (Option Digest)) (ts : List Place) (all : List ℕ) → StandAt es ts all
    → (top part q : Place) (numbers : List ℕ) (first rows : List (List Sibling)) → 0 < length numbers → part.row ≡ 0
    → tree_at es q.row q.off ≡ content es part.row part.off → IsOn H es ts all top part q numbers first rows → AreMore H es ts top first rows
on_entry H es ts all at top part q numbers first rows some one stands o =
    let has = one_spent numbers 0 0 some in
    o.more rows (more_nothing H es ts q rows (way_one es ts all at H part q numbers (get_or numbers 0 0) one has stands o.has))

-- where the first and the last of some entries part, each half has something, and has some of them
pub ends_apart : (H : List ℕ → Digest) (es : List (Option Digest)) (parts : StoreState) (right : AreParts H (length es) es parts) (part q : Place)
    (numbers : List ℕ) → 0 < part.row → InForest (length es) part.row part.off → tree_at es q.row q.off ≡ content es part.row part.off
    → AreIn es part.row part.off numbers → 0 < length numbers → IsNonDecreasing numbers
    → get_or numbers 0 0 / 2 ^ (part.row - 1) ≢ get_or numbers (length numbers - 1) 0 / 2 ^ (part.row - 1)
    → AreHalves H es parts right part.row part.off q
    × (get_or numbers 0 0 / 2 ^ (part.row - 1) ≡ 2 * part.off)
    × (get_or numbers (length numbers - 1) 0 / 2 ^ (part.row - 1) ≡ 2 * part.off + 1)
ends_apart H es parts right part q numbers up h stands inside some rise apart =
    let row = part.row - 1 in
    let first = get_or numbers 0 0 in
    let last = get_or numbers (length numbers - 1) 0 in
    let one = inside 0 0 some in
    let two = inside (length numbers - 1) 0 (omega (arith, some)) in
    let low = half_of first row part up refl in
    let high = half_of last row part up refl in
    let upto = parts_rise row first last (rise 0 (length numbers - 1) 0 (omega arith) (omega (arith, some))) in
    let left : first / 2 ^ row ≡ 2 * part.off = omega (arith, low, high, one.1, two.1, upto, apart) in
    let right_is : last / 2 ^ row ≡ 2 * part.off + 1 = omega (arith, low, high, one.1, two.1, upto, apart) in
    let x = own_kept H es parts right row (2 * part.off) first (within_left (length es) part.row part.off up h) one.0 left in
    let y = own_kept H es parts right row (2 * part.off + 1) last (within_right (length es) part.row part.off up h) two.0 right_is in
    (stand_both H es parts right part.row part.off q x.0 y.0 up h stands x.1 y.1, left, right_is)

module _ (part left : Place) (numbers : List ℕ) (some : 0 < length numbers) (left_row : left.row ≡ part.row - 1)
    (left_off : left.off ≡ 2 * part.off) where
  pub some_low : get_or numbers 0 0 / 2 ^ (part.row - 1) ≡ 2 * part.off → 0 < length (filter (λ i. nat_le (i / 2 ^ left.row) left.off) numbers)
  some_low first =
      let here : get_or numbers 0 0 / 2 ^ left.row ≡ 2 * part.off = ap (λ r. get_or numbers 0 0 / 2 ^ r) left_row ∙ first in
      spent_some _ (get_or numbers 0 0) (filter_spent (λ i. nat_le (i / 2 ^ left.row) left.off) numbers (get_or numbers 0 0)
      (one_spent numbers 0 0 some) (le-leb _ _ (omega (arith, here, left_off))))

  pub some_high : get_or numbers (length numbers - 1) 0 / 2 ^ (part.row - 1) ≡ 2 * part.off + 1
      → 0 < length (filter (λ i. not (nat_le (i / 2 ^ left.row) left.off)) numbers)
  some_high last =
      let end = get_or numbers (length numbers - 1) 0 in
      let here : end / 2 ^ left.row ≡ 2 * part.off + 1 = ap (λ r. end / 2 ^ r) left_row ∙ last in
      let over : nat_le (end / 2 ^ left.row) left.off ≡ false = lt-leb _ _ (omega (arith, here, left_off)) in
      spent_some _ end (filter_spent (λ i. not (nat_le (i / 2 ^ left.row) left.off)) numbers end
      (one_spent numbers (length numbers - 1) 0 (omega (arith, some))) (rw over refl))
