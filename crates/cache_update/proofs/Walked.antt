-- A walk through an ascending list beside another.
use Rattle.std.proofs.Common.{◌≡◌, ℕ, ◌+◌, ◌<◌, ◌≤◌, true, false, List, length, get_or, ap, ◌∙◌, ⊎_elim, arith, suc, ◌-◌, ◌/◌, ◌⊎◌, inl, inr, nat_lt}
use Rattle.std.proofs.Common.{lt-ltb, le-ltb, ltb-true, eqb-true, refl, sym, ap₂, subst}
use Rattle.std.specs.Prelude.{◌==◌}
use Rattle.std.proofs.lemmas.Bool.{cases_Bool, cases_eq, cases_lt, and_parts, true≢false, eq-eqb}
use Rattle.std.proofs.lemmas.List.{get_or_default}
use Rattle.uo_digest.specs.declared.digest.Digest.{Digest}
use Rattle.forest_place.specs.declared.place.Place.{Place}
use Rattle.forest_place.specs.Places.{is_before_place, up}
use Rattle.cache_model.specs.Lists.{AscendByPlace}
use Rattle.cache_model.specs.Search.{IsSplit}
use Rattle.cache_model.specs.Undo.{is_same_place, held_key}
use Rattle.cache_model.proofs.Searching.{IsNarrowed, narrowed-up, narrowed-down, narrowed-end, rises}
use Rattle.cache_model.proofs.Undoing.{place_order}
use Rattle.cache_update.specs.DeletionGoals.{NoneBefore}
use Rattle.cache_update.specs.Differences.{AreBefore}

module _ (hs : List (Place × Digest)) (p : Place) (at : ℕ) (n : AreBefore hs at p) where
  -- the walk stops
  pub split_at : (d : Place × Digest) → AscendByPlace hs → at < length hs → is_before_place (get_or hs at d).0 p ≡ false
      → IsSplit is_before_place held_key p hs at
  split_at x a lt b =
      let inside = n.within in
      narrowed-end is_same_place is_before_place held_key place_order p hs at at
      (narrowed-down is_same_place is_before_place held_key place_order p hs at (length hs) at x a (record {
        order = inside;
        within = omega arith;
        low = n.each;
        high = λ j d ge below. absurd (omega (arith, ge, below));
      }) lt (omega arith) b)
      (omega arith)

  pub split_end : length hs ≤ at → IsSplit is_before_place held_key p hs at
  split_end ge = record { within = n.within; low = n.each; high = λ j d from below. absurd (omega (arith, ge, from, below)) }

  -- and goes on
  pub before_more : (x : Place × Digest) → at < length hs → is_before_place (get_or hs at x).0 p ≡ true → AreBefore hs (at + 1) p
  before_more x lt b = record {
    within = omega (arith, lt);
    each = λ j d below. ⊎_elim
        (λ same. ap (λ i. is_before_place (get_or hs i d).0 p) same
        ∙ (ap (λ (y : Place × Digest). is_before_place y.0 p) (get_or_default hs at d x lt) ∙ b))
        (λ other. n.each j d (omega (arith, below, other)))
        (cases_eq j at);
  }

pub before_first : (hs : List (Place × Digest)) (p : Place) → AreBefore hs 0 p
before_first hs p = record { within = omega arith; each = λ j d lt. absurd (omega (arith, lt)) }

-- all that comes before an index, where the last of them does
pub before_last : (hs : List (Place × Digest)) (p : Place) (at : ℕ) (x : Place × Digest) → AscendByPlace hs → 0 < at → at ≤ length hs
    → is_before_place (get_or hs (at - 1) x).0 p ≡ true → AreBefore hs at p
before_last hs p at x a some inside b = record {
  within = inside;
  each = λ j d below.
      let last : is_before_place (get_or hs (at - 1) d).0 p ≡ true =
      ap (λ (y : Place × Digest). is_before_place y.0 p) (get_or_default hs (at - 1) d x (omega (arith, some, inside))) ∙ b in
      ⊎_elim
      (λ same. ap (λ i. is_before_place (get_or hs i d).0 p) same ∙ last)
      (λ other.
      let step : is_before_place (get_or hs j d).0 (get_or hs (at - 1) d).0 ≡ true =
      rises is_same_place is_before_place held_key place_order hs j (at - 1) d a (omega (arith, below, other)) (omega (arith, some, inside)) in
      place_order.further (get_or hs j d).0 (get_or hs (at - 1) d).0 p step last)
      (cases_eq j (at - 1));
}

-- what comes before a place comes before the next one of an ascending list
pub before_next : (hs list : List (Place × Digest)) (i at : ℕ) (x d : Place × Digest) → AscendByPlace list → i + 1 < length list
    → IsSplit is_before_place held_key (get_or list i x).0 hs at → AreBefore hs at (get_or list (i + 1) d).0
before_next hs list i at x d a lt s = record {
  within = s.within;
  each = λ j y below.
      let first : i < length list = omega (arith, lt) in
      let step : is_before_place (get_or list i d).0 (get_or list (i + 1) d).0 ≡ true =
      rises is_same_place is_before_place held_key place_order list i (i + 1) d a (omega arith) lt in
      place_order.further (get_or hs j y).0 (get_or list i x).0 (get_or list (i + 1) d).0 (s.low j y below)
      (ap (λ (z : Place × Digest). is_before_place z.0 (get_or list (i + 1) d).0) (get_or_default list i x d first) ∙ step);
}

-- a walk back
module _ (hs : List (Place × Digest)) (p : Place) (at : ℕ) (n : NoneBefore hs at p) where
  pub split_back : (d : Place × Digest) → AscendByPlace hs → 0 < at → is_before_place (get_or hs (at - 1) d).0 p ≡ true
      → IsSplit is_before_place held_key p hs at
  split_back d a pos b =
      let inside = n.within in
      let e : at - 1 + 1 ≡ at = omega (arith, pos) in
      narrowed-end is_same_place is_before_place held_key place_order p hs at at
      (subst (λ l. IsNarrowed is_same_place is_before_place held_key place_order p hs l at) e
      (narrowed-up is_same_place is_before_place held_key place_order p hs 0 at (at - 1) d a (record {
        order = omega arith;
        within = inside;
        low = λ j d lt. absurd (omega (arith, lt));
        high = n.each;
      }) (omega (arith, pos)) (omega arith) b))
      (omega arith)

  pub split_first : at ≡ 0 → IsSplit is_before_place held_key p hs 0
  split_first e = record {
    within = omega arith;
    low = λ j d lt. absurd (omega (arith, lt));
    high = λ j d from below. n.each j d (omega (arith, e)) below;
  }

  pub none_more : (x : Place × Digest) → 0 < at → is_before_place (get_or hs (at - 1) x).0 p ≡ false → NoneBefore hs (at - 1) p
  none_more x pos b = record {
    within = (let inside = n.within in omega (arith, inside));
    each = λ j d from below. ⊎_elim
        (λ same. ap (λ i. is_before_place (get_or hs i d).0 p) same ∙ (ap (λ (y : Place × Digest). is_before_place y.0 p)
        (get_or_default hs (at - 1) d x (let inside = n.within in omega (arith, inside, pos))) ∙ b))
        (λ other. n.each j d (omega (arith, from, other)) below)
        (cases_eq j (at - 1));
  }

pub none_last : (hs : List (Place × Digest)) (p : Place) → NoneBefore hs (length hs) p
none_last hs p = record { within = omega arith; each = λ j d from below. absurd (omega (arith, from, below)) }

-- places that stand above two in order are in order, or the same
up_before : (p q : Place) → is_before_place p q ≡ true → (up p ≡ up q) ⊎ (is_before_place (up p) (up q) ≡ true)
up_before p q b =
    ⊎_elim
    (λ lt. let z : suc p.row < suc q.row = omega (arith, lt) in inr (rw (lt-ltb (suc p.row) (suc q.row) z) refl))
    (λ ge.
    let w = and_parts (p.row == q.row) (nat_lt p.off q.off) (rw (le-ltb p.row q.row ge) at b) in
    let same : p.row ≡ q.row = eqb-true p.row q.row w.0 in
    let less : p.off < q.off = ltb-true p.off q.off w.1 in
    let row : suc p.row ≡ suc q.row = ap suc same in
    ⊎_elim
    (λ e. inl (ap₂ (λ (r : ℕ) (o : ℕ). let x : Place = record { row = r; off = o } in x) row e))
    (λ other.
    let lt : p.off / 2 < q.off / 2 = omega (arith, less, other) in
    let high : suc q.row ≤ suc p.row = omega (arith, same) in
    inr (rw (le-ltb (suc p.row) (suc q.row) high, eq-eqb (suc p.row) (suc q.row) row, lt-ltb (p.off / 2) (q.off / 2) lt) refl))
    (cases_eq (p.off / 2) (q.off / 2)))
    (cases_lt p.row q.row)

-- what does not come before a place above does not come before the one above an earlier place
pub none_up : (hs list : List (Place × Digest)) (i k at : ℕ) (x d : Place × Digest) → AscendByPlace list → i < k → k < length list
    → IsSplit is_before_place held_key (up (get_or list k x).0) hs at → NoneBefore hs at (up (get_or list i d).0)
none_up hs list i k at x d a lt end s = record {
  within = s.within;
  each = λ j y from below.
      let p = (get_or list i d).0 in
      let q = (get_or list k x).0 in
      let here : is_before_place (get_or hs j y).0 (up q) ≡ false = s.high j y from below in
      let step : is_before_place p q ≡ true = ap (λ (z : Place × Digest). is_before_place z.0 q) (get_or_default list i d x (omega (arith, lt, end)))
      ∙ rises is_same_place is_before_place held_key place_order list i k x a lt end in
      ⊎_elim
      (λ e. ap (is_before_place (get_or hs j y).0) e ∙ here)
      (λ b. ⊎_elim
      (λ t. absurd (true≢false (sym (place_order.further (get_or hs j y).0 (up p) (up q) t b) ∙ here)))
      (λ t. t)
      (cases_Bool (is_before_place (get_or hs j y).0 (up p))))
      (up_before p q step);
}
