-- Targets with one place more.
use Rattle.std.proofs.Common.{◌≡◌, ℕ, zero, suc, ◌+◌, ◌-◌, ◌/◌, ◌^◌, ◌<◌, true, false, List, [], ◌∷◌, ◌++◌, length, take, refl, sym, ap, ◌∙◌, subst}
use Rattle.std.proofs.Common.{⊎_elim, inl, inr, arith}
use Rattle.std.specs.Prelude.{◌==◌, ◌⊎◌, nat_lt}
use Rattle.std.proofs.lemmas.Bool.{and_parts, false≢true, ltb-true, false_from_ne_true, or_cases, or_left, or_right, or_from, or_parts}
use Rattle.std.proofs.lemmas.List.{take_more, get_or-take, length-take-le}
use Rattle.std.proofs.lemmas.List.Folds.{list_any-append}
use Rattle.forest_place.specs.declared.place.Place.{Place}
use Rattle.forest_place.specs.Forest.{InForest}
use Rattle.forest_place.specs.Places.{is_at, has_place, IsDistinct, AreWithin, place_in}
use Rattle.forest_place.proofs.Listed.{place, is_at-same, same_from_is_at}
use Rattle.forest_model.specs.Cover.{is_above, HasShape}
use Rattle.proof_shape.specs.Found.{crosses}
use Rattle.proof_shape.proofs.Ordered.{has_at}

pub has_cases : (xs : List Place) (p : Place) (r o : ℕ) → has_place (xs ++ p ∷ []) r o ≡ true → (has_place xs r o ≡ true) ⊎ (p ≡ place r o)
has_cases xs p r o h =
    ⊎_elim (λ a. inl a)
    (λ b. inr (⊎_elim (λ e. same_from_is_at r o p e) (λ e. absurd (false≢true e)) (or_cases (is_at r o p) false b)))
    (or_cases (has_place xs r o) (has_place (p ∷ []) r o) (sym (list_any-append (is_at r o) xs (p ∷ [])) ∙ h))

-- a place of a list stands at an index
pub place_where : (ps : List Place) (r o : ℕ) → has_place ps r o ≡ true → (k : ℕ) × (k < length ps) × (place_in ps k ≡ place r o)
place_where [] r o h = absurd (false≢true h)
place_where (p ∷ ps) r o h =
    ⊎_elim
    (λ here. (0, omega arith, same_from_is_at r o p here))
    (λ there. let w = place_where ps r o there in (suc w.0, omega (arith, w.1), w.2))
    (or_cases (is_at r o p) (has_place ps r o) h)

pub has_taken : (ps : List Place) (k r o : ℕ) → has_place (take k ps) r o ≡ true → has_place ps r o ≡ true
has_taken ps zero r o h = absurd (false≢true h)
has_taken [] (suc k) r o h = absurd (false≢true h)
has_taken (p ∷ ps) (suc k) r o h =
    ⊎_elim (λ here. or_left (is_at r o p) (has_place ps r o) here) (λ there. or_right (is_at r o p) (has_place ps r o) (has_taken ps k r o there))
    (or_cases (is_at r o p) (has_place (take k ps) r o) h)

pub within_taken : (n : ℕ) (ps : List Place) (k : ℕ) → AreWithin n ps → AreWithin n (take k ps)
within_taken n ps k h r o i = h r o (has_taken ps k r o i)

pub not_above_itself : (p : Place) → is_above p p ≡ false
not_above_itself p = false_from_ne_true (is_above p p) (λ h.
    let a = and_parts (nat_lt p.row p.row) (p.off / 2 ^ (p.row - p.row) == p.off) h in
    let lt : p.row < p.row = ltb-true _ _ a.0 in omega arith)

distinct_more : (xs : List Place) (p : Place) → IsDistinct xs → (has_place xs p.row p.off ≡ false) → IsDistinct (xs ++ p ∷ [])
distinct_more [] p d h = (refl, tt)
distinct_more (x ∷ xs) p d h =
    let w = or_parts (is_at p.row p.off x) (has_place xs p.row p.off) h in (
      list_any-append (is_at x.row x.off) xs (p ∷ []) ∙
          or_from (has_place xs x.row x.off) (has_place (p ∷ []) x.row x.off) d.0
          (or_from (is_at x.row x.off p) false (false_from_ne_true (is_at x.row x.off p) (λ at. let e = same_from_is_at x.row x.off p at in
          false≢true (sym w.0 ∙ (ap (λ (z : Place). is_at z.row z.off x) e ∙ is_at-same x.row x.off)))) refl),
      distinct_more xs p d.1 w.1,
    )

pub shape_none : (n : ℕ) → HasShape n []
shape_none n = record { within = λ p h. absurd (false≢true h); distinct = tt; apart = λ p q h. absurd (false≢true h) }

-- a place of the forest that is not there yet, and does not cross any that is there
pub shape_more : (n : ℕ) (xs : List Place) (p : Place) → HasShape n xs → InForest n p.row p.off → has_place xs p.row p.off ≡ false
    → ((q : Place) → has_place xs q.row q.off ≡ true → crosses p q ≡ false) → HasShape n (xs ++ p ∷ [])
shape_more n xs p s within new apart = record {
  within = λ q h. ⊎_elim (s.within q) (λ at. subst (λ (x : Place). InForest n x.row x.off) at within) (has_cases xs p q.row q.off h);
  distinct = distinct_more xs p s.distinct new;
  apart = λ q r hq hr.
      ⊎_elim
      (λ mq. ⊎_elim (λ mr. s.apart q r mq mr) (λ at. subst (λ (x : Place). is_above q x ≡ false) at
      (or_parts (is_above p q) (is_above q p) (apart q mq)).1) (has_cases xs p r.row r.off hr))
      (λ aq. subst (λ (x : Place). is_above x r ≡ false) aq
      (⊎_elim (λ mr. (or_parts (is_above p r) (is_above r p) (apart r mr)).0)
      (λ ar. subst (λ (x : Place). is_above p x ≡ false) ar (not_above_itself p)) (has_cases xs p r.row r.off hr)))
      (has_cases xs p q.row q.off hq);
}

-- so what is wrong with a place that is new crosses it
module _ (n : ℕ) (ps : List Place) (i : ℕ) (within : AreWithin n ps) (index : i < length ps) (sound : HasShape n (take i ps)) where
  pub crossing_from : ((k : ℕ) → k < i → place_in ps k ≡ place_in ps i → ⊥) → (HasShape n (take (i + 1) ps) → ⊥)
      → ((k : ℕ) → k < i → crosses (place_in ps i) (place_in ps k) ≡ false) → ⊥
  crossing_from new wrong none =
      let p = place_in ps i in
      let long : length (take i ps) ≡ i = length-take-le i ps (omega arith) in
      wrong (subst (HasShape n) (sym (take_more ps i (record { row = 0; off = 0 }) index))
      (shape_more n (take i ps) p sound (within p.row p.off (has_at ps i (record { row = 0; off = 0 }) index))
      (false_from_ne_true (has_place (take i ps) p.row p.off) (λ t.
      let w = place_where (take i ps) p.row p.off t in
      let lt : w.0 < i = omega (arith, w.1, long) in
      new w.0 lt (sym (get_or-take i ps w.0 (record { row = 0; off = 0 }) lt) ∙ w.2)))
      (λ q t.
      let w = place_where (take i ps) q.row q.off t in
      let lt : w.0 < i = omega (arith, w.1, long) in
      ap (crosses p) (sym w.2 ∙ get_or-take i ps w.0 (record { row = 0; off = 0 }) lt) ∙ none w.0 lt)))
