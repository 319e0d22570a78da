-- Lists of places: shape, and spans that are apart from each other.
use Rattle.std.proofs.Common.{◌≡◌, ℕ, true, List, [], ◌∷◌, ◌++◌, filter_map, Option, Some, None, refl, sym, ap, ap₂, ◌∙◌, subst, ⊎_elim, inl, inr}
use Rattle.std.proofs.Common.{All}
use Rattle.std.specs.Prelude.{◌⊎◌}
use Rattle.std.specs.List.{cons_option}
use Rattle.std.proofs.lemmas.Bool.{or_cases, or_right, true≢false, false≢true, false_from_ne_true}
use Rattle.std.proofs.lemmas.List.Elements.{All-nil, All-cons, All-head, All-tail, All-append}
use Rattle.forest_place.specs.declared.place.Place.{Place}
use Rattle.forest_place.specs.Forest.{InForest}
use Rattle.forest_place.specs.Places.{is_at, has_place, IsDistinct}
use Rattle.forest_place.proofs.Listed.{same_from_is_at, has_first}
use Rattle.forest_model.specs.Cover.{is_above, HasShape}
use Rattle.proof_shape.proofs.Longer.{not_above_itself}
use Rattle.cache_update.proofs.Spans.{AreApart, in_itself, apart_turned, not_apart_in, is_above_in}
use Rattle.cache_update.proofs.Apart.{AreFree}
use Rattle.cache_update.proofs.Within.{passed}

abbrev pub IsPlaceIn : ℕ → Place → Type 0
IsPlaceIn n p = InForest n p.row p.off

-- each is apart from all later ones
abbrev pub LieApart : List Place → Type 0
LieApart [] = Unit {0}
LieApart (p ∷ ps) = All (AreApart p) ps × LieApart ps

pub has_more : (p : Place) (ps : List Place) (r o : ℕ) → has_place ps r o ≡ true → has_place (p ∷ ps) r o ≡ true
has_more p ps r o h = or_right (is_at r o p) (has_place ps r o) h

-- what holds of each holds of one that is there
pub each_has : (P : Place → Type 0) (ps : List Place) → All P ps → (q : Place) → has_place ps q.row q.off ≡ true → P q
each_has P [] a q h = absurd (false≢true h)
each_has P (p ∷ ps) a q h =
    ⊎_elim
    (λ t. subst P (same_from_is_at q.row q.off p t) (All-head P p ps a))
    (λ t. each_has P ps (All-tail P p ps a) q t)
    (or_cases (is_at q.row q.off p) (has_place ps q.row q.off) h)

pub each_from : (P : Place → Type 0) (ps : List Place) → ((q : Place) → has_place ps q.row q.off ≡ true → P q) → All P ps
each_from P [] f = All-nil P
each_from P (p ∷ ps) f = All-cons P p ps (f p (has_first p ps)) (each_from P ps (λ q h. f q (has_more p ps q.row q.off h)))

-- two that are there are one, or apart
one_or_apart : (ps : List Place) → LieApart ps → (p q : Place) → has_place ps p.row p.off ≡ true → has_place ps q.row q.off ≡ true
    → (p ≡ q) ⊎ AreApart p q
one_or_apart [] a p q h i = absurd (false≢true h)
one_or_apart (x ∷ xs) a p q h i = by_place (or_cases (is_at p.row p.off x) (has_place xs p.row p.off) h)
    (or_cases (is_at q.row q.off x) (has_place xs q.row q.off) i) (one_or_apart xs a.1 p q)
  where
    by_place : (is_at p.row p.off x ≡ true) ⊎ (has_place xs p.row p.off ≡ true) → (is_at q.row q.off x ≡ true) ⊎ (has_place xs q.row q.off ≡ true)
        → (has_place xs p.row p.off ≡ true → has_place xs q.row q.off ≡ true → (p ≡ q) ⊎ AreApart p q) → (p ≡ q) ⊎ AreApart p q
    by_place (inl s) (inl t) rest = inl (sym (same_from_is_at p.row p.off x s) ∙ same_from_is_at q.row q.off x t)
    by_place (inl s) (inr j) rest = inr (subst (λ (y : Place). AreApart y q) (same_from_is_at p.row p.off x s) (each_has (AreApart x) xs a.0 q j))
    by_place (inr j) (inl t) rest = inr (apart_turned q p
        (subst (λ (y : Place). AreApart y p) (same_from_is_at q.row q.off x t) (each_has (AreApart x) xs a.0 p j)))
    by_place (inr j) (inr k) rest = rest j k

apart_distinct : (ps : List Place) → LieApart ps → IsDistinct ps
apart_distinct [] a = tt
apart_distinct (p ∷ ps) a = (
  false_from_ne_true (has_place ps p.row p.off) (λ h. not_apart_in p p (in_itself p) (each_has (AreApart p) ps a.0 p h)),
  apart_distinct ps a.1,
)

-- places that lie apart have shape
pub apart_shape : (n : ℕ) (ps : List Place) → All (IsPlaceIn n) ps → LieApart ps → HasShape n ps
apart_shape n ps a l = record {
  within = λ p h. each_has (IsPlaceIn n) ps a p h;
  distinct = apart_distinct ps l;
  apart = λ p q h i. false_from_ne_true (is_above p q) (λ t. ⊎_elim
      (λ same. true≢false (sym t ∙ (ap (λ (x : Place). is_above p x) (sym same) ∙ not_above_itself p)))
      (λ away. not_apart_in p q (is_above_in p q t) away)
      (one_or_apart ps l p q h i));
}

pub shape_within : (n : ℕ) (ps : List Place) → HasShape n ps → All (IsPlaceIn n) ps
shape_within n ps s = each_from (IsPlaceIn n) ps (λ q h. s.within q h)

shape_rest : (n : ℕ) (p : Place) (ps : List Place) → HasShape n (p ∷ ps) → HasShape n ps
shape_rest n p ps s = record {
  within = λ q h. s.within q (has_more p ps q.row q.off h);
  distinct = s.distinct.1;
  apart = λ q r h i. s.apart q r (has_more p ps q.row q.off h) (has_more p ps r.row r.off i);
}

shape_free : (n : ℕ) (p : Place) (ps : List Place) → HasShape n (p ∷ ps) → All (AreFree p) ps
shape_free n p ps s = each_from (AreFree p) ps (λ q h. (
  λ a b. true≢false (sym h ∙ (ap₂ (has_place ps) (sym a) (sym b) ∙ s.distinct.0)),
  s.apart p q (has_first p ps) (has_more p ps q.row q.off h),
  s.apart q p (has_more p ps q.row q.off h) (has_first p ps),
))

abbrev IsFreeIn : ℕ → (Place → Type 0) → Place → Place → Type 0
IsFreeIn n P p q = AreFree p q × IsPlaceIn n q × P q

free_in : (n : ℕ) (P : Place → Type 0) (p : Place) (ps : List Place) → All (AreFree p) ps → All (IsPlaceIn n) ps → All P ps → All (IsFreeIn n P p) ps
free_in n P p [] a b c = All-nil (IsFreeIn n P p)
free_in n P p (q ∷ ps) a b c =
    All-cons (IsFreeIn n P p) q ps (All-head (AreFree p) q ps a, All-head (IsPlaceIn n) q ps b, All-head P q ps c)
    (free_in n P p ps (All-tail (AreFree p) q ps a) (All-tail (IsPlaceIn n) q ps b) (All-tail P q ps c))

-- where places of a shape go by a rule that keeps free ones apart, they lie apart
pub go_apart : (n : ℕ) (P : Place → Type 0) (f : Place → Option Place) →
    ((p q x y : Place) → IsPlaceIn n p → IsPlaceIn n q → AreFree p q → P p → P q → f p ≡ Some x → f q ≡ Some y → AreApart x y) →
    (ps : List Place) → HasShape n ps → All P ps → LieApart (filter_map f ps)
go_apart n P f g [] s a = tt
go_apart n P f g (p ∷ ps) s a = by_first (f p) refl (go_apart n P f g ps (shape_rest n p ps s) (All-tail P p ps a))
  where
    by_first : (x : Option Place) → f p ≡ x → LieApart (filter_map f ps) → LieApart (cons_option x (filter_map f ps))
    by_first None e rest = rest
    by_first (Some x) e rest = (
      passed (IsFreeIn n P p) (AreApart x) f (λ q y h k. g p q x y (s.within p (has_first p ps)) h.1 h.0 (All-head P p ps a) h.2 e k) ps
          (free_in n P p ps (shape_free n p ps s) (shape_within n ps (shape_rest n p ps s)) (All-tail P p ps a)),
      rest,
    )

-- and one more
pub apart_more : (ps : List Place) (q : Place) → LieApart ps → All (λ p. AreApart p q) ps → LieApart (ps ++ q ∷ [])
apart_more [] q l a = (All-nil (AreApart q), tt)
apart_more (p ∷ ps) q l a = (
  All-append (AreApart p) ps (q ∷ []) l.0 (All-cons (AreApart p) q [] (All-head (λ p. AreApart p q) p ps a) (All-nil (AreApart p))),
  apart_more ps q l.1 (All-tail (λ p. AreApart p q) p ps a),
)
