-- The places beside the way up of one place are those that it needs.
use Rattle.std.proofs.Common.{◌≡◌, ℕ, zero, suc, ◌+◌, ◌-◌, ◌*◌, ◌/◌, ◌%◌, ◌^◌, ◌<◌, ◌≤◌, Bool, true, false, cond, List, [], ◌∷◌, map, Option, Some}
use Rattle.std.proofs.Common.{None, is_some, refl, sym, ap, ap₂, ◌∙◌, subst, ⊎_elim, inl, inr, arith, eqb-true}
use Rattle.std.specs.Prelude.{◌==◌, ◌⊎◌}
use Rattle.std.proofs.lemmas.Bool.{cases_Bool, cases_eq, false≢true, or_cases, or_left, or_right, and_parts}
use Rattle.std.proofs.lemmas.Option.{none-some}
use Rattle.uo_digest.specs.declared.digest.Digest.{Digest}
use Rattle.forest_place.specs.declared.place.Place.{Place}
use Rattle.forest_place.specs.Forest.{InForest, is_root, sibling_off}
use Rattle.forest_place.specs.Places.{is_at, has_place, IsAscending}
use Rattle.forest_place.proofs.Ascending.{same_ascending}
use Rattle.forest_place.proofs.Listed.{place, is_at-same, same_from_is_at}
use Rattle.forest_place.proofs.Parts.{parts-suc, InForest-up, InForest-beneath, not_root-down, half_pow}
use Rattle.forest_place.proofs.Siblings.{sibling_cases, sibling_twice, sibling_within, sibling_no_root}
use Rattle.forest_model.specs.Cover.{Cover, cover, cover_of_halves, need}
use Rattle.forest_model.proofs.Covers.{some_from_test, needed_parts}
use Rattle.forest_model.proofs.Lists.{need_has, need_had, need_ascending}
use Rattle.cache_model.specs.Cache.{look}
use Rattle.cache_model.specs.Climbed.{led, beside_way}
use Rattle.proof_shape.proofs.Needing.{covered_target, covered_above}

-- the siblings of a place and of those above it, in k rows, up to the root
abbrev pub siblings : ℕ → ℕ → ℕ → ℕ → List Place
siblings n zero r o = []
siblings n (suc k) r o = cond (is_root n r o) [] (place r (sibling_off o) ∷ siblings n k (suc r) (o / 2))

-- what one place covers is that place and those above it
one_place : (p : Place) (r o : ℕ) → has_place (p ∷ []) r o ≡ true → p ≡ place r o
one_place p r o h = ⊎_elim (λ t. same_from_is_at r o p t) (λ f. absurd (false≢true f)) (or_cases (is_at r o p) false h)

at_place : (p : Place) (r o : ℕ) → p ≡ place r o → (p.row ≤ r) × (p.off / 2 ^ (r - p.row) ≡ o)
at_place p r o e =
    subst (λ (q : Place). (q.row ≤ r) × (q.off / 2 ^ (r - q.row) ≡ o)) (sym e)
    (omega arith, let z : r - r ≡ 0 = omega arith in ap (λ k. o / 2 ^ k) z ∙ (let y : o / 1 ≡ o = omega arith in y))

one_higher : (p : Place) (r o side : ℕ) → side < 2 → (p.row ≤ r) × (p.off / 2 ^ (r - p.row) ≡ 2 * o + side)
    → (p.row ≤ suc r) × (p.off / 2 ^ (suc r - p.row) ≡ o)
one_higher p r o side lt h =
    let le = h.0 in
    let e : suc r - p.row ≡ suc (r - p.row) = omega (arith, le) in
    let halved : (2 * o + side) / 2 ≡ o = omega (arith, lt) in
    (omega (arith, le), ap (λ k. p.off / 2 ^ k) e ∙ (parts-suc p.off (r - p.row) ∙ (ap (λ x. x / 2) h.1 ∙ halved)))

some_half : (r o : ℕ) (x y : Option Cover) → is_some (cover_of_halves r o x y) ≡ true → (is_some x ≡ true) ⊎ (is_some y ≡ true)
some_half r o None None h = absurd (false≢true h)
some_half r o (Some x) None h = inl refl
some_half r o None (Some y) h = inr refl
some_half r o (Some x) (Some y) h = inl refl

pub covered_alone : (p : Place) (r o : ℕ) → is_some (cover (p ∷ []) r o) ≡ true → (p.row ≤ r) × (p.off / 2 ^ (r - p.row) ≡ o)
covered_alone p zero o h =
    ⊎_elim (λ t. at_place p zero o (one_place p zero o t)) (λ f. absurd (false≢true (rw f at h))) (cases_Bool (has_place (p ∷ []) zero o))
covered_alone p (suc r) o h =
    ⊎_elim
    (λ t. at_place p (suc r) o (one_place p (suc r) o t))
    (λ f. ⊎_elim
    (λ a. let z : 2 * o ≡ 2 * o + 0 = omega arith in let w = covered_alone p r (2 * o) a in one_higher p r o 0 (omega arith) (w.0, w.1 ∙ z))
    (λ b. one_higher p r o 1 (omega arith) (covered_alone p r (2 * o + 1) b))
    (some_half r o (cover (p ∷ []) r (2 * o)) (cover (p ∷ []) r (2 * o + 1)) (rw f at h)))
    (cases_Bool (has_place (p ∷ []) (suc r) o))

led_none : (x : Option Digest) (ds : List Digest) → x ≡ None → map Some (led x ds) ≡ []
led_none None ds e = refl
led_none (Some d) ds e = absurd (none-some d (sym e))

led_some : (x : Option Digest) (d : Digest) (ds : List Digest) → x ≡ Some d → map Some (led x ds) ≡ x ∷ map Some ds
led_some None d ds e = absurd (none-some d e)
led_some (Some y) d ds e = refl

module _ (n : ℕ) (p : Place) where
  abbrev pub IsOnWay : ℕ → ℕ → Type 0
  IsOnWay r o = InForest n r o × (is_some (cover (p ∷ []) r o) ≡ true)

  way_up : (r o : ℕ) → IsOnWay r o → is_root n r o ≡ false → IsOnWay (suc r) (o / 2)
  way_up r o h other = (InForest-up n r o h.0 other, covered_above (p ∷ []) r o h.1)

  -- the sibling of a place on the way is needed
  beside_needed : (r o : ℕ) → IsOnWay r o → is_root n r o ≡ false → has_place (need n (p ∷ [])) r (sibling_off o) ≡ true
  beside_needed r o h other =
      let within = sibling_within n r o h.0 other in
      let no_root = sibling_no_root n r o h.0 in
      let here = covered_alone p r o h.1 in
      let c = some_from_test (cover (p ∷ []) r o) h.1 in
      let twice : cover (p ∷ []) r (sibling_off (sibling_off o)) ≡ Some c.0 = ap (cover (p ∷ []) r) (sibling_twice o) ∙ c.1 in
      let free : cover (p ∷ []) r (sibling_off o) ≡ None = by_cover (cover (p ∷ []) r (sibling_off o)) refl here.1 in
      need_has n (p ∷ []) r (sibling_off o) within (rw (no_root, free, twice) refl)
    where
      by_cover : (x : Option Cover) → cover (p ∷ []) r (sibling_off o) ≡ x → p.off / 2 ^ (r - p.row) ≡ o → x ≡ None
      by_cover None e f = refl
      by_cover (Some x) e f =
          let there = covered_alone p r (sibling_off o) (ap is_some e) in
          let same : o ≡ sibling_off o = sym f ∙ there.1 in
          absurd (⊎_elim (λ a. let z : ⊥ = omega (arith, a, same) in z) (λ a. let z : ⊥ = omega (arith, a, same) in z) (sibling_cases o))

  siblings_needed : (k r o : ℕ) → IsOnWay r o → (a b : ℕ) → has_place (siblings n k r o) a b ≡ true → has_place (need n (p ∷ [])) a b ≡ true
  siblings_needed zero r o w a b h = absurd (false≢true h)
  siblings_needed (suc k) r o w a b h = by_root (λ f g. siblings_needed k (suc r) (o / 2) (way_up r o w f) a b g) (is_root n r o) refl h
    where
      by_root : (is_root n r o ≡ false → has_place (siblings n k (suc r) (o / 2)) a b ≡ true → has_place (need n (p ∷ [])) a b ≡ true) → (x : Bool)
          → is_root n r o ≡ x → has_place (cond x [] (place r (sibling_off o) ∷ siblings n k (suc r) (o / 2))) a b ≡ true
          → has_place (need n (p ∷ [])) a b ≡ true
      by_root rest true e h = absurd (false≢true h)
      by_root rest false e h =
          ⊎_elim
          (λ t. let z = same_from_is_at a b (place r (sibling_off o)) t in
          subst (λ (q : Place). has_place (need n (p ∷ [])) q.row q.off ≡ true) z (beside_needed r o w e))
          (λ t. rest e t)
          (or_cases (is_at a b (place r (sibling_off o))) (has_place (siblings n k (suc r) (o / 2)) a b) h)

  siblings_from : (k r o a b : ℕ) → has_place (siblings n k r o) a b ≡ true → r ≤ a
  siblings_from zero r o a b h = absurd (false≢true h)
  siblings_from (suc k) r o a b h = by_root (λ g. siblings_from k (suc r) (o / 2) a b g) (is_root n r o) h
    where
      by_root : (has_place (siblings n k (suc r) (o / 2)) a b ≡ true → suc r ≤ a) → (x : Bool)
          → has_place (cond x [] (place r (sibling_off o) ∷ siblings n k (suc r) (o / 2))) a b ≡ true → r ≤ a
      by_root rest true h = absurd (false≢true h)
      by_root rest false h =
          ⊎_elim
          (λ t. let z = same_from_is_at a b (place r (sibling_off o)) t in let y : r ≡ a = ap (λ (q : Place). q.row) z in omega (arith, y))
          (λ t. let y = rest t in omega (arith, y))
          (or_cases (is_at a b (place r (sibling_off o))) (has_place (siblings n k (suc r) (o / 2)) a b) h)

  siblings_ascend : (k r o : ℕ) → IsAscending (siblings n k r o)
  siblings_ascend zero r o = tt
  siblings_ascend (suc k) r o = by_root (is_root n r o) (siblings_ascend k (suc r) (o / 2))
    where
      by_root : (x : Bool) → IsAscending (siblings n k (suc r) (o / 2))
          → IsAscending (cond x [] (place r (sibling_off o) ∷ siblings n k (suc r) (o / 2)))
      by_root true rest = tt
      by_root false rest = (λ q h. let y = siblings_from k (suc r) (o / 2) q.row q.off h in inl (omega (arith, y)), rest)

  -- a place whose sibling is above a place of the way is beside the way
  siblings_have : (k r o a b : ℕ) → r ≤ a → a < r + k → o / 2 ^ (a - r) ≡ sibling_off b → InForest n a b → is_root n a b ≡ false
      → has_place (siblings n k r o) a b ≡ true
  siblings_have zero r o a b le lt e h other = absurd (omega (arith, le, lt))
  siblings_have (suc k) r o a b le lt e h other =
      ⊎_elim (λ same. here same) (λ apart. further (λ x y z. siblings_have k (suc r) (o / 2) a b x y z h other) (omega (arith, le, apart)))
      (cases_eq r a)
    where
      here : r ≡ a → has_place (siblings n (suc k) r o) a b ≡ true
      here same =
          let z : a - r ≡ 0 = omega (arith, same) in
          let y : o / 1 ≡ o = omega arith in
          let sib : o ≡ sibling_off b = sym (ap (λ j. o / 2 ^ j) z ∙ y) ∙ e in
          let back : sibling_off o ≡ b = ap sibling_off sib ∙ sibling_twice b in
          let top : is_root n r o ≡ false = ap₂ (is_root n) same sib ∙ sibling_no_root n a b h in
          let first : is_at a b (place r (sibling_off o)) ≡ true = ap₂ (λ x y. is_at a b (place x y)) same back ∙ is_at-same a b in
          rw top (or_left (is_at a b (place r (sibling_off o))) (has_place (siblings n k (suc r) (o / 2)) a b) first)

      further : (suc r ≤ a → a < suc r + k → o / 2 / 2 ^ (a - suc r) ≡ sibling_off b → has_place (siblings n k (suc r) (o / 2)) a b ≡ true) → r < a
          → has_place (siblings n (suc k) r o) a b ≡ true
      further rest_has below =
          let z : a - r ≡ suc (a - suc r) = omega (arith, below) in
          let next : o / 2 / 2 ^ (a - suc r) ≡ sibling_off b = sym (ap (λ j. o / 2 ^ j) z ∙ half_pow o (a - suc r)) ∙ e in
          let sib = sibling_within n a b h other in
          let row : suc r + (a - suc r) ≡ a = omega (arith, below) in
          let up : InForest n (suc r) (o / 2) = InForest-beneath n (a - suc r) (suc r) (o / 2)
          (subst (λ x. InForest n (suc r + (a - suc r)) x) (sym next) (subst (λ x. InForest n x (sibling_off b)) (sym row) sib)) in
          let top = not_root-down n r o up in
          let rest = rest_has (omega (arith, below)) (omega (arith, lt)) next in
          rw top (or_right (is_at a b (place r (sibling_off o))) (has_place (siblings n k (suc r) (o / 2)) a b) rest)

  -- the needed places of one place are those beside its way up
  pub need_alone : (k : ℕ) → InForest n p.row p.off → ((r o : ℕ) → InForest n r o → r < p.row + k) → siblings n k p.row p.off ≡ need n (p ∷ [])
  need_alone k within few =
      same_ascending (siblings n k p.row p.off) (need n (p ∷ [])) (siblings_ascend k p.row p.off) (need_ascending n (p ∷ []))
      (λ a b h. siblings_needed k p.row p.off on_way a b h)
      (λ a b h.
      let v = need_had n (p ∷ []) a b h in
      let w = needed_parts n (p ∷ []) a b v.1 in
      let c = covered_alone p a (sibling_off b) (ap is_some w.2.1) in
      siblings_have k p.row p.off a b c.0 (few a b v.0) c.1 v.0 w.0)
    where
      on_way : IsOnWay p.row p.off
      on_way = (within, covered_target (p ∷ []) p.row p.off (or_left (is_at p.row p.off p) false (is_at-same p.row p.off)))

  -- what is held on a way up is what is held beside it
  pub way_held : (hs : List (Place × Digest)) (k r o : ℕ) → ((a b : ℕ) → has_place (siblings n k r o) a b ≡ true
      → (d : Digest) × (look hs a b ≡ Some d)) → ((a b : ℕ) (d : Digest) → look hs a b ≡ Some d → InForest n a b) →
      map Some (beside_way k hs r o) ≡ map (λ (q : Place). look hs q.row q.off) (siblings n k r o)
  way_held hs zero r o each within = refl
  way_held hs (suc k) r o each within = by_root (λ f. way_held hs k (suc r) (o / 2) f within) (is_root n r o) refl each
    where
      nothing : is_root n r o ≡ true → (x : Option Digest) → look hs r (sibling_off o) ≡ x → x ≡ None
      nothing t None e = refl
      nothing t (Some d) e =
          let w = and_parts (o % 2 == 0) (o + 1 == n / 2 ^ r) t in
          let even : o % 2 ≡ 0 = eqb-true _ _ w.0 in
          let last : o + 1 ≡ n / 2 ^ r = eqb-true _ _ w.1 in
          let lt = within r (sibling_off o) d e in
          absurd (⊎_elim (λ a. let z : ⊥ = omega (arith, a, even, last, lt) in z) (λ a. let z : ⊥ = omega (arith, a, even) in z) (sibling_cases o))

      by_root : (((a b : ℕ) → has_place (siblings n k (suc r) (o / 2)) a b ≡ true → (d : Digest) × (look hs a b ≡ Some d))
          → map Some (beside_way k hs (suc r) (o / 2)) ≡ map (λ (q : Place). look hs q.row q.off) (siblings n k (suc r) (o / 2))) → (x : Bool)
          → is_root n r o ≡ x →
          ((a b : ℕ) → has_place (cond x [] (place r (sibling_off o) ∷ siblings n k (suc r) (o / 2))) a b ≡ true
          → (d : Digest) × (look hs a b ≡ Some d)) →
          map Some (led (look hs r (sibling_off o)) (beside_way k hs (suc r) (o / 2)))
          ≡ map (λ (q : Place). look hs q.row q.off) (cond x [] (place r (sibling_off o) ∷ siblings n k (suc r) (o / 2)))
      by_root rest true e has = led_none (look hs r (sibling_off o)) (beside_way k hs (suc r) (o / 2)) (nothing e (look hs r (sibling_off o)) refl)
      by_root rest false e has =
          let d = has r (sibling_off o) (or_left (is_at r (sibling_off o) (place r (sibling_off o)))
          (has_place (siblings n k (suc r) (o / 2)) r (sibling_off o)) (is_at-same r (sibling_off o))) in
          led_some (look hs r (sibling_off o)) d.0 (beside_way k hs (suc r) (o / 2)) d.1
          ∙ ap (λ ys. look hs r (sibling_off o) ∷ ys)
          (rest (λ a b h. has a b (or_right (is_at a b (place r (sibling_off o))) (has_place (siblings n k (suc r) (o / 2)) a b) h)))
