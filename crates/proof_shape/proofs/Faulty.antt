-- What is wrong with places is wrong with their positions.
use Rattle.std.proofs.Common.{◌≡◌, ℕ, zero, suc, ◌^◌, ◌<◌, ◌≤◌, List, [], ◌∷◌, map, length, get_or, take, Option, Some, None, Result, Ok, Err, refl}
use Rattle.std.proofs.Common.{sym, ap, ◌∙◌, subst, ap₂, arith}
use Rattle.std.specs.Prelude.{IfOk, IfSome, MatchOption}
use Rattle.std.proofs.lemmas.List.{get_or-take, length-map}
use Rattle.std.proofs.lemmas.Option.{none-some}
use Rattle.std.proofs.Math.Seq.{take-length}
use Rattle.forest_place.specs.declared.place.Place.{Place}
use Rattle.forest_place.specs.Forest.{InForest}
use Rattle.forest_place.specs.Position.{position, positions_of}
use Rattle.forest_place.specs.declared.naming.Naming.{Naming}
use Rattle.forest_place.specs.Named.{number_by, place_by}
use Rattle.forest_place.proofs.NamedLaws.{one_number, place_by-number}
use Rattle.forest_place.specs.Places.{AreWithin, place_in}
use Rattle.forest_place.proofs.Listed.{has_first, within_rest}
use Rattle.forest_model.specs.Cover.{HasShape}
use Rattle.proof_shape.specs.declared.fault.ShapeFault.{ShapeFault}
use Rattle.proof_shape.specs.declared.fault.ShapeFault.TheVariants.{Outside, Repeated, Beneath, NoMemory}
use Rattle.proof_shape.specs.Shape.{is_crossing, AreTargetsBy, HasTargetsBy, IsSoundBy, IsFaultBy}
use Rattle.proof_shape.specs.declared.paths.Paths.{Paths}
use Rattle.proof_shape.specs.Moves.{ArePaths}
use Rattle.proof_shape.specs.Found.{IsFront, IsSoundLength, IsFaultAt, IsPlaceFault, crosses}
use Rattle.proof_shape.proofs.Ordered.{has_at}

take_of_take : (xs : List ℕ) (i k : ℕ) → i ≤ k → take i (take k xs) ≡ take i xs
take_of_take xs zero k h = refl
take_of_take [] (suc i) zero h = refl
take_of_take [] (suc i) (suc k) h = refl
take_of_take (x ∷ xs) (suc i) zero h = absurd (omega arith)
take_of_take (x ∷ xs) (suc i) (suc k) h = ap (λ l. x ∷ l) (take_of_take xs i k (omega arith))

pub position_at : (n : ℕ) (ps : List Place) (k : ℕ) → k < length ps
    → get_or (positions_of n ps) k 0 ≡ position n (place_in ps k).row (place_in ps k).off
position_at n [] k h = absurd (omega arith)
position_at n (p ∷ ps) zero h = refl
position_at n (p ∷ ps) (suc k) h = position_at n ps k (omega arith)

numbers_taken : (number : Place → ℕ) (ps : List Place) (k : ℕ) → map number (take k ps) ≡ take k (map number ps)
numbers_taken number ps zero = refl
numbers_taken number [] (suc k) = refl
numbers_taken number (p ∷ ps) (suc k) = ap (λ l. number p ∷ l) (numbers_taken number ps k)

number_at : (number : Place → ℕ) (ps : List Place) (k : ℕ) → k < length ps → get_or (map number ps) k 0 ≡ number (place_in ps k)
number_at number [] k h = absurd (omega arith)
number_at number (p ∷ ps) zero h = refl
number_at number (p ∷ ps) (suc k) h = number_at number ps k (omega arith)

-- what is found of the places at an index
pub place_fault : (n : ℕ) (ps : List Place) (count i : ℕ) (fault : ShapeFault) → i < length ps → HasShape n (take i ps) → IsFaultAt ps i fault
    → IsPlaceFault n ps count fault
place_fault n ps count i (Outside k) h s w = absurd w
place_fault n ps count i (Repeated k j) h s w = subst (λ x. IsPlaceFault n ps count (Repeated x j)) (sym w.0) (h, s, (refl, w.1))
place_fault n ps count i (Beneath k j) h s w = subst (λ x. IsPlaceFault n ps count (Beneath x j)) (sym w.0) (h, s, (refl, w.1, w.2))
place_fault n ps count i NoMemory h s w = absurd w

-- or at their end
pub whole : (n : ℕ) (ps : List Place) (k : ℕ) → IsSoundLength n ps k → (k < length ps → ⊥) → (k ≡ length ps) × HasShape n ps
whole n ps k s top =
    let fits = s.fits in
    let e : k ≡ length ps = omega (arith, fits, top) in
    (e, subst (HasShape n) (ap (λ x. take x ps) e ∙ take-length ps) s.sound)

-- places of the forest that have the same numbers are the same
same_places : (by : Naming) (n : ℕ) → n ≤ 2 ^ 40 → (ps ts : List Place) → AreWithin n ps → AreWithin n ts
    → map (number_by by n) ps ≡ map (number_by by n) ts → ps ≡ ts
same_places by n few [] [] hp ht e = refl
same_places by n few [] (t ∷ ts) hp ht e = cc e
same_places by n few (p ∷ ps) [] hp ht e = cc e
same_places by n few (p ∷ ps) (t ∷ ts) hp ht e =
    ap₂ (λ x xs. x ∷ xs) (one_number by n p t few (hp p.row p.off (has_first p ps)) (ht t.row t.off (has_first t ts)) (cc e))
    (same_places by n few ps ts (within_rest n p ps hp) (within_rest n t ts ht) (cc e))

module _ (by : Naming) (n : ℕ) (few : n ≤ 2 ^ 40) (numbers : List ℕ) (ps : List Place) (f : IsFront by n numbers ps) where
  in_forest : (k : ℕ) → k < length ps → InForest n (place_in ps k).row (place_in ps k).off
  in_forest k h = f.within (place_in ps k).row (place_in ps k).off (has_at ps k (record { row = 0; off = 0 }) h)

  number_of_place : (k : ℕ) → k < length ps → get_or numbers k 0 ≡ number_by by n (place_in ps k)
  number_of_place k h = sym (get_or-take (length ps) numbers k 0 h) ∙ (ap (λ l. get_or l k 0) (sym f.numbered) ∙ number_at (number_by by n) ps k h)

  place_is : (k : ℕ) → k < length ps → place_by by n (get_or numbers k 0) ≡ Some (place_in ps k)
  place_is k h = ap (place_by by n) (number_of_place k h) ∙ place_by-number by n (place_in ps k) few (in_forest k h)

  front_sound : (i : ℕ) → i ≤ length ps → i < length numbers → HasShape n (take i ps) → IsSoundBy by n numbers i
  front_sound i h below s = record {
    below = below;
    before = (
      take i ps,
      record {
        numbered = numbers_taken (number_by by n) ps i ∙ (ap (take i) f.numbered ∙ take_of_take numbers i (length ps) h);
        shape = s;
      },
    );
  }

  same_number : (j i : ℕ) → j < length ps → i < length ps → place_in ps j ≡ place_in ps i → get_or numbers j 0 ≡ get_or numbers i 0
  same_number j i h k e = number_of_place j h ∙ (ap (number_by by n) e ∙ sym (number_of_place i k))

  same_place : (j i : ℕ) → j < length ps → i < length ps → get_or numbers j 0 ≡ get_or numbers i 0 → place_in ps j ≡ place_in ps i
  same_place j i h k e = one_number by n (place_in ps j) (place_in ps i) few (in_forest j h) (in_forest i k)
      (sym (number_of_place j h) ∙ (e ∙ number_of_place i k))

  crossing_is : (i j : ℕ) → i < length ps → j < length ps → is_crossing (place_by by n (get_or numbers i 0)) (place_by by n (get_or numbers j 0))
      ≡ crosses (place_in ps i) (place_in ps j)
  crossing_is i j h k = ap₂ is_crossing (place_is i h) (place_is j k)

  -- a fault of the places is the list's
  pub fault_from : (fault : ShapeFault) → IsPlaceFault n ps (length numbers) fault → IsFaultBy by n numbers fault
  fault_from (Outside i) w = (
    front_sound i (omega (arith, w.0)) w.1 (subst (HasShape n) (sym (ap (λ x. take x ps) w.0 ∙ take-length ps)) w.2),
    ap (λ x. place_by by n (get_or numbers x 0)) w.0 ∙ f.ends (omega (arith, w.0, w.1)),
  )
  fault_from (Repeated i j) w =
      let fits = f.fits in
      let at = w.2.1 in
      let lt = at.earlier in
      record {
        first = front_sound i (omega (arith, w.0)) (omega (arith, w.0, fits)) w.1;
        earlier = lt;
        same = same_number j i (omega (arith, lt, w.0)) w.0 at.same;
        least = λ m l e. at.least m l (same_place m i (omega (arith, l, lt, w.0)) w.0 e);
      }
  fault_from (Beneath i j) w =
      let fits = f.fits in
      let at = w.2.2 in
      let lt = at.earlier in
      record {
        first = front_sound i (omega (arith, w.0)) (omega (arith, w.0, fits)) w.1;
        earlier = lt;
        new = λ m l e. w.2.1 m l (same_place m i (omega (arith, l, w.0)) w.0 e);
        crosses = crossing_is i j w.0 (omega (arith, lt, w.0)) ∙ at.crossed;
        least = λ m l. crossing_is i m w.0 (omega (arith, l, lt, w.0)) ∙ at.least m l;
      }
  fault_from NoMemory w = tt

  -- numbers that are all those of places with shape
  pub targets_from : HasShape n ps → length numbers ≤ length ps → AreTargetsBy by n numbers ps
  targets_from shape all =
      let fits = f.fits in
      let full : length ps ≡ length numbers = omega (arith, fits, all) in
      record { numbered = f.numbered ∙ (ap (λ x. take x numbers) full ∙ take-length numbers); shape = shape }

  -- targets that have these numbers are these places
  module _ (ts : List Place) (a : AreTargetsBy by n numbers ts) where
    many : length ts ≡ length numbers
    many = sym (length-map ts (number_by by n)) ∙ ap length a.numbered

    named_there : (k : ℕ) → k < length ts → place_by by n (get_or numbers k 0) ≡ Some (place_in ts k)
    named_there k h =
        ap (place_by by n) (ap (λ l. get_or l k 0) (sym a.numbered) ∙ number_at (number_by by n) ts k h)
        ∙ place_by-number by n (place_in ts k) few (a.shape.within (place_in ts k) (has_at ts k (record { row = 0; off = 0 }) h))

    all_named : length ps < length numbers → ⊥
    all_named lt = none-some _ (sym (f.ends lt) ∙ named_there (length ps) (omega (arith, lt, many)))

    same_targets : ps ≡ ts
    same_targets =
        let fits = f.fits in
        let full : length ps ≡ length numbers = omega (arith, fits, all_named) in
        same_places by n few ps ts f.within (λ r o. a.shape.within (record { row = r; off = o }))
        (f.numbered ∙ (ap (λ x. take x numbers) full ∙ (take-length numbers ∙ sym a.numbered)))

  -- where there are fewer places than numbers, or these have no shape, there are no targets
  pub none_short : length ps < length numbers → HasTargetsBy by n numbers → ⊥
  none_short lt h = all_named h.0 h.1 lt

  none_shaped : (HasShape n ps → ⊥) → HasTargetsBy by n numbers → ⊥
  none_shaped never h = never (subst (HasShape n) (sym (same_targets h.0 h.1)) h.1.shape)

  -- and where these have, a number names none
  pub outside_from : HasShape n ps → (HasTargetsBy by n numbers → ⊥) → IsFaultBy by n numbers (Outside (length ps))
  outside_from shape none =
      let fewer : length numbers ≤ length ps → ⊥ = λ all. none (ps, targets_from shape all) in
      fault_from (Outside (length ps)) (refl, omega (arith, fewer), shape)

  -- what is found of the places is found of the numbers
  pub answered : {E : Type 0} → length numbers ≤ length ps → (r : Result (Option Paths) E)
      → IfOk r (λ found. MatchOption found (HasShape n ps → ⊥) (λ p. p.targets.items ≡ ps)) →
      IfOk r (λ found. IfSome found (λ p. ArePaths n p.targets.items p.covered.items p.sorted.items))
      → IfOk r (λ found. MatchOption found (HasTargetsBy by n numbers → ⊥) (λ p. AreTargetsBy by n numbers p.targets.items))
  answered all (Ok None) w paths = none_shaped w
  answered all (Ok (Some p)) w paths = subst (AreTargetsBy by n numbers) (sym w) (targets_from (subst (HasShape n) w paths.shaped.shape) all)
  answered all (Err e) w paths = tt
