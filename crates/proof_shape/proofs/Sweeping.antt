-- One step of a sweep.
use Rattle.std.proofs.Common.{◌≡◌, ℕ, zero, suc, ◌+◌, ◌-◌, ◌/◌, ◌^◌, ◌<◌, ◌≤◌, true, false, List, [], ◌∷◌, ◌++◌, length, get_or, refl, sym, ap, ◌∙◌}
use Rattle.std.proofs.Common.{subst, ap₂, ⊎_elim, inl, inr, arith, eq-eqb}
use Rattle.std.specs.Prelude.{◌⊎◌, ◌==◌}
use Rattle.std.specs.List.Sorted.{IsNonDecreasing}
use Rattle.std.proofs.lemmas.Bool.{cases_lt, cases_eq, cases_order, cases_Bool, false≢true, true≢false}
use Rattle.std.proofs.lemmas.List.Folds.{list_any_at}
use Rattle.std.proofs.Math.ListN.{get_or-append, length-append}
use Rattle.std.proofs.Math.Seq.{get_or-append_seam}
use Rattle.forest_place.specs.declared.place.Place.{Place}
use Rattle.forest_place.specs.Forest.{InForest}
use Rattle.forest_place.specs.Position.{position, rows}
use Rattle.forest_place.proofs.Parts.{InForest-up}
use Rattle.forest_place.proofs.Positions.{position_rises, position_order, one_position, position_small, rows_least}
use Rattle.std.proofs.Math.Pow.{pow_mono}
use Rattle.forest_place.specs.Places.{AreWithin, place_in, up}
use Rattle.forest_place.proofs.Listed.{has_left}
use Rattle.proof_shape.specs.Shape.{has_number}
use Rattle.proof_shape.specs.Swept.{IsPushed, IsClimbed, ClimbsNext, NumberNext, IsSweep}
use Rattle.proof_shape.specs.Survey.{pos, is_top, has}
use Rattle.proof_shape.proofs.Ordered.{has_at}
use Rattle.proof_shape.proofs.Longer.{has_cases}

-- the place above comes later
pub self_up : (n : ℕ) (p : Place) → InForest n p.row p.off → is_top n p ≡ false → pos n p < pos n (up p)
self_up n p h other = position_rises n p (up p) h (InForest-up n p.row p.off h other) (inl (omega arith))

-- the places above two places stand in their order, or are one
pub ups_rise : (n : ℕ) (p q : Place) → InForest n p.row p.off → InForest n q.row q.off → is_top n p ≡ false → is_top n q ≡ false → pos n p < pos n q
    → pos n (up p) ≤ pos n (up q)
ups_rise n p q h k a b lt =
    let hp = InForest-up n p.row p.off h a in
    let hq = InForest-up n q.row q.off k b in
    ⊎_elim
    (λ rows. let z = position_rises n (up p) (up q) hp hq (inl (omega (arith, rows))) in omega (arith, z))
    (λ same. ⊎_elim
    (λ e. let z : pos n (up p) ≡ pos n (up q) = ap₂ (λ x y. position n (suc x) y) same.0 e in omega (arith, z))
    (⊎_elim
    (λ less. let z = position_rises n (up p) (up q) hp hq (inr (ap suc same.0, less)) in omega (arith, z))
    (λ more. let l = same.1 in absurd (omega (arith, l, more))))
    (cases_order (p.off / 2) (q.off / 2)))
    ((position_order n p q h k).1 lt)

-- positions that rise leave no room for more places than positions
module _ (n : ℕ) (cs : List Place) (rises : (a b : ℕ) → a < b → b < length cs → pos n (place_in cs a) < pos n (place_in cs b)) where
  pub index_low : (a : ℕ) → a < length cs → a ≤ pos n (place_in cs a)
  index_low zero h = omega arith
  index_low (suc a) h = let z = rises a (suc a) (omega arith) h in omega (arith, z, index_low a (omega arith))

  pub not_last : (p : Place) → ((a : ℕ) → a < length cs → pos n (place_in cs a) ≤ pos n p) → InForest n p.row p.off → AreWithin n cs
      → (0 < length cs → place_in cs (length cs - 1) ≡ p → ⊥) → (a : ℕ) → a < length cs → pos n (place_in cs a) < pos n p
  not_last p high inside within new a h =
      let l = length cs - 1 in
      let some : 0 < length cs = omega arith in
      let top = high l (omega arith) in
      let far : pos n (place_in cs l) < pos n p =
      ⊎_elim (λ lt. lt)
      (λ ge. absurd (new some (one_position n (place_in cs l) p (within (place_in cs l).row (place_in cs l).off
      (has_at cs l (record { row = 0; off = 0 }) (omega arith))) inside (omega (arith, top, ge)))))
      (cases_lt (pos n (place_in cs l)) (pos n p)) in
      ⊎_elim
      (λ same. subst (λ x. pos n (place_in cs x) < pos n p) (sym same) far)
      (λ other. let z = rises a l (omega (arith, other)) (omega arith) in omega (arith, z, far))
      (cases_eq a l)

pub small_position : (n : ℕ) (p : Place) → n < 2 ^ 40 → InForest n p.row p.off → pos n p < 2 ^ 41
small_position n p small h =
    let few = rows_least n 40 (omega (arith, small)) in
    let le : rows n + 1 ≤ 41 = omega (arith, few) in
    let low : 2 ^ (rows n + 1) ≤ 2 ^ 41 = pow_mono le in
    omega (arith, position_small n p.row p.off h, low)

last_at : (cs : List Place) (p : Place) → place_in (cs ++ p ∷ []) (length cs) ≡ p
last_at cs p = get_or-append_seam cs p [] (record { row = 0; off = 0 })

early_at : (cs : List Place) (p : Place) (a : ℕ) → a < length cs → place_in (cs ++ p ∷ []) a ≡ place_in cs a
early_at cs p a h = get_or-append cs (p ∷ []) (record { row = 0; off = 0 }) a h

long_by_one : (cs : List Place) (p : Place) → length (cs ++ p ∷ []) ≡ length cs + 1
long_by_one cs p = length-append cs (p ∷ [])

has_last : (cs : List Place) (p : Place) → has (cs ++ p ∷ []) p ≡ true
has_last cs p = let w = has_at (cs ++ p ∷ []) (length cs) (record { row = 0; off = 0 }) (omega (arith, long_by_one cs p)) in
    subst (λ (x : Place). has (cs ++ p ∷ []) x ≡ true) (last_at cs p) w

-- p comes at the end, where no place is past it
pub record IsStep (n : ℕ) (xs : List ℕ) (cs : List Place) (k j : ℕ) (p : Place) (k' j' : ℕ) : Type 0 where
  pub inside : InForest n p.row p.off
  pub high : (a : ℕ) → a < length cs → pos n (place_in cs a) ≤ pos n p
  pub origin : (has_number xs (pos n p) ≡ true) ⊎ ((c : Place) × (has cs c ≡ true) × (is_top n c ≡ false) × (up c ≡ p))
  pub later_k : k ≤ k'
  pub some : k' ≤ length cs
  pub few : j' ≤ length xs
  pub later_j : j ≤ j'
  pub ups : (m : ℕ) → k' ≤ m → m < length cs → is_top n (place_in cs m) ≡ false → pos n p ≤ pos n (up (place_in cs m))
  pub tops : (m : ℕ) → j' ≤ m → m < length xs → pos n p ≤ get_or xs m 0
  pub closed : (m : ℕ) → k ≤ m → m < k' → is_top n (place_in cs m) ≡ false → up (place_in cs m) ≡ p
  pub numbers : (m : ℕ) → j ≤ m → m < j' → get_or xs m 0 ≡ pos n p

module _ (n : ℕ) (xs : List ℕ) (cs : List Place) (k j : ℕ) (p : Place) (k' j' : ℕ) (s : IsSweep n xs cs k j) (w : IsStep n xs cs k j p k' j') where
  same_p : (m : ℕ) (q : Place) → j ≤ m → m < j' → InForest n q.row q.off → pos n q ≡ get_or xs m 0 → q ≡ p
  same_p m q ge lt h e = one_position n q p h w.inside (e ∙ w.numbers m ge lt)

  step_there : 0 < length cs → place_in cs (length cs - 1) ≡ p → IsSweep n xs cs k' j'
  step_there some last =
      let there : has cs p ≡ true = subst (λ (x : Place). has cs x ≡ true) last
      (has_at cs (length cs - 1) (record { row = 0; off = 0 }) (omega arith)) in
      let lk = w.later_k in
      let lj = w.later_j in
      record {
        within = s.within;
        rises = s.rises;
        some = w.some;
        few = w.few;
        sound = s.sound;
        closed = λ m lt other. ⊎_elim (λ old. s.closed m old other)
            (λ ge. subst (λ (x : Place). has cs x ≡ true) (sym (w.closed m ge lt other)) there) (cases_lt m k);
        numbers = λ m lt q h e. ⊎_elim (λ old. s.numbers m old q h e)
            (λ ge. subst (λ (x : Place). has cs x ≡ true) (sym (same_p m q ge lt h e)) there) (cases_lt m j);
        ups = λ m a ge lt la other. s.ups m a (omega (arith, ge, lk)) lt la other;
        tops = λ m a ge lt la. s.tops m a (omega (arith, ge, lj)) lt la;
      }

  step_new : (0 < length cs → place_in cs (length cs - 1) ≡ p → ⊥) → IsSweep n xs (cs ++ p ∷ []) k' j'
  step_new new =
      let more = long_by_one cs p in
      let below = not_last n cs s.rises p w.high w.inside s.within new in
      let lk = w.later_k in
      let lj = w.later_j in
      let top = w.some in
      let grown : (q : Place) → has cs q ≡ true → has (cs ++ p ∷ []) q ≡ true = λ q h. has_left cs (p ∷ []) q.row q.off h in
      record {
        within = λ r o h. ⊎_elim (s.within r o) (λ e. subst (λ (x : Place). InForest n x.row x.off) e w.inside) (has_cases cs p r o h);
        rises = λ a b lt h.
            ⊎_elim
            (λ inner. rw (early_at cs p a (omega (arith, lt, inner)), early_at cs p b inner) (s.rises a b lt inner))
            (λ end.
            let at : b ≡ length cs = omega (arith, h, more, end) in
            let la : a < length cs = omega (arith, lt, at) in
            subst (λ x. pos n (place_in (cs ++ p ∷ []) a) < pos n (place_in (cs ++ p ∷ []) x)) (sym at)
            (rw (early_at cs p a la, last_at cs p) (below a la)))
            (cases_lt b (length cs));
        some = omega (arith, top, more);
        few = w.few;
        sound = λ q h.
            ⊎_elim
            (λ old. ⊎_elim (λ num. inl num) (λ c. inr (c.0, grown c.0 c.1, c.2, c.3)) (s.sound q old))
            (λ e. subst (λ (x : Place). (has_number xs (pos n x) ≡ true)
            ⊎ ((c : Place) × (has (cs ++ p ∷ []) c ≡ true) × (is_top n c ≡ false) × (up c ≡ x))) e
            (⊎_elim (λ num. inl num) (λ c. inr (c.0, grown c.0 c.1, c.2, c.3)) w.origin))
            (has_cases cs p q.row q.off h);
        closed = λ m lt other.
            let lm : m < length cs = omega (arith, lt, top) in
            let at = early_at cs p m lm in
            let other' : is_top n (place_in cs m) ≡ false = ap (is_top n) (sym at) ∙ other in
            subst (λ (x : Place). has (cs ++ p ∷ []) (up x) ≡ true) (sym at)
            (⊎_elim
            (λ old. grown (up (place_in cs m)) (s.closed m old other'))
            (λ ge. subst (λ (x : Place). has (cs ++ p ∷ []) x ≡ true) (sym (w.closed m ge lt other')) (has_last cs p))
            (cases_lt m k));
        numbers = λ m lt q h e. ⊎_elim (λ old. grown q (s.numbers m old q h e))
            (λ ge. subst (λ (x : Place). has (cs ++ p ∷ []) x ≡ true) (sym (same_p m q ge lt h e)) (has_last cs p)) (cases_lt m j);
        ups = λ m a ge lm la other. up_to m a ge lm la other (cases_lt m (length cs)) (cases_lt a (length cs));
        tops = λ m a ge lm la.
            ⊎_elim
            (λ old. rw (early_at cs p a old) (s.tops m a (omega (arith, ge, lj)) lm old))
            (λ end. let at : a ≡ length cs = omega (arith, la, more, end) in
            subst (λ x. pos n (place_in (cs ++ p ∷ []) x) ≤ get_or xs m 0) (sym at) (rw (last_at cs p) (w.tops m ge lm)))
            (cases_lt a (length cs));
      }
    where
      up_to : (m a : ℕ) → k' ≤ m → m < length (cs ++ p ∷ []) → a < length (cs ++ p ∷ []) → is_top n (place_in (cs ++ p ∷ []) m) ≡ false
          → (m < length cs) ⊎ (length cs ≤ m) → (a < length cs) ⊎ (length cs ≤ a)
          → pos n (place_in (cs ++ p ∷ []) a) ≤ pos n (up (place_in (cs ++ p ∷ []) m))
      up_to m a ge lm la other (inl old) (inl early) =
          let lk = w.later_k in
          let other' : is_top n (place_in cs m) ≡ false = ap (is_top n) (sym (early_at cs p m old)) ∙ other in
          rw (early_at cs p a early, early_at cs p m old) (s.ups m a (omega (arith, ge, lk)) old early other')
      up_to m a ge lm la other (inl old) (inr end) =
          let at : a ≡ length cs = omega (arith, la, long_by_one cs p, end) in
          let other' : is_top n (place_in cs m) ≡ false = ap (is_top n) (sym (early_at cs p m old)) ∙ other in
          subst (λ x. pos n (place_in (cs ++ p ∷ []) x) ≤ pos n (up (place_in (cs ++ p ∷ []) m))) (sym at)
          (rw (last_at cs p, early_at cs p m old) (w.ups m ge old other'))
      up_to m a ge lm la other (inr end) early =
          let at : m ≡ length cs = omega (arith, lm, long_by_one cs p, end) in
          let is : place_in (cs ++ p ∷ []) m ≡ p = ap (place_in (cs ++ p ∷ [])) at ∙ last_at cs p in
          let other' : is_top n p ≡ false = ap (is_top n) (sym is) ∙ other in
          let high = self_up n p w.inside other' in
          subst (λ (x : Place). pos n (place_in (cs ++ p ∷ []) a) ≤ pos n (up x)) (sym is)
          (⊎_elim
          (λ old. let z = w.high a old in rw (early_at cs p a old) (omega (arith, z, high)))
          (λ (last : length cs ≤ a). let b : a ≡ length cs = omega (arith, la, long_by_one cs p, last) in
          subst (λ x. pos n (place_in (cs ++ p ∷ []) x) ≤ pos n (up p)) (sym b) (rw (last_at cs p) (omega (arith, high))))
          early)

  pub step : (new : List Place) → IsPushed cs p new → IsSweep n xs new k' j'
  step new h = ⊎_elim (λ a. subst (λ l. IsSweep n xs l k' j') (sym a.2) (step_there a.0 a.1))
      (λ b. subst (λ l. IsSweep n xs l k' j') (sym b.1) (step_new b.0)) h

module _ (n : ℕ) (xs : List ℕ) (cs : List Place) (k j : ℕ) (s : IsSweep n xs cs k j) (sorted : IsNonDecreasing xs) where
  pub in_forest : (m : ℕ) → m < length cs → InForest n (place_in cs m).row (place_in cs m).off
  in_forest m h = s.within (place_in cs m).row (place_in cs m).off (has_at cs m (record { row = 0; off = 0 }) h)

  over_root : k < length cs → is_top n (place_in cs k) ≡ true → IsSweep n xs cs (k + 1) j
  over_root lt top = record {
    within = s.within;
    rises = s.rises;
    some = omega arith;
    few = s.few;
    sound = s.sound;
    closed = λ m l other. ⊎_elim (λ old. s.closed m old other) (λ ge. let e : m ≡ k = omega (arith, l, ge) in
        absurd (true≢false (sym (ap (λ x. is_top n (place_in cs x)) e ∙ top) ∙ other))) (cases_lt m k);
    numbers = s.numbers;
    ups = λ m a ge lm la other. s.ups m a (omega (arith, ge)) lm la other;
    tops = s.tops;
  }

  -- a climb by one
  pub climbed : (new : List Place) → ClimbsNext n cs k xs j → IsClimbed n cs k new → IsSweep n xs new (k + 1) j
  climbed new c h = by_top (cases_Bool (is_top n (place_in cs k)))
    where
      by_top : (is_top n (place_in cs k) ≡ true) ⊎ (is_top n (place_in cs k) ≡ false) → IsSweep n xs new (k + 1) j
      by_top (inl top) = subst (λ l. IsSweep n xs l (k + 1) j) (sym (h.top top)) (over_root c.there top)
      by_top (inr other) =
          let there = c.there in
          let few = s.few in
          step n xs cs k j (up (place_in cs k)) (k + 1) j s
          record {
            inside = InForest-up n (place_in cs k).row (place_in cs k).off (in_forest k there) other;
            high = λ a la. s.ups k a (omega arith) there la other;
            origin = inr (place_in cs k, has_at cs k (record { row = 0; off = 0 }) there, other, refl);
            later_k = omega arith;
            some = omega (arith, there);
            few = few;
            later_j = omega arith;
            ups = λ m ge lm om. ups_rise n (place_in cs k) (place_in cs m) (in_forest k there) (in_forest m lm) other om
                (s.rises k m (omega (arith, ge)) lm);
            tops = λ m ge lm. let a = c.least other (omega (arith, ge, lm)) in let b = sorted j m 0 ge lm in omega (arith, a, b);
            closed = λ m ge lt om. let e : m ≡ k = omega (arith, ge, lt) in ap (λ x. up (place_in cs x)) e;
            numbers = λ m ge lt. absurd (omega (arith, ge, lt));
          }
          new (h.below other)

  -- a number more
  pub numbered : (new : List Place) (p : Place) → NumberNext n cs k xs j → j < length xs → InForest n p.row p.off → pos n p ≡ get_or xs j 0
      → IsPushed cs p new → IsSweep n xs new k (j + 1)
  numbered new p c lj inside is h =
      let some = s.some in
      step n xs cs k j p k (j + 1) s
      record {
        inside = inside;
        high = λ a la. let z = s.tops j a (omega arith) lj la in omega (arith, z, is);
        origin = inl (list_any_at (λ y. y == pos n p) xs j 0 lj (eq-eqb _ _ (sym is)));
        later_k = omega arith;
        some = some;
        few = omega (arith, lj);
        later_j = omega arith;
        ups = λ m ge lm om.
            let w = c.least (omega (arith, ge, lm)) in
            ⊎_elim
            (λ e. subst (λ x. pos n p ≤ pos n (up (place_in cs x))) (sym e) (omega (arith, is, w.2)))
            (λ ne.
            let lk : k < m = omega (arith, ge, ne) in
            let z = ups_rise n (place_in cs k) (place_in cs m) (in_forest k (omega (arith, lk, lm))) (in_forest m lm) w.0 om (s.rises k m lk lm) in
            omega (arith, is, w.2, z))
            (cases_eq m k);
        tops = λ m ge lm. let z = sorted j m 0 (omega (arith, ge)) lm in omega (arith, is, z);
        closed = λ m ge lt om. absurd (omega (arith, ge, lt));
        numbers = λ m ge lt. let e : m ≡ j = omega (arith, ge, lt) in ap (λ x. get_or xs x 0) e ∙ sym is;
      }
      new h

pub sweep_begins : (n : ℕ) (xs : List ℕ) → IsSweep n xs [] 0 0
sweep_begins n xs = record {
  within = λ r o h. absurd (false≢true h);
  rises = λ a b lt h. absurd (omega arith);
  some = omega arith;
  few = omega arith;
  sound = λ p h. absurd (false≢true h);
  closed = λ m lt other. absurd (omega arith);
  numbers = λ m lt q h e. absurd (omega arith);
  ups = λ m a ge lm la other. absurd (omega arith);
  tops = λ m a ge lm la. absurd (omega arith);
}
