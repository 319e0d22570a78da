-- Where places go, by the plan of their targets.
use Rattle.std.proofs.Common.{◌≡◌, ℕ, zero, suc, ◌+◌, ◌-◌, ◌*◌, ◌/◌, ◌%◌, ◌<◌, ◌≤◌, Bool, true, false, ◌&&◌, List, length, Option, Some, refl, sym}
use Rattle.std.proofs.Common.{ap, ◌∙◌, ap₂, ⊎_elim, inl, inr, arith, eq-eqb, ne_eqb}
use Rattle.std.specs.Prelude.{◌⊎◌, if◌then◌else◌}
use Rattle.std.proofs.lemmas.Bool.{cases_eq, cases_Bool, false_from_ne_true}
use Rattle.std.proofs.lemmas.List.Elements.{All-get_or}
use Rattle.forest_place.specs.declared.place.Place.{Place}
use Rattle.forest_place.specs.Forest.{InForest, sibling_off}
use Rattle.forest_place.specs.Places.{has_place, place_in, up, child}
use Rattle.forest_place.proofs.Positions.{one_position}
use Rattle.forest_model.specs.Deletion.{is_gone, moved, child_place}
use Rattle.forest_model.proofs.Moving.{moved-step, moved-is_gone}
use Rattle.proof_shape.specs.Survey.{is_top, has}
use Rattle.proof_shape.proofs.Gone.{target_gone}
use Rattle.proof_verify.specs.PlaceSources.{source_at, number_in, IsHalf, AreHalves, AreLinked, IsTargetAt}
use Rattle.proof_verify.specs.Destinations.{mark_at, is_half_gone, is_source_gone, IsHalfBefore, IsBefore, AreMarked, is_other_half_gone}
use Rattle.proof_verify.specs.Destinations.{destination_at, AreDestinations}
use Rattle.proof_verify.specs.NewPlaces.{IsInner, IsNewPlace, new_place_at, AreNew}
use Rattle.proof_verify.specs.Reserved.{IsPlan, AreNewPlaces}
use Rattle.proof_verify.specs.declared.new_place.NewPlace.{NewPlace}
use Rattle.proof_verify.specs.declared.place_source.Half.{Half}
use Rattle.proof_verify.specs.declared.place_source.Half.TheVariants.{Covered, Needed}
use Rattle.proof_verify.specs.declared.place_source.PlaceSource.{PlaceSource}
use Rattle.proof_verify.specs.declared.place_source.PlaceSource.TheVariants.{Target, Halves}
use Rattle.proof_verify.proofs.Links.{even_beside, odd_beside}
use Rattle.proof_verify.proofs.DestinationSteps.{parent_later}
use Rattle.proof_verify.proofs.Planned.{inside, needed_bare, uncovered_stays, before}

gone_halves : (ts : List Place) (r o : ℕ) → has_place ts (suc r) o ≡ false → is_gone ts (suc r) o ≡ (is_gone ts r (2 * o) && is_gone ts r (2 * o + 1))
gone_halves ts r o none = rw none refl

gone_children : (ts : List Place) (p : Place) → has ts p ≡ false → 0 < p.row
    → is_gone ts p.row p.off ≡ (is_gone ts (child 0 p).row (child 0 p).off && is_gone ts (child 1 p).row (child 1 p).off)
gone_children ts p none some =
    let e : p.row ≡ suc (p.row - 1) = omega (arith, some) in
    let f : 2 * p.off ≡ 2 * p.off + 0 = omega arith in
    ap (λ x. is_gone ts x p.off) e ∙ (gone_halves ts (p.row - 1) p.off (ap (λ x. has_place ts x p.off) (sym e) ∙ none)
    ∙ ap (λ x. is_gone ts (p.row - 1) x && is_gone ts (p.row - 1) (2 * p.off + 1)) f)

half_bound : (n : ℕ) (cs : List Place) (p : Place) (h : Half) → IsHalf n cs p h → IsHalfBefore (length cs) h
half_bound n cs p (Covered k) w = w.0
half_bound n cs p (Needed j) w = tt

not_both : (ts : List Place) (p : Place) (o : PlaceSource) → IsTargetAt ts p o → IsInner o → ⊥
not_both ts p (Target i) w v = v
not_both ts p (Halves x y) w v = w

inner_of : (n : ℕ) (cs : List Place) (p : Place) (o : PlaceSource) → AreHalves n cs p o → IsInner o
inner_of n cs p (Target i) w = absurd w
inner_of n cs p (Halves x y) w = tt

module _ (n : ℕ) (ts cs : List Place) (os : List PlaceSource) (plan : IsPlan n ts cs os) (gone : List Bool)
    (marks : AreMarked os (length os) gone) where
  half_gone : (bound : ℕ) → ((k : ℕ) → k < bound → k < length cs → mark_at gone k ≡ is_gone ts (place_in cs k).row (place_in cs k).off)
      → (p : Place) (h : Half) → IsHalfBefore bound h → IsHalf n cs p h → is_half_gone gone h ≡ is_gone ts p.row p.off
  half_gone bound f p (Covered k) b w = f k b w.0 ∙ ap (λ (x : Place). is_gone ts x.row x.off) w.1
  half_gone bound f p (Needed j) b w = sym (uncovered_stays ts p.row p.off (needed_bare n ts cs plan.cover_is p j w.0 w.1))

  mark_step : (m : ℕ) → m < length cs → ((k : ℕ) → k < m → k < length cs → mark_at gone k ≡ is_gone ts (place_in cs k).row (place_in cs k).off)
      → mark_at gone m ≡ is_gone ts (place_in cs m).row (place_in cs m).off
  mark_step m lm f = marks.marks m lo ∙ by_target (cases_Bool (has ts (place_in cs m)))
    where
      lo : m < length os
      lo = let long = plan.long in omega (arith, lm, long)

      as_target : (o : PlaceSource) → IsTargetAt ts (place_in cs m) o → has ts (place_in cs m) ≡ true
          → is_source_gone gone o ≡ is_gone ts (place_in cs m).row (place_in cs m).off
      as_target (Target i) w it = sym (target_gone ts (place_in cs m).row (place_in cs m).off it)
      as_target (Halves x y) w it = absurd w

      as_inner : (o : PlaceSource) → 0 < (place_in cs m).row → AreHalves n cs (place_in cs m) o → IsBefore m o → has ts (place_in cs m) ≡ false
          → is_source_gone gone o ≡ is_gone ts (place_in cs m).row (place_in cs m).off
      as_inner (Target i) some w b none = absurd w
      as_inner (Halves x y) some w b none =
          ap₂ (λ s t. s && t) (half_gone m f (child 0 (place_in cs m)) x b.0 w.0) (half_gone m f (child 1 (place_in cs m)) y b.1 w.1)
          ∙ sym (gone_children ts (place_in cs m) none some)

      by_target : (has ts (place_in cs m) ≡ true) ⊎ (has ts (place_in cs m) ≡ false)
          → is_source_gone gone (source_at os m) ≡ is_gone ts (place_in cs m).row (place_in cs m).off
      by_target (inl it) = as_target (source_at os m) (plan.targets m lm it) it
      by_target (inr none) = let w = plan.inner m lm none in as_inner (source_at os m) w.0 w.1 (before n ts cs os plan m lo) none

  all_marks : (b m : ℕ) → m < b → m < length cs → mark_at gone m ≡ is_gone ts (place_in cs m).row (place_in cs m).off
  all_marks zero m lt lm = absurd (omega (arith, lt))
  all_marks (suc b) m lt lm = mark_step m lm (λ k lk lc. all_marks b k (omega (arith, lk, lt)) lc)

  -- the marks tell what is gone
  pub marks_are : (m : ℕ) → m < length cs → mark_at gone m ≡ is_gone ts (place_in cs m).row (place_in cs m).off
  marks_are m lm = all_marks (suc m) m (omega arith) lm

  module _ (ps : List ℕ) (linked : AreLinked n cs os ps) (ds : List (Option Place)) (destined : AreDestinations n cs os ps gone 0 ds) where
    other_gone : (i : ℕ) → i < length cs → is_top n (place_in cs i) ≡ false
        → is_other_half_gone gone (source_at os (number_in ps i)) ((place_in cs i).off % 2)
        ≡ is_gone ts (place_in cs i).row (sibling_off (place_in cs i).off)
    other_gone i lt other = by_source (source_at os (number_in ps i)) (linked i lt other).halves
      where
        by_source : (o : PlaceSource) → AreHalves n cs (up (place_in cs i)) o
            → is_other_half_gone gone o ((place_in cs i).off % 2) ≡ is_gone ts (place_in cs i).row (sibling_off (place_in cs i).off)
        by_source (Target k) w = absurd w
        by_source (Halves x y) w =
            ⊎_elim
            (λ (even : (place_in cs i).off % 2 ≡ 0).
            let e = eq-eqb _ _ even in
            ap (λ b. is_half_gone gone (if b then y else x)) e ∙ (half_gone (length cs) (λ k l lc. marks_are k lc) (child 1 (up (place_in cs i))) y
            (half_bound n cs (child 1 (up (place_in cs i))) y w.1) w.1
            ∙ ap (λ (q : Place). is_gone ts q.row q.off) (sym (even_beside (place_in cs i) even))))
            (λ (odd : (place_in cs i).off % 2 ≡ 0 → ⊥).
            let e = ne_eqb _ _ odd in
            let o : (place_in cs i).off % 2 ≡ 1 = omega (arith, odd) in
            ap (λ b. is_half_gone gone (if b then y else x)) e ∙ (half_gone (length cs) (λ k l lc. marks_are k lc) (child 0 (up (place_in cs i))) x
            (half_bound n cs (child 0 (up (place_in cs i))) x w.0) w.0
            ∙ ap (λ (q : Place). is_gone ts q.row q.off) (sym (odd_beside (place_in cs i) o))))
            (cases_eq ((place_in cs i).off % 2) 0)

    destination_step : (m : ℕ) → m < length cs → ((k : ℕ) → m < k → k < length cs
        → destination_at ds k ≡ moved n ts (place_in cs k).row (place_in cs k).off)
        → destination_at ds m ≡ moved n ts (place_in cs m).row (place_in cs m).off
    destination_step m lm f =
        let p = place_in cs m in
        let h = inside n ts cs plan.cover_is m lm in
        let mark = marks_are m lm in
        destined.destined m (omega arith) lm ∙
        ⊎_elim
        (λ (e : mark_at gone m ≡ true). rw e (sym (moved-is_gone n ts p.row p.off h (sym mark ∙ e))))
        (λ (e : mark_at gone m ≡ false).
        let stays : is_gone ts p.row p.off ≡ false = sym mark ∙ e in
        ⊎_elim
        (λ (t : is_top n p ≡ true). rw (e, t) (sym (moved-step n ts p.row p.off h ∙ rw (stays, t) refl)))
        (λ (t : is_top n p ≡ false).
        let l = linked m lm t in
        let later = parent_later n cs plan.cover_is.within plan.cover_is.rises os ps linked m lm t in
        let above : destination_at ds (number_in ps m) ≡ moved n ts (suc p.row) (p.off / 2) =
        f (number_in ps m) later l.there ∙ ap (λ (q : Place). moved n ts q.row q.off) l.above in
        rw (e, t) (ap₂ (λ b x. child_place b (p.off % 2) x) (other_gone m lm t) above ∙ sym (moved-step n ts p.row p.off h ∙ rw (stays, t) refl)))
        (cases_Bool (is_top n p)))
        (cases_Bool (mark_at gone m))

    all_go : (b m : ℕ) → length cs ≤ m + b → m < length cs → destination_at ds m ≡ moved n ts (place_in cs m).row (place_in cs m).off
    all_go zero m le lm = absurd (omega (arith, le, lm))
    all_go (suc b) m le lm = destination_step m lm (λ k lt lk. all_go b k (omega (arith, le, lt)) lk)

    -- each place goes where it moves
    pub destinations_are : (m : ℕ) → m < length cs → destination_at ds m ≡ moved n ts (place_in cs m).row (place_in cs m).off
    destinations_are m lm = all_go (length cs) m (omega arith) lm

    -- the new places
    pub new_places_are : (ls : List NewPlace) → AreNew n os ds ls → AreNewPlaces n ts cs ls
    new_places_are ls f = record {
      rises = f.rises;
      numbered = λ a lt. (one a lt).numbered;
      within = within;
      there = there;
      inner = λ a lt. false_from_ne_true _ (λ it. not_both ts (place_in cs (new_place_at ls a).from) (source_at os (new_place_at ls a).from)
          (plan.targets (new_place_at ls a).from (there a lt) it) (one a lt).inner);
      goes = λ a lt. sym (destinations_are (new_place_at ls a).from (there a lt)) ∙ (one a lt).goes_there;
      each = λ m q lm none h.
          let long = plan.long in
          let here : destination_at ds m ≡ Some q = destinations_are m lm ∙ h in
          let w = f.each m q (omega (arith, lm, long)) (inner_of n cs (place_in cs m) (source_at os m) (plan.inner m lm none).1) here in
          let q_within = (destined.within m (omega arith) lm q here).0 in
          (w.0, w.1, one_position n (new_place_at ls w.0).place q (within w.0 w.1) q_within (sym (one w.0 w.1).numbered ∙ w.2));
    }
      where
        one : (a : ℕ) → a < length ls → IsNewPlace n os ds (length os) (new_place_at ls a)
        one a lt = All-get_or (IsNewPlace n os ds (length os)) ls a _ lt f.sound

        there : (a : ℕ) → a < length ls → (new_place_at ls a).from < length cs
        there a lt = let t = (one a lt).there in let long = plan.long in omega (arith, t, long)

        within : (a : ℕ) → a < length ls → InForest n (new_place_at ls a).place.row (new_place_at ls a).place.off
        within a lt = (destined.within (new_place_at ls a).from (omega arith) (there a lt) (new_place_at ls a).place (one a lt).goes_there).0
