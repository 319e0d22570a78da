-- Where places go, one place more.
use Rattle.std.proofs.Common.{◌≡◌, ℕ, suc, ◌+◌, ◌%◌, ◌<◌, ◌≤◌, Bool, true, false, List, length, set, Option, Some, None, refl, sym, ap, ◌∙◌, subst}
use Rattle.std.proofs.Common.{⊎_elim, arith}
use Rattle.std.specs.Prelude.{IfSome}
use Rattle.std.proofs.lemmas.Bool.{cases_lt, cases_Bool}
use Rattle.std.proofs.lemmas.Option.{none-some, same_Some}
use Rattle.std.proofs.lemmas.List.{length-set, get_or-set_same, get_or-set_other}
use Rattle.forest_place.specs.declared.place.Place.{Place}
use Rattle.forest_place.specs.Forest.{InForest}
use Rattle.forest_place.specs.Places.{place_in, AreWithin, up}
use Rattle.forest_model.specs.Deletion.{child_place}
use Rattle.proof_shape.specs.Survey.{pos, is_top, Rises}
use Rattle.proof_shape.proofs.Ordered.{has_at}
use Rattle.proof_shape.proofs.Sweeping.{self_up}
use Rattle.proof_verify.specs.PlaceSources.{source_at, number_in, AreLinked}
use Rattle.proof_verify.specs.Destinations.{mark_at, is_other_half_gone, destination_at, destination_from, AreDestinations}
use Rattle.proof_verify.specs.declared.place_source.PlaceSource.{PlaceSource}

pub IfSome-from : {X : Type 0} (P : X → Type 0) (o : Option X) → ((x : X) → o ≡ Some x → P x) → IfSome o P
IfSome-from P None f = tt
IfSome-from P (Some x) f = f x refl

module _ (n : ℕ) (cs : List Place) (within : AreWithin n cs) (rises : Rises n cs) (os : List PlaceSource) (ps : List ℕ)
    (linked : AreLinked n cs os ps) where
  pub inside : (m : ℕ) → m < length cs → InForest n (place_in cs m).row (place_in cs m).off
  inside m h = within (place_in cs m).row (place_in cs m).off (has_at cs m (record { row = 0; off = 0 }) h)

  -- the place above comes later
  pub parent_later : (i : ℕ) → i < length cs → is_top n (place_in cs i) ≡ false → i < number_in ps i
  parent_later i lt other =
      let k = linked i lt other in
      let later = self_up n (place_in cs i) (inside i lt) other in
      let at : pos n (place_in cs (number_in ps i)) ≡ pos n (up (place_in cs i)) = ap (pos n) k.above in
      ⊎_elim
      (λ lt'. lt')
      (λ (ge : number_in ps i ≤ i).
      ⊎_elim
      (λ (less : number_in ps i < i). let z = rises (number_in ps i) i less lt in absurd (omega (arith, z, at, later)))
      (λ (ge' : i ≤ number_in ps i). let e : number_in ps i ≡ i = omega (arith, ge, ge') in let f = ap (λ k. pos n (place_in cs k)) e in
      absurd (omega (arith, f, at, later)))
      (cases_lt (number_in ps i) i))
      (cases_lt i (number_in ps i))

  module _ (gone : List Bool) (ds : List (Option Place)) (j : ℕ) (g : Option Place) (lt : j < length cs) where
    destinations_same : (m : ℕ) → j ≤ m → m < length cs → destination_from n cs os ps gone (set ds j g) m ≡ destination_from n cs os ps gone ds m
    destinations_same m le lm =
        ⊎_elim
        (λ (e : mark_at gone m ≡ true). rw e refl)
        (λ (e : mark_at gone m ≡ false).
        ⊎_elim
        (λ (t : is_top n (place_in cs m) ≡ true). rw (e, t) refl)
        (λ (t : is_top n (place_in cs m) ≡ false).
        let later = parent_later m lm t in
        let other : destination_at (set ds j g) (number_in ps m) ≡ destination_at ds (number_in ps m) =
        get_or-set_other ds j (number_in ps m) g None (λ z. omega (arith, z, later, le)) in
        rw (e, t) (ap (child_place (is_other_half_gone gone (source_at os (number_in ps m)) ((place_in cs m).off % 2)) ((place_in cs m).off % 2))
        other))
        (cases_Bool (is_top n (place_in cs m))))
        (cases_Bool (mark_at gone m))

    pub destined_more : AreDestinations n cs os ps gone (suc j) ds → g ≡ destination_from n cs os ps gone ds j
        → ((q : Place) → g ≡ Some q → InForest n q.row q.off × ((place_in cs j).row ≤ q.row)) → AreDestinations n cs os ps gone j (set ds j g)
    destined_more s is in_forest =
        let long = s.long in
        let here : destination_at (set ds j g) j ≡ g = get_or-set_same ds j g None (omega (arith, lt, long)) in
        record {
          long = length-set ds j g ∙ s.long;
          destined = λ m le lm.
              ⊎_elim
              (λ (old : j < m). get_or-set_other ds j m g None (λ z. omega (arith, z, old)) ∙ (s.destined m old lm ∙ sym (destinations_same m le lm)))
              (λ (ge : m ≤ j). let e : j ≡ m = omega (arith, ge, le) in subst
              (λ k. destination_at (set ds j g) k ≡ destination_from n cs os ps gone (set ds j g) k) e
              (here ∙ (is ∙ sym (destinations_same j (omega arith) lt))))
              (cases_lt j m);
          within = λ m le lm q h.
              ⊎_elim
              (λ (old : j < m). s.within m old lm q (sym (get_or-set_other ds j m g None (λ z. omega (arith, z, old))) ∙ h))
              (λ (ge : m ≤ j). let e : j ≡ m = omega (arith, ge, le) in subst (λ k. InForest n q.row q.off × ((place_in cs k).row ≤ q.row)) e
              (in_forest q (sym here ∙ (ap (destination_at (set ds j g)) e ∙ h))))
              (cases_lt j m);
        }

    from_gone : mark_at gone j ≡ true → destination_from n cs os ps gone ds j ≡ None
    from_gone e = rw e refl

    from_top : mark_at gone j ≡ false → is_top n (place_in cs j) ≡ true → destination_from n cs os ps gone ds j ≡ Some (place_in cs j)
    from_top e t = rw (e, t) refl

    from_child : mark_at gone j ≡ false → is_top n (place_in cs j) ≡ false
        → destination_from n cs os ps gone ds j ≡ child_place (is_other_half_gone gone (source_at os (number_in ps j)) ((place_in cs j).off % 2))
        ((place_in cs j).off % 2) (destination_at ds (number_in ps j))
    from_child e t = rw (e, t) refl

    child_some : (alone : Bool) (side : ℕ) (o : Option Place) (q : Place) → child_place alone side o ≡ Some q → (p : Place) × (o ≡ Some p)
    child_some alone side None q e = absurd (none-some q e)
    child_some alone side (Some p) q e = (p, refl)

    pub destined_gone : AreDestinations n cs os ps gone (suc j) ds → mark_at gone j ≡ true → g ≡ None → AreDestinations n cs os ps gone j (set ds j g)
    destined_gone s e is = destined_more s (is ∙ sym (from_gone e)) (λ q h. absurd (none-some q (sym is ∙ h)))

    pub destined_top : AreDestinations n cs os ps gone (suc j) ds → mark_at gone j ≡ false → is_top n (place_in cs j) ≡ true
        → g ≡ Some (place_in cs j)
        → AreDestinations n cs os ps gone j (set ds j g)
    destined_top s e t is =
        destined_more s (is ∙ sym (from_top e t)) (λ q h.
        let same : place_in cs j ≡ q = same_Some (place_in cs j) q (sym is ∙ h) in
        subst (λ (x : Place). InForest n x.row x.off × ((place_in cs j).row ≤ x.row)) same (inside j lt, omega arith))

    pub destined_child : (alone : Bool) → AreDestinations n cs os ps gone (suc j) ds → mark_at gone j ≡ false → is_top n (place_in cs j) ≡ false →
        alone ≡ is_other_half_gone gone (source_at os (number_in ps j)) ((place_in cs j).off % 2)
        → g ≡ child_place alone ((place_in cs j).off % 2) (destination_at ds (number_in ps j)) →
        IfSome g (λ q. InForest n q.row q.off × ((p : Place) → destination_at ds (number_in ps j) ≡ Some p → p.row ≤ q.row + 1))
        → AreDestinations n cs os ps gone j (set ds j g)
    destined_child alone s e t alone_is is in_forest =
        let side = (place_in cs j).off % 2 in
        destined_more s (is ∙ (ap (λ b. child_place b side (destination_at ds (number_in ps j))) alone_is ∙ sym (from_child e t))) (λ q h.
        let w = subst (λ o. IfSome o (λ (q : Place). InForest n q.row q.off
        × ((p : Place) → destination_at ds (number_in ps j) ≡ Some p → p.row ≤ q.row + 1))) h in_forest in
        let above = child_some alone side (destination_at ds (number_in ps j)) q (sym is ∙ h) in
        let k = linked j lt t in
        let later = parent_later j lt t in
        let v = s.within (number_in ps j) (omega (arith, later)) k.there above.0 above.1 in
        let row : (place_in cs (number_in ps j)).row ≡ suc (place_in cs j).row = ap (λ (x : Place). x.row) k.above in
        (w.0, let a = w.1 above.0 above.1 in omega (arith, a, v.1, row)))
