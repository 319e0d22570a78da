-- New places, one more.
use Rattle.std.proofs.Common.{◌≡◌, ℕ, ◌+◌, ◌-◌, ◌<◌, ◌≤◌, List, [], ◌∷◌, ◌++◌, length, get_or, Option, Some, refl, sym, ap, ◌∙◌, subst, ⊎_elim, arith}
use Rattle.std.specs.Prelude.{All, Contains}
use Rattle.std.specs.List.Sorted.{IsNonDecreasingBy, IsPermutation}
use Rattle.std.proofs.lemmas.List.Sorted.{All-permutation, Contains-permutation}
use Rattle.std.proofs.lemmas.Bool.{cases_lt, cases_eq}
use Rattle.std.proofs.lemmas.Option.{same_Some}
use Rattle.std.proofs.lemmas.List.{get_or_default}
use Rattle.std.proofs.lemmas.List.Elements.{All-weaker, All-push, All-contains, Contains-append_left, Contains-append_right}
use Rattle.std.proofs.Math.ListN.{get_or-append, length-append}
use Rattle.std.proofs.Math.Seq.{get_or-append_seam}
use Rattle.forest_place.specs.declared.place.Place.{Place}
use Rattle.proof_verify.specs.PlaceSources.{source_at}
use Rattle.proof_verify.specs.Destinations.{destination_at}
use Rattle.proof_verify.specs.NewPlaces.{IsInner, IsNewPlace, numbered_place, AreFoundPlaces, new_place_at, AreFirst, AreNew}
use Rattle.proof_verify.specs.declared.new_place.NewPlace.{NewPlace}
use Rattle.proof_verify.specs.declared.place_source.PlaceSource.{PlaceSource}

module _ (n : ℕ) (os : List PlaceSource) (ds : List (Option Place)) (i : ℕ) (ls : List NewPlace) (s : AreFoundPlaces n os ds i ls) where
  weaker : All (IsNewPlace n os ds (i + 1)) ls
  weaker = All-weaker (IsNewPlace n os ds i) (IsNewPlace n os ds (i + 1))
      (λ l h. record { there = let lt = h.there in omega (arith, lt); inner = h.inner; goes_there = h.goes_there; numbered = h.numbered }) ls s.sound

  pub found_more : (l : NewPlace) → IsInner (source_at os i) → destination_at ds i ≡ Some l.place → l ≡ numbered_place n l.place i
      → AreFoundPlaces n os ds (i + 1) (ls ++ l ∷ [])
  found_more l inner at e = record {
    sound = All-push (IsNewPlace n os ds (i + 1)) ls l weaker
        (subst (IsNewPlace n os ds (i + 1)) (sym e) record { there = omega arith; inner = inner; goes_there = at; numbered = refl });
    complete = λ m q lt inner_m h.
        ⊎_elim
        (λ old. Contains-append_left ls (l ∷ []) (numbered_place n q m) (s.complete m q old inner_m h))
        (λ ge.
        let here : m ≡ i = omega (arith, ge, lt) in
        let same : l.place ≡ q = same_Some l.place q (sym at ∙ (ap (destination_at ds) (sym here) ∙ h)) in
        let is : l ≡ numbered_place n q m = e ∙ (ap (λ x. numbered_place n x i) same ∙ ap (numbered_place n q) (sym here)) in
        subst (Contains (ls ++ l ∷ [])) is (Contains-append_right ls (l ∷ []) l (0, omega arith, refl)))
        (cases_lt m i);
  }

  pub found_none : ((q : Place) → IsInner (source_at os i) → destination_at ds i ≡ Some q → ⊥) → AreFoundPlaces n os ds (i + 1) ls
  found_none none = record {
    sound = weaker;
    complete = λ m q lt inner_m h.
        ⊎_elim
        (λ old. s.complete m q old inner_m h)
        (λ ge. let here : m ≡ i = omega (arith, ge, lt) in
        absurd (none q (subst (λ k. IsInner (source_at os k)) here inner_m) (ap (destination_at ds) (sym here) ∙ h)))
        (cases_lt m i);
  }

-- the first of those at each place, one new place more
module _ (ls : List NewPlace) (i : ℕ) (firsts : List NewPlace) (lt : i < length ls) (up : IsNonDecreasingBy (λ (l : NewPlace). l.number) ls)
    (s : AreFirst ls i firsts) where
  pub first_more : (0 < i → (new_place_at ls (i - 1)).number < (new_place_at ls i).number) → AreFirst ls (i + 1) (firsts ++ new_place_at ls i ∷ [])
  first_more new =
      let l = new_place_at ls i in
      let long : length (firsts ++ l ∷ []) ≡ length firsts + 1 = length-append firsts (l ∷ []) in
      let last : new_place_at (firsts ++ l ∷ []) (length firsts) ≡ l = get_or-append_seam firsts l [] _ in
      let early : (a : ℕ) → a < length firsts → new_place_at (firsts ++ l ∷ []) a ≡ new_place_at firsts a =
      λ a h. get_or-append firsts (l ∷ []) _ a h in
      record {
        short = let short = s.short in omega (arith, long, short);
        among = All-push (Contains ls) firsts l s.among (i, lt, get_or_default ls i l _ lt);
        rises = λ a b less lb.
            ⊎_elim
            (λ (old : b < length firsts). rw (early a (omega (arith, less, old)), early b old) (s.rises a b less old))
            (λ (ge : length firsts ≤ b).
            let at : b ≡ length firsts = omega (arith, ge, lb, long) in
            let la : a < length firsts = omega (arith, less, at) in
            let below : (new_place_at firsts a).number < l.number = low a la in
            subst (λ k. (new_place_at (firsts ++ l ∷ []) a).number < (new_place_at (firsts ++ l ∷ []) k).number) (sym at)
            (rw (early a la, last) below))
            (cases_lt b (length firsts));
        last = λ some.
            let e : length (firsts ++ l ∷ []) - 1 ≡ length firsts = omega (arith, long) in
            let f : i + 1 - 1 ≡ i = omega arith in
            (omega (arith, long), rw (e, f) (ap (λ (x : NewPlace). x.number) last));
        each = λ k lk.
            ⊎_elim
            (λ (old : k < i). let w = s.each k old in (w.0, omega (arith, w.1, long), ap (λ (x : NewPlace). x.number) (early w.0 w.1) ∙ w.2))
            (λ (ge : i ≤ k). let e : k ≡ i = omega (arith, ge, lk) in
            (length firsts, omega (arith, long), ap (λ (x : NewPlace). x.number) last ∙ ap (λ x. (new_place_at ls x).number) (sym e)))
            (cases_lt k i);
      }
    where
      low : (a : ℕ) → a < length firsts → (new_place_at firsts a).number < (new_place_at ls i).number
      low a la =
          ⊎_elim
          (λ (none : i ≡ 0). absurd (none_before none a la))
          (λ (some : i ≡ 0 → ⊥).
          let pos' : 0 < i = omega (arith, some) in
          let w = s.last pos' in
          let n' = new pos' in
          ⊎_elim
          (λ (e : a ≡ length firsts - 1). let z = ap (λ k. (new_place_at firsts k).number) e in omega (arith, z, w.1, n'))
          (λ (ne : a ≡ length firsts - 1 → ⊥). let z = s.rises a (length firsts - 1) (omega (arith, ne, la)) (omega (arith, la)) in
          omega (arith, z, w.1, n'))
          (cases_eq a (length firsts - 1)))
          (cases_eq i 0)
        where
          none_before : i ≡ 0 → (a : ℕ) → a < length firsts → ⊥
          none_before e a la = let short = s.short in omega (arith, e, la, short)

  pub first_same : 0 < i → ((new_place_at ls (i - 1)).number < (new_place_at ls i).number → ⊥) → AreFirst ls (i + 1) firsts
  first_same some old =
      let w = s.last some in
      let le = up (i - 1) i (record { number = 0; place = record { row = 0; off = 0 }; from = 0 }) (omega arith) lt in
      let same : (new_place_at ls (i - 1)).number ≡ (new_place_at ls i).number = omega (arith, le, old) in
      let f : i + 1 - 1 ≡ i = omega arith in
      record {
        short = let short = s.short in omega (arith, short);
        among = s.among;
        rises = s.rises;
        last = λ z. (w.0, rw f (w.1 ∙ same));
        each = λ k lk.
            ⊎_elim
            (λ (before : k < i). s.each k before)
            (λ (ge : i ≤ k). let e : k ≡ i = omega (arith, ge, lk) in
            (length firsts - 1, (let l = w.0 in omega (arith, l)), w.1 ∙ (same ∙ ap (λ x. (new_place_at ls x).number) (sym e))))
            (cases_lt k i);
      }

-- the first of those at each place are the new places
pub new_from_first : (n : ℕ) (os : List PlaceSource) (ds : List (Option Place)) (ls firsts : List NewPlace) → AreFoundPlaces n os ds (length os) ls
    → AreFirst ls (length ls) firsts → AreNew n os ds firsts
new_from_first n os ds ls firsts a f = record {
  sound = All-weaker (Contains ls) (IsNewPlace n os ds (length os)) (λ l h. All-contains (IsNewPlace n os ds (length os)) ls l a.sound h) firsts
      f.among;
  rises = f.rises;
  each = λ m q lt inner h.
      let c = a.complete m q lt inner h in
      let w = f.each c.0 c.1 in
      (w.0, w.1, w.2 ∙ (number_there ls c.0 (numbered_place n q m) c.1 c.2));
}
  where
    number_there : (ls : List NewPlace) (k : ℕ) (l : NewPlace) → k < length ls → get_or ls k l ≡ l → (new_place_at ls k).number ≡ l.number
    number_there ls k l lt e = ap (λ (x : NewPlace). x.number) (get_or_default ls k _ l lt ∙ e)

-- and in another order
pub found_in_order : (n : ℕ) (os : List PlaceSource) (ds : List (Option Place)) (i : ℕ) (xs ys : List NewPlace) → AreFoundPlaces n os ds i xs
    → IsPermutation xs ys → AreFoundPlaces n os ds i ys
found_in_order n os ds i xs ys a p = record {
  sound = All-permutation (IsNewPlace n os ds i) xs ys p a.sound;
  complete = λ m q lt inner h. Contains-permutation xs ys (numbered_place n q m) p (a.complete m q lt inner h);
}
