-- Where live entries stand: places that have shape.
use Rattle.std.proofs.Common.{◌≡◌, ℕ, suc, ◌+◌, ◌-◌, ◌/◌, ◌^◌, ◌<◌, Bool, true, false, cond, List, [], ◌∷◌, ◌++◌, map, length, take, get_or, Option}
use Rattle.std.proofs.Common.{Some, None, Result, Ok, Err, IfOk, refl, sym, ap, ap₂, ◌∙◌, subst, arith, ⊎_elim}
use Rattle.std.specs.Prelude.{nat_lt, ◌==◌, option_map, unwrap_or, is_some}
use Rattle.std.specs.List.{AllByRecursion, filter, cons_option}
use Rattle.std.proofs.lemmas.List.{take_more, map-append}
use Rattle.std.proofs.lemmas.List.Elements.{filter-append}
use Rattle.std.proofs.lemmas.Bool.{false≢true, or_cases, and_parts, false_from_ne_true, ltb-true, eqb-true}
use Rattle.std.proofs.lemmas.Option.{none-some}
use Rattle.uo_digest.specs.declared.digest.Digest.{Digest}
use Rattle.forest_place.specs.declared.place.Place.{Place}
use Rattle.forest_place.specs.Places.{is_at, has_place, IsDistinct}
use Rattle.forest_place.specs.declared.naming.Naming.TheVariants.{FixedPosition}
use Rattle.forest_place.specs.Named.{place_by}
use Rattle.forest_place.proofs.Listed.{same_from_is_at}
use Rattle.forest_model.specs.Content.{leaf}
use Rattle.forest_model.specs.Standing.{tree_at}
use Rattle.forest_model.specs.EntryPlace.{entry_place}
use Rattle.forest_model.specs.Cover.{HasShape, is_above}
use Rattle.forest_model.proofs.Climbs.{tree_at-forest, nothing_beneath}
use Rattle.forest_model.proofs.Living.{entry_found}
use Rattle.leaf_record.specs.History.{somes}
use Rattle.leaf_record.proofs.HistoryLaws.{somes-map}
use Rattle.proof_shape.specs.Shape.{AreFixedTargets}
use Rattle.proof_shape.specs.Targeted.{Targeted}
use Rattle.node_rules.specs.Messages.{number_of}
use Rattle.node_rules.proofs.Placing.{named_by}
use Rattle.live_forest.specs.State.{is_live}
use Rattle.bridge_prover.specs.Bridge.{target_of}
use Rattle.bridge_prover.specs.Watched.{places_in}
use Rattle.bridge_prover.proofs.Noting.{Ascend}

module _ (es : List (Option Digest)) where
  -- where a live entry stands
  record Stands (n : ℕ) : Type 0 where
    pub digest : Digest
    pub place : Place
    pub found : entry_place es n ≡ Some place
    pub there : tree_at es place.row place.off ≡ Some (leaf n digest)

  stands : (n : ℕ) → is_live es n ≡ true → Stands n
  stands n live = by (get_or es n None) refl live
    where
      by : (x : Option Digest) → get_or es n None ≡ x → is_some x ≡ true → Stands n
      by None e l = absurd (false≢true l)
      by (Some d) e l = let w = entry_found es n d e in record { digest = d; place = w.0; found = w.1; there = w.2 }

  -- the places of one entry and of others
  placed : (n : ℕ) (ns : List ℕ) (w : Stands n) → places_in es (n ∷ ns) ≡ w.place ∷ places_in es ns
  placed n ns w = ap (λ x. cons_option x (places_in es ns)) w.found

  -- ---- their positions

  targets_are : (ns : List ℕ) → AllByRecursion (λ n. is_live es n ≡ true) ns → map (target_of es) ns ≡ map number_of (places_in es ns)
  targets_are [] a = refl
  targets_are (n ∷ ns) a =
      let w = stands n a.0 in
      ap₂ (λ (x : Option Place) (xs : List ℕ). unwrap_or (option_map number_of x) 0 ∷ xs) w.found (targets_are ns a.1)
      ∙ sym (ap (map number_of) (placed n ns w))

  -- ---- which entry stands at a place

  record IsOneOf (ns : List ℕ) (r o : ℕ) : Type 0 where
    pub number : ℕ
    pub digest : Digest
    pub above : (n : ℕ) → AllByRecursion (λ m. n < m) ns → n < number
    pub there : tree_at es r o ≡ Some (leaf number digest)

  one_of : (ns : List ℕ) → AllByRecursion (λ n. is_live es n ≡ true) ns → (r o : ℕ) → has_place (places_in es ns) r o ≡ true → IsOneOf ns r o
  one_of [] a r o h = absurd (false≢true h)
  one_of (n ∷ ns) a r o h =
      let w = stands n a.0 in
      let h' : has_place (w.place ∷ places_in es ns) r o ≡ true = subst (λ ps. has_place ps r o ≡ true) (placed n ns w) h in
      ⊎_elim
      (λ here.
      let same = same_from_is_at r o w.place here in
      record {
        number = n;
        digest = w.digest;
        above = λ k b. b.0;
        there =
            subst (λ (p : Place). tree_at es p.row p.off ≡ Some (leaf n w.digest)) same w.there;
      })
      (λ later. let v = one_of ns a.1 r o later in record { number = v.number; digest = v.digest; above = λ k b. v.above k b.1; there = v.there })
      (or_cases (is_at r o w.place) (has_place (places_in es ns) r o) h')

  distinct : (ns : List ℕ) → AllByRecursion (λ n. is_live es n ≡ true) ns → Ascend ns → IsDistinct (places_in es ns)
  distinct [] a up = tt
  distinct (n ∷ ns) a up =
      let w = stands n a.0 in
      subst IsDistinct (sym (placed n ns w)) (
        false_from_ne_true (has_place (places_in es ns) w.place.row w.place.off) (λ again.
            let v = one_of ns a.1 w.place.row w.place.off again in
            let same : Some (leaf n w.digest) ≡ Some (leaf v.number v.digest) = sym w.there ∙ v.there in
            let e : n ≡ v.number = cc in
            let lt : n < v.number = v.above n up.0 in
            omega (arith, e, lt)),
        distinct ns a.1 up.1,
      )

  pub kept_shape : (ns : List ℕ) → AllByRecursion (λ n. is_live es n ≡ true) ns → Ascend ns → HasShape (length es) (places_in es ns)
  kept_shape ns a up = record {
    within = λ p h. let w = one_of ns a p.row p.off h in tree_at-forest es p.row p.off _ w.there;
    distinct = distinct ns a up;
    apart = λ p q hp hq. false_from_ne_true (is_above p q) (λ above.
        let both = and_parts (nat_lt q.row p.row) (q.off / 2 ^ (p.row - q.row) == p.off) above in
        let lt : q.row < p.row = ltb-true _ _ both.0 in
        let at : q.off / 2 ^ (p.row - q.row) ≡ p.off = eqb-true _ _ both.1 in
        let high = one_of ns a p.row p.off hp in
        let low = one_of ns a q.row q.off hq in
        let k = p.row - q.row - 1 in
        let e : p.row - q.row ≡ suc k = omega arith in
        let f : p.row ≡ q.row + suc k = omega arith in
        let g : q.off / 2 ^ suc k ≡ p.off = subst (λ j. q.off / 2 ^ j ≡ p.off) e at in
        let s : tree_at es (q.row + suc k) (q.off / 2 ^ suc k) ≡ Some (leaf high.number high.digest) = ap₂ (tree_at es) (sym f) g ∙ high.there in
        none-some _ (sym (nothing_beneath es k q.row q.off _ _ s) ∙ low.there));
  }

  -- ---- as targets

  pub passed_all : (p : ℕ → Bool) (ns : List ℕ) → ((n : ℕ) → p n ≡ true → is_live es n ≡ true)
      → AllByRecursion (λ n. is_live es n ≡ true) (filter p ns)
  passed_all p [] h = tt
  passed_all p (n ∷ ns) h = by (p n) refl (passed_all p ns h)
    where
      by : (b : Bool) → p n ≡ b → AllByRecursion (λ m. is_live es m ≡ true) (filter p ns)
          → AllByRecursion (λ m. is_live es m ≡ true) (cond b (n ∷ filter p ns) (filter p ns))
      by true e r = (h n e, r)
      by false e r = r

  pub are_targets : (ns positions : List ℕ) → positions ≡ map (target_of es) ns → AllByRecursion (λ n. is_live es n ≡ true) ns
      → HasShape (length es) (places_in es ns) → AreFixedTargets (length es) positions (places_in es ns)
  are_targets ns positions e a shape = record { numbered = sym (e ∙ targets_are ns a); shape = shape }

-- one more position
pub positions_more : (f : ℕ → ℕ) (p : ℕ → Bool) (xs : List ℕ) (i : ℕ) (old new : List ℕ) → i < length xs → old ≡ map f (filter p (take i xs))
    → new ≡ old ++ map f (filter p (get_or xs i 0 ∷ [])) → new ≡ map f (filter p (take (i + 1) xs))
positions_more f p xs i old new lt was e =
    e ∙ (ap (λ ys. ys ++ map f (filter p (get_or xs i 0 ∷ []))) was
    ∙ (sym (map-append f (filter p (take i xs)) (filter p (get_or xs i 0 ∷ [])))
    ∙ ap (map f) (sym (filter-append p (take i xs) (get_or xs i 0 ∷ [])) ∙ ap (filter p) (sym (take_more xs i 0 lt)))))

pub targets_found : {E : Type 0} (n : ℕ) (positions : List ℕ) (places : List Place) → n < 2 ^ 40 → AreFixedTargets n positions places
    → (r : Result Targeted E) → IfOk r (λ t. (t.leaves ≡ n) × (map (place_by FixedPosition n) positions ≡ map Some t.targets))
    → IfOk r (λ t. t.targets ≡ places)
targets_found n positions places few a (Ok t) f =
    sym (somes-map t.targets) ∙ (ap somes (sym f.1 ∙ named_by FixedPosition n (omega (arith, few)) positions places a) ∙ somes-map places)
targets_found n positions places few a (Err e) f = tt
