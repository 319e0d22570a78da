-- What a level tells of its forest.
use Rattle.std.proofs.Common.{◌≡◌, ℕ, suc, ◌+◌, ◌<◌, Bool, true, false, cond, List, [], ◌∷◌, map, length, get_or, Option, Some, None, refl, sym, ap}
use Rattle.std.proofs.Common.{ap₂, ◌∙◌, subst, arith, ⊎_elim, inl, inr}
use Rattle.std.specs.Prelude.{◌⊎◌, ◌||◌, ◌&&◌, not, is_some, option_map}
use Rattle.std.specs.List.{AllByRecursion, cons_option}
use Rattle.std.proofs.lemmas.Bool.{cases_Bool, false≢true, or_left, and_parts}
use Rattle.std.proofs.lemmas.Option.{none-some, same_Some}
use Rattle.std.proofs.lemmas.Simd.{map-map}
use Rattle.std.proofs.lemmas.List.{length-map}
use Rattle.std.proofs.Math.ListN.{get_or-map}
use Rattle.uo_digest.specs.declared.digest.Digest.{Digest}
use Rattle.leaf_record.specs.Leaf.{Leaf, leaf_text}
use Rattle.leaf_record.specs.History.{somes, History}
use Rattle.forest_place.specs.declared.place.Place.{Place}
use Rattle.forest_place.specs.Forest.{InForest, is_root, sibling_off}
use Rattle.forest_place.specs.Places.{is_at, has_place, IsDistinct, IsAscending}
use Rattle.forest_place.proofs.Listed.{place, is_at-same, same_from_is_at}
use Rattle.forest_place.proofs.Ascending.{distinct_from_ascending}
use Rattle.forest_model.specs.Standing.{digest_at}
use Rattle.forest_model.specs.EntryPlace.{entry_place}
use Rattle.forest_model.specs.Cover.{Cover, cover, is_needed, need}
use Rattle.forest_model.specs.Evaluation.{asked, beside, evaluation, hash_of, nothing_known}
use Rattle.forest_model.specs.Right.{entries}
use Rattle.forest_model.proofs.Lists.{need_has, need_had, need_ascending}
use Rattle.forest_model.proofs.Right.{computed_at, hash_right}
use Rattle.forest_model.proofs.Covers.{some_from_test}
use Rattle.proof_shape.proofs.Needing.{ascending_from_rises}
use Rattle.proof_shape.proofs.Ordered.{has_at}
use Rattle.proof_shape.specs.Survey.{IsCoverOf}
use Rattle.proof_verify.specs.Judged.{pair_at}
use Rattle.proof_verify.specs.Evaluation.{AreEvaluatedAt}
use Rattle.proof_verify.specs.declared.evaluation.CoveredPlace.{CoveredPlace}
use Rattle.proof_verify.specs.declared.evaluation.Preimage.TheVariants.{Target}
use Rattle.proof_verify.proofs.Values.{asked_all}
use Rattle.cache_model.specs.Known.{is_watched, kept_from, is_known}
use Rattle.node_rules.proofs.Hashes.{hashes_there}
use Rattle.state_text.specs.declared.entry.StoredEntry.{StoredEntry}
use Rattle.state_text.specs.Stored.{places_of, leaves_of}
use Rattle.state_text.specs.OfHistory.{kept_entry, kept_entries, level_kept, digests_at}
use Rattle.state_text.specs.Told.{told_by, told_at, told_list, HeldIsKnown}
use Rattle.state_text.specs.Merged.{merged, paired, told_pair}
use Rattle.state_text.proofs.ToldLists.{IsHeld, AreHeld, listed}
use Rattle.state_text.proofs.KeptLaws.{AreKeptAt, all_kept, target_stands, leaves_shown}
use Rattle.state_text.proofs.Merging.{places_in, merged-all, merged-has, merged-ascends, places-paired}

-- ---- lists

all_from : (P : Place × Digest → Type 0) (xs : List (Place × Digest)) → ((m : ℕ) → m < length xs → P (pair_at xs m)) → AllByRecursion P xs
all_from P [] h = tt
all_from P (x ∷ xs) h = (h 0 (omega arith), all_from P xs (λ m lt. h (suc m) (omega (arith, lt))))

all_weaker : (P Q : Place × Digest → Type 0) (xs : List (Place × Digest)) → ((x : Place × Digest) → P x → Q x) → AllByRecursion P xs
    → AllByRecursion Q xs
all_weaker P Q [] f a = tt
all_weaker P Q (x ∷ xs) f a = (f x a.0, all_weaker P Q xs f a.1)

abbrev IsBeside : Digest → List Place → List Digest → Place × Digest → Type 0
IsBeside none ps ds h = (has_place ps h.0.row h.0.off ≡ true) × (beside none ps ds h.0.row h.0.off ≡ h.1)

beside-first : (none : Digest) (p : Place) (ps : List Place) (d : Digest) (ds : List Digest) → beside none (p ∷ ps) (d ∷ ds) p.row p.off ≡ d
beside-first none p ps d ds = rw (is_at-same p.row p.off) refl

beside-later : (none : Digest) (p : Place) (ps : List Place) (d : Digest) (ds : List Digest) → has_place ps p.row p.off ≡ false → (h : Place × Digest)
    → IsBeside none ps ds h → IsBeside none (p ∷ ps) (d ∷ ds) h
beside-later none p ps d ds out h is =
    ⊎_elim
    (λ here.
    let same = same_from_is_at h.0.row h.0.off p here in
    absurd (false≢true (sym out ∙ (ap (λ (q : Place). has_place ps q.row q.off) same ∙ is.0))))
    (λ other. (rw other is.0, rw other is.1))
    (cases_Bool (is_at h.0.row h.0.off p))

paired-beside : (none : Digest) (ps : List Place) (ds : List Digest) → IsDistinct ps → length ds ≡ length ps
    → AllByRecursion (IsBeside none ps ds) (paired ps ds)
paired-beside none [] ds distinct e = tt
paired-beside none (p ∷ ps) [] distinct e = absurd (omega (arith, e))
paired-beside none (p ∷ ps) (d ∷ ds) distinct e = (
  (or_left (is_at p.row p.off p) _ (is_at-same p.row p.off), beside-first none p ps d ds),
  all_weaker (IsBeside none ps ds) (IsBeside none (p ∷ ps) (d ∷ ds)) (paired ps ds) (beside-later none p ps d ds distinct.0)
      (paired-beside none ps ds distinct.1 (omega (arith, e))),
)

-- ---- what is told

-- covered places in order, each with what its cover evaluates to
record AreCovered (H : List ℕ → Digest) (n : ℕ) (ts : List Place) (leaves hashes : List Digest) (pairs : List (Place × Digest)) : Type 0 where
  cover_is : IsCoverOf n ts (places_in pairs)
  digests : (m : ℕ) (c : Cover) → m < length pairs → cover ts (pair_at pairs m).0.row (pair_at pairs m).0.off ≡ Some c
      → (pair_at pairs m).1 ≡ evaluation H n ts nothing_known leaves hashes c

covered_from : (H : List ℕ → Digest) (n : ℕ) (ts : List Place) (leaves hashes : List Digest) (items : List CoveredPlace)
    → AreEvaluatedAt H n ts leaves hashes items → AreCovered H n ts leaves hashes (map told_pair items)
covered_from H n ts leaves hashes items are = record {
  cover_is = subst (IsCoverOf n ts) (sym (map-map (λ (h : Place × Digest). h.0) told_pair items)) are.order;
  digests = λ m c lt e.
      let none : CoveredPlace = record { place = record { row = 0; off = 0 }; preimage = Target 0; digest = record { 0 = [] } } in
      let within : m < length items = omega (arith, lt, length-map items told_pair) in
      let at : pair_at (map told_pair items) m ≡ told_pair (get_or items m none) = get_or-map told_pair items m none in
      let is = are.each m none within in
      let beneath : cover ts (get_or items m none).place.row (get_or items m none).place.off ≡ Some c =
      ap (λ (h : Place × Digest). cover ts h.0.row h.0.off) (sym at) ∙ e in
      ap (λ (h : Place × Digest). h.1) at ∙ (is.digest
      ∙ ap (evaluation H n ts nothing_known leaves hashes) (same_Some is.beneath c (sym is.covered ∙ beneath)));
}

none_is : (x : Option Cover) → not (is_some x) ≡ true → x ≡ None
none_is None e = refl
none_is (Some c) e = absurd (false≢true e)

-- a needed place is not covered
bare : (n : ℕ) (ts : List Place) (p : Place) → is_needed n ts p ≡ true → cover ts p.row p.off ≡ None
bare n ts p needed =
    let a = and_parts (not (is_root n p.row p.off) && not (is_some (cover ts p.row p.off))) (is_some (cover ts p.row (sibling_off p.off))) needed in
    none_is (cover ts p.row p.off) (and_parts (not (is_root n p.row p.off)) (not (is_some (cover ts p.row p.off))) a.0).1

none_then : (f : Cover → Digest) (x : Option Cover) (b : Bool) (d : Digest) → x ≡ None → b ≡ true → told_by f (cond b (Some d) None) x ≡ Some d
none_then f x b d e t = rw (e, t) refl

none_else : (f : Cover → Digest) (x : Option Cover) (b : Bool) (d : Digest) → x ≡ None → b ≡ false → told_by f (cond b (Some d) None) x ≡ None
none_else f x b d e t = rw (e, t) refl

module _ (H : List ℕ → Digest) (n : ℕ) (ts : List Place) (leaves hashes : List Digest) where
  abbrev at : Place → Option Digest
  at = told_at H n ts leaves hashes

  pub at_cover : (p : Place) (c : Cover) → cover ts p.row p.off ≡ Some c → at p ≡ Some (evaluation H n ts nothing_known leaves hashes c)
  at_cover p c e = rw e refl

  pub at_needed : (p : Place) → is_needed n ts p ≡ true → at p ≡ Some (hash_of H n ts nothing_known hashes p.row p.off)
  at_needed p needed = none_then (evaluation H n ts nothing_known leaves hashes) (cover ts p.row p.off) (is_needed n ts p)
      (hash_of H n ts nothing_known hashes p.row p.off) (bare n ts p needed) needed

  pub at_other : (p : Place) → cover ts p.row p.off ≡ None → is_needed n ts p ≡ false → at p ≡ None
  at_other p none other = none_else (evaluation H n ts nothing_known leaves hashes) (cover ts p.row p.off) (is_needed n ts p)
      (hash_of H n ts nothing_known hashes p.row p.off) none other

  module _ (covered needed : List (Place × Digest)) (are : AreCovered H n ts leaves hashes covered) (long : length hashes ≡ length (need n ts))
      (is : needed ≡ paired (need n ts) hashes) where
    places_needed : places_in needed ≡ need n ts
    places_needed = ap places_in is ∙ places-paired (need n ts) hashes long

    covered_has : (m : ℕ) → m < length covered → has_place (places_in covered) (pair_at covered m).0.row (pair_at covered m).0.off ≡ true
    covered_has m lt =
        let none : Place × Digest = (record { row = 0; off = 0 }, record { 0 = [] }) in
        let l = length-map covered (λ (h : Place × Digest). h.0) in
        subst (λ (p : Place). has_place (places_in covered) p.row p.off ≡ true) (get_or-map (λ (h : Place × Digest). h.0) covered m none)
        (has_at (places_in covered) m none.0 (omega (arith, lt, l)))

    covered_sound : AllByRecursion (IsHeld n at) covered
    covered_sound = all_from (IsHeld n at) covered (λ m lt.
        let p = (pair_at covered m).0 in
        let h = covered_has m lt in
        let within = are.cover_is.within p.row p.off h in
        let c = some_from_test (cover ts p.row p.off) (sym (are.cover_is.covered p within) ∙ h) in
        (within, at_cover p c.0 c.1 ∙ ap (λ (d : Digest). let o : Option Digest = Some d in o) (sym (are.digests m c.0 lt c.1))))

    needed_sound : AllByRecursion (IsHeld n at) needed
    needed_sound = subst (AllByRecursion (IsHeld n at)) (sym is)
        (all_weaker (IsBeside (H []) (need n ts) hashes) (IsHeld n at) (paired (need n ts) hashes) (λ h b.
        let w = need_had n ts h.0.row h.0.off b.0 in (
          w.0,
          at_needed h.0 w.1 ∙ ap (λ (d : Digest). let o : Option Digest = Some d in
              o) (ap (λ l. beside (H []) l hashes h.0.row h.0.off) (asked_all n ts) ∙ b.1),
        ))
        (paired-beside (H []) (need n ts) hashes (distinct_from_ascending (need n ts) (need_ascending n ts)) long))

    held_are : AreHeld n at (merged covered needed)
    held_are = record {
      ascending = merged-ascends covered needed (ascending_from_rises n (places_in covered) are.cover_is.within are.cover_is.rises)
          (subst IsAscending (sym places_needed) (need_ascending n ts)) (λ r o h k.
          let within = are.cover_is.within r o h in
          let w = need_had n ts r o (ap (λ ps. has_place ps r o) (sym places_needed) ∙ k) in
          let some : is_some (cover ts r o) ≡ true = sym (are.cover_is.covered (place r o) within) ∙ h in
          false≢true (ap is_some (sym (bare n ts (place r o) w.1)) ∙ some));
      sound = merged-all (IsHeld n at) covered needed covered_sound needed_sound;
      all = λ p d within e. merged-has covered needed p.row p.off (told p d within e (cover ts p.row p.off) refl);
    }
      where
        told : (p : Place) (d : Digest) → InForest n p.row p.off → at p ≡ Some d → (x : Option Cover) → cover ts p.row p.off ≡ x
            → (has_place (places_in covered) p.row p.off ≡ true) ⊎ (has_place (places_in needed) p.row p.off ≡ true)
        told p d within e (Some c) f = inl (are.cover_is.covered p within ∙ ap is_some f)
        told p d within e None f =
            ⊎_elim
            (λ needs. inr (ap (λ ps. has_place ps p.row p.off) places_needed ∙ need_has n ts p.row p.off within needs))
            (λ other. absurd (none-some d (sym (at_other p f other) ∙ e)))
            (cases_Bool (is_needed n ts p))

-- the covered places and the needed ones as one list are what is told
pub told_are : (H : List ℕ → Digest) (n : ℕ) (ts : List Place) (leaves hashes : List Digest) (items : List CoveredPlace)
    → AreEvaluatedAt H n ts leaves hashes items → length hashes ≡ length (need n ts)
    → merged (map told_pair items) (paired (need n ts) hashes) ≡ told_list n (told_at H n ts leaves hashes)
told_are H n ts leaves hashes items are long =
    listed n (told_at H n ts leaves hashes) (merged (map told_pair items) (paired (need n ts) hashes))
    (held_are H n ts leaves hashes (map told_pair items) (paired (need n ts) hashes) (covered_from H n ts leaves hashes items are) long refl)

-- ---- beside a history

pub kept_same : (place_of : ℕ → Option Place) (scripts : List (List ℕ)) (i : ℕ) (us : History)
    → somes (map place_of (kept_from i scripts us)) ≡ places_of (kept_entries place_of scripts i us)
kept_same place_of scripts i [] = refl
kept_same place_of scripts i (u ∷ us) =
    subst (λ (x : Option Place). somes (map place_of (kept_from i scripts (u ∷ us))) ≡ places_of (cons_option (kept_entry scripts i x u) others)) refl
    (by_place (place_of i) refl u (kept_same place_of scripts (suc i) us))
  where
    ks : List ℕ
    ks = kept_from (suc i) scripts us

    others : List StoredEntry
    others = kept_entries place_of scripts (suc i) us

    skipped : (b : Bool) → place_of i ≡ None → somes (map place_of (cond b (i ∷ ks) ks)) ≡ somes (map place_of ks)
    skipped true e = rw e refl
    skipped false e = refl

    taken : (p : Place) (leaf : Leaf) (b : Bool) → place_of i ≡ Some p → somes (map place_of ks) ≡ places_of others
        → somes (map place_of (cond b (i ∷ ks) ks))
        ≡ places_of (cons_option (cond b (Some (record { number = i; place = p; leaf = leaf })) None) others)
    taken p leaf true e rest = rw e (ap (λ ps. p ∷ ps) rest)
    taken p leaf false e rest = rest

    by_place : (q : Option Place) → place_of i ≡ q → (v : Option Leaf) → somes (map place_of ks) ≡ places_of others
        → somes (map place_of (cond (is_watched scripts v) (i ∷ ks) ks)) ≡ places_of (cons_option (kept_entry scripts i q v) others)
    by_place None e v rest = skipped (is_watched scripts v) e ∙ rest
    by_place (Some p) e None rest = rest
    by_place (Some p) e (Some leaf) rest = taken p leaf (is_watched scripts (Some leaf)) e rest

by_known : (f : Cover → Digest) (x : Option Cover) (b : Bool) (d : Digest) (o : Option Digest) → ((c : Cover) → x ≡ Some c → o ≡ Some (f c))
    → (x ≡ None → b ≡ true → o ≡ Some d) → told_by f (cond b (Some d) None) x ≡ cond (is_some x || b) o None
by_known f (Some c) b d o cov need = sym (cov c refl)
by_known f None true d o cov need = sym (need refl refl)
by_known f None false d o cov need = refl

pub held_is_known : HeldIsKnown
held_is_known = λ H scripts l p within.
    let us = l.history in
    let es = entries H leaf_text us in
    let kept = level_kept H scripts us in
    let ts = places_of kept in
    let stand : AreKeptAt H scripts us 0 kept = all_kept H scripts us 0 us (λ k. ap (λ n. get_or us n None) (let z : k ≡ 0 + k = omega arith in z)) in
    let hashes = digests_at H es (need (length es) ts) in
    let leaves = map (λ leaf. H (leaf_text leaf)) (leaves_of kept) in
    let there : map Some hashes ≡ map (λ q. digest_at H es q.row q.off) (asked (length es) ts nothing_known) =
    subst (λ ps. map Some (digests_at H es (need (length es) ts)) ≡ map (λ q. digest_at H es q.row q.off) ps) (sym (asked_all (length es) ts))
    (subst (λ ps. map Some (digests_at H es ps) ≡ map (λ q. digest_at H es q.row q.off) ps) (asked_all (length es) ts)
    (hashes_there H es ts nothing_known (λ r o h w. target_stands H scripts us 0 kept stand r o h))) in
    let shown : map Some leaves ≡ map (λ q. digest_at H es q.row q.off) ts = leaves_shown H scripts us kept stand.each in
    let told = by_known (evaluation H (length es) ts nothing_known leaves hashes) (cover ts p.row p.off) (is_needed (length es) ts p)
    (hash_of H (length es) ts nothing_known hashes p.row p.off) (digest_at H es p.row p.off)
    (λ c e. computed_at H es ts nothing_known leaves hashes shown (λ r o d h. absurd (none-some d h)) there p.row p.off c within e)
    (λ none needed. sym (hash_right H es ts nothing_known hashes (λ r o d h. absurd (none-some d h)) there p.row p.off within needed)) in
    told ∙ ap₂ (λ (n : ℕ) (qs : List Place). cond (is_known n qs p) (digest_at H es p.row p.off) None)
    (length-map us (option_map (λ r. H (leaf_text r)))) (sym (kept_same (entry_place es) scripts 0 us))
