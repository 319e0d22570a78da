-- The kept entries of a history: where they stand, and that their places have shape.
use Rattle.std.proofs.Common.{◌≡◌, ℕ, zero, suc, ◌+◌, ◌-◌, ◌/◌, ◌^◌, ◌<◌, ◌≤◌, true, List, [], ◌∷◌, map, length, get_or, Option, Some, None, refl}
use Rattle.std.proofs.Common.{sym, ap, ap₂, ◌∙◌, subst, arith, ⊎_elim}
use Rattle.std.specs.Prelude.{option_map, slice_get, nat_lt, ◌==◌}
use Rattle.std.specs.List.{AllByRecursion, cons_option}
use Rattle.std.proofs.lemmas.Bool.{cases_Bool, false≢true, or_cases, and_parts, false_from_ne_true, ltb-true, eqb-true}
use Rattle.std.proofs.lemmas.Option.{none-some, same_Some}
use Rattle.std.proofs.lemmas.List.{length-map}
use Rattle.uo_digest.specs.declared.digest.Digest.{Digest}
use Rattle.leaf_record.specs.Leaf.{Leaf, leaf_text}
use Rattle.leaf_record.specs.History.{History}
use Rattle.forest_place.specs.declared.place.Place.{Place}
use Rattle.forest_place.specs.Places.{is_at, has_place, IsDistinct}
use Rattle.forest_place.proofs.Listed.{place, same_from_is_at}
use Rattle.forest_model.specs.Content.{Tree, leaf, digest_of}
use Rattle.forest_model.specs.Standing.{tree_at, digest_at}
use Rattle.forest_model.specs.EntryPlace.{entry_place}
use Rattle.forest_model.specs.Cover.{HasShape, is_above}
use Rattle.forest_model.specs.Right.{entries}
use Rattle.forest_model.proofs.Climbs.{tree_at-forest, nothing_beneath}
use Rattle.forest_model.proofs.Living.{entry_found}
use Rattle.cache_model.specs.Known.{is_watched}
use Rattle.node_rules.proofs.Righting.{got_entry}
use Rattle.node_rules.proofs.Fitting.{record_fits}
use Rattle.node_rules.specs.Fitting.{HistoryFits}
use Rattle.state_text.specs.declared.entry.StoredEntry.{StoredEntry}
use Rattle.state_text.specs.Stored.{places_of, leaves_of}
use Rattle.state_text.specs.Fits.{NumbersRise, IsKept, EntryFits}
use Rattle.state_text.specs.OfHistory.{kept_entry, kept_entries}

module _ (H : List ℕ → Digest) (scripts : List (List ℕ)) (us : History) where
  abbrev pub es : List (Option Digest)
  es = entries H leaf_text us

  pub same_length : length es ≡ length us
  same_length = length-map us (option_map (λ r. H (leaf_text r)))

  -- what holds of a kept entry
  pub record IsKeptAt (e : StoredEntry) : Type 0 where
    pub live : slice_get us e.number ≡ Some (Some e.leaf)
    pub stands : tree_at es e.place.row e.place.off ≡ Some (leaf e.number (H (leaf_text e.leaf)))
    pub below : e.number < length us
    pub watched : is_watched scripts (Some e.leaf) ≡ true

  -- those from entry i on
  pub record AreKeptAt (i : ℕ) (kept : List StoredEntry) : Type 0 where
    pub rise : NumbersRise i kept
    pub each : AllByRecursion IsKeptAt kept

  lower : (i j : ℕ) (kept : List StoredEntry) → i ≤ j → NumbersRise j kept → NumbersRise i kept
  lower i j [] le h = tt
  lower i j (e ∷ es) le h = (omega (arith, le, h.0), h.1)

  more : (i : ℕ) (kept : List StoredEntry) → AreKeptAt (suc i) kept → AreKeptAt i kept
  more i kept a = record { rise = lower i (suc i) kept (omega arith) a.rise; each = a.each }

  got : (vs : History) (k : ℕ) (r : Leaf) → get_or vs k None ≡ Some r → slice_get vs k ≡ Some (Some r)
  got [] k r e = absurd (none-some r e)
  got (v ∷ vs) zero r e = ap (λ (x : Option Leaf). let y : Option (Option Leaf) = Some x in y) e
  got (v ∷ vs) (suc k) r e = got vs k r e

  live_below : (vs : History) (k : ℕ) (r : Leaf) → get_or vs k None ≡ Some r → k < length vs
  live_below [] k r e = absurd (none-some r e)
  live_below (v ∷ vs) zero r e = omega arith
  live_below (v ∷ vs) (suc k) r e = let b = live_below vs k r e in omega (arith, b)

  kept_here : (i : ℕ) (p : Place) (r : Leaf) → get_or us i None ≡ Some r → entry_place es i ≡ Some p → is_watched scripts (Some r) ≡ true
      → IsKeptAt (record { number = i; place = p; leaf = r })
  kept_here i p r live at watched =
      let d : get_or es i None ≡ Some (H (leaf_text r)) = got_entry (λ x. H (leaf_text x)) us i ∙ ap (option_map (λ x. H (leaf_text x))) live in
      let w = entry_found es i (H (leaf_text r)) d in
      let same : w.0 ≡ p = same_Some w.0 p (sym w.1 ∙ at) in
      record {
        live = got us i r live;
        stands = subst (λ (q : Place). tree_at es q.row q.off ≡ Some (leaf i (H (leaf_text r)))) same w.2;
        below = live_below us i r live;
        watched = watched;
      }

  pub all_kept : (i : ℕ) (vs : History) → ((k : ℕ) → get_or vs k None ≡ get_or us (i + k) None)
      → AreKeptAt i (kept_entries (entry_place es) scripts i vs)
  all_kept i [] at = record { rise = tt; each = tt }
  all_kept i (v ∷ vs) at =
      let rest = all_kept (suc i) vs (λ k. at (suc k) ∙ ap (λ n. get_or us n None) (let z : i + suc k ≡ suc i + k = omega arith in z)) in
      by_place (entry_place es i) refl v (at 0 ∙ ap (λ n. get_or us n None) (let z : i + 0 ≡ i = omega arith in z)) rest
    where
      by_place : (q : Option Place) → entry_place es i ≡ q → (u : Option Leaf) → u ≡ get_or us i None
          → AreKeptAt (suc i) (kept_entries (entry_place es) scripts (suc i) vs)
          → AreKeptAt i (cons_option (kept_entry scripts i q u) (kept_entries (entry_place es) scripts (suc i) vs))
      by_place None e u f rest = more i _ rest
      by_place (Some p) e None f rest = more i _ rest
      by_place (Some p) e (Some r) f rest =
          ⊎_elim
          (λ watched. rw watched (record { rise = (omega arith, rest.rise); each = (kept_here i p r (sym f) e watched, rest.each) }))
          (λ other. rw other (more i _ rest))
          (cases_Bool (is_watched scripts (Some r)))

  -- ---- the entry at a place

  pub record IsOneOf (from : ℕ) (r o : ℕ) : Type 0 where
    pub entry : StoredEntry
    pub from_on : from ≤ entry.number
    pub is : IsKeptAt entry
    pub row : entry.place.row ≡ r
    pub off : entry.place.off ≡ o

  pub one_of : (i : ℕ) (kept : List StoredEntry) → AreKeptAt i kept → (r o : ℕ) → has_place (places_of kept) r o ≡ true → IsOneOf i r o
  one_of i [] a r o h = absurd (false≢true h)
  one_of i (e ∷ kept) a r o h =
      ⊎_elim
      (λ here. let same = same_from_is_at r o e.place here in
      record { entry = e; from_on = a.rise.0; is = a.each.0; row = ap (λ p. p.row) same; off = ap (λ p. p.off) same })
      (λ there.
      let w = one_of (suc e.number) kept (record { rise = a.rise.1; each = a.each.1 }) r o there in
      record { entry = w.entry; from_on = omega (arith, a.rise.0, w.from_on); is = w.is; row = w.row; off = w.off })
      (or_cases (is_at r o e.place) (has_place (places_of kept) r o) h)

  stands_at : (i r o : ℕ) (w : IsOneOf i r o) → tree_at es r o ≡ Some (leaf w.entry.number (H (leaf_text w.entry.leaf)))
  stands_at i r o w = ap₂ (tree_at es) (sym w.row) (sym w.off) ∙ w.is.stands

  distinct : (i : ℕ) (kept : List StoredEntry) → AreKeptAt i kept → IsDistinct (places_of kept)
  distinct i [] a = tt
  distinct i (e ∷ kept) a =
      let rest : AreKeptAt (suc e.number) kept = record { rise = a.rise.1; each = a.each.1 } in (
        false_from_ne_true (has_place (places_of kept) e.place.row e.place.off) (λ again.
            let w = one_of (suc e.number) kept rest e.place.row e.place.off again in
            let same : Some (leaf e.number (H (leaf_text e.leaf))) ≡ Some (leaf w.entry.number (H (leaf_text w.entry.leaf))) =
            sym a.each.0.stands ∙ stands_at (suc e.number) e.place.row e.place.off w in
            let n : e.number ≡ w.entry.number = cc in
            omega (arith, n, w.from_on)),
        distinct (suc e.number) kept rest,
      )

  pub shape : (i : ℕ) (kept : List StoredEntry) → AreKeptAt i kept → HasShape (length es) (places_of kept)
  shape i kept a = record {
    within = λ p h. let w = one_of i kept a p.row p.off h in tree_at-forest es p.row p.off _ (stands_at i p.row p.off w);
    distinct = distinct i kept a;
    apart = λ p q hp hq. false_from_ne_true (is_above p q) (λ above.
        let both = and_parts (nat_lt q.row p.row) (q.off / 2 ^ (p.row - q.row) == p.off) above in
        let lt : q.row < p.row = ltb-true _ _ both.0 in
        let at : q.off / 2 ^ (p.row - q.row) ≡ p.off = eqb-true _ _ both.1 in
        let up = one_of i kept a p.row p.off hp in
        let low = one_of i kept a q.row q.off hq in
        let k = p.row - q.row - 1 in
        let e : p.row - q.row ≡ suc k = omega arith in
        let f : p.row ≡ q.row + suc k = omega arith in
        let g : q.off / 2 ^ suc k ≡ p.off = subst (λ j. q.off / 2 ^ j ≡ p.off) e at in
        let s : tree_at es (q.row + suc k) (q.off / 2 ^ suc k) ≡ Some (leaf up.entry.number (H (leaf_text up.entry.leaf))) =
        ap₂ (tree_at es) (sym f) g ∙ stands_at i p.row p.off up in
        none-some _ (sym (nothing_beneath es k q.row q.off _ _ s) ∙ stands_at i q.row q.off low));
  }

  pub target_stands : (i : ℕ) (kept : List StoredEntry) → AreKeptAt i kept → (r o : ℕ) → has_place (places_of kept) r o ≡ true
      → (t : Tree) × (tree_at es r o ≡ Some t)
  target_stands i kept a r o h = let w = one_of i kept a r o h in (leaf w.entry.number (H (leaf_text w.entry.leaf)), stands_at i r o w)

  -- ---- lists over the kept entries

  pub leaves_shown : (kept : List StoredEntry) → AllByRecursion IsKeptAt kept
      → map Some (map (λ r. H (leaf_text r)) (leaves_of kept)) ≡ map (λ p. digest_at H es p.row p.off) (places_of kept)
  leaves_shown [] a = refl
  leaves_shown (e ∷ kept) a = ap₂ (λ x xs. x ∷ xs) (sym (ap (option_map (digest_of H)) a.0.stands)) (leaves_shown kept a.1)

  pub are_kept : (kept : List StoredEntry) → AllByRecursion IsKeptAt kept → AllByRecursion (IsKept scripts (length es)) kept
  are_kept [] a = tt
  are_kept (e ∷ kept) a = (record { below = omega (arith, a.0.below, same_length); watched = a.0.watched }, are_kept kept a.1)

  pub kept_fit : length us < 2 ^ 40 → HistoryFits us → (kept : List StoredEntry) → AllByRecursion IsKeptAt kept
      → AllByRecursion (EntryFits (length es)) kept
  kept_fit few fit [] a = tt
  kept_fit few fit (e ∷ kept) a = (
    record {
      number = omega (arith, few, a.0.below);
      place = tree_at-forest es e.place.row e.place.off _ a.0.stands;
      leaf = record_fits us fit e.number e.leaf a.0.live;
    },
    kept_fit few fit kept a.1,
  )

  kept_count : (place : ℕ → Option Place) (i : ℕ) (vs : History) → length (kept_entries place scripts i vs) ≤ length vs
  kept_count place i [] = omega arith
  kept_count place i (v ∷ vs) = by_entry (kept_entry scripts i (place i) v) (kept_count place (suc i) vs)
    where
      by_entry : (x : Option StoredEntry) → length (kept_entries place scripts (suc i) vs) ≤ length vs
          → length (cons_option x (kept_entries place scripts (suc i) vs)) ≤ suc (length vs)
      by_entry None h = omega (arith, h)
      by_entry (Some e) h = omega (arith, h)

  pub few_kept : length (kept_entries (entry_place es) scripts 0 us) ≤ length us
  few_kept = kept_count (entry_place es) 0 us
