-- A cache that stands for a history is stored as that history is, and is read back.
use Rattle.std.proofs.Common.{◌≡◌, ℕ, suc, ◌+◌, ◌<◌, ◌^◌, Bool, true, false, cond, List, [], ◌∷◌, map, length, get_or, Option, Some, None, refl, sym}
use Rattle.std.proofs.Common.{ap, ap₂, ◌∙◌, subst, arith, ⊎_elim}
use Rattle.std.specs.Prelude.{filter_map, option_map, is_some}
use Rattle.std.specs.List.{AllByRecursion, AllZip, cons_option}
use Rattle.std.proofs.lemmas.Bool.{cases_Bool, or_right}
use Rattle.std.proofs.lemmas.List.{length-map}
use Rattle.uo_digest.specs.declared.digest.Digest.{Digest}
use Rattle.leaf_record.specs.Leaf.{Leaf, leaf_text}
use Rattle.leaf_record.specs.History.{somes, History}
use Rattle.forest_place.specs.declared.place.Place.{Place}
use Rattle.forest_place.specs.Places.{has_place, places}
use Rattle.forest_place.proofs.Listed.{place, places_had}
use Rattle.forest_model.specs.Standing.{digest_at}
use Rattle.forest_model.specs.EntryPlace.{entry_place}
use Rattle.forest_model.specs.Cover.{cover, is_needed, need}
use Rattle.forest_model.specs.Right.{entries}
use Rattle.forest_model.proofs.Lists.{need_had}
use Rattle.forest_roots.specs.Stump.{Stump, IsStump}
use Rattle.forest_roots.proofs.One.{one_stump}
use Rattle.cache_model.specs.declared.kept.Kept.{Kept}
use Rattle.cache_model.specs.Known.{is_watched, kept, kept_from, is_known, kept_places}
use Rattle.cache_model.specs.Cache.{look, held, held_at}
use Rattle.cache_model.specs.Lists.{kept_leaf, kept_leaf_of, kept_leaves}
use Rattle.cache_model.proofs.Histories.{known_is}
use Rattle.cache_model.proofs.Tables.{filter_map-at}
use Rattle.node_rules.specs.Machine.{Level}
use Rattle.state_text.specs.declared.entry.StoredEntry.{StoredEntry}
use Rattle.state_text.specs.Stored.{LevelValue, StateValue, places_of}
use Rattle.state_text.specs.OfHistory.{stump_of, kept_entry, kept_entries, level_kept, digests_at, level_of}
use Rattle.state_text.specs.Told.{told_list, level_tells}
use Rattle.state_text.specs.Cached.{CachedLevel, entry_of, level_in, IsFilled, StandsForLevel, StandingIsStored, StoredIsStanding}
use Rattle.state_text.proofs.LevelLaws.{is_stump, stump_slot}
use Rattle.state_text.proofs.Holding.{kept_same, held_is_known}
use Rattle.state_text.proofs.Filling.{one_filling}

-- ---- the kept entries

module _ (H : List ℕ → Digest) (scripts : List (List ℕ)) (us : History) where
  abbrev es : List (Option Digest)
  es = entries H leaf_text us

  -- those from entry i on
  pub entries_from : (i : ℕ) (vs : History) → ((k : ℕ) → get_or vs k None ≡ get_or us (i + k) None)
      → map entry_of (filter_map (kept_leaf H us) (kept_from i scripts vs)) ≡ kept_entries (entry_place es) scripts i vs
  entries_from i [] at = refl
  entries_from i (v ∷ vs) at =
      let rest = entries_from (suc i) vs (λ k. at (suc k) ∙ ap (λ n. get_or us n None) (let z : i + suc k ≡ suc i + k = omega arith in z)) in
      by_entry v (at 0 ∙ ap (λ n. get_or us n None) (let z : i + 0 ≡ i = omega arith in z)) rest
    where
      by_place : (leaf : Leaf) → Some leaf ≡ get_or us i None → (q : Option Place) → entry_place es i ≡ q
          → map entry_of (filter_map (kept_leaf H us) (kept_from (suc i) scripts vs)) ≡ kept_entries (entry_place es) scripts (suc i) vs
          → is_watched scripts (Some leaf) ≡ true
          → map entry_of (filter_map (kept_leaf H us) (i ∷ kept_from (suc i) scripts vs))
          ≡ cons_option (kept_entry scripts i q (Some leaf)) (kept_entries (entry_place es) scripts (suc i) vs)
      by_place leaf e None f rest t = rw (← e, f) rest
      by_place leaf e (Some p) f rest t = rw (← e, f, t) (ap (λ xs. record { number = i; place = p; leaf = leaf } ∷ xs) rest)

      none_kept : (leaf : Leaf) (q : Option Place) → is_watched scripts (Some leaf) ≡ false → kept_entry scripts i q (Some leaf) ≡ None
      none_kept leaf None t = refl
      none_kept leaf (Some p) t = rw t refl

      none_spent : (q : Option Place) → kept_entry scripts i q None ≡ None
      none_spent None = refl
      none_spent (Some p) = refl

      by_entry : (u : Option Leaf) → u ≡ get_or us i None → map entry_of (filter_map (kept_leaf H us) (kept_from (suc i) scripts vs))
          ≡ kept_entries (entry_place es) scripts (suc i) vs
          → map entry_of (filter_map (kept_leaf H us) (cond (is_watched scripts u) (i ∷ kept_from (suc i) scripts vs)
          (kept_from (suc i) scripts vs))) ≡ cons_option (kept_entry scripts i (entry_place es i) u)
          (kept_entries (entry_place es) scripts (suc i) vs)
      by_entry None e rest = rw (none_spent (entry_place es i)) rest
      by_entry (Some leaf) e rest =
          ⊎_elim
          (λ t. rw t (by_place leaf e (entry_place es i) refl rest t))
          (λ t. ap (λ b. map entry_of (filter_map (kept_leaf H us)
          (cond b (i ∷ kept_from (suc i) scripts vs) (kept_from (suc i) scripts vs)))) t
          ∙ (rest ∙ sym (ap (λ x. cons_option x (kept_entries (entry_place es) scripts (suc i) vs)) (none_kept leaf (entry_place es i) t))))
          (cases_Bool (is_watched scripts (Some leaf)))

  pub same_entries : map entry_of (kept_leaves H scripts us) ≡ level_kept H scripts us
  same_entries = entries_from 0 us (λ k. ap (λ n. get_or us n None) (let z : k ≡ 0 + k = omega arith in z))

  leaf_digests : (ns : List ℕ) → map (λ k. k.digest) (filter_map (kept_leaf H us) ns)
      ≡ map (λ k. H (leaf_text k.leaf)) (filter_map (kept_leaf H us) ns)
  leaf_digests [] = refl
  leaf_digests (i ∷ ns) = by_one (get_or us i None) (entry_place es i) (leaf_digests ns)
    where
      by_one : (u : Option Leaf) (q : Option Place) → map (λ k. k.digest) (filter_map (kept_leaf H us) ns)
          ≡ map (λ k. H (leaf_text k.leaf)) (filter_map (kept_leaf H us) ns)
          → map (λ k. k.digest) (cons_option (kept_leaf_of (λ leaf. H (leaf_text leaf)) i u q) (filter_map (kept_leaf H us) ns))
          ≡ map (λ k. H (leaf_text k.leaf)) (cons_option (kept_leaf_of (λ leaf. H (leaf_text leaf)) i u q)
          (filter_map (kept_leaf H us) ns))
      by_one None q rest = rest
      by_one (Some leaf) None rest = rest
      by_one (Some leaf) (Some p) rest = ap (λ ds. H (leaf_text leaf) ∷ ds) rest

-- ---- the digests

as_somes : (g : Place → Option Digest) (qs : List Place) → filter_map g qs ≡ somes (map g qs)
as_somes g [] = refl
as_somes g (q ∷ qs) = by_one (g q) refl (as_somes g qs)
  where
    by_one : (x : Option Digest) → g q ≡ x → filter_map g qs ≡ somes (map g qs) → filter_map g (q ∷ qs) ≡ somes (map g (q ∷ qs))
    by_one None e rest = rw e rest
    by_one (Some d) e rest = rw e (ap (λ ds. d ∷ ds) rest)

map_at : (f g : Place → Option Digest) (ps : List Place) → ((r o : ℕ) → has_place ps r o ≡ true → f (place r o) ≡ g (place r o))
    → filter_map f ps ≡ somes (map g ps)
map_at f g ps h = filter_map-at f g ps h ∙ as_somes g ps

module _ (H : List ℕ → Digest) (scripts : List (List ℕ)) (c : CachedLevel) (l : Level) (stump : IsStump c.roots)
    (s : StandsForLevel H scripts c l) where
  abbrev us' : History
  us' = l.history

  abbrev hist : List (Option Digest)
  hist = entries H leaf_text l.history

  abbrev ts : List Place
  ts = places_of (level_kept H scripts l.history)

  count : length hist ≡ length l.history
  count = length-map l.history (option_map (λ r. H (leaf_text r)))

  few : length hist < 2 ^ 40
  few = omega (arith, stump.few, s.roots.leaves)

  roots_are : c.roots ≡ stump_of H hist
  roots_are = one_stump H hist c.roots (stump_of H hist) stump (is_stump H hist few) s.roots
      (record { leaves = refl; roots = λ row slot. stump_slot H hist row few slot })

  kept_are : map entry_of c.kept ≡ level_kept H scripts l.history
  kept_are = ap (map entry_of) s.cache.of_kept ∙ same_entries H scripts l.history

  ts_are : kept_places H scripts l.history ≡ ts
  ts_are = kept_same (entry_place hist) scripts 0 l.history

  at_needed : (r o : ℕ) → has_place (need (length hist) ts) r o ≡ true → look c.held r o ≡ digest_at H hist r o
  at_needed r o h =
      let w = need_had (length hist) ts r o h in
      let needed : is_needed (length l.history) (kept_places H scripts l.history) (place r o) ≡ true =
      ap₂ (λ (n : ℕ) (qs : List Place). is_needed n qs (place r o)) (sym count) ts_are ∙ w.1 in
      let known : is_known (length l.history) (kept_places H scripts l.history) (place r o) ≡ true =
      or_right (is_some (cover (kept_places H scripts l.history) r o)) _ needed in
      known_is H scripts l.history c.kept c.held s.cache r o ∙ rw known refl

  hashes_are : filter_map (λ p. look c.held p.row p.off) (need (length hist) ts) ≡ digests_at H hist (need (length hist) ts)
  hashes_are = map_at (λ p. look c.held p.row p.off) (λ p. digest_at H hist p.row p.off) (need (length hist) ts) at_needed

  pub same_level : level_in c ≡ level_of H scripts l
  same_level =
      let hashes : (level_in c).hashes ≡ digests_at H hist (need (length hist) ts) =
      ap₂ (λ (n : ℕ) (ks : List StoredEntry). filter_map (λ p. look c.held p.row p.off) (need n (places_of ks))) s.roots.leaves kept_are
      ∙ hashes_are in
      let value = λ (tip : Digest) (f : Stump) (ks : List StoredEntry) (hs : List Digest). let v : LevelValue =
      record { tip = tip; roots = f; kept = ks; hashes = hs } in v in
      ap (λ (d : Digest). value d c.roots (map entry_of c.kept) (level_in c).hashes) s.tip
      ∙ (ap (λ (f : Stump). value l.tip f (map entry_of c.kept) (level_in c).hashes) roots_are
      ∙ ap₂ (value l.tip (stump_of H hist)) kept_are hashes)

  held_here : (r o : ℕ) → has_place (places (length hist)) r o ≡ true
      → held_at (digest_at H hist) (length hist) (kept_places H scripts l.history) (place r o)
      ≡ option_map (λ d. (place r o, d)) (level_tells H (level_of H scripts l) (place r o))
  held_here r o h =
      let within = places_had (length hist) r o h in
      let told = held_is_known H scripts l (place r o) within in
      by_known (is_known (length hist) (kept_places H scripts l.history) (place r o)) refl
      (told ∙ ap (λ n. cond (is_known n (kept_places H scripts l.history) (place r o)) (digest_at H hist r o) None) (sym count))
    where
      by_known : (b : Bool) → is_known (length hist) (kept_places H scripts l.history) (place r o) ≡ b
          → level_tells H (level_of H scripts l) (place r o) ≡ cond (is_known (length hist) (kept_places H scripts l.history) (place r o))
          (digest_at H hist r o) None
          → held_at (digest_at H hist) (length hist) (kept_places H scripts l.history) (place r o)
          ≡ option_map (λ d. (place r o, d)) (level_tells H (level_of H scripts l) (place r o))
      by_known true e told = rw (told, e) refl
      by_known false e told = rw (told, e) refl

  pub is_filled : IsFilled H c
  is_filled = record {
    digests = subst (λ (ks : List Kept). map (λ k. k.digest) ks ≡ map (λ k. H (leaf_text k.leaf)) ks) (sym s.cache.of_kept)
        (leaf_digests H scripts l.history (kept scripts l.history));
    held =
        s.cache.of_held
        ∙ (filter_map-at (held_at (digest_at H hist) (length hist) (kept_places H scripts l.history))
        (λ p. option_map (λ d. (p, d)) (level_tells H (level_of H scripts l) p)) (places (length hist)) held_here
        ∙ ap₂ (λ (n : ℕ) (v : LevelValue). told_list n (level_tells H v)) (sym s.roots.leaves) (sym same_level));
  }

pub standing_is_stored : StandingIsStored
standing_is_stored = λ H scripts c l stump s. (same_level H scripts c l stump s, is_filled H scripts c l stump s)

-- ---- read again

-- the lists that stand for a level
module _ (H : List ℕ → Digest) (scripts : List (List ℕ)) where
  abbrev cached_of : Level → CachedLevel
  cached_of l = record {
    tip = l.tip;
    roots = stump_of H (entries H leaf_text l.history);
    kept = kept_leaves H scripts l.history;
    held = held H (entries H leaf_text l.history) (kept_places H scripts l.history);
  }

  stands : (l : Level) → length l.history < 2 ^ 40 → IsStump (cached_of l).roots × StandsForLevel H scripts (cached_of l) l
  stands l small =
      let es' = entries H leaf_text l.history in
      let few' : length es' < 2 ^ 40 = omega (arith, small, length-map l.history (option_map (λ r. H (leaf_text r)))) in (
        is_stump H es' few',
        record {
          tip = refl;
          roots = record { leaves = refl; roots = λ row slot. stump_slot H es' row few' slot };
          cache =
              record { of_kept = refl; of_held = refl };
        },
      )

  one_read : (c : CachedLevel) (l : Level) → length l.history < 2 ^ 40 → level_in c ≡ level_of H scripts l → IsFilled H c
      → StandsForLevel H scripts c l
  one_read c l small e filled =
      let w = stands l small in
      let v = standing_is_stored H scripts (cached_of l) l w.0 w.1 in
      subst (λ (d : CachedLevel). StandsForLevel H scripts d l) (one_filling H (cached_of l) c v.1 filled (v.0 ∙ sym e)) w.1

  all_read : (cs : List CachedLevel) (ls : List Level) → AllByRecursion (λ l. length l.history < 2 ^ 40) ls
      → map level_in cs ≡ map (level_of H scripts) ls → AllByRecursion (IsFilled H) cs → AllZip (StandsForLevel H scripts) cs ls
  all_read [] [] small e filled = tt
  all_read [] (l ∷ ls) small e filled = absurd (omega (arith, ap length e))
  all_read (c ∷ cs) [] small e filled = absurd (omega (arith, ap length e))
  all_read (c ∷ cs) (l ∷ ls) small e filled =
      let first : level_in c ≡ level_of H scripts l = cc in
      let others : map level_in cs ≡ map (level_of H scripts) ls = cc in
      (one_read c l small.0 first filled.0, all_read cs ls small.1 others filled.1)

pub stored_is_standing : StoredIsStanding
stored_is_standing = λ H net scripts s c small e filled. all_read H scripts c.levels (s.now ∷ s.older) small (ap (λ (v : StateValue). v.levels) e)
    filled
