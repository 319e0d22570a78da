-- What a node that holds every output stores is the state of a node.
use Rattle.std.proofs.Common.{◌≡◌, ℕ, zero, suc, ◌+◌, ◌-◌, ◌*◌, ◌/◌, ◌^◌, ◌<◌, ◌≤◌, true, cond, List, [], ◌∷◌, ◌++◌, map, length, get_or}
use Rattle.std.proofs.Common.{Option, Some, None, refl, sym, ap, ◌∙◌, subst, arith, ⊎_elim}
use Rattle.std.specs.Prelude.{option_map}
use Rattle.std.specs.List.{AllByRecursion, range_with_len}
use Rattle.std.proofs.lemmas.Bool.{cases_Bool, cases_lt}
use Rattle.std.proofs.lemmas.Option.{none-some, same_Some}
use Rattle.std.proofs.lemmas.List.{length-map, length-append, get_or_past}
use Rattle.std.proofs.lemmas.List.FromFn.{get_or-map-range_with_len}
use Rattle.uo_base.proofs.Lists.{filter_few}
use Rattle.uo_digest.specs.declared.digest.Digest.{Digest}
use Rattle.leaf_record.specs.Leaf.{Leaf, leaf_text}
use Rattle.leaf_record.specs.History.{somes, History}
use Rattle.leaf_record.proofs.HistoryLaws.{somes_few}
use Rattle.uo_digest.specs.Reading.{IsDigest}
use Rattle.forest_place.specs.declared.place.Place.{Place}
use Rattle.forest_place.specs.Forest.{is_slot, root_off}
use Rattle.forest_place.specs.Places.{row_places, places_from, places}
use Rattle.forest_place.proofs.Parts.{parts-suc}
use Rattle.forest_place.proofs.Positions.{slot_small}
use Rattle.forest_model.specs.Content.{Tree, leaf, inner, content, digest_of}
use Rattle.forest_model.specs.Standing.{tree_at, digest_at, root}
use Rattle.forest_model.specs.Cover.{need, is_needed}
use Rattle.forest_model.specs.Evaluation.{asked, nothing_known, IsAccepted}
use Rattle.forest_model.specs.Right.{entries}
use Rattle.forest_model.proofs.Unique.{EachLeaf, content-leaves, tree_at-leaves}
use Rattle.forest_model.proofs.Right.{root_computed}
use Rattle.forest_roots.specs.Stump.{IsStump, root_in}
use Rattle.proof_verify.proofs.Values.{asked_all}
use Rattle.node_rules.specs.Machine.{Level}
use Rattle.node_rules.proofs.Hashes.{hashes_there}
use Rattle.node_rules.proofs.Righting.{got_entry}
use Rattle.state_text.specs.declared.entry.StoredEntry.{StoredEntry}
use Rattle.forest_place.specs.Named.{version_of}
use Rattle.forest_place.proofs.NamedLaws.{one_naming}
use Rattle.state_text.specs.Stored.{StateValue, places_of, leaves_of, body_text, IsTextOf, IsOfVersion}
use Rattle.state_text.specs.Fits.{RootFits, LevelFits, ScriptFits, IsStoredLevel, IsNext, AreLevels}
use Rattle.leaf_cache.specs.Watched.{IsScript}
use Rattle.state_text.specs.OfHistory.{stump_of, level_kept, digests_at, level_of, IsChained, AreChained, HistoryHasState, OneState}
use Rattle.state_text.proofs.KeptLaws.{AreKeptAt, all_kept, shape, target_stands, leaves_shown, are_kept, kept_fit, few_kept}
use Rattle.state_text.proofs.StateFormat.{one_body}

-- ---- counts

length-row : (row k m : ℕ) → length (row_places row k m) ≡ m
length-row row k zero = refl
length-row row k (suc m) = ap suc (length-row row (suc k) m)

-- a forest has fewer than twice as many places as entries
few_from : (n k row : ℕ) → length (places_from n k row) ≤ 2 * (n / 2 ^ row)
few_from n zero row = omega arith
few_from n (suc k) row =
    let h = few_from n k (suc row) in
    let half : n / 2 ^ suc row ≡ n / 2 ^ row / 2 = parts-suc n row in
    omega (arith, length-append (row_places row 0 (n / 2 ^ row)) (places_from n k (suc row)), length-row row 0 (n / 2 ^ row), h, half)

pub few_places : (n : ℕ) → length (places n) ≤ 2 * n
few_places n = let h = few_from n n 0 in let one : n / 2 ^ 0 ≡ n = (let z : n / 1 ≡ n = omega arith in z) in omega (arith, h, one)

-- ---- digests have 32 bytes

module _ (H : List ℕ → Digest) (long : (x : List ℕ) → IsDigest (H x)) where
  tree_long : (t : Tree) → EachLeaf (λ i d. IsDigest d) t → IsDigest (digest_of H t)
  tree_long (leaf i d) e = e
  tree_long (inner l r) e = long ((digest_of H l).0 ++ (digest_of H r).0)

  each_long : (us : History) (t : Tree) → EachLeaf (λ i d. get_or (entries H leaf_text us) i None ≡ Some d) t → EachLeaf (λ i d. IsDigest d) t
  each_long us (leaf i d) e = of (get_or us i None) (sym (got_entry (λ r. H (leaf_text r)) us i) ∙ e)
    where
      of : (u : Option Leaf) → option_map (λ r. H (leaf_text r)) u ≡ Some d → IsDigest d
      of None h = absurd (none-some d h)
      of (Some r) h = subst IsDigest (same_Some _ _ h) (long (leaf_text r))
  each_long us (inner l r) e = (each_long us l e.0, each_long us r e.1)

  tree_fits : (us : History) (x : Option Tree) → ((t : Tree) → x ≡ Some t → EachLeaf (λ i d. get_or (entries H leaf_text us) i None ≡ Some d) t)
      → RootFits (option_map (digest_of H) x)
  tree_fits us None h = tt
  tree_fits us (Some t) h = tree_long t (each_long us t (h t refl))

  digest_fits : (us : History) (row off : ℕ) → RootFits (digest_at H (entries H leaf_text us) row off)
  digest_fits us row off = tree_fits us (tree_at (entries H leaf_text us) row off) (λ t e. tree_at-leaves (entries H leaf_text us) row off t e)

  root_fits : (us : History) (row : ℕ) → RootFits (root H (entries H leaf_text us) row)
  root_fits us row = let es = entries H leaf_text us in
      tree_fits us (content es row (root_off (length es) row)) (λ t e. content-leaves es row (root_off (length es) row) t e)

  somes_fit : (us : History) (ps : List Place) → AllByRecursion IsDigest (digests_at H (entries H leaf_text us) ps)
  somes_fit us [] = tt
  somes_fit us (p ∷ ps) = of (digest_at H (entries H leaf_text us) p.row p.off) (digest_fits us p.row p.off) (somes_fit us ps)
    where
      of : (d : Option Digest) → RootFits d → AllByRecursion IsDigest (digests_at H (entries H leaf_text us) ps)
          → AllByRecursion IsDigest (somes (d ∷ map (λ q. digest_at H (entries H leaf_text us) q.row q.off) ps))
      of None f rest = rest
      of (Some d) f rest = (f, rest)

-- ---- the roots

root_if : (List ℕ → Digest) → List (Option Digest) → ℕ → Option Digest
root_if H es row = cond (is_slot (length es) row) (root H es row) None

stump_row : (H : List ℕ → Digest) (es : List (Option Digest)) (row : ℕ) → row < 40
    → root_in (stump_of H es) row ≡ cond (is_slot (length es) row) (root H es row) None
stump_row H es row lt = get_or-map-range_with_len (λ r. cond (is_slot (length es) r) (root H es r) None) 0 40 row row None lt (omega arith)

stump_past : (H : List ℕ → Digest) (es : List (Option Digest)) (row : ℕ) → 40 ≤ row → root_in (stump_of H es) row ≡ None
stump_past H es row le = get_or_past (stump_of H es).rows row None
    (omega (arith, length-map (range_with_len 0 40) (λ r. cond (is_slot (length es) r) (root H es r) None), le))

pub is_stump : (H : List ℕ → Digest) (es : List (Option Digest)) → length es < 2 ^ 40 → IsStump (stump_of H es)
is_stump H es few = record {
  few = few;
  forty = length-map (range_with_len 0 40) (λ r. cond (is_slot (length es) r) (root H es r) None);
  bare = λ row none. ⊎_elim (λ lt. stump_row H es row lt ∙ rw none refl) (λ ge. stump_past H es row ge) (cases_lt row 40);
}

pub stump_slot : (H : List ℕ → Digest) (es : List (Option Digest)) (row : ℕ) → length es < 2 ^ 40 → is_slot (length es) row ≡ true
    → root_in (stump_of H es) row ≡ root H es row
stump_slot H es row few slot = stump_row H es row (slot_small (length es) row 40 slot few) ∙ rw slot refl

-- ---- a level

module _ (H : List ℕ → Digest) (long : (x : List ℕ) → IsDigest (H x)) (scripts : List (List ℕ)) (l : Level) (blocks most : ℕ) (few : most < 2 ^ 40)
    (c : IsChained blocks most l) where
  abbrev us : History
  us = l.history

  abbrev es : List (Option Digest)
  es = entries H leaf_text us

  abbrev kept : List StoredEntry
  kept = level_kept H scripts us

  same_length : length es ≡ length us
  same_length = length-map us (option_map (λ r. H (leaf_text r)))

  stand : AreKeptAt H scripts us 0 kept
  stand = all_kept H scripts us 0 us (λ k. ap (λ n. get_or us n None) (let z : k ≡ 0 + k = omega arith in z))

  abbrev ts : List Place
  ts = places_of kept

  abbrev hashes : List Digest
  hashes = digests_at H es (need (length es) ts)

  there : map Some hashes ≡ map (λ p. digest_at H es p.row p.off) (need (length es) ts)
  there = subst (λ ps. map Some (digests_at H es ps) ≡ map (λ p. digest_at H es p.row p.off) ps) (asked_all (length es) ts)
      (hashes_there H es ts nothing_known (λ r o h within. target_stands H scripts us 0 kept stand r o h))

  there_asked : map Some hashes ≡ map (λ p. digest_at H es p.row p.off) (asked (length es) ts nothing_known)
  there_asked = there ∙ ap (map (λ p. digest_at H es p.row p.off)) (sym (asked_all (length es) ts))

  abbrev leaves : List Digest
  leaves = map (λ leaf. H (leaf_text leaf)) (leaves_of kept)

  shown : map Some leaves ≡ map (λ p. digest_at H es p.row p.off) ts
  shown = leaves_shown H scripts us kept stand.each

  few_entries : length es < 2 ^ 40
  few_entries = omega (arith, few, same_length, c.within)

  proved : IsAccepted H (length es) (root_in (stump_of H es)) ts nothing_known leaves hashes
  proved = record {
    shape = shape H scripts us 0 kept stand;
    one_leaf_each = sym (length-map leaves Some) ∙ (ap length shown ∙ length-map ts (λ p. digest_at H es p.row p.off));
    one_hash_each = sym (length-map hashes Some)
        ∙ (ap length there_asked ∙ length-map (asked (length es) ts nothing_known) (λ p. digest_at H es p.row p.off));
    agrees = λ row beneath slot e. stump_slot H es row few_entries slot
        ∙ root_computed H es ts nothing_known leaves hashes shown (λ r o d h. absurd (none-some d h)) there_asked row beneath slot e;
  }

  pub level_sound : IsStoredLevel H scripts (level_of H scripts l)
  level_sound = record { kept = record { rise = stand.rise; each = are_kept H scripts us kept stand.each }; proved = proved }

  pub level_fits : LevelFits most (level_of H scripts l)
  level_fits = record {
    tip = c.tip;
    leaves = omega (arith, same_length, c.within);
    roots = is_stump H es few_entries;
    digests = λ row. ⊎_elim
        (λ slot. subst RootFits (sym (stump_slot H es row few_entries slot)) (root_fits H long us row))
        (λ bare. subst RootFits (sym ((is_stump H es few_entries).bare row bare)) tt)
        (cases_Bool (is_slot (length es) row));
    count_of_kept = omega (arith, few_kept H scripts us, few_entries, same_length);
    kept = kept_fit H scripts us (omega (arith, few_entries, same_length)) c.fit kept stand.each;
    count_of_hashes = omega (
      arith,
      somes_few (map (λ p. digest_at H es p.row p.off) (need (length es) ts)),
      length-map (need (length es) ts) (λ p. digest_at H es p.row p.off),
      filter_few (is_needed (length es) ts) (places (length es)),
      few_places (length es),
      few_entries,
    );
    hashes = somes_fit H long us (need (length es) ts);
  }

  pub level_next : IsNext blocks most (level_of H scripts l)
  level_next = record {
    within = omega (arith, same_length, c.within);
    bare = λ none. record { tip = c.start_tip none; leaves = same_length ∙ ap length (c.start_history none) };
  }

-- ---- all levels

module _ (H : List ℕ → Digest) (long : (x : List ℕ) → IsDigest (H x)) (scripts : List (List ℕ)) (most : ℕ) (few : most < 2 ^ 40) where
  all_fit : (blocks bound : ℕ) (ls : List Level) → bound ≤ most → AreChained blocks bound ls
      → AllByRecursion (LevelFits most) (map (level_of H scripts) ls)
  all_fit blocks bound [] le c = tt
  all_fit blocks bound (l ∷ ls) le c =
      let wide : IsChained blocks most l = record {
        blocks_are = c.0.blocks_are;
        tip = c.0.tip;
        fit = c.0.fit;
        within = omega (arith, le, c.0.within);
        start_tip = c.0.start_tip;
        start_history = c.0.start_history;
      } in
      (level_fits H long scripts l blocks most few wide, all_fit (blocks - 1) (length l.history) ls (omega (arith, le, c.0.within)) c.1)

  all_sound : (blocks bound : ℕ) (ls : List Level) → bound ≤ most → AreChained blocks bound ls
      → AllByRecursion (IsStoredLevel H scripts) (map (level_of H scripts) ls)
  all_sound blocks bound [] le c = tt
  all_sound blocks bound (l ∷ ls) le c = (
    level_sound H long scripts l blocks bound (omega (arith, le, few)) c.0,
    all_sound (blocks - 1) (length l.history) ls (omega (arith, le, c.0.within)) c.1,
  )

  all_next : (blocks bound : ℕ) (ls : List Level) → bound ≤ most → AreChained blocks bound ls → AreLevels blocks bound (map (level_of H scripts) ls)
  all_next blocks bound [] le c = tt
  all_next blocks bound (l ∷ ls) le c = (
    level_next H long scripts l blocks bound (omega (arith, le, few)) c.0,
    subst (λ n. AreLevels (blocks - 1) n (map (level_of H scripts) ls)) (sym (length-map l.history (option_map (λ r. H (leaf_text r)))))
        (all_next (blocks - 1) (length l.history) ls (omega (arith, le, c.0.within)) c.1),
  )

scripts_fit : (scripts : List (List ℕ)) → AllByRecursion IsScript scripts → AllByRecursion ScriptFits scripts
scripts_fit [] a = tt
scripts_fit (s ∷ ss) a = (omega (arith, a.0.short), scripts_fit ss a.1)

pub history_has_state : HistoryHasState
history_has_state = λ H net scripts most s long few watch h.
    let count : length (map (level_of H scripts) (s.now ∷ s.older)) ≡ suc (length s.older) = length-map (s.now ∷ s.older) (level_of H scripts) in
    let least : most ≤ most = omega arith in
    record {
      fits = record {
        blocks = omega (arith, h.low);
        count_of_scripts = omega (arith, watch.few);
        scripts = scripts_fit scripts watch.each;
        count_of_levels = omega (arith, count, h.few);
        levels = all_fit H long scripts most few s.now.blocks most (s.now ∷ s.older) least h.levels;
      };
      sound = record {
        counts = record { low = h.low; some = omega (arith, count); few = omega (arith, count, h.few); older = omega (arith, count, h.older) };
        scripts = watch;
        chain = all_next H long scripts most few s.now.blocks most (s.now ∷ s.older) least h.levels;
        levels = all_sound H long scripts most few s.now.blocks most (s.now ∷ s.older) least h.levels;
      };
    }

-- a fifth byte, and what follows it
behind_same : (a b c d v w : ℕ) (xs ys : List ℕ) → a ∷ b ∷ c ∷ d ∷ v ∷ xs ≡ a ∷ b ∷ c ∷ d ∷ w ∷ ys → (v ≡ w) × (xs ≡ ys)
behind_same a b c d v w xs ys h = (cc, cc)

pub one_state : OneState
one_state = λ H most text s t few a b e f.
    let same = behind_same 85 84 88 83 (version_of e.0) (version_of f.0) (body_text e.0 s) (body_text f.0 t) (sym e.1 ∙ f.1) in
    let way : e.0 ≡ f.0 = one_naming e.0 f.0 same.0 in
    one_body e.0 most few s t a.fits b.fits (same.1 ∙ ap (λ by. body_text by t) (sym way))

-- a text of a state is of no version that is not read
pub one_version : (s : StateValue) (text : List ℕ) (v : ℕ) → IsTextOf s text → IsOfVersion v text → ⊥
one_version s text v is of = of.other is.0 (sym (behind_same 85 84 88 83 (version_of is.0) v (body_text is.0 s) of.body (sym is.1 ∙ of.begins)).0)
