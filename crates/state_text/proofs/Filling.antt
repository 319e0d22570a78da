-- The lists of a cache, made from what a level says.
use Rattle.std.proofs.Common.{◌≡◌, ℕ, suc, ◌≤◌, List, [], ◌∷◌, ◌++◌, map, length, Option, Some, refl, sym, ap, ap₂, ◌∙◌, subst, arith, ⊎_elim}
use Rattle.std.specs.Prelude.{filter_map, ◌==◌}
use Rattle.std.specs.List.{AllByRecursion}
use Rattle.std.proofs.lemmas.Bool.{cases_Bool, or_cases, false≢true, lt-ltb, eqb-true}
use Rattle.std.proofs.lemmas.Option.{none-some}
use Rattle.std.proofs.lemmas.List.{map-append}
use Rattle.uo_base.proofs.Lists.{all-push}
use Rattle.uo_digest.specs.declared.digest.Digest.{Digest}
use Rattle.leaf_record.specs.Leaf.{leaf_text}
use Rattle.forest_place.specs.declared.place.Place.{Place}
use Rattle.forest_place.specs.Forest.{InForest}
use Rattle.forest_place.specs.Places.{is_at, has_place, AreWithin}
use Rattle.forest_place.proofs.Listed.{place, same_from_is_at}
use Rattle.forest_place.proofs.Ascending.{distinct_from_ascending}
use Rattle.forest_model.specs.Cover.{HasShape, need}
use Rattle.forest_model.specs.Evaluation.{beside, nothing_known, IsAccepted}
use Rattle.forest_model.proofs.Lists.{need_had, need_ascending, map_from}
use Rattle.forest_roots.specs.Stump.{Stump, root_in}
use Rattle.proof_verify.proofs.Values.{asked_all}
use Rattle.cache_model.specs.declared.kept.Kept.{Kept}
use Rattle.cache_model.specs.Cache.{look}
use Rattle.cache_model.specs.Lists.{leaf_places, leaf_key, AscendByNumber, AscendByPlace}
use Rattle.cache_model.specs.Undo.{find, is_same_number}
use Rattle.state_text.specs.declared.entry.StoredEntry.{StoredEntry}
use Rattle.state_text.specs.Stored.{LevelValue, StandsWithin, places_of, leaves_of}
use Rattle.state_text.specs.Fits.{NumbersRise, AreKept, IsStoredLevel}
use Rattle.state_text.specs.declared.fault.StateFault.{StateFault}
use Rattle.state_text.specs.Reading.{claims}
use Rattle.state_text.proofs.Judged.{denied}
use Rattle.state_text.specs.Told.{told_at, told_list, level_tells}
use Rattle.state_text.specs.Cached.{CachedLevel, entry_of, level_in, IsFilled, OneFilling}
use Rattle.state_text.specs.Ordered.{IsMadeLevel, AreMadeLevels}
use Rattle.state_text.proofs.ToldLists.{told_ascending, look_told, places_ascend}
use Rattle.state_text.proofs.Holding.{at_needed}

-- ---- the order of kept entries

found_from : (from : ℕ) (ks : List Kept) → NumbersRise from (map entry_of ks) → (k : ℕ) (v : Kept) → find is_same_number leaf_key k ks ≡ Some v
    → from ≤ k
found_from from [] rise k v e = absurd (none-some v e)
found_from from (x ∷ ks) rise k v e =
    ⊎_elim
    (λ here. let same : k ≡ x.number = eqb-true k x.number here in omega (arith, same, rise.0))
    (λ other. let more : suc x.number ≤ k = found_from (suc x.number) ks rise.1 k v (rw other at e) in omega (arith, more, rise.0))
    (cases_Bool (k == x.number))

pub numbers_ascend : (from : ℕ) (ks : List Kept) → NumbersRise from (map entry_of ks) → AscendByNumber ks
numbers_ascend from [] rise = tt
numbers_ascend from (x ∷ ks) rise = (
  (λ k v e. lt-ltb x.number k (found_from (suc x.number) ks rise.1 k v e)),
  numbers_ascend (suc x.number) ks rise.1,
)

-- ---- the hashes

listed_all : {X Y : Type 0} (g : X → Option Y) (xs : List X) (ys : List Y) → map (λ y. let o : Option Y = Some y in o) ys ≡ map g xs
    → filter_map g xs ≡ ys
listed_all g [] [] e = refl
listed_all g [] (y ∷ ys) e = absurd (omega (arith, ap length e))
listed_all g (x ∷ xs) [] e = absurd (omega (arith, ap length e))
listed_all g (x ∷ xs) (y ∷ ys) e =
    let first : Some y ≡ g x = cc in
    let others : map (λ z. let o : Option _ = Some z in o) ys ≡ map g xs = cc in
    rw (sym first) (ap (λ zs. y ∷ zs) (listed_all g xs ys others))

module _ (H : List ℕ → Digest) (n : ℕ) (ts : List Place) (leaves hashes : List Digest) (long : length hashes ≡ length (need n ts)) where
  -- what is held at the needed places is the hashes
  pub hashes_held : filter_map (λ p. look (told_list n (told_at H n ts leaves hashes)) p.row p.off) (need n ts) ≡ hashes
  hashes_held =
      let at = told_at H n ts leaves hashes in
      let some = λ (d : Digest). let o : Option Digest = Some d in o in
      listed_all (λ p. look (told_list n at) p.row p.off) (need n ts) hashes
      (map_from some (λ p. look (told_list n at) p.row p.off) (H []) (need n ts) hashes (distinct_from_ascending (need n ts) (need_ascending n ts))
      long (λ r o h.
      let w = need_had n ts r o h in
      sym (look_told n at r o w.0 ∙ (at_needed H n ts leaves hashes (place r o) w.1
      ∙ ap some (ap (λ ps. beside (H []) ps hashes r o) (asked_all n ts))))))

-- ---- a level

pub shape_leaves : (ks : List Kept) → leaf_places ks ≡ places_of (map entry_of ks)
shape_leaves [] = refl
shape_leaves (k ∷ ks) = ap (λ ps. k.place ∷ ps) (shape_leaves ks)

same_leaves : (H : List ℕ → Digest) (ks : List Kept) → map (λ leaf. H (leaf_text leaf)) (leaves_of (map entry_of ks))
    ≡ map (λ k. H (leaf_text k.leaf)) ks
same_leaves H [] = refl
same_leaves H (k ∷ ks) = ap (λ ds. H (leaf_text k.leaf) ∷ ds) (same_leaves H ks)

-- what was read of a level, judged, and the lists made of it
pub record IsFound (H : List ℕ → Digest) (scripts : List (List ℕ)) (f : Stump) (kept : List Kept) (hashes : List Digest)
    (held : List (Place × Digest)) (entries : List StoredEntry) : Type 0 where
  pub are : AreKept scripts f.leaves entries
  pub accepted : IsAccepted H f.leaves (root_in f) (places_of entries) nothing_known (map (λ leaf. H (leaf_text leaf)) (leaves_of entries)) hashes
  pub told : held ≡ told_list f.leaves (told_at H f.leaves (places_of entries) (map (λ leaf. H (leaf_text leaf)) (leaves_of entries)) hashes)
  pub digests : map (λ k. k.digest) kept ≡ map (λ leaf. H (leaf_text leaf)) (leaves_of entries)

-- and what is made of it
pub record IsMade (H : List ℕ → Digest) (scripts : List (List ℕ)) (tip : Digest) (f : Stump) (kept : List Kept) (hashes : List Digest)
    (held : List (Place × Digest)) (entries : List StoredEntry) : Type 0 where
  pub level : IsMadeLevel H scripts (record { tip = tip; roots = f; kept = entries; hashes = hashes })
      (record { tip = tip; roots = f; kept = kept; held = held })
  pub numbers : AscendByNumber kept
  pub places : AscendByPlace held
  pub shape : HasShape f.leaves (leaf_places kept)

module _ (H : List ℕ → Digest) (scripts : List (List ℕ)) (tip : Digest) (f : Stump) (kept : List Kept) (hashes : List Digest)
    (held : List (Place × Digest)) where
  made_here : IsFound H scripts f kept hashes held (map entry_of kept) → IsMade H scripts tip f kept hashes held (map entry_of kept)
  made_here found =
      let ts = places_of (map entry_of kept) in
      let leaves = map (λ leaf. H (leaf_text leaf)) (leaves_of (map entry_of kept)) in
      let long : length hashes ≡ length (need f.leaves ts) = found.accepted.one_hash_each ∙ ap length (asked_all f.leaves ts) in
      let level : LevelValue = record { tip = tip; roots = f; kept = map entry_of kept; hashes = hashes } in
      let made : CachedLevel = record { tip = tip; roots = f; kept = kept; held = held } in
      let hashes_are : filter_map (λ p. look held p.row p.off) (need f.leaves ts) ≡ hashes =
      ap (λ hs. filter_map (λ p. look hs p.row p.off) (need f.leaves ts)) found.told ∙ hashes_held H f.leaves ts leaves hashes long in
      let same : level_in made ≡ level = ap (λ (hs : List Digest). let l : LevelValue =
      record { tip = tip; roots = f; kept = map entry_of kept; hashes = hs } in l) hashes_are in
      record {
        level = record {
          sound = record { kept = found.are; proved = found.accepted };
          same = same;
          filled = record {
            digests = found.digests ∙ same_leaves H kept;
            held = found.told ∙ ap (λ (l : LevelValue). told_list f.leaves (level_tells H l)) (sym same);
          };
        };
        numbers = numbers_ascend 0 kept found.are.rise;
        places = subst AscendByPlace (sym found.told) (places_ascend (told_list f.leaves (told_at H f.leaves ts leaves hashes))
            (told_ascending f.leaves (told_at H f.leaves ts leaves hashes)));
        shape = subst (HasShape f.leaves) (sym (shape_leaves kept)) found.accepted.shape;
      }

  pub made_from : (entries : List StoredEntry) → map entry_of kept ≡ entries → IsFound H scripts f kept hashes held entries
      → IsMade H scripts tip f kept hashes held entries
  made_from entries same = subst (λ (es : List StoredEntry). IsFound H scripts f kept hashes held es → IsMade H scripts tip f kept hashes held es)
      same made_here

pub entries_within : (n : ℕ) (es : List StoredEntry) → AllByRecursion (StandsWithin n) es → AreWithin n (places_of es)
entries_within n [] a r o h = absurd (false≢true h)
entries_within n (e ∷ es) a r o h =
    ⊎_elim
    (λ here. subst (λ (p : Place). InForest n p.row p.off) (same_from_is_at r o e.place here) a.0)
    (λ there. entries_within n es a.1 r o there)
    (or_cases (is_at r o e.place) (has_place (places_of es) r o) h)

-- what was read of a level, in parts, and what was found of it
module _ (H : List ℕ → Digest) (scripts : List (List ℕ)) (tip : Digest) (f : Stump) (entries : List StoredEntry) (hashes : List Digest)
    (level : LevelValue)
    (is : level ≡ record { tip = tip; roots = f; kept = entries; hashes = hashes })
    (ts : List Place) (leaves hs : List Digest) (places : ts ≡ places_of entries)
    (shown : leaves ≡ map (λ leaf. H (leaf_text leaf)) (leaves_of entries)) (same : hs ≡ hashes) where
  pub level_denied : (e : StateFault) → claims e (IsAccepted H f.leaves (root_in f) ts nothing_known leaves hs → ⊥)
      → claims e (IsStoredLevel H scripts level → ⊥)
  level_denied e d =
      denied e (IsAccepted H f.leaves (root_in f) ts nothing_known leaves hs) (IsStoredLevel H scripts level)
      (λ good. let l : IsStoredLevel H scripts (record { tip = tip; roots = f; kept = entries; hashes = hashes }) =
      subst (IsStoredLevel H scripts) is good in
      subst (λ (x : List Place). IsAccepted H f.leaves (root_in f) x nothing_known leaves hs) (sym places)
      (subst (λ (x : List Digest). IsAccepted H f.leaves (root_in f) (places_of entries) nothing_known x hs) (sym shown)
      (subst (λ (x : List Digest). IsAccepted H f.leaves (root_in f) (places_of entries) nothing_known
      (map (λ leaf. H (leaf_text leaf)) (leaves_of entries)) x) (sym same) l.proved))) d

  pub level_made : (n : ℕ) → n ≡ f.leaves → AreKept scripts n entries → (held : List (Place × Digest))
      → IsAccepted H f.leaves (root_in f) ts nothing_known leaves hs × (held ≡ told_list f.leaves (told_at H f.leaves ts leaves hs))
      → (kept : List Kept) → map entry_of kept ≡ entries → map (λ k. k.digest) kept ≡ leaves → IsMade H scripts tip f kept hashes held entries
      × IsMadeLevel H scripts level (record { tip = tip; roots = f; kept = kept; held = held })
  level_made n count are held found kept again digests =
      let leaves_are = map (λ leaf. H (leaf_text leaf)) (leaves_of entries) in
      let a : IsAccepted H f.leaves (root_in f) (places_of entries) nothing_known leaves_are hashes =
      subst (λ (x : List Place). IsAccepted H f.leaves (root_in f) x nothing_known leaves_are hashes) places
      (subst (λ (x : List Digest). IsAccepted H f.leaves (root_in f) ts nothing_known x hashes) shown
      (subst (λ (x : List Digest). IsAccepted H f.leaves (root_in f) ts nothing_known leaves x) same found.0)) in
      let t : held ≡ told_list f.leaves (told_at H f.leaves (places_of entries) leaves_are hashes) =
      found.1 ∙ (ap (λ (x : List Place). told_list f.leaves (told_at H f.leaves x leaves hs)) places
      ∙ (ap (λ (x : List Digest). told_list f.leaves (told_at H f.leaves (places_of entries) x hs)) shown
      ∙ ap (λ (x : List Digest). told_list f.leaves (told_at H f.leaves (places_of entries) leaves_are x)) same)) in
      let made = made_from H scripts tip f kept hashes held entries again
      (record { are = subst (λ m. AreKept scripts m entries) count are; accepted = a; told = t; digests = digests ∙ shown }) in
      (made, subst (λ (l : LevelValue). IsMadeLevel H scripts l (record { tip = tip; roots = f; kept = kept; held = held })) (sym is) made.level)

-- ---- levels, one after another

pub all_one : {X : Type 0} (P : X → Type 0) (xs ys : List X) (x : X) → AllByRecursion P (xs ++ x ∷ ys) → P x
all_one P [] ys x a = a.0
all_one P (z ∷ xs) ys x a = all_one P xs ys x a.1

pub levels_more : (H : List ℕ → Digest) (scripts : List (List ℕ)) (ls : List LevelValue) (made : List CachedLevel) (l : LevelValue) (m : CachedLevel)
    → AreMadeLevels H scripts ls made → IsMadeLevel H scripts l m → AreMadeLevels H scripts (ls ++ l ∷ []) (made ++ m ∷ [])
levels_more H scripts ls made l m a is = record {
  sound = all-push (IsStoredLevel H scripts) ls l a.sound is.sound;
  same = map-append level_in made (m ∷ []) ∙ ap₂ (λ (x : List LevelValue) (y : LevelValue). x ++ y ∷ []) a.same is.same;
  filled = all-push (IsFilled H) made m a.filled is.filled;
}

-- ---- two levels that say the same

same_kept : (H : List ℕ → Digest) (ks ms : List Kept) → map entry_of ks ≡ map entry_of ms
    → map (λ k. k.digest) ks ≡ map (λ k. H (leaf_text k.leaf)) ks → map (λ k. k.digest) ms ≡ map (λ k. H (leaf_text k.leaf)) ms → ks ≡ ms
same_kept H [] [] e a b = refl
same_kept H [] (m ∷ ms) e a b = absurd (omega (arith, ap length e))
same_kept H (k ∷ ks) [] e a b = absurd (omega (arith, ap length e))
same_kept H (k ∷ ks) (m ∷ ms) e a b =
    let first : entry_of k ≡ entry_of m = cc in
    let others : map entry_of ks ≡ map entry_of ms = cc in
    let of_k : k.digest ≡ H (leaf_text k.leaf) = cc in
    let of_m : m.digest ≡ H (leaf_text m.leaf) = cc in
    let rest_k : map (λ (x : Kept). x.digest) ks ≡ map (λ (x : Kept). H (leaf_text x.leaf)) ks = cc in
    let rest_m : map (λ (x : Kept). x.digest) ms ≡ map (λ (x : Kept). H (leaf_text x.leaf)) ms = cc in
    let digest : k.digest ≡ m.digest = of_k ∙ (ap (λ (s : StoredEntry). H (leaf_text s.leaf)) first ∙ sym of_m) in
    ap₂ (λ (x : Kept) (xs : List Kept). x ∷ xs)
    (ap₂ (λ (s : StoredEntry) (d : Digest). let x : Kept = record { number = s.number; leaf = s.leaf; place = s.place; digest = d } in
    x) first digest)
    (same_kept H ks ms others rest_k rest_m)

pub one_filling : OneFilling
one_filling = λ H l m a b e.
    let tip : l.tip ≡ m.tip = ap (λ (v : LevelValue). v.tip) e in
    let roots : l.roots ≡ m.roots = ap (λ (v : LevelValue). v.roots) e in
    let kept : l.kept ≡ m.kept = same_kept H l.kept m.kept (ap (λ (v : LevelValue). v.kept) e) a.digests b.digests in
    let held : l.held ≡ m.held = a.held ∙ (ap (λ (v : LevelValue). told_list v.roots.leaves (level_tells H v)) e ∙ sym b.held) in
    rw (tip, roots, kept, held) refl
