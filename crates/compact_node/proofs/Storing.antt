-- What a node stores, and that it comes back.
use Rattle.std.proofs.Common.{◌≡◌, ℕ, ◌-◌, ◌<◌, ◌^◌, List, [], ◌∷◌, map, length, refl, sym, ap, ap₂, ◌∙◌, subst, arith}
use Rattle.std.specs.List.{AllByRecursion, AllZip}
use Rattle.uo_base.specs.declared.event.Net.{Net}
use Rattle.uo_digest.specs.declared.digest.Digest.{Digest}
use Rattle.uo_digest.specs.Reading.{IsDigest}
use Rattle.forest_model.specs.Right.{entries}
use Rattle.forest_roots.specs.Stump.{Stump, IsStump}
use Rattle.forest_roots.proofs.One.{one_stump}
use Rattle.leaf_record.specs.Leaf.{leaf_text}
use Rattle.cache_model.specs.declared.kept.Kept.{Kept}
use Rattle.cache_model.proofs.Lists.{same_count}
use Rattle.forest_place.specs.declared.place.Place.{Place}
use Rattle.leaf_cache.specs.Watched.{AreWatched}
use Rattle.block_rules.specs.declared.chain.Chain.{Chain}
use Rattle.node_rules.specs.Judging.{Rules}
use Rattle.node_rules.specs.Machine.{Level, State}
use Rattle.state_text.specs.Stored.{LevelValue, StateValue, IsTextOf}
use Rattle.state_text.specs.OfHistory.{AreChained, IsHistory, level_of, state_of}
use Rattle.state_text.specs.Cached.{StandsForLevel, level_in}
use Rattle.state_text.proofs.CacheLaws.{standing_is_stored, stored_is_standing}
use Rattle.state_text.proofs.LevelLaws.{history_has_state, one_state}
use Rattle.compact_node.specs.Node.{LevelState, NodeState, IsLevel, AreOlder, IsNode, LevelStands, Stands}
use Rattle.compact_node.specs.State.{cached_level, cached_state, stored_state, IsReadAs, IsBack}

-- ---- what is stored

stored_level : (H : List ℕ → Digest) (scripts : List (List ℕ)) (m : Level) (l : LevelState) → IsStump l.roots → LevelStands H scripts m l
    → level_in (cached_level l) ≡ level_of H scripts m
stored_level H scripts m l stump s = (standing_is_stored H scripts (cached_level l) m stump
    (record { tip = ap (λ (c : Chain). c.tip) s.chain; roots = s.roots; cache = s.cache })).0

stored_levels : (H : List ℕ → Digest) (scripts : List (List ℕ)) (rules : Rules) (chain : Chain) (ms : List Level) (ls : List LevelState)
    → AreOlder rules chain ls → AllZip (LevelStands H scripts) ms ls →
    map level_in (map cached_level ls) ≡ map (level_of H scripts) ms
stored_levels H scripts rules chain [] [] are z = refl
stored_levels H scripts rules chain [] (l ∷ ls) are z = absurd z
stored_levels H scripts rules chain (m ∷ ms) [] are z = absurd z
stored_levels H scripts rules chain (m ∷ ms) (l ∷ ls) are z =
    ap₂ (λ (a : LevelValue) (b : List LevelValue). a ∷ b) (stored_level H scripts m l are.2.stump z.0)
    (stored_levels H scripts rules l.chain ms ls are.3 z.1)

pub standing_is_written : (H : List ℕ → Digest) (t : State) (s : NodeState) → IsNode s → Stands H t s
    → stored_state s ≡ state_of H s.rules.net s.scripts t
standing_is_written H t s is stands =
    let state = λ (n : ℕ) (ls : List LevelValue). let v : StateValue = record { net = s.rules.net; blocks = n; scripts = s.scripts; levels = ls } in
    v in
    ap₂ state (ap (λ (c : Chain). c.blocks) stands.newest.chain)
    (ap₂ (λ (a : LevelValue) (b : List LevelValue). a ∷ b) (stored_level H s.scripts t.now s.newest is.newest.stump stands.newest)
    (stored_levels H s.scripts s.rules s.newest.chain t.older s.older is.older stands.older))

-- ---- what comes back

level_back : (H : List ℕ → Digest) (scripts : List (List ℕ)) (rules : Rules) (blocks : ℕ) (m : Level) (l : LevelState) → IsLevel rules l
    → m.blocks ≡ blocks → l.chain.blocks ≡ blocks → StandsForLevel H scripts (cached_level l) m → LevelStands H scripts m l
level_back H scripts rules blocks m l is b c s =
    let leaves : l.chain.leaves ≡ length m.history = sym is.counted ∙ (s.roots.leaves ∙ same_count H m.history) in
    let chain = λ (n : ℕ) (d : Digest) (k : ℕ). let x : Chain = record { blocks = n; tip = d; leaves = k } in x in
    record {
      chain = ap (λ n. chain n l.chain.tip l.chain.leaves) (c ∙ sym b) ∙ ap₂ (λ d k. chain m.blocks d k) s.tip leaves;
      roots = s.roots;
      cache = s.cache;
    }

levels_back : (H : List ℕ → Digest) (scripts : List (List ℕ)) (rules : Rules) (chain : Chain) (blocks most : ℕ) (ms : List Level)
    (ls : List LevelState) → chain.blocks ≡ blocks → AreOlder rules chain ls → AreChained (blocks - 1) most ms →
    AllZip (StandsForLevel H scripts) (map cached_level ls) ms → AllZip (LevelStands H scripts) ms ls
levels_back H scripts rules chain blocks most [] [] e are chained z = tt
levels_back H scripts rules chain blocks most [] (l ∷ ls) e are chained z = absurd z
levels_back H scripts rules chain blocks most (m ∷ ms) [] e are chained z = absurd z
levels_back H scripts rules chain blocks most (m ∷ ms) (l ∷ ls) e are chained z =
    let b : l.chain.blocks ≡ blocks - 1 = omega (arith, e, are.0) in (
      level_back H scripts rules (blocks - 1) m l are.2 chained.0.blocks_are b z.0,
      levels_back H scripts rules l.chain (blocks - 1) (length m.history) ms ls b are.3 chained.1 z.1,
    )

all_few : (blocks most bound : ℕ) (ms : List Level) → most < bound → AreChained blocks most ms → AllByRecursion (λ l. length l.history < bound) ms
all_few blocks most bound [] few chained = tt
all_few blocks most bound (m ∷ ms) few chained =
    (omega (arith, few, chained.0.within), all_few (blocks - 1) (length m.history) bound ms (omega (arith, few, chained.0.within)) chained.1)

pub written_comes_back : (H : List ℕ → Digest) (net : Net) (scripts : List (List ℕ)) (t : State) (text : List ℕ) (s : NodeState)
    → ((x : List ℕ) → IsDigest (H x)) → AreWatched scripts →
    IsNode s → IsHistory s.rules.limits.leaves t → IsTextOf (state_of H net scripts t) text → IsReadAs H text s → IsBack H net scripts t s
written_comes_back H net scripts t text s digests watched is history of read =
    let most = s.rules.limits.leaves in
    let whole = history_has_state H net scripts most t digests is.few watched history in
    let same : state_of H net scripts t ≡ stored_state s =
    one_state H most text (state_of H net scripts t) (stored_state s) is.few whole read.state of read.is in
    let blocks : s.newest.chain.blocks ≡ t.now.blocks = ap (λ (v : StateValue). v.blocks) (sym same) in
    let z = stored_is_standing H net scripts t (cached_state s) (all_few t.now.blocks most (2 ^ 40) (t.now ∷ t.older) is.few history.levels)
    (sym same) read.filled in
    let names : s.scripts ≡ scripts = ap (λ (v : StateValue). v.scripts) (sym same) in
    record {
      net_is = ap (λ (v : StateValue). v.net) (sym same);
      scripts_are = names;
      stands = record {
        newest = subst (λ w. LevelStands H w t.now s.newest) (sym names)
            (level_back H scripts s.rules t.now.blocks t.now s.newest is.newest refl blocks z.0);
        older = subst (λ w. AllZip (LevelStands H w) t.older s.older) (sym names)
            (levels_back H scripts s.rules s.newest.chain t.now.blocks (length t.now.history) t.older s.older blocks is.older history.levels.1 z.1);
      };
    }

-- ---- one node stands for a state

same_level : (H : List ℕ → Digest) (scripts : List (List ℕ)) (m : Level) (k l : LevelState) → IsStump k.roots → IsStump l.roots
    → LevelStands H scripts m k → LevelStands H scripts m l → k ≡ l
same_level H scripts m k l a b s u =
    let level = λ (c : Chain) (f : Stump) (ks : List Kept) (hs : List (Place × Digest)). let x : LevelState =
    record { chain = c; roots = f; kept = ks; held = hs } in x in
    ap₂ (λ c f. level c f k.kept k.held) (s.chain ∙ sym u.chain) (one_stump H (entries H leaf_text m.history) k.roots l.roots a b s.roots u.roots)
    ∙ ap₂ (λ ks hs. level l.chain l.roots ks hs) (s.cache.of_kept ∙ sym u.cache.of_kept) (s.cache.of_held ∙ sym u.cache.of_held)

same_levels : (H : List ℕ → Digest) (scripts : List (List ℕ)) (rules rules' : Rules) (c d : Chain) (ms : List Level)
    (ks ls : List LevelState) → AreOlder rules c ks → AreOlder rules' d ls →
    AllZip (LevelStands H scripts) ms ks → AllZip (LevelStands H scripts) ms ls → ks ≡ ls
same_levels H scripts rules rules' c d [] [] [] a b y z = refl
same_levels H scripts rules rules' c d [] [] (l ∷ ls) a b y z = absurd z
same_levels H scripts rules rules' c d [] (k ∷ ks) ls a b y z = absurd y
same_levels H scripts rules rules' c d (m ∷ ms) [] ls a b y z = absurd y
same_levels H scripts rules rules' c d (m ∷ ms) (k ∷ ks) [] a b y z = absurd z
same_levels H scripts rules rules' c d (m ∷ ms) (k ∷ ks) (l ∷ ls) a b y z =
    ap₂ (λ (x : LevelState) (xs : List LevelState). x ∷ xs) (same_level H scripts m k l a.2.stump b.2.stump y.0 z.0)
    (same_levels H scripts rules rules' k.chain l.chain ms ks ls a.3 b.3 y.1 z.1)

pub one_node_stands : (H : List ℕ → Digest) (t : State) (r s : NodeState) → IsNode r → IsNode s → r.rules ≡ s.rules
    → r.scripts ≡ s.scripts → Stands H t r → Stands H t s → r ≡ s
one_node_stands H t r s a b rules scripts stands stands' =
    let newest = same_level H s.scripts t.now r.newest s.newest a.newest.stump b.newest.stump
    (subst (λ w. LevelStands H w t.now r.newest) scripts stands.newest) stands'.newest in
    let older = same_levels H s.scripts r.rules s.rules r.newest.chain s.newest.chain t.older r.older s.older a.older b.older
    (subst (λ w. AllZip (LevelStands H w) t.older r.older) scripts stands.older) stands'.older in
    let node = λ (x : Rules) (w : List (List ℕ)) (l : LevelState) (ls : List LevelState). let n : NodeState =
    record { rules = x; scripts = w; newest = l; older = ls } in n in
    ap₂ (λ x w. node x w r.newest r.older) rules scripts ∙ ap₂ (λ l ls. node s.rules s.scripts l ls) newest older
