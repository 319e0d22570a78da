-- Levels and states are lawful formats.
use Rattle.std.proofs.Common.{◌≡◌, ℕ, ◌^◌, ◌<◌, ◌≤◌, cond, eqb, leb, false, List, [], ◌∷◌, ◌++◌, length, Some, None, refl, sym, ap, ap₂, subst, ◌∙◌}
use Rattle.std.proofs.Common.{append_assoc, append-nil, arith, ⊎_elim}
use Rattle.std.specs.Int.{w32, w64, to_le_bytes}
use Rattle.std.specs.List.{flat_map, AllByRecursion}
use Rattle.std.proofs.lemmas.Bool.{cases_Bool, eqb-true, le-leb, leb-true}
use Rattle.std.proofs.lemmas.List.{nil_from_length}
use Rattle.uo_base.specs.declared.event.Net.{Net}
use Rattle.uo_base.specs.declared.event.Net.TheVariants.{Main, Regtest}
use Rattle.uo_base.specs.Reading.{IsBytes, ◌>>=◌, byte_at, number_at, times}
use Rattle.uo_base.specs.Compact.{sized, sized_at, counted, counted_at}
use Rattle.uo_base.proofs.Formats.{Took, Lawful, same, led, ended, tested, repeated, bind_some, passed, not_both, some_is, Always, u32_lawful}
use Rattle.uo_base.proofs.Formats.{u64_lawful, IsBytes-rest}
use Rattle.uo_base.proofs.CompactLaws.{AreCounted, counted_lawful, sized_lawful}
use Rattle.uo_digest.specs.declared.digest.Digest.{Digest}
use Rattle.uo_digest.specs.Reading.{digest_text, IsDigest}
use Rattle.uo_digest.specs.Reading.{digest_in_front}
use Rattle.uo_digest.proofs.DigestLaws.{digest_lawful}
use Rattle.forest_place.specs.declared.naming.Naming.{Naming}
use Rattle.forest_roots.specs.Stump.{Stump, IsStump, root_in, empty_roots}
use Rattle.state_text.specs.Stored.{LevelValue, StateValue, net_code, roots_text, entry_text, level_text, body_text}
use Rattle.state_text.specs.Fits.{RootFits, EntryFits, LevelFits, ScriptFits, StateFits}
use Rattle.state_text.specs.Reading.{leaves_at, roots_at, entry_at, head_at, level_at, net_at, front_at, body_at, whole_at}
use Rattle.state_text.proofs.RootFormat.{AreRoots, roots_lawful}
use Rattle.state_text.proofs.EntryFormat.{entry_lawful}

-- ---- a level

leaves_lawful : (most : ℕ) → most < 2 ^ 40 → Lawful (λ n. n ≤ most) (to_le_bytes w64) (leaves_at most)
unfolding leaves_at
leaves_lawful most few =
    same _ (λ n. n ≤ most) (to_le_bytes w64) (to_le_bytes w64) (leaves_at most)
    (tested (λ n. n < 2 ^ 64) (to_le_bytes w64) (number_at w64) (λ n. leb n most) u64_lawful)
    (λ n f. leb-true n most f.1) (λ n le. (omega (arith, few, le), le-leb n most le)) (λ n _. refl)

-- newest block, and the roots
abbrev Head : Type 0
Head = Digest × Stump

-- roots of any entries
record HaveRoots (f : Stump) : Type 0 where
  stump : IsStump f
  digests : (row : ℕ) → RootFits (root_in f row)

record HeadFits (most : ℕ) (h : Head) : Type 0 where
  tip : IsDigest h.0
  leaves : h.1.leaves ≤ most
  roots : HaveRoots h.1

abbrev head_text : Head → List ℕ
head_text h = h.0.0 ++ (to_le_bytes w64 h.1.leaves ++ (roots_text 40 h.1 ++ []))

abbrev HeadTold : Digest → ℕ → Head → Type 0
HeadTold tip n h = (Unit {0} × (h.0 ≡ tip)) × (h.1.leaves ≡ n)

abbrev head_pair : Digest → Stump → Head
head_pair x y = (x, y)

head_roots : (tip : Digest) (n : ℕ) → n < 2 ^ 40 → Lawful (λ (h : Head). HeadTold tip n h × (HaveRoots h.1 × Unit {0})) (λ h. roots_text 40 h.1 ++ [])
    (λ bytes. roots_at 40 (empty_roots n) bytes >>= λ roots. Some ((tip, roots.0), roots.1))
head_roots tip n few =
    same _ (λ (h : Head). HeadTold tip n h × (HaveRoots h.1 × Unit {0})) _ (λ h. roots_text 40 h.1 ++ []) _
    (led (HeadTold tip n) (AreRoots n) (roots_text 40) (roots_at 40 (empty_roots n)) (λ h. h.1) _ _ _ (roots_lawful n few) (λ f fits.
    ended (λ (h : Head). HeadTold tip n h × (h.1 ≡ f)) (tip, f) (((tt, refl), fits.leaves), refl) (λ h e. ap₂ head_pair e.0.0.1 e.1)))
    (λ h f. (f.0, (record { stump = f.1.0.stump; digests = f.1.0.digests }, tt)))
    (λ h f. (f.0, (record { leaves = f.0.1; stump = f.1.0.stump; digests = f.1.0.digests }, tt)))
    (λ h _. refl)

head_lawful : (most : ℕ) → most < 2 ^ 40 → Lawful (HeadFits most) head_text (head_at most)
unfolding head_at
head_lawful most few =
    same _ (HeadFits most) head_text head_text (head_at most)
    (led Always IsDigest digest_text digest_in_front (λ (h : Head). h.0) _ _ _ digest_lawful (λ tip _.
    led (λ (h : Head). Unit {0} × (h.0 ≡ tip)) (λ n. n ≤ most) (to_le_bytes w64) (leaves_at most) (λ h. h.1.leaves) _ _ _ (leaves_lawful most few)
    (λ n le.
    head_roots tip n (omega (arith, le, few)))))
    (λ h f. record { tip = f.1.0; leaves = f.1.1.0; roots = f.1.1.1.0 })
    (λ h f. (tt, (f.tip, (f.leaves, (f.roots, tt)))))
    (λ h _. refl)

-- what follows the head
abbrev head_of : LevelValue → Head
head_of l = (l.tip, l.roots)

abbrev Behind : LevelValue → Type 0
Behind l = AreCounted (EntryFits l.roots.leaves) l.kept × (AreCounted IsDigest l.hashes × Unit {0})

abbrev behind_text : Naming → LevelValue → List ℕ
behind_text by l = counted (entry_text by l.roots.leaves) l.kept ++ (counted digest_text l.hashes ++ [])

abbrev LevelTold : Head → LevelValue → Type 0
LevelTold h l = Unit {0} × (head_of l ≡ h)

level_behind : (by : Naming) (h : Head) → h.1.leaves < 2 ^ 40 → Lawful (λ (l : LevelValue). LevelTold h l × Behind l) (behind_text by)
    (λ bytes. counted_at (entry_at by h.1.leaves) bytes >>= λ kept. counted_at digest_in_front kept.1 >>= λ hashes. Some
    (record { tip = h.0; roots = h.1; kept = kept.0; hashes = hashes.0 }, hashes.1))
level_behind by h few =
    same _ (λ (l : LevelValue). LevelTold h l × Behind l) _ (behind_text by) _
    (led (LevelTold h) (AreCounted (EntryFits h.1.leaves)) (counted (entry_text by h.1.leaves)) (counted_at (entry_at by h.1.leaves)) (λ l. l.kept) _
    _ _
    (counted_lawful (EntryFits h.1.leaves) (entry_text by h.1.leaves) (entry_at by h.1.leaves) (entry_lawful by h.1.leaves few)) (λ kept _.
    led (λ (l : LevelValue). LevelTold h l × (l.kept ≡ kept)) (AreCounted IsDigest) (counted digest_text) (counted_at digest_in_front) (λ l. l.hashes)
    _ _ _ (counted_lawful IsDigest digest_text digest_in_front digest_lawful) (λ hashes _.
    ended (λ (l : LevelValue). (LevelTold h l × (l.kept ≡ kept)) × (l.hashes ≡ hashes))
    (record { tip = h.0; roots = h.1; kept = kept; hashes = hashes }) (((tt, refl), refl), refl)
    (λ l e. rw (← e.0.0.1, ← e.0.1, ← e.1) refl))))
    (λ l f. (f.0, (subst (λ (x : Head). AreCounted (EntryFits x.1.leaves) l.kept) (sym f.0.1) f.1.0, f.1.1)))
    (λ l f. (f.0, (subst (λ (x : Head). AreCounted (EntryFits x.1.leaves) l.kept) f.0.1 f.1.0, f.1.1)))
    (λ l f. ap (λ (x : Head). counted (entry_text by x.1.leaves) l.kept ++ (counted digest_text l.hashes ++ [])) (sym f.0.1))

pub level_lawful : (by : Naming) (most : ℕ) → most < 2 ^ 40 → Lawful (LevelFits most) (level_text by) (level_at by most)
unfolding level_at level_text
level_lawful by most few =
    same _ (LevelFits most) _ (level_text by) (level_at by most)
    (led Always (HeadFits most) head_text (head_at most) head_of _ _ _ (head_lawful most few)
    (λ h fits. level_behind by h (omega (arith, fits.leaves, few))))
    (λ l f. record {
      tip = f.1.0.tip;
      leaves = f.1.0.leaves;
      roots = f.1.0.roots.stump;
      digests = f.1.0.roots.digests;
      count_of_kept = f.1.1.0.0;
      kept = f.1.1.0.1;
      count_of_hashes = f.1.1.1.0.0;
      hashes = f.1.1.1.0.1;
    })
    (λ l f. (
      tt,
      (
        record { tip = f.tip; leaves = f.leaves; roots = record { stump = f.roots; digests = f.digests } },
        ((f.count_of_kept, f.kept), ((f.count_of_hashes, f.hashes), tt)),
      ),
    ))
    (λ l _. regrouped l.tip.0 (to_le_bytes w64 l.roots.leaves) (roots_text 40 l.roots) (counted (entry_text by l.roots.leaves) l.kept)
    (counted digest_text l.hashes))
  where
    regrouped : (t n r k h : List ℕ) → (t ++ (n ++ (r ++ []))) ++ (k ++ (h ++ [])) ≡ t ++ n ++ r ++ k ++ h
    regrouped t n r k h = simp (append_assoc, append-nil)

-- ---- a state

net_none : net_at [] ≡ None
unfolding net_at
net_none = refl

net_main : (bytes : List ℕ) → net_at (0 ∷ bytes) ≡ Some (Main, bytes)
unfolding net_at
net_main bytes = refl

net_regtest : (bytes : List ℕ) → net_at (1 ∷ bytes) ≡ Some (Regtest, bytes)
unfolding net_at
net_regtest bytes = refl

net_other : (b : ℕ) (bytes : List ℕ) → eqb b 0 ≡ false → eqb b 1 ≡ false → net_at (b ∷ bytes) ≡ None
unfolding net_at
net_other b bytes e f = rw (e, f) refl

net_took : (bytes : List ℕ) (net : Net) (rest : List ℕ) → IsBytes bytes → net_at bytes ≡ Some (net, rest)
    → Took bytes (net_code net ∷ []) rest (Unit {0})
net_took [] net rest is_bytes e = absurd (not_both (net_at []) (net, rest) net_none e)
net_took (b ∷ bytes) net rest is_bytes e =
    ⊎_elim
    (λ zero.
    let z : b ≡ 0 = eqb-true b 0 zero in
    subst (λ (p : Net × List ℕ). Took (b ∷ bytes) (net_code p.0 ∷ []) p.1 (Unit {0}))
    (some_is (Main, bytes) (net, rest) (sym (net_main bytes) ∙ (ap (λ (k : ℕ). net_at (k ∷ bytes)) (sym z) ∙ e)))
    (record { fits = tt; parts = ap (λ (k : ℕ). k ∷ bytes) z; rest_bytes = IsBytes-rest b bytes is_bytes }))
    (λ more. ⊎_elim
    (λ one.
    let z : b ≡ 1 = eqb-true b 1 one in
    subst (λ (p : Net × List ℕ). Took (b ∷ bytes) (net_code p.0 ∷ []) p.1 (Unit {0}))
    (some_is (Regtest, bytes) (net, rest) (sym (net_regtest bytes) ∙ (ap (λ (k : ℕ). net_at (k ∷ bytes)) (sym z) ∙ e)))
    (record { fits = tt; parts = ap (λ (k : ℕ). k ∷ bytes) z; rest_bytes = IsBytes-rest b bytes is_bytes }))
    (λ other. absurd (not_both (net_at (b ∷ bytes)) (net, rest) (net_other b bytes more other) e))
    (cases_Bool (eqb b 1)))
    (cases_Bool (eqb b 0))

net_again : (net : Net) (rest : List ℕ) → net_at (net_code net ∷ rest) ≡ Some (net, rest)
net_again Main rest = net_main rest
net_again Regtest rest = net_regtest rest

net_lawful : Lawful (λ (net : Net). Unit {0}) (λ net. net_code net ∷ []) net_at
net_lawful = record { took = net_took; again = λ net rest _. net_again net rest }

byte_took : (bytes : List ℕ) (n : ℕ) (rest : List ℕ) → IsBytes bytes → byte_at bytes ≡ Some (n, rest) → Took bytes (n ∷ []) rest (n < 256)
byte_took [] n rest is_bytes e = absurd cc
byte_took (b ∷ bytes) n rest is_bytes e =
    subst (λ (p : ℕ × List ℕ). Took (b ∷ bytes) (p.0 ∷ []) p.1 (p.0 < 256)) (some_is (b, bytes) (n, rest) e)
    (record { fits = is_bytes 0; parts = refl; rest_bytes = IsBytes-rest b bytes is_bytes })

byte_lawful : Lawful (λ n. n < 256) (λ n. n ∷ []) byte_at
byte_lawful = record { took = byte_took; again = λ n rest fits. refl }

-- network, and count of blocks
abbrev Front : Type 0
Front = Net × ℕ

abbrev FrontFits : Front → Type 0
FrontFits f = f.1 < 2 ^ 32

abbrev front_text : Front → List ℕ
front_text f = (net_code f.0 ∷ []) ++ (to_le_bytes w32 f.1 ++ [])

abbrev front_pair : Net → ℕ → Front
front_pair x y = (x, y)

front_lawful : Lawful FrontFits front_text front_at
unfolding front_at
front_lawful =
    same _ FrontFits front_text front_text front_at
    (led Always (λ (net : Net). Unit {0}) (λ net. net_code net ∷ []) net_at (λ (f : Front). f.0) _ _ _ net_lawful (λ net _.
    led (λ (f : Front). Unit {0} × (f.0 ≡ net)) (λ n. n < 2 ^ 32) (to_le_bytes w32) (number_at w32) (λ f. f.1) _ _ _ u32_lawful (λ blocks _.
    ended (λ (f : Front). (Unit {0} × (f.0 ≡ net)) × (f.1 ≡ blocks)) (net, blocks) ((tt, refl), refl) (λ f e. ap₂ front_pair e.0.1 e.1))))
    (λ f h. h.1.1.0) (λ f h. (tt, (tt, (h, tt)))) (λ f _. refl)

abbrev front_of : StateValue → Front
front_of s = (s.net, s.blocks)

-- what is told before the levels
abbrev BodyTold : Front → List (List ℕ) → ℕ → StateValue → Type 0
BodyTold front scripts count s = ((Unit {0} × (front_of s ≡ front)) × (s.scripts ≡ scripts)) × (length s.levels ≡ count)

body_levels : (by : Naming) (most : ℕ) → most < 2 ^ 40 → (front : Front) (scripts : List (List ℕ)) (count : ℕ)
    → Lawful (λ (s : StateValue). BodyTold front scripts count s × (AllByRecursion (LevelFits most) s.levels × Unit {0}))
    (λ s. flat_map (level_text by) s.levels ++ [])
    (λ bytes. times (level_at by most) count bytes >>= λ levels. Some
    (record { net = front.0; blocks = front.1; scripts = scripts; levels = levels.0 }, levels.1))
body_levels by most few front scripts count =
    same _ (λ (s : StateValue). BodyTold front scripts count s × (AllByRecursion (LevelFits most) s.levels × Unit {0})) _
    (λ s. flat_map (level_text by) s.levels ++ []) _
    (led (BodyTold front scripts count) (λ ls. (length ls ≡ count) × AllByRecursion (LevelFits most) ls) (flat_map (level_text by))
    (times (level_at by most) count) (λ (s : StateValue). s.levels) _ _ _
    (repeated (LevelFits most) (level_text by) (level_at by most) (level_lawful by most few) count) (λ levels fits.
    ended (λ (s : StateValue). BodyTold front scripts count s × (s.levels ≡ levels))
    (record { net = front.0; blocks = front.1; scripts = scripts; levels = levels }) ((((tt, refl), refl), fits.0), refl)
    (λ s e. rw (← e.0.0.0.1, ← e.0.0.1, ← e.1) refl)))
    (λ s f. (f.0, (f.1.0.1, tt)))
    (λ s f. (f.0, ((f.0.1, f.1.0), tt)))
    (λ s _. refl)

pub body_lawful : (by : Naming) (most : ℕ) → most < 2 ^ 40 → Lawful (StateFits most) (body_text by) (body_at by most)
unfolding body_at body_text
body_lawful by most few =
    same _ (StateFits most) _ (body_text by) (body_at by most)
    (led Always FrontFits front_text front_at front_of _ _ _ front_lawful (λ front _.
    led (λ (s : StateValue). Unit {0} × (front_of s ≡ front)) (AreCounted ScriptFits) (counted sized) (counted_at sized_at) (λ s. s.scripts) _ _ _
    (counted_lawful ScriptFits sized sized_at sized_lawful) (λ scripts _.
    led (λ (s : StateValue). (Unit {0} × (front_of s ≡ front)) × (s.scripts ≡ scripts)) (λ n. n < 256) (λ n. n ∷ []) byte_at (λ s. length s.levels) _
    _ _ byte_lawful (λ count _.
    body_levels by most few front scripts count))))
    (λ s f. record { blocks = f.1.0; count_of_scripts = f.1.1.0.0; scripts = f.1.1.0.1; count_of_levels = f.1.1.1.0; levels = f.1.1.1.1.0 })
    (λ s f. (tt, (f.blocks, ((f.count_of_scripts, f.scripts), (f.count_of_levels, (f.levels, tt))))))
    (λ s _. regrouped (net_code s.net ∷ []) (to_le_bytes w32 s.blocks) (counted sized s.scripts) (length s.levels ∷ [])
    (flat_map (level_text by) s.levels))
  where
    regrouped : (n b s c l : List ℕ) → (n ++ (b ++ [])) ++ (s ++ (c ++ (l ++ []))) ≡ n ++ b ++ s ++ c ++ l
    regrouped n b s c l = simp (append_assoc, append-nil)

-- ---- the whole

-- bytes are the body of what has a text
pub record IsBody (by : Naming) (most : ℕ) (bytes : List ℕ) (s : StateValue) : Type 0 where
  pub fits : StateFits most s
  pub text : bytes ≡ body_text by s

pub whole_took : (by : Naming) (most : ℕ) → most < 2 ^ 40 → (bytes : List ℕ) (s : StateValue) (left : List ℕ) → IsBytes bytes
    → whole_at by most bytes ≡ Some (s, left) → IsBody by most bytes s
unfolding whole_at
whole_took by most few bytes s left is_bytes e =
    let b = bind_some (body_at by most bytes) (λ x. cond (eqb (length x.1) 0) (Some x) None) (s, left) e in
    let g = passed (eqb (length b.0.1) 0) b.0 (s, left) b.2 in
    let t = (body_lawful by most few).took bytes b.0.0 b.0.1 is_bytes b.1 in
    let none : b.0.1 ≡ [] = nil_from_length b.0.1 (eqb-true _ _ g.0) in
    let text : bytes ≡ body_text by b.0.0 = t.parts ∙ ap (λ (r : List ℕ). body_text by b.0.0 ++ r) none ∙ append-nil (body_text by b.0.0) in
    subst (λ (q : StateValue × List ℕ). IsBody by most bytes q.0) g.1 (record { fits = t.fits; text = text })

pub whole_again : (by : Naming) (most : ℕ) → most < 2 ^ 40 → (s : StateValue) → StateFits most s → whole_at by most (body_text by s) ≡ Some (s, [])
unfolding whole_at
whole_again by most few s fits =
    let e : body_at by most (body_text by s) ≡ Some (s, []) = ap (body_at by most) (sym (append-nil (body_text by s)))
    ∙ (body_lawful by most few).again s [] fits in
    rw e refl

-- a text is that of one state
pub one_body : (by : Naming) (most : ℕ) → most < 2 ^ 40 → (s t : StateValue) → StateFits most s → StateFits most t → body_text by s ≡ body_text by t
    → s ≡ t
one_body by most few s t fs ft e = ap (λ p. p.0)
    (some_is (s, []) (t, []) (sym (whole_again by most few s fs) ∙ (ap (whole_at by most) e ∙ whole_again by most few t ft)))
