-- What undoes the newest blocks, while the index changes and records are dropped.
use Rattle.std.proofs.Common.{◌≡◌, ◌≢◌, ℕ, zero, suc, ◌<◌, ◌≤◌, true, false, List, [], ◌∷◌, map, set, length, take, get_or, Option, Some}
use Rattle.std.proofs.Common.{None, refl, sym, ap, ◌∙◌, subst, ⊎_elim, arith}
use Rattle.std.specs.Prelude.{slice_get, option_map, AllPairs}
use Rattle.std.specs.List.{AllByRecursion}
use Rattle.std.proofs.lemmas.Bool.{cases_Bool}
use Rattle.std.proofs.lemmas.Option.{none-some, same_Some, slice_get_within}
use Rattle.uo_base.proofs.Lists.{got_front}
use Rattle.leaf_record.specs.Leaf.{Leaf}
use Rattle.leaf_record.specs.History.{History, spent}
use Rattle.leaf_record.proofs.HistoryLaws.{get-spent, length-spent}
use Rattle.node_rules.specs.Judging.{history_after}
use Rattle.node_rules.specs.Machine.{Level}
use Rattle.node_rules.proofs.Newest.{AllDiffer}
use Rattle.node_rules.proofs.Running.{length-after}
use Rattle.output_index.specs.Held.{Held, leaf_at, is_live, is_spent, with_live, without, NumbersRise}
use Rattle.output_index.specs.Indexed.{IsIndexOf}
use Rattle.output_index.proofs.HeldLaws.{leaf-without_other, spent-without_other, spent_from}
use Rattle.output_index.proofs.Standing.{live_is_there, forgotten_is_spent, unspent_is_live}
use Rattle.reorg_undo.specs.Undo.{UndoRecord}
use Rattle.bridge_prover.specs.Own.{forgotten_in, unspent_in}
use Rattle.bridge_prover.specs.Standing.{IsLiveIn, Undoes, GiveBack}
use Rattle.bridge_prover.proofs.Rising.{all_mapped, all_both, rise-filter, rise-with_live, leaf-with_live, spent-with_other}

-- ---- lists

set_none : {X : Type 0} (xs : List (Option X)) (n i : ℕ) → slice_get xs i ≡ Some None → slice_get (set xs n None) i ≡ Some None
set_none [] n i e = absurd (none-some None e)
set_none (x ∷ xs) zero zero e = refl
set_none (x ∷ xs) zero (suc i) e = e
set_none (x ∷ xs) (suc n) zero e = e
set_none (x ∷ xs) (suc n) (suc i) e = set_none xs n i e

set_here : {X : Type 0} (xs : List (Option X)) (n : ℕ) → n < length xs → slice_get (set xs n None) n ≡ Some None
set_here [] n lt = absurd (omega (arith, lt))
set_here (x ∷ xs) zero lt = refl
set_here (x ∷ xs) (suc n) lt = set_here xs n (omega (arith, lt))

pub got_none : {X : Type 0} (xs : List (Option X)) (i : ℕ) → slice_get xs i ≡ Some None → get_or xs i None ≡ None
got_none [] i e = refl
got_none (x ∷ xs) zero e = same_Some x None e
got_none (x ∷ xs) (suc i) e = got_none xs i e

differ_at : (n : ℕ) (ns : List ℕ) → ((j d : ℕ) → j < length ns → n ≢ get_or ns j d) → AllByRecursion (λ m. n ≢ m) ns
differ_at n [] h = tt
differ_at n (m ∷ ns) h = (h 0 0 (omega arith), differ_at n ns (λ j d lt. h (suc j) d (omega (arith, lt))))

pub differ_from : (ns : List ℕ) → AllPairs (λ i j. i ≢ j) ns → AllDiffer ns
differ_from [] a = tt
differ_from (n ∷ ns) a = (
  differ_at n ns (λ j d lt. a 0 (suc j) d (omega arith) (omega (arith, lt))),
  differ_from ns (λ i j d lt below. a (suc i) (suc j) d (omega (arith, lt)) (omega (arith, below))),
)

-- ---- what was spent stays spent

abbrev pub IsGone : History → ℕ → Type 0
IsGone us n = slice_get us n ≡ Some None

spent_stays : (ns : List ℕ) (us : History) (i : ℕ) → IsGone us i → IsGone (spent ns us) i
spent_stays [] us i e = e
spent_stays (n ∷ ns) us i e = set_none (spent ns us) n i (spent_stays ns us i e)

pub gone_after : (us : History) (ns : List ℕ) (new : List Leaf) (i : ℕ) → IsGone us i → IsGone (history_after us ns new) i
gone_after us ns new i e = got_front (spent ns us) (map Some new) i None (spent_stays ns us i e)

pub spent_gone : (ns : List ℕ) (us : History) → AllByRecursion (IsLiveIn us) ns → AllByRecursion (IsGone (spent ns us)) ns
spent_gone [] us a = tt
spent_gone (n ∷ ns) us a =
    let below = slice_get_within us n (Some a.0.0) a.0.1 in (
      set_here (spent ns us) n (omega (arith, below, length-spent ns us)),
      all_mapped (IsGone (spent ns us)) (IsGone (spent (n ∷ ns) us)) (λ m e. set_none (spent ns us) n m e) ns (spent_gone ns us a.1),
    )

pub all_gone : (us : History) (ns : List ℕ) (new : List Leaf) → AllByRecursion (IsLiveIn us) ns → AllByRecursion (IsGone (history_after us ns new)) ns
all_gone us ns new a = all_mapped (IsGone (spent ns us)) (IsGone (history_after us ns new)) (λ m e. got_front (spent ns us) (map Some new) m None e)
    ns (spent_gone ns us a)

-- ---- the records, where the index changes

pub older_few : (u : UndoRecord) (newer older : Level) → Undoes u newer older → length older.history ≤ length newer.history
older_few u newer older w = let e = ap length w.after ∙ length-after older.history u.spent w.new in omega (arith, e)

-- where each output of an entry below the newer level's end is still held
pub give_held : (hs ks : List Held) (n : ℕ) → ((i : ℕ) (leaf : Leaf) → i < n → leaf_at i hs ≡ Some leaf → leaf_at i ks ≡ Some leaf) →
    (newer : Level) (ls : List Level) (us : List UndoRecord) → length newer.history ≤ n → GiveBack hs newer ls us → GiveBack ks newer ls us
give_held hs ks n k newer [] [] le g = tt
give_held hs ks n k newer [] (u ∷ us) le g = g
give_held hs ks n k newer (l ∷ ls) [] le g = g
give_held hs ks n k newer (l ∷ ls) (u ∷ us) le g =
    let few = older_few u newer l g.0 in (
      g.0,
      λ i leaf e. k i leaf (let lt = slice_get_within l.history i (Some leaf) e in omega (arith, lt, few, le)) (g.1 i leaf e),
      give_held hs ks n k l ls us (omega (arith, few, le)) g.2,
    )

pub give_taken : (k : ℕ) (hs : List Held) (newer : Level) (ls : List Level) (us : List UndoRecord) → GiveBack hs newer ls us
    → GiveBack hs newer (take k ls) (take k us)
give_taken zero hs newer ls us g = tt
give_taken (suc k) hs newer [] [] g = tt
give_taken (suc k) hs newer [] (u ∷ us) g = absurd g
give_taken (suc k) hs newer (l ∷ ls) [] g = absurd g
give_taken (suc k) hs newer (l ∷ ls) (u ∷ us) g = (g.0, g.1, give_taken k hs l ls us g.2)

abbrev pub GoneIn : ℕ → Level → Type 0
GoneIn n l = IsGone l.history n

give_without : (n : ℕ) (hs : List Held) (newer : Level) (ls : List Level) (us : List UndoRecord) → AllByRecursion (GoneIn n) ls
    → GiveBack hs newer ls us → GiveBack (without n hs) newer ls us
give_without n hs newer [] [] a g = tt
give_without n hs newer [] (u ∷ us) a g = g
give_without n hs newer (l ∷ ls) [] a g = g
give_without n hs newer (l ∷ ls) (u ∷ us) a g = (
  g.0,
  λ i leaf e. leaf-without_other n i hs (λ same. let z : Some None ≡ Some (Some leaf) = sym a.0 ∙ (ap (slice_get l.history) (sym same) ∙ e) in
      none-some leaf (same_Some None (Some leaf) z)) ∙ g.1 i leaf e,
  give_without n hs l ls us a.1 g.2,
)

-- and where entries are forgotten that are spent on all levels
pub give_forgotten : (ns : List ℕ) (hs : List Held) (newer : Level) (ls : List Level) (us : List UndoRecord)
    → AllByRecursion (λ n. AllByRecursion (GoneIn n) ls) ns → GiveBack hs newer ls us → GiveBack (forgotten_in ns hs) newer ls us
give_forgotten [] hs newer ls us a g = g
give_forgotten (n ∷ ns) hs newer ls us a g = give_forgotten ns (without n hs) newer ls us a.1 (give_without n hs newer ls us a.0 g)

-- ---- what an old block spent

-- spent on the newest level and on the k before it, and held
pub record IsOld (hs : List Held) (newer : Level) (ls : List Level) (k n : ℕ) : Type 0 where
  pub newest : IsGone newer.history n
  pub others : AllByRecursion (GoneIn n) (take k ls)
  pub leaf : Leaf
  pub held : leaf_at n hs ≡ Some leaf

pub all_old : (k : ℕ) (hs : List Held) (newer : Level) (ls : List Level) (us : List UndoRecord) (u : UndoRecord) → GiveBack hs newer ls us
    → slice_get us k ≡ Some u → AllByRecursion (IsOld hs newer ls k) u.spent × AllPairs (λ i j. i ≢ j) u.spent
all_old k hs newer [] [] u g e = absurd (none-some u e)
all_old k hs newer [] (w ∷ us) u g e = absurd g
all_old k hs newer (l ∷ ls) [] u g e = absurd g
all_old zero hs newer (l ∷ ls) (w ∷ us) u g e =
    let same : w ≡ u = same_Some w u e in
    subst (λ (x : UndoRecord). AllByRecursion (IsOld hs newer (l ∷ ls) 0) x.spent × AllPairs (λ i j. i ≢ j) x.spent) same (
      all_both (IsLiveIn l.history) (IsGone newer.history) (IsOld hs newer (l ∷ ls) 0)
          (λ n live gone. record { newest = gone; others = tt; leaf = live.0; held = g.1 n live.0 live.1 }) w.spent g.0.live
          (subst (λ us. AllByRecursion (IsGone us) w.spent) (sym g.0.after) (all_gone l.history w.spent g.0.new g.0.live)),
      g.0.apart,
    )
all_old (suc k) hs newer (l ∷ ls) (w ∷ us) u g e =
    let later = all_old k hs l ls us u g.2 e in (
      all_mapped (IsOld hs l ls k) (IsOld hs newer (l ∷ ls) (suc k)) (λ n o. record {
        newest = subst (λ us. IsGone us n) (sym g.0.after) (gone_after l.history w.spent g.0.new n o.newest);
        others = (o.newest, o.others);
        leaf = o.leaf;
        held = o.held;
      }) u.spent later.0,
      later.1,
    )

-- ---- the index

-- what is held and spent in the history is spent in the index
pub spent_there : (hs : List Held) (us : History) → NumbersRise hs → IsIndexOf hs us → (n : ℕ) (leaf : Leaf) → IsGone us n → leaf_at n hs ≡ Some leaf
    → is_spent n hs ≡ true
spent_there hs us rise index n leaf gone held =
    spent_from n hs (ap (λ x. elim x [ None ↦ false | Some y ↦ true ]) held)
    (⊎_elim
    (λ live. let z : Some None ≡ Some (Some leaf) = sym gone ∙ (sym (live_is_there n hs us rise index live) ∙ ap (option_map Some) held) in
    absurd (none-some leaf (same_Some None (Some leaf) z)))
    (λ dead. dead)
    (cases_Bool (is_live n hs)))

pub index-forgotten : (ns : List ℕ) (hs : List Held) (us : History) → NumbersRise hs → AllByRecursion (λ n. is_spent n hs ≡ true) ns → AllDiffer ns
    → IsIndexOf hs us → IsIndexOf (forgotten_in ns hs) us
index-forgotten [] hs us r a d i = i
index-forgotten (n ∷ ns) hs us r a d i =
    index-forgotten ns (without n hs) us (rise-filter _ hs r)
    (all_both (λ m. n ≢ m) (λ m. is_spent m hs ≡ true) (λ m. is_spent m (without n hs) ≡ true)
    (λ m o s. spent-without_other n m hs (λ e. o (sym e)) ∙ s) ns d.0 a.1)
    d.1 (forgotten_is_spent n hs us r a.0 i)

-- an entry that is spent in the index, and was live in the history
pub record WasLive (hs : List Held) (us : History) (n : ℕ) : Type 0 where
  pub spent : is_spent n hs ≡ true
  pub leaf : Leaf
  pub held : leaf_at n hs ≡ Some leaf
  pub live : slice_get us n ≡ Some (Some leaf)

pub index-unspent : (ns : List ℕ) (hs : List Held) (us : History) → NumbersRise hs → AllByRecursion (WasLive hs us) ns → AllDiffer ns
    → IsIndexOf hs (spent ns us) → IsIndexOf (unspent_in ns hs) us
index-unspent [] hs us r a d i = i
index-unspent (n ∷ ns) hs us r a d i =
    let w = a.0 in
    index-unspent ns (with_live n true hs) us (rise-with_live n true hs r)
    (all_both (λ m. n ≢ m) (WasLive hs us) (WasLive (with_live n true hs) us) (λ m o s. record {
      spent = spent-with_other n m true hs (λ e. o (sym e)) ∙ s.spent;
      leaf = s.leaf;
      held = leaf-with_live n m true hs ∙ s.held;
      live = s.live;
    }) ns d.0 a.1)
    d.1 (unspent_is_live n w.leaf hs (spent ns us) r w.spent w.held (get-spent us ns n d.0 ∙ w.live) i)
