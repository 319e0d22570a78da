-- Entries that a block spends, and that are live again once it is undone.
use Rattle.std.proofs.Common.{◌≡◌, ℕ, zero, suc, ◌<◌, Bool, true, false, List, [], ◌∷◌, length, get_or, All, refl, sym, ap, ap₂, ◌∙◌, subst, ⊎_elim}
use Rattle.std.proofs.Common.{arith, eq-eqb, ◌++◌, ◌+◌, ◌≤◌}
use Rattle.std.specs.Prelude.{◌==◌, ◌&&◌, ◌||◌, not}
use Rattle.std.specs.List.{AllByRecursion, list_any}
use Rattle.std.proofs.lemmas.Bool.{cases_Bool, eqb-true, false≢true, or_parts}
use Rattle.std.proofs.lemmas.List.Elements.{recursion_from_All}
use Rattle.std.proofs.Math.Bool.{or-true}
use Rattle.leaf_record.specs.Leaf.{Leaf}
use Rattle.output_index.specs.Held.{Held, is_live, is_spent, with_live_at, with_live, IsAbove, NumbersRise}
use Rattle.output_index.proofs.Standing.{later_not}
use Rattle.bridge_prover.specs.Own.{numbered, spent_in, cut_in, unspent_in}
use Rattle.bridge_prover.proofs.Rising.{all_mapped, all_both, rise-numbered, above-spent}
use Rattle.bridge_prover.proofs.Indexing.{above-numbered, live-numbered, cut_added}

-- ---- one entry, changed for each of some numbers

abbrev is_named : List ℕ → Held → Bool
is_named ns h = list_any (λ n. h.number == n) ns

abbrev set_at : Bool → List ℕ → Held → Held
set_at live [] h = h
set_at live (n ∷ ns) h = set_at live ns (with_live_at n live h)

changed : (n : ℕ) (live : Bool) (h : Held) → (h.number == n) ≡ true → with_live_at n live h ≡ record h { live = live }
changed n live h t = rw t refl

kept : (n : ℕ) (live : Bool) (h : Held) → (h.number == n) ≡ false → with_live_at n live h ≡ h
kept n live h f = rw f refl

as_it_was : (live : Bool) (h : Held) → h.live ≡ live → record h { live = live } ≡ h
as_it_was live h e = ap (λ b. (let k : Held = record h { live = b } in k)) (sym e)

set_same : (live : Bool) (ns : List ℕ) (h : Held) → h.live ≡ live → set_at live ns h ≡ h
set_same live [] h e = refl
set_same live (n ∷ ns) h e =
    ⊎_elim
    (λ t. ap (set_at live ns) (changed n live h t ∙ as_it_was live h e) ∙ set_same live ns h e)
    (λ f. ap (set_at live ns) (kept n live h f) ∙ set_same live ns h e)
    (cases_Bool (h.number == n))

set_named : (live : Bool) (ns : List ℕ) (h : Held) → is_named ns h ≡ true → set_at live ns h ≡ record h { live = live }
set_named live [] h m = absurd (false≢true m)
set_named live (n ∷ ns) h m =
    ⊎_elim
    (λ t. ap (set_at live ns) (changed n live h t) ∙ set_same live ns (record h { live = live }) refl)
    (λ f. ap (set_at live ns) (kept n live h f) ∙ set_named live ns h (subst (λ b. (b || is_named ns h) ≡ true) f m))
    (cases_Bool (h.number == n))

set_other : (live : Bool) (ns : List ℕ) (h : Held) → is_named ns h ≡ false → set_at live ns h ≡ h
set_other live [] h m = refl
set_other live (n ∷ ns) h m =
    let parts = or_parts (h.number == n) (is_named ns h) m in
    ap (set_at live ns) (kept n live h parts.0) ∙ set_other live ns h parts.1

given_one : (ns : List ℕ) (h : Held) → (is_named ns h ≡ true → h.live ≡ true) → set_at true ns (set_at false ns h) ≡ h
given_one ns h live =
    ⊎_elim
    (λ t. ap (set_at true ns) (set_named false ns h t) ∙ (set_named true ns (record h { live = false }) t ∙ as_it_was true h (live t)))
    (λ f. ap (set_at true ns) (set_other false ns h f) ∙ set_other true ns h f)
    (cases_Bool (is_named ns h))

-- ---- all entries, one by one

spent_none : (ns : List ℕ) → spent_in ns [] ≡ []
spent_none [] = refl
spent_none (n ∷ ns) = spent_none ns

unspent_none : (ns : List ℕ) → unspent_in ns [] ≡ []
unspent_none [] = refl
unspent_none (n ∷ ns) = unspent_none ns

spent_first : (ns : List ℕ) (h : Held) (hs : List Held) → spent_in ns (h ∷ hs) ≡ set_at false ns h ∷ spent_in ns hs
spent_first [] h hs = refl
spent_first (n ∷ ns) h hs = spent_first ns (with_live_at n false h) (with_live n false hs)

unspent_first : (ns : List ℕ) (h : Held) (hs : List Held) → unspent_in ns (h ∷ hs) ≡ set_at true ns h ∷ unspent_in ns hs
unspent_first [] h hs = refl
unspent_first (n ∷ ns) h hs = unspent_first ns (with_live_at n true h) (with_live n true hs)

given_all : (ns : List ℕ) (hs : List Held) → AllByRecursion (λ h. is_named ns h ≡ true → h.live ≡ true) hs → unspent_in ns (spent_in ns hs) ≡ hs
given_all ns [] a = ap (unspent_in ns) (spent_none ns) ∙ unspent_none ns
given_all ns (h ∷ hs) a =
    ap (unspent_in ns) (spent_first ns h hs)
    ∙ (unspent_first ns (set_at false ns h) (spent_in ns hs) ∙ ap₂ (λ (x : Held) (xs : List Held). x ∷ xs) (given_one ns h a.0) (given_all ns hs a.1))

-- ---- the entry of a live number is live

first_live : (a b c : Bool) → (a && b || c) ≡ true → c ≡ false → b ≡ true
first_live a true c l f = refl
first_live true false c l f = absurd (false≢true (sym f ∙ l))
first_live false false c l f = absurd (false≢true (sym f ∙ l))

live_named : (n : ℕ) (hs : List Held) → NumbersRise hs → is_live n hs ≡ true → AllByRecursion (λ h. (h.number == n) ≡ true → h.live ≡ true) hs
live_named n [] r l = tt
live_named n (h ∷ hs) r l = (
  λ t. first_live (h.number == n) h.live (is_live n hs) l
      (later_not n hs (subst (λ m. AllByRecursion (λ (x : Held). m < x.number) hs) (eqb-true h.number n t) r.0)),
  ⊎_elim
      (λ t. all_mapped (λ (x : Held). h.number < x.number) (λ (x : Held). (x.number == n) ≡ true → x.live ≡ true)
      (λ x lt s. let e = eqb-true h.number n t in let q = eqb-true x.number n s in absurd (omega (arith, e, q, lt))) hs r.0)
      (λ f. live_named n hs r.1 (subst (λ b. (b && h.live || is_live n hs) ≡ true) f l))
      (cases_Bool (h.number == n)),
)

none_named : (hs : List Held) → AllByRecursion (λ h. is_named [] h ≡ true → h.live ≡ true) hs
none_named [] = tt
none_named (h ∷ hs) = (λ m. absurd (false≢true m), none_named hs)

all_named : (ns : List ℕ) (hs : List Held) → NumbersRise hs → AllByRecursion (λ n. is_live n hs ≡ true) ns
    → AllByRecursion (λ h. is_named ns h ≡ true → h.live ≡ true) hs
all_named [] hs r a = none_named hs
all_named (n ∷ ns) hs r a =
    all_both (λ (h : Held). (h.number == n) ≡ true → h.live ≡ true) (λ (h : Held). is_named ns h ≡ true → h.live ≡ true)
    (λ (h : Held). is_named (n ∷ ns) h ≡ true → h.live ≡ true)
    (λ h here later m. ⊎_elim (λ t. here t) (λ f. later (subst (λ b. (b || is_named ns h) ≡ true) f m)) (cases_Bool (h.number == n)))
    hs (live_named n hs r a.0) (all_named ns hs r a.1)

-- entries that were live, and that are spent and then live again, are as they were
pub given_back : (ns : List ℕ) (hs : List Held) → NumbersRise hs → All (λ i. is_live i hs ≡ true) ns → unspent_in ns (spent_in ns hs) ≡ hs
given_back ns hs r a = given_all ns hs (all_named ns hs r (recursion_from_All (λ i. is_live i hs ≡ true) ns a))

-- ---- what is spent

listed : (ns : List ℕ) (k d : ℕ) → k < length ns → list_any (λ n. get_or ns k d == n) ns ≡ true
listed [] k d lt = absurd (omega (arith, lt))
listed (n ∷ ns) zero d lt = ap (λ b. b || list_any (λ m. n == m) ns) (eq-eqb n n refl)
listed (n ∷ ns) (suc k) d lt = ap (λ b. get_or ns k d == n || b) (listed ns k d (omega (arith, lt))) ∙ or-true (get_or ns k d == n)

spent_one : (i : ℕ) (ns : List ℕ) (hs : List Held) → list_any (λ n. i == n) ns ≡ true → is_live i hs ≡ true → is_spent i (spent_in ns hs) ≡ true
spent_one i ns [] m l = absurd (false≢true l)
spent_one i ns (h ∷ hs) m l =
    ap (is_spent i) (spent_first ns h hs)
    ∙ ⊎_elim
    (λ t. ap (λ (x : Held). x.number == i && not x.live || is_spent i (spent_in ns hs))
    (set_named false ns h (subst (λ j. list_any (λ n. j == n) ns ≡ true) (sym (eqb-true h.number i t)) m))
    ∙ ap (λ b. b && true || is_spent i (spent_in ns hs)) t)
    (λ f. ap (λ b. (set_at false ns h).number == i && not (set_at false ns h).live || b)
    (spent_one i ns hs m (subst (λ b. (b && h.live || is_live i hs) ≡ true) f l))
    ∙ or-true ((set_at false ns h).number == i && not (set_at false ns h).live))
    (cases_Bool (h.number == i))

-- live entries are spent once these numbers were spent
pub all_spent : (ns : List ℕ) (hs : List Held) → All (λ i. is_live i hs ≡ true) ns → All (λ i. is_spent i (spent_in ns hs) ≡ true) ns
all_spent ns hs a = λ k d lt. spent_one (get_or ns k d) ns hs (listed ns k d lt) (a k d lt)

-- ---- a block that is taken back: what it added is gone, and what it spent is live

live_front : (i : ℕ) (hs ks : List Held) → is_live i hs ≡ true → is_live i (hs ++ ks) ≡ true
live_front i [] ks live = absurd (false≢true live)
live_front i (h ∷ hs) ks live = by_case (h.number == i && h.live) (is_live i hs) live (live_front i hs ks)
  where
    by_case : (b rest : Bool) → (b || rest) ≡ true → (rest ≡ true → is_live i (hs ++ ks) ≡ true) → (b || is_live i (hs ++ ks)) ≡ true
    by_case true rest e more = refl
    by_case false rest e more = more e

module _ (ns : List ℕ) (n : ℕ) (new : List Leaf) (hs : List Held) (rise : NumbersRise hs) (above : IsAbove n hs)
    (live : All (λ i. is_live i hs ≡ true) ns) where
  live_both : All (λ i. is_live i (hs ++ numbered n new) ≡ true) ns
  live_both = λ k d lt. live_front (get_or ns k d) hs (numbered n new) (live k d lt)

  pub spent_both : All (λ i. is_spent i (spent_in ns (hs ++ numbered n new)) ≡ true) ns
  spent_both = all_spent ns (hs ++ numbered n new) live_both

  back : unspent_in ns (spent_in ns (hs ++ numbered n new)) ≡ hs ++ numbered n new
  back = given_back ns (hs ++ numbered n new) (rise-numbered n new hs rise above) live_both

  pub above_both : IsAbove (n + length new) (spent_in ns (hs ++ numbered n new))
  above_both = above-spent (n + length new) ns (hs ++ numbered n new) (above-numbered n new hs above)

  pub live_new : (i : ℕ) → n ≤ i → i < n + length new → is_live i (unspent_in ns (spent_in ns (hs ++ numbered n new))) ≡ true
  live_new i le lt = ap (is_live i) back ∙ live-numbered n i new hs le lt

  pub taken_back : cut_in n (unspent_in ns (spent_in ns (hs ++ numbered n new))) ≡ hs
  taken_back = ap (cut_in n) back ∙ cut_added n new hs above
