-- The held entries stay in order, and each keeps its output, whatever is spent, added or taken back.
use Rattle.std.proofs.Common.{◌≡◌, ◌≢◌, ℕ, suc, ◌<◌, Bool, true, false, cond, List, [], ◌∷◌, ◌++◌, Some, refl, sym, ap, ◌∙◌, ⊎_elim, arith, ne_eqb}
use Rattle.std.specs.Prelude.{◌==◌, ◌&&◌, ◌||◌, not, nat_lt, option_map, if◌then◌else◌}
use Rattle.std.specs.List.{AllByRecursion, filter, list_any}
use Rattle.std.proofs.lemmas.Bool.{cases_Bool, eqb-true, ltb-false}
use Rattle.std.proofs.lemmas.Option.{none-some}
use Rattle.uo_base.proofs.Lists.{all-append}
use Rattle.leaf_record.specs.Leaf.{Leaf}
use Rattle.output_index.specs.Held.{Held, held_at, leaf_at, is_live, is_spent, with_live_at, with_live, IsAbove, NumbersRise}
use Rattle.output_index.proofs.HeldLaws.{above-with_live}
use Rattle.bridge_prover.specs.Own.{numbered, spent_in, cut_in, unspent_in, forgotten_in}

-- ---- lists

pub all_mapped : {X : Type 0} (P Q : X → Type 0) → ((x : X) → P x → Q x) → (xs : List X) → AllByRecursion P xs → AllByRecursion Q xs
all_mapped P Q f [] a = tt
all_mapped P Q f (x ∷ xs) a = (f x a.0, all_mapped P Q f xs a.1)

pub all_both : {X : Type 0} (P Q R : X → Type 0) → ((x : X) → P x → Q x → R x) → (xs : List X) → AllByRecursion P xs → AllByRecursion Q xs
    → AllByRecursion R xs
all_both P Q R f [] a b = tt
all_both P Q R f (x ∷ xs) a b = (f x a.0 b.0, all_both P Q R f xs a.1 b.1)

all_filtered : {X : Type 0} (P : X → Type 0) (p : X → Bool) (xs : List X) → AllByRecursion P xs → AllByRecursion P (filter p xs)
all_filtered P p [] a = tt
all_filtered P p (x ∷ xs) a = by_case (p x) (all_filtered P p xs a.1)
  where
    by_case : (b : Bool) → AllByRecursion P (filter p xs) → AllByRecursion P (cond b (x ∷ filter p xs) (filter p xs))
    by_case true r = (a.0, r)
    by_case false r = r

-- ---- one entry, spent or live again

changed : (n : ℕ) (live : Bool) (h : Held) → (h.number == n) ≡ true → with_live_at n live h ≡ record h { live = live }
changed n live h t = rw t refl

kept : (n : ℕ) (live : Bool) (h : Held) → (h.number == n) ≡ false → with_live_at n live h ≡ h
kept n live h t = rw t refl

pub same_number : (n : ℕ) (live : Bool) (h : Held) → (with_live_at n live h).number ≡ h.number
same_number n live h = ⊎_elim (λ t. ap (λ (x : Held). x.number) (changed n live h t)) (λ t. ap (λ (x : Held). x.number) (kept n live h t))
    (cases_Bool (h.number == n))

pub same_leaf : (n : ℕ) (live : Bool) (h : Held) → (with_live_at n live h).leaf ≡ h.leaf
same_leaf n live h = ⊎_elim (λ t. ap (λ (x : Held). x.leaf) (changed n live h t)) (λ t. ap (λ (x : Held). x.leaf) (kept n live h t))
    (cases_Bool (h.number == n))

pub leaf-with_live : (n q : ℕ) (live : Bool) (hs : List Held) → leaf_at q (with_live n live hs) ≡ leaf_at q hs
leaf-with_live n q live [] = refl
leaf-with_live n q live (h ∷ hs) =
    ap (λ (m : ℕ). option_map (λ (x : Held). x.leaf) (if m == q then Some (with_live_at n live h) else held_at q (with_live n live hs)))
    (same_number n live h)
    ∙ by_case (h.number == q) (leaf-with_live n q live hs)
  where
    by_case : (b : Bool) → leaf_at q (with_live n live hs) ≡ leaf_at q hs →
        option_map (λ (x : Held). x.leaf) (if b then Some (with_live_at n live h) else held_at q (with_live n live hs))
        ≡ option_map (λ (x : Held). x.leaf) (if b then Some h else held_at q hs)
    by_case true r = ap Some (same_leaf n live h)
    by_case false r = r

any-with_other : (f : Bool → Bool) (n q : ℕ) (live : Bool) (hs : List Held) → q ≢ n → list_any (λ h. h.number == q && f h.live) (with_live n live hs)
    ≡ list_any (λ h. h.number == q && f h.live) hs
any-with_other f n q live [] o = refl
any-with_other f n q live (x ∷ hs) o =
    ⊎_elim
    (λ t. ap (λ (y : Held). (y.number == q && f y.live) || list_any (λ h. h.number == q && f h.live) (with_live n live hs)) (changed n live x t)
    ∙ (ap (λ b. b && f live || list_any (λ h. h.number == q && f h.live) (with_live n live hs)) (other t)
    ∙ (any-with_other f n q live hs o ∙ sym (ap (λ b. b && f x.live || list_any (λ h. h.number == q && f h.live) hs) (other t)))))
    (λ t. ap (λ (y : Held). (y.number == q && f y.live) || list_any (λ h. h.number == q && f h.live) (with_live n live hs)) (kept n live x t)
    ∙ ap (λ b. x.number == q && f x.live || b) (any-with_other f n q live hs o))
    (cases_Bool (x.number == n))
  where
    other : (x.number == n) ≡ true → (x.number == q) ≡ false
    other t = ne_eqb x.number q (λ s. o (sym s ∙ eqb-true x.number n t))

pub live-with_other : (n q : ℕ) (live : Bool) (hs : List Held) → q ≢ n → is_live q (with_live n live hs) ≡ is_live q hs
live-with_other n q live hs o = any-with_other (λ b. b) n q live hs o

pub spent-with_other : (n q : ℕ) (live : Bool) (hs : List Held) → q ≢ n → is_spent q (with_live n live hs) ≡ is_spent q hs
spent-with_other n q live hs o = any-with_other not n q live hs o

-- ---- the order

all-with_live : (k n : ℕ) (live : Bool) (hs : List Held) → AllByRecursion (λ other. k < other.number) hs
    → AllByRecursion (λ other. k < other.number) (with_live n live hs)
all-with_live k n live [] a = tt
all-with_live k n live (h ∷ hs) a = (let e = same_number n live h in let b = a.0 in omega (arith, e, b), all-with_live k n live hs a.1)

pub rise-with_live : (n : ℕ) (live : Bool) (hs : List Held) → NumbersRise hs → NumbersRise (with_live n live hs)
rise-with_live n live [] r = tt
rise-with_live n live (h ∷ hs) r =
    let later = all-with_live h.number n live hs r.0 in (
      all_mapped (λ (x : Held). h.number < x.number) (λ (x : Held). (with_live_at n live h).number < x.number)
          (λ x lt. let e = same_number n live h in omega (arith, e, lt)) (with_live n live hs) later,
      rise-with_live n live hs r.1,
    )

pub rise-filter : (p : Held → Bool) (hs : List Held) → NumbersRise hs → NumbersRise (filter p hs)
rise-filter p [] r = tt
rise-filter p (h ∷ hs) r = by_case (p h) (rise-filter p hs r.1)
  where
    by_case : (b : Bool) → NumbersRise (filter p hs) → NumbersRise (cond b (h ∷ filter p hs) (filter p hs))
    by_case true s = (all_filtered (λ (x : Held). h.number < x.number) p hs r.0, s)
    by_case false s = s

numbered-above : (k n : ℕ) (new : List Leaf) → k < n → AllByRecursion (λ other. k < other.number) (numbered n new)
numbered-above k n [] lt = tt
numbered-above k n (x ∷ new) lt = (lt, numbered-above k (suc n) new (omega (arith, lt)))

numbered-rise : (n : ℕ) (new : List Leaf) → NumbersRise (numbered n new)
numbered-rise n [] = tt
numbered-rise n (x ∷ new) = (numbered-above n (suc n) new (omega arith), numbered-rise (suc n) new)

pub rise-numbered : (n : ℕ) (new : List Leaf) (hs : List Held) → NumbersRise hs → IsAbove n hs → NumbersRise (hs ++ numbered n new)
rise-numbered n new [] r a = numbered-rise n new
rise-numbered n new (h ∷ hs) r a = (
  all-append (λ (x : Held). h.number < x.number) hs (numbered n new) r.0 (numbered-above h.number n new a.0),
  rise-numbered n new hs r.1 a.1,
)

pub rise-spent : (ns : List ℕ) (hs : List Held) → NumbersRise hs → NumbersRise (spent_in ns hs)
rise-spent [] hs r = r
rise-spent (n ∷ ns) hs r = rise-spent ns (with_live n false hs) (rise-with_live n false hs r)

pub rise-unspent : (ns : List ℕ) (hs : List Held) → NumbersRise hs → NumbersRise (unspent_in ns hs)
rise-unspent [] hs r = r
rise-unspent (n ∷ ns) hs r = rise-unspent ns (with_live n true hs) (rise-with_live n true hs r)

pub rise-forgotten : (ns : List ℕ) (hs : List Held) → NumbersRise hs → NumbersRise (forgotten_in ns hs)
rise-forgotten [] hs r = r
rise-forgotten (n ∷ ns) hs r = rise-forgotten ns _ (rise-filter (λ h. not (h.number == n)) hs r)

above_filtered : (n : ℕ) (p : Held → Bool) (hs : List Held) → IsAbove n hs → IsAbove n (filter p hs)
above_filtered n p hs a = all_filtered (λ (h : Held). h.number < n) p hs a

pub above-forgotten : (n : ℕ) (ns : List ℕ) (hs : List Held) → IsAbove n hs → IsAbove n (forgotten_in ns hs)
above-forgotten n [] hs a = a
above-forgotten n (m ∷ ns) hs a = above-forgotten n ns _ (above_filtered n (λ h. not (h.number == m)) hs a)

pub above-spent : (n : ℕ) (ns : List ℕ) (hs : List Held) → IsAbove n hs → IsAbove n (spent_in ns hs)
above-spent n [] hs a = a
above-spent n (m ∷ ns) hs a = above-spent n ns (with_live m false hs) (above-with_live n m false hs a)

pub above-unspent : (n : ℕ) (ns : List ℕ) (hs : List Held) → IsAbove n hs → IsAbove n (unspent_in ns hs)
above-unspent n [] hs a = a
above-unspent n (m ∷ ns) hs a = above-unspent n ns (with_live m true hs) (above-with_live n m true hs a)

-- ---- the outputs

pub leaf-append : (q : ℕ) (leaf : Leaf) (hs ks : List Held) → leaf_at q hs ≡ Some leaf → leaf_at q (hs ++ ks) ≡ Some leaf
leaf-append q leaf [] ks e = absurd (none-some leaf e)
leaf-append q leaf (h ∷ hs) ks e = by_case (h.number == q) (leaf-append q leaf hs ks) e
  where
    by_case : (b : Bool) → (leaf_at q hs ≡ Some leaf → leaf_at q (hs ++ ks) ≡ Some leaf)
        → option_map (λ (x : Held). x.leaf) (if b then Some h else held_at q hs) ≡ Some leaf
        → option_map (λ (x : Held). x.leaf) (if b then Some h else held_at q (hs ++ ks)) ≡ Some leaf
    by_case true r f = f
    by_case false r f = r f

pub leaf-spent : (q : ℕ) (ns : List ℕ) (hs : List Held) → leaf_at q (spent_in ns hs) ≡ leaf_at q hs
leaf-spent q [] hs = refl
leaf-spent q (n ∷ ns) hs = leaf-spent q ns (with_live n false hs) ∙ leaf-with_live n q false hs

pub leaf-unspent : (q : ℕ) (ns : List ℕ) (hs : List Held) → leaf_at q (unspent_in ns hs) ≡ leaf_at q hs
leaf-unspent q [] hs = refl
leaf-unspent q (n ∷ ns) hs = leaf-unspent q ns (with_live n true hs) ∙ leaf-with_live n q true hs

pub leaf-cut : (n q : ℕ) (hs : List Held) → q < n → leaf_at q (cut_in n hs) ≡ leaf_at q hs
leaf-cut n q [] lt = refl
leaf-cut n q (h ∷ hs) lt =
    ⊎_elim
    (λ below. ap (λ b. leaf_at q (cond b (h ∷ cut_in n hs) (cut_in n hs))) below ∙ by_case (h.number == q) (leaf-cut n q hs lt))
    (λ above. ap (λ b. leaf_at q (cond b (h ∷ cut_in n hs) (cut_in n hs))) above
    ∙ (leaf-cut n q hs lt ∙ sym (ap (λ b. option_map (λ (x : Held). x.leaf) (if b then Some h else held_at q hs))
    (ne_eqb h.number q (λ e. let g = ltb-false h.number n above in omega (arith, g, e, lt))))))
    (cases_Bool (nat_lt h.number n))
  where
    by_case : (b : Bool) → leaf_at q (cut_in n hs) ≡ leaf_at q hs → option_map (λ (x : Held). x.leaf) (if b then Some h else held_at q (cut_in n hs))
        ≡ option_map (λ (x : Held). x.leaf) (if b then Some h else held_at q hs)
    by_case true r = refl
    by_case false r = r
