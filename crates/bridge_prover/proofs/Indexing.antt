-- The index while a block spends and adds, and while it is undone.
use Rattle.std.proofs.Common.{◌≡◌, ℕ, suc, ◌+◌, ◌<◌, ◌≤◌, Bool, true, false, cond, List, [], ◌∷◌, ◌++◌, length, take, drop, get_or, Some, refl}
use Rattle.std.proofs.Common.{sym, ap, ◌∙◌, subst, ⊎_elim, arith, ne_eqb, eq-eqb}
use Rattle.std.specs.Prelude.{◌==◌, ◌&&◌, ◌||◌, not, nat_lt, slice_get}
use Rattle.std.proofs.lemmas.Bool.{cases_Bool, cases_eq, lt-ltb, le-ltb, ltb-true, ltb-false}
use Rattle.std.proofs.lemmas.List.{drop_more}
use Rattle.leaf_record.specs.Leaf.{Leaf}
use Rattle.output_index.specs.Held.{Held, is_live, with_live, without, IsAbove}
use Rattle.bridge_prover.specs.Own.{numbered, spent_in, cut_in, unspent_in}
use Rattle.bridge_prover.proofs.Gathering.{took_more}

-- ---- the loops that spend and unspend
pub spent_step : (xs : List ℕ) (i : ℕ) (hs : List Held) → i < length xs
    → spent_in (drop i xs) hs ≡ spent_in (drop (i + 1) xs) (with_live (get_or xs i 0) false hs)
spent_step xs i hs lt = ap (λ ys. spent_in ys hs) (drop_more xs i 0 lt)

pub unspent_step : (xs : List ℕ) (i : ℕ) (hs : List Held) → i < length xs
    → unspent_in (drop i xs) hs ≡ unspent_in (drop (i + 1) xs) (with_live (get_or xs i 0) true hs)
unspent_step xs i hs lt = ap (λ ys. unspent_in ys hs) (drop_more xs i 0 lt)

-- ---- new entries
pub numbered-push : (n : ℕ) (new : List Leaf) (leaf : Leaf)
    → numbered n (new ++ leaf ∷ []) ≡ numbered n new ++ record { number = n + length new; leaf = leaf; live = true } ∷ []
numbered-push n [] leaf = (let e : n ≡ n + 0 = omega arith in ap (λ k. (let h : Held = record { number = k; leaf = leaf; live = true } in h ∷ [])) e)
numbered-push n (x ∷ new) leaf =
    let e : suc n + length new ≡ n + suc (length new) = omega arith in
    ap (λ hs. record { number = n; leaf = x; live = true } ∷ hs)
    (numbered-push (suc n) new leaf ∙ ap (λ k. (let h : Held = record { number = k; leaf = leaf; live = true } in numbered (suc n) new ++ h ∷ []))
    e)

pub append_same : {X : Type 0} (xs ys zs : List X) → (xs ++ ys) ++ zs ≡ xs ++ (ys ++ zs)
append_same [] ys zs = refl
append_same (x ∷ xs) ys zs = ap (λ ws. x ∷ ws) (append_same xs ys zs)

pub above-numbered : (n : ℕ) (new : List Leaf) (hs : List Held) → IsAbove n hs → IsAbove (n + length new) (hs ++ numbered n new)
above-numbered n [] [] a = tt
above-numbered n (x ∷ new) [] a =
    let e : suc n + length new ≡ n + suc (length new) = omega arith in
    (omega arith, subst (λ m. IsAbove m (numbered (suc n) new)) e (above-numbered (suc n) new [] tt))
above-numbered n new (h ∷ hs) a = (let b = a.0 in omega arith, above-numbered n new hs a.1)

live_first : (n i : ℕ) (new : List Leaf) → n ≤ i → i < n + length new → is_live i (numbered n new) ≡ true
live_first n i [] le lt = absurd (omega arith)
live_first n i (x ∷ new) le lt =
    ⊎_elim
    (λ e. rw (eq-eqb n i (sym e)) refl)
    (λ o. rw (ne_eqb n i (λ e. o (sym e))) (live_first (suc n) i new (omega (arith, o)) (omega arith)))
    (cases_eq i n)

pub live-numbered : (n i : ℕ) (new : List Leaf) (hs : List Held) → n ≤ i → i < n + length new → is_live i (hs ++ numbered n new) ≡ true
live-numbered n i new [] le lt = live_first n i new le lt
live-numbered n i new (h ∷ hs) le lt = ap (λ b. h.number == i && h.live || b) (live-numbered n i new hs le lt) ∙ by_case (h.number == i && h.live)
  where
    by_case : (b : Bool) → (b || true) ≡ true
    by_case true = refl
    by_case false = refl

-- ---- the last ones are taken back
pub cut_all : (n : ℕ) (hs : List Held) → IsAbove n hs → cut_in n hs ≡ hs
cut_all n [] a = refl
cut_all n (h ∷ hs) a = ap (λ b. cond b (h ∷ cut_in n hs) (cut_in n hs)) (lt-ltb h.number n a.0) ∙ ap (λ xs. h ∷ xs) (cut_all n hs a.1)

cut_none : (n m : ℕ) (new : List Leaf) → n ≤ m → cut_in n (numbered m new) ≡ []
cut_none n m [] le = refl
cut_none n m (x ∷ new) le = ap (λ b. (let h : Held = record { number = m; leaf = x; live = true } in
    cond b (h ∷ cut_in n (numbered (suc m) new)) (cut_in n (numbered (suc m) new)))) (le-ltb m n le) ∙ cut_none n (suc m) new (omega arith)

pub cut_added : (n : ℕ) (new : List Leaf) (hs : List Held) → IsAbove n hs → cut_in n (hs ++ numbered n new) ≡ hs
cut_added n new [] a = cut_none n n new (omega arith)
cut_added n new (h ∷ hs) a = ap (λ b. cond b (h ∷ cut_in n (hs ++ numbered n new)) (cut_in n (hs ++ numbered n new))) (lt-ltb h.number n a.0)
    ∙ ap (λ xs. h ∷ xs) (cut_added n new hs a.1)

pub cut_above : (n : ℕ) (hs : List Held) → IsAbove n (cut_in n hs)
cut_above n [] = tt
cut_above n (h ∷ hs) = ⊎_elim (λ t. rw t (ltb-true h.number n t, cut_above n hs)) (λ f. rw f (cut_above n hs)) (cases_Bool (nat_lt h.number n))

pub cut_step : (n : ℕ) (hs : List Held) → without n (cut_in (n + 1) hs) ≡ cut_in n hs
cut_step n [] = refl
cut_step n (h ∷ hs) =
    ⊎_elim
    (λ below. ap (λ b. without n (cond b (h ∷ cut_in (n + 1) hs) (cut_in (n + 1) hs)))
    (lt-ltb h.number (n + 1) (let l = ltb-true h.number n below in omega (arith, l)))
    ∙ (ap (λ b. cond (not b) (h ∷ without n (cut_in (n + 1) hs)) (without n (cut_in (n + 1) hs)))
    (ne_eqb h.number n (λ e. let l = ltb-true h.number n below in omega (arith, l, e)))
    ∙ (ap (λ xs. h ∷ xs) (cut_step n hs) ∙ sym (ap (λ b. cond b (h ∷ cut_in n hs) (cut_in n hs)) below))))
    (λ not_below. ⊎_elim
    (λ same. ap (λ b. without n (cond b (h ∷ cut_in (n + 1) hs) (cut_in (n + 1) hs))) (lt-ltb h.number (n + 1) (omega (arith, same)))
    ∙ (ap (λ b. cond (not b) (h ∷ without n (cut_in (n + 1) hs)) (without n (cut_in (n + 1) hs))) (eq-eqb h.number n same)
    ∙ (cut_step n hs ∙ sym (ap (λ b. cond b (h ∷ cut_in n hs) (cut_in n hs)) not_below))))
    (λ other. ap (λ b. without n (cond b (h ∷ cut_in (n + 1) hs) (cut_in (n + 1) hs)))
    (le-ltb h.number (n + 1) (let g = ltb-false h.number n not_below in omega (arith, g, other)))
    ∙ (cut_step n hs ∙ sym (ap (λ b. cond b (h ∷ cut_in n hs) (cut_in n hs)) not_below)))
    (cases_eq h.number n))
    (cases_Bool (nat_lt h.number n))

pub cut_live : (n i : ℕ) (hs : List Held) → i < n → is_live i (cut_in n hs) ≡ is_live i hs
cut_live n i [] lt = refl
cut_live n i (h ∷ hs) lt =
    ⊎_elim
    (λ below. ap (λ b. is_live i (cond b (h ∷ cut_in n hs) (cut_in n hs))) below ∙ ap (λ b. h.number == i && h.live || b) (cut_live n i hs lt))
    (λ above. ap (λ b. is_live i (cond b (h ∷ cut_in n hs) (cut_in n hs))) above
    ∙ (cut_live n i hs lt ∙ sym (ap (λ b. b && h.live || is_live i hs)
    (ne_eqb h.number i (λ e. let g = ltb-false h.number n above in omega (arith, g, e, lt))))))
    (cases_Bool (nat_lt h.number n))

-- one more new entry
pub inserted_more : (n i : ℕ) (new : List Leaf) (leaf : Leaf) (first old after : List Held) → slice_get new i ≡ Some leaf → length (take i new) ≡ i
    → old ≡ first ++ numbered n (take i new) → after ≡ old ++ record { number = n + i; leaf = leaf; live = true } ∷ []
    → after ≡ first ++ numbered n (take (i + 1) new)
inserted_more n i new leaf first old after got long was e =
    let pushed = numbered-push n (take i new) leaf
    ∙ ap (λ k. (let h : Held = record { number = n + k; leaf = leaf; live = true } in numbered n (take i new) ++ h ∷ [])) long in
    e ∙ (ap (λ xs. (let h : Held = record { number = n + i; leaf = leaf; live = true } in xs ++ h ∷ [])) was
    ∙ (append_same first (numbered n (take i new)) _ ∙ ap (λ xs. first ++ xs) (sym pushed ∙ ap (numbered n) (took_more new i leaf got))))
