-- The newest live output of an outpoint, and sums over what is live.
use Rattle.std.proofs.Common.{◌≡◌, ◌≢◌, ℕ, zero, suc, ◌+◌, true, List, [], ◌∷◌, ◌++◌, map, set, length, Option, Some, None, refl, sym, ap, ◌∙◌, subst}
use Rattle.std.proofs.Common.{ap₂, ⊎_elim, arith, sum_by}
use Rattle.std.specs.Prelude.{◌==◌, slice_get, bytes_eq, if◌then◌else◌}
use Rattle.std.specs.List.{AllByRecursion}
use Rattle.std.specs.Cmp.Lexicographic.{same_text}
use Rattle.std.proofs.Common.{eq-eqb, ◌≤◌}
use Rattle.std.proofs.lemmas.Bool.{cases_Bool, and_from, and_parts, eqb-true}
use Rattle.std.proofs.lemmas.Slice.Eq.{bytes_eq-Decides}
use Rattle.std.proofs.lemmas.List.Sums.{sum_by-cons}
use Rattle.std.proofs.lemmas.Option.{none-some, same_Some}
use Rattle.std.proofs.lemmas.List.{length-set}
use Rattle.leaf_record.specs.Leaf.{Outpoint, Leaf}
use Rattle.leaf_record.specs.History.{somes, same_point, History, Entry, entry_if, later, newer, newest, spent, amount_of, supply}

-- ---- lists with gaps

pub somes-map : {X : Type 0} (xs : List X) → somes (map Some xs) ≡ xs
somes-map [] = refl
somes-map (x ∷ xs) = ap (λ ys. x ∷ ys) (somes-map xs)

pub somes-append : {X : Type 0} (xs ys : List (Option X)) → somes (xs ++ ys) ≡ somes xs ++ somes ys
somes-append [] ys = refl
somes-append (None ∷ xs) ys = somes-append xs ys
somes-append (Some x ∷ xs) ys = ap (λ zs. x ∷ zs) (somes-append xs ys)

pub somes_few : {X : Type 0} (xs : List (Option X)) → length (somes xs) ≤ length xs
somes_few [] = omega arith
somes_few (None ∷ xs) = omega (arith, somes_few xs)
somes_few (Some x ∷ xs) = omega (arith, somes_few xs)

pub length-spent : (ns : List ℕ) (us : History) → length (spent ns us) ≡ length us
length-spent [] us = refl
length-spent (n ∷ ns) us = length-set (spent ns us) n None ∙ length-spent ns us

-- ---- outpoints

pub same_point-true : (p q : Outpoint) → same_point p q ≡ true → p ≡ q
same_point-true p q h =
    let k = and_parts (bytes_eq p.txid.0 q.txid.0) (p.index == q.index) h in
    ap₂ (λ (x : List ℕ) (y : ℕ). let r : Outpoint = record { txid = record { 0 = x }; index = y } in r) (same_text _ _ (sym k.0)) (eqb-true _ _ k.1)

pub same_point-same : (p : Outpoint) → same_point p p ≡ true
same_point-same p = and_from (bytes_eq p.txid.0 p.txid.0) (p.index == p.index) ((bytes_eq-Decides p.txid.0 p.txid.0).1 refl)
    (eq-eqb p.index p.index refl)

-- ---- the newest

entry_if-some : (p : Outpoint) (r : Leaf) (e : Entry) → entry_if p r ≡ Some e → (e.number ≡ 0) × (e.leaf ≡ r) × (r.point ≡ p)
entry_if-some p r e h =
    ⊎_elim
    (λ t. let s = same_Some _ e (rw t at h) in (sym (ap (λ x. x.number) s), sym (ap (λ x. x.leaf) s), same_point-true r.point p t))
    (λ f. absurd (none-some e (rw f at h)))
    (cases_Bool (same_point r.point p))

-- it is live, and of this outpoint
pub newest_is : (p : Outpoint) (us : History) (e : Entry) → newest p us ≡ Some e → (slice_get us e.number ≡ Some (Some e.leaf)) × (e.leaf.point ≡ p)
newest_is p [] e h = absurd (none-some e h)
newest_is p (u ∷ us) e h = by_case u (newest p us) refl (newest_is p us) h
  where
    by_case : (u : Option Leaf) (n : Option Entry) → newest p us ≡ n
        → ((e : Entry) → newest p us ≡ Some e → (slice_get us e.number ≡ Some (Some e.leaf)) × (e.leaf.point ≡ p)) → newer p u n ≡ Some e
        → (slice_get (u ∷ us) e.number ≡ Some (Some e.leaf)) × (e.leaf.point ≡ p)
    by_case u (Some f) q rest h =
        let s : later f ≡ e = same_Some _ e h in
        let w = rest f q in
        subst (λ x. (slice_get (u ∷ us) x.number ≡ Some (Some x.leaf)) × (x.leaf.point ≡ p)) s w
    by_case None None q rest h = absurd (none-some e h)
    by_case (Some r) None q rest h =
        let w = entry_if-some p r e h in
        (ap (slice_get (Some r ∷ us)) w.0 ∙ ap (λ x. Some (Some x)) (sym w.1), ap (λ x. x.point) w.1 ∙ w.2)

-- the newest of two lists
unfoldable pub shifted : ℕ → Option Entry → Option Entry → Option Entry
shifted n x None = x
shifted n x (Some e) = Some (record { number = n + e.number; leaf = e.leaf })

pub newest-append : (p : Outpoint) (us vs : History) → newest p (us ++ vs) ≡ shifted (length us) (newest p us) (newest p vs)
unfolding shifted
newest-append p [] vs = by_case (newest p vs)
  where
    by_case : (y : Option Entry) → y ≡ shifted 0 None y
    by_case None = refl
    by_case (Some e) = ap (λ n. Some (record { number = n; leaf = e.leaf })) (let z : e.number ≡ 0 + e.number = omega arith in z)
newest-append p (u ∷ us) vs = ap (newer p u) (newest-append p us vs) ∙ by_case (newest p vs)
  where
    by_case : (y : Option Entry) → newer p u (shifted (length us) (newest p us) y) ≡ shifted (suc (length us)) (newer p u (newest p us)) y
    by_case None = refl
    by_case (Some e) = ap (λ n. Some (record { number = n; leaf = e.leaf })) (let z : suc (length us + e.number) ≡ suc (length us) + e.number =
        omega arith in z)

-- and of a list with one more
pub newest-pushed : (p : Outpoint) (us : History) (r : Leaf)
    → newest p (us ++ Some r ∷ []) ≡ (if same_point r.point p then Some (record { number = length us; leaf = r }) else newest p us)
unfolding shifted
newest-pushed p us r = newest-append p us (Some r ∷ []) ∙ ⊎_elim
    (λ t. rw t (ap (λ n. Some (record { number = n; leaf = r })) (let z : length us + 0 ≡ length us = omega arith in z))) (λ t. rw t refl)
    (cases_Bool (same_point r.point p))

-- ---- what is live

abbrev pub value_of : Option Leaf → ℕ
value_of None = 0
value_of (Some r) = amount_of r

pub supply-cons : (u : Option Leaf) (us : History) → supply (u ∷ us) ≡ value_of u + supply us
supply-cons None us = omega arith
supply-cons (Some r) us = sum_by-cons amount_of r (somes us)

pub supply-append : (us vs : History) → supply (us ++ vs) ≡ supply us + supply vs
supply-append [] vs = omega arith
supply-append (u ∷ us) vs = supply-cons u (us ++ vs) ∙ (let a = supply-append us vs in let b = supply-cons u us in omega (arith, a, b))

pub somes-live : (rs : List Leaf) → somes (map Some rs) ≡ rs
somes-live [] = refl
somes-live (r ∷ rs) = ap (λ xs. r ∷ xs) (somes-live rs)

pub supply-live : (rs : List Leaf) → supply (map Some rs) ≡ sum_by amount_of rs
supply-live rs = ap (sum_by amount_of) (somes-live rs)

-- a live entry that is spent leaves the rest
pub supply-set : (us : History) (i : ℕ) (r : Leaf) → slice_get us i ≡ Some (Some r) → supply (set us i None) + amount_of r ≡ supply us
supply-set [] i r e = absurd (none-some _ e)
supply-set (u ∷ us) zero r e =
    let a = supply-cons u us in
    let b : u ≡ Some r = same_Some _ _ e in
    let c : value_of u ≡ amount_of r = ap value_of b in
    let d = supply-cons None us in
    omega (arith, a, c, d)
supply-set (u ∷ us) (suc i) r e =
    let a = supply-cons u us in
    let b = supply-cons u (set us i None) in
    let c = supply-set us i r e in
    omega (arith, a, b, c)

get-set_other : {X : Type 0} (us : List X) (i j : ℕ) (x : X) → i ≢ j → slice_get (set us i x) j ≡ slice_get us j
get-set_other [] i j x h = refl
get-set_other (u ∷ us) zero zero x h = absurd (h refl)
get-set_other (u ∷ us) zero (suc j) x h = refl
get-set_other (u ∷ us) (suc i) zero x h = refl
get-set_other (u ∷ us) (suc i) (suc j) x h = get-set_other us i j x (λ e. h (ap suc e))

pub get-spent : (us : History) (ns : List ℕ) (j : ℕ) → AllByRecursion (λ m. j ≢ m) ns → slice_get (spent ns us) j ≡ slice_get us j
get-spent us [] j h = refl
get-spent us (n ∷ ns) j h = get-set_other (spent ns us) n j None (λ e. h.0 (sym e)) ∙ get-spent us ns j h.1
