-- Where no outpoint is spent twice, the new records are the outputs that no input of the block spends.
use Rattle.std.proofs.Common.{◌≡◌, ◌≢◌, ℕ, zero, suc, ◌+◌, ◌<◌, false, List, [], ◌∷◌, ◌++◌, map, set, length, Option, Some, None, refl, sym, ap, ◌∙◌}
use Rattle.std.proofs.Common.{subst, ap₂, ⊎_elim, arith, append_assoc}
use Rattle.std.specs.Prelude.{option_map, slice_get}
use Rattle.std.specs.List.{AllByRecursion}
use Rattle.std.proofs.lemmas.Bool.{cases_Bool}
use Rattle.std.proofs.lemmas.List.{length-map, length-append, length-set, map-append}
use Rattle.std.proofs.lemmas.Option.{none-some, same_Some}
use Rattle.uo_digest.specs.declared.digest.Digest.{Digest}
use Rattle.tx_codec.specs.Transaction.{Transaction}
use Rattle.block_codec.specs.Block.{Block, block_hash_of}
use Rattle.leaf_record.specs.Leaf.{Outpoint, Leaf}
use Rattle.leaf_record.specs.History.{somes, Entry, History, same_point, newer, newest}
use Rattle.leaf_record.proofs.HistoryLaws.{same_point-true, newest_is, shifted, newest-append}
use Rattle.block_rules.specs.Blocks.{Placed, placed_from, placed_of, made_by, made_first, once_taken, taken, left_from, left_of_all, new_records}
use Rattle.block_rules.specs.Blocks.{others}
use Rattle.block_rules.specs.Rules.{double}
use Rattle.block_rules.specs.Laws.{spent_in_order, literal_numbers, all_made, all_numbers}
use Rattle.block_rules.proofs.Apart.{Apart, apart_others, apart_right, all_map}
use Rattle.block_rules.proofs.Latest.{all_both}

newer-other : (p : Outpoint) (r : Leaf) (x : Option Entry) → r.point ≢ p → newer p None x ≡ newer p (Some r) x
newer-other p r (Some e) ne = refl
newer-other p r None ne = ⊎_elim (λ t. absurd (ne (same_point-true r.point p t))) (λ t. rw t refl) (cases_Bool (same_point r.point p))

-- an entry of another outpoint that is spent changes nothing
newest-set : (p q : Outpoint) (us : History) (n : Option Entry) → newest q us ≡ n → q ≢ p → newest p (once_taken n us) ≡ newest p us
newest-set p q us None e ne = refl
newest-set p q [] (Some f) e ne = refl
newest-set p q (u ∷ us) (Some f) e ne = by_case u (newest q us) refl e (λ g k. newest-set p q us (Some g) k ne)
  where
    by_case : (u : Option Leaf) (n : Option Entry) → newest q us ≡ n → newer q u n ≡ Some f
        → ((g : Entry) → newest q us ≡ Some g → newest p (set us g.number None) ≡ newest p us)
        → newest p (set (u ∷ us) f.number None) ≡ newest p (u ∷ us)
    by_case u (Some g) k e rest =
        subst (λ x. newest p (set (u ∷ us) x.number None) ≡ newest p (u ∷ us)) (same_Some _ f e) (ap (newer p u) (rest g k))
    by_case None None k e rest = absurd (none-some f e)
    by_case (Some r) None k e rest =
        ⊎_elim
        (λ t.
        let same : r.point ≡ q = same_point-true r.point q t in
        subst (λ x. newest p (set (Some r ∷ us) x.number None) ≡ newest p (Some r ∷ us)) (same_Some _ f (rw t at e))
        (newer-other p r (newest p us) (λ y. ne (sym same ∙ y))))
        (λ t. absurd (none-some f (rw t at e)))
        (cases_Bool (same_point r.point q))

pub got_below : {X : Type 0} (us : List X) (i : ℕ) (x : X) → slice_get us i ≡ Some x → i < length us
got_below [] i x e = absurd (none-some x e)
got_below (u ∷ us) zero x e = omega arith
got_below (u ∷ us) (suc i) x e = let h = got_below us i x e in omega arith

set-append : {X : Type 0} (us vs : List X) (n : ℕ) (x : X) → n < length us → set (us ++ vs) n x ≡ set us n x ++ vs
set-append [] vs n x lt = absurd (omega arith)
set-append (u ∷ us) vs zero x lt = refl
set-append (u ∷ us) vs (suc n) x lt = ap (λ zs. u ∷ zs) (set-append us vs n x (omega arith))

order-append : (ns : List ℕ) (us vs : History) → AllByRecursion (λ n. n < length us) ns → spent_in_order ns (us ++ vs) ≡ spent_in_order ns us ++ vs
order-append [] us vs h = refl
order-append (n ∷ ns) us vs h =
    ap (spent_in_order ns) (set-append us vs n None h.0)
    ∙ order-append ns (set us n None) vs (subst (λ k. AllByRecursion (λ n. n < k) ns) (sym (length-set us n None)) h.1)

order-join : (ns ms : List ℕ) (us : History) → spent_in_order (ns ++ ms) us ≡ spent_in_order ms (spent_in_order ns us)
order-join [] ms us = refl
order-join (n ∷ ns) ms us = order-join ns ms (set us n None)

order-length : (ns : List ℕ) (us : History) → length (spent_in_order ns us) ≡ length us
order-length [] us = refl
order-length (n ∷ ns) us = order-length ns (set us n None) ∙ length-set us n None

-- the inputs to come find the same entries in what is left as in all that was made
abbrev Same : List Placed → History → History → Type 0
Same is fresh base = AllByRecursion (λ j. newest j.point fresh ≡ newest j.point base) is

once_number : (n : Option Entry) (xs : List (Option ℕ)) (us : History)
    → spent_in_order (somes xs) (once_taken n us) ≡ spent_in_order (somes (option_map (λ e. e.number) n ∷ xs)) us
once_number None xs us = refl
once_number (Some e) xs us = refl

inputs_left : (is more : List Placed) (fresh : History) (made : List Leaf) → Apart (is ++ more) → Same (is ++ more) fresh (map Some made)
    → (left_from is fresh ≡ spent_in_order (literal_numbers is made) fresh) × Same more (left_from is fresh) (map Some made)
inputs_left [] more fresh made apart h = (refl, h)
inputs_left (i ∷ is) more fresh made apart h =
    let next = taken i.point fresh in
    let after = all_both (λ j. newest j.point next ≡ newest j.point (map Some made)) (is ++ more)
    (λ j ne e. newest-set j.point i.point fresh (newest i.point fresh) refl ne ∙ e) apart.0 h.1 in
    let rest = inputs_left is more next made apart.1 after in (
      rest.0
          ∙ (ap (λ x. spent_in_order (literal_numbers is made) (once_taken x fresh)) h.0
          ∙ once_number (newest i.point (map Some made)) (map (λ j. option_map (λ e. e.number) (newest j.point (map Some made))) is) fresh),
      rest.1,
    )

pub numbers_below : (is : List Placed) (made : List Leaf) → AllByRecursion (λ n. n < length made) (literal_numbers is made)
numbers_below [] made = tt
numbers_below (i ∷ is) made = by_case (newest i.point (map Some made)) refl (numbers_below is made)
  where
    by_case : (x : Option Entry) → newest i.point (map Some made) ≡ x → AllByRecursion (λ n. n < length made) (literal_numbers is made)
        → AllByRecursion (λ n. n < length made) (somes
        (option_map (λ e. e.number) x ∷ map (λ j. option_map (λ e. e.number) (newest j.point (map Some made))) is))
    by_case None e rest = rest
    by_case (Some f) e rest =
        let b = got_below (map Some made) f.number (Some f.leaf) (newest_is i.point (map Some made) f e).0 in
        let l : length (map Some made) ≡ length made = length-map made (λ x. Some x) in
        (omega (arith, b, l), rest)

-- the outputs of these transactions
made_later : Digest → ℕ → List Transaction → List Leaf
made_later hash height [] = []
made_later hash height (tx ∷ txs) = made_by hash height false tx ++ made_later hash height txs

all_made-is : (hash : Digest) (height : ℕ) (txs : List Transaction) (made : List Leaf)
    → all_made hash height txs made ≡ made ++ made_later hash height txs
unfolding made_later
all_made-is hash height [] made = nil made
  where
    nil : (xs : List Leaf) → xs ≡ xs ++ []
    nil [] = refl
    nil (x ∷ xs) = ap (λ zs. x ∷ zs) (nil xs)
all_made-is hash height (tx ∷ txs) made =
    all_made-is hash height txs (made ++ made_by hash height false tx) ∙ append_assoc made (made_by hash height false tx) (made_later hash height txs)

blocks_left : (hash : Digest) (height t : ℕ) (txs : List Transaction) (fresh : History) (made : List Leaf) → Apart (placed_of t txs)
    → Same (placed_of t txs) fresh (map Some made) → length fresh ≡ length made →
    left_of_all hash height t txs fresh ≡ spent_in_order (all_numbers hash height t txs made) (fresh ++ map Some (made_later hash height txs))
unfolding made_later shifted
blocks_left hash height t [] fresh made apart h long = nil fresh
  where
    nil : (xs : History) → xs ≡ xs ++ []
    nil [] = refl
    nil (x ∷ xs) = ap (λ zs. x ∷ zs) (nil xs)
blocks_left hash height t (tx ∷ txs) fresh made apart h long =
    let is = placed_from t 0 tx.inputs in
    let more = placed_of (suc t) txs in
    let new = made_by hash height false tx in
    let later_on = map Some (made_later hash height txs) in
    let w = inputs_left is more fresh made apart h in
    let lit = literal_numbers is made in
    let rest_numbers = all_numbers hash height (suc t) txs (made ++ new) in
    let long' : length (left_from is fresh) ≡ length made = ap length w.0 ∙ (order-length lit fresh ∙ long) in
    let base_long : length (map Some made) ≡ length made = length-map made (λ x. Some x) in
    let next : Same more (left_from is fresh ++ map Some new) (map Some (made ++ new)) =
    all_map more (λ j e.
    newest-append j.point (left_from is fresh) (map Some new)
    ∙ (ap₂ (λ n x. shifted n x (newest j.point (map Some new))) (long' ∙ sym base_long) e
    ∙ (sym (newest-append j.point (map Some made) (map Some new)) ∙ ap (newest j.point) (sym (map-append (λ r. Some r) made new))))) w.1 in
    let next_long : length (left_from is fresh ++ map Some new) ≡ length (made ++ new) =
    length-append (left_from is fresh) (map Some new) ∙ (ap₂ (λ x y. x + y) long' (length-map new (λ x. Some x)) ∙ sym (length-append made new)) in
    let below : AllByRecursion (λ n. n < length fresh) lit = subst (λ k. AllByRecursion (λ n. n < k) lit) (sym long) (numbers_below is made) in
    blocks_left hash height (suc t) txs (left_from is fresh ++ map Some new) (made ++ new) (apart_right is more apart) next next_long
    ∙ (ap (spent_in_order rest_numbers)
    (append_assoc (left_from is fresh) (map Some new) later_on
    ∙ (ap (λ x. x ++ (map Some new ++ later_on)) w.0
    ∙ sym (order-append lit fresh (map Some new ++ later_on) below)))
    ∙ (sym (order-join lit rest_numbers (fresh ++ (map Some new ++ later_on)))
    ∙ ap (λ x. spent_in_order (lit ++ rest_numbers) (fresh ++ x)) (sym (map-append (λ r. Some r) new (made_later hash height txs)))))

start_same : (is : List Placed) (us : History) → Same is us us
start_same [] us = tt
start_same (i ∷ is) us = (refl, start_same is us)

pub unspent : (b : Block) (h : ℕ) → double [] (placed_of 0 b.txs) ≡ None →
    new_records b (suc h) ≡ somes (spent_in_order (all_numbers (block_hash_of b) (suc h) 1 (others b.txs)
    (made_first (block_hash_of b) (suc h) b.txs))
    (map Some (all_made (block_hash_of b) (suc h) (others b.txs) (made_first (block_hash_of b) (suc h) b.txs))))
unspent b h none =
    let hash = block_hash_of b in
    let made = made_first hash (suc h) b.txs in
    let numbers = all_numbers hash (suc h) 1 (others b.txs) made in
    ap somes (blocks_left hash (suc h) 1 (others b.txs) (map Some made) made (apart_others b.txs none)
    (start_same (placed_of 1 (others b.txs)) (map Some made)) (length-map made (λ x. Some x))
    ∙ ap (spent_in_order numbers) (sym (map-append (λ r. Some r) made (made_later hash (suc h) (others b.txs)))
    ∙ ap (map (λ r. Some r)) (sym (all_made-is hash (suc h) (others b.txs) made))))
