-- Where no outpoint is spent twice, an internal input spends the latest output of its outpoint.
use Rattle.std.proofs.Common.{◌≡◌, ◌≢◌, ℕ, suc, false, List, [], ◌∷◌, ◌++◌, map, set, Option, Some, None, refl, sym, ap, ◌∙◌, subst, ap₂, ⊎_elim}
use Rattle.std.specs.Prelude.{option_map, if◌then◌else◌}
use Rattle.std.specs.List.{AllByRecursion}
use Rattle.std.specs.Option.{option_or}
use Rattle.std.proofs.lemmas.Bool.{cases_Bool}
use Rattle.std.proofs.lemmas.Option.{none-some, same_Some}
use Rattle.uo_digest.specs.declared.digest.Digest.{Digest}
use Rattle.tx_codec.specs.Transaction.{Transaction}
use Rattle.block_codec.specs.Block.{Block, block_hash_of}
use Rattle.leaf_record.specs.Leaf.{Outpoint, Leaf}
use Rattle.leaf_record.specs.History.{Entry, History, same_point, newer, later, newest}
use Rattle.leaf_record.proofs.HistoryLaws.{same_point-true}
use Rattle.block_rules.specs.Blocks.{Placed, placed_from, placed_of, made_by, made_first, Spend, once_taken, taken, spends_from, left_from}
use Rattle.block_rules.specs.Blocks.{groups_from, groups, others}
use Rattle.block_rules.specs.Rules.{double}
use Rattle.block_rules.specs.Laws.{latest, literal_spends, literal_groups}
use Rattle.block_rules.proofs.Firsts.{option_or-assoc}
use Rattle.block_rules.proofs.Apart.{Apart, apart_others, apart_right, all_map}

-- the record of the newest live entry
abbrev pub found : Outpoint → History → Option Leaf
found p us = option_map (λ e. e.leaf) (newest p us)

abbrev pub is_of : Outpoint → Option Leaf → Option Leaf
is_of p None = None
is_of p (Some r) = if same_point r.point p then Some r else None

pub found-cons : (p : Outpoint) (u : Option Leaf) (us : History) → found p (u ∷ us) ≡ option_or (found p us) (is_of p u)
found-cons p u us = by_case u (newest p us)
  where
    by_case : (u : Option Leaf) (n : Option Entry) → option_map (λ e. e.leaf) (newer p u n) ≡ option_or (option_map (λ e. e.leaf) n) (is_of p u)
    by_case u (Some e) = refl
    by_case None None = refl
    by_case (Some r) None = ⊎_elim (λ t. rw t refl) (λ t. rw t refl) (cases_Bool (same_point r.point p))

found-append : (p : Outpoint) (us vs : History) → found p (us ++ vs) ≡ option_or (found p vs) (found p us)
found-append p [] vs = or_none (found p vs)
  where
    or_none : (x : Option Leaf) → x ≡ option_or x None
    or_none None = refl
    or_none (Some x) = refl
found-append p (u ∷ us) vs = found-cons p u (us ++ vs) ∙ (ap (λ x. option_or x (is_of p u)) (found-append p us vs)
    ∙ (option_or-assoc (found p vs) (found p us) (is_of p u) ∙ ap (option_or (found p vs)) (sym (found-cons p u us))))

pub found-live : (p : Outpoint) (rs : List Leaf) → found p (map Some rs) ≡ latest p rs
found-live p [] = refl
found-live p (r ∷ rs) = found-cons p (Some r) (map Some rs) ∙ ap (λ x. option_or x (is_of p (Some r))) (found-live p rs)

latest-append : (p : Outpoint) (rs ss : List Leaf) → latest p (rs ++ ss) ≡ option_or (latest p ss) (latest p rs)
latest-append p [] ss = or_none (latest p ss)
  where
    or_none : (x : Option Leaf) → x ≡ option_or x None
    or_none None = refl
    or_none (Some x) = refl
latest-append p (r ∷ rs) ss = ap (λ x. option_or x (is_of p (Some r))) (latest-append p rs ss)
    ∙ option_or-assoc (latest p ss) (latest p rs) (is_of p (Some r))

-- an entry of another outpoint that is spent changes nothing
found-set : (p q : Outpoint) (us : History) (n : Option Entry) → newest q us ≡ n → q ≢ p → found p (once_taken n us) ≡ found p us
found-set p q us None e ne = refl
found-set p q [] (Some f) e ne = refl
found-set p q (u ∷ us) (Some f) e ne = by_case u (newest q us) refl e (λ g k. found-set p q us (Some g) k ne)
  where
    by_case : (u : Option Leaf) (n : Option Entry) → newest q us ≡ n → newer q u n ≡ Some f
        → ((g : Entry) → newest q us ≡ Some g → found p (set us g.number None) ≡ found p us) → found p (set (u ∷ us) f.number None) ≡ found p (u ∷ us)
    by_case u (Some g) k e rest =
        let s : later g ≡ f = same_Some _ f e in
        subst (λ x. found p (set (u ∷ us) x.number None) ≡ found p (u ∷ us)) s
        (found-cons p u (set us g.number None) ∙ (ap (λ x. option_or x (is_of p u)) (rest g k) ∙ sym (found-cons p u us)))
    by_case None None k e rest = absurd (none-some f e)
    by_case (Some r) None k e rest =
        ⊎_elim
        (λ t.
        let s = same_Some _ f (rw t at e) in
        let same : r.point ≡ q = same_point-true r.point q t in
        let other : is_of p (Some r) ≡ None =
        ⊎_elim (λ y. absurd (ne (sym same ∙ same_point-true r.point p y))) (λ y. rw y refl) (cases_Bool (same_point r.point p)) in
        subst (λ x. found p (set (Some r ∷ us) x.number None) ≡ found p (Some r ∷ us)) s
        (found-cons p None us ∙ (ap (option_or (found p us)) (sym other) ∙ sym (found-cons p (Some r) us))))
        (λ t. absurd (none-some f (rw t at e)))
        (cases_Bool (same_point r.point q))

found-taken : (p q : Outpoint) (us : History) → q ≢ p → found p (taken q us) ≡ found p us
found-taken p q us ne = found-set p q us (newest q us) refl ne

-- the inputs still to come find in what is left what the letter finds in all that was made
abbrev pub Agrees : List Placed → History → List Leaf → Type 0
Agrees is fresh made = AllByRecursion (λ j. found j.point fresh ≡ latest j.point made) is

pub all_both : {X : Type 0} {P Q : X → Type 0} (R : X → Type 0) (xs : List X) → ((x : X) → P x → Q x → R x) → AllByRecursion P xs
    → AllByRecursion Q xs → AllByRecursion R xs
all_both R [] f h k = tt
all_both R (x ∷ xs) f h k = (f x h.0 k.0, all_both R xs f h.1 k.1)

-- one transaction's inputs, and those to come
inputs_step : (is more : List Placed) (fresh : History) (made : List Leaf) → Apart (is ++ more) → Agrees (is ++ more) fresh made
    → (spends_from is fresh ≡ literal_spends is made) × Agrees more (left_from is fresh) made
inputs_step [] more fresh made apart h = (refl, h)
inputs_step (i ∷ is) more fresh made apart h =
    let after = all_both (λ j. found j.point (taken i.point fresh) ≡ latest j.point made) (is ++ more)
    (λ j ne e. found-taken j.point i.point fresh ne ∙ e) apart.0 h.1 in
    let rest = inputs_step is more (taken i.point fresh) made apart.1 after in
    (ap₂ (λ (x : Option Leaf) xs. let s : Spend = record { at = i; own = x } in s ∷ xs) h.0 rest.0, rest.1)

groups_step : (hash : Digest) (height t : ℕ) (txs : List Transaction) (fresh : History) (made : List Leaf) → Apart (placed_of t txs)
    → Agrees (placed_of t txs) fresh made → groups_from hash height t txs fresh ≡ literal_groups hash height t txs made
groups_step hash height t [] fresh made apart h = refl
groups_step hash height t (tx ∷ txs) fresh made apart h =
    let is = placed_from t 0 tx.inputs in
    let more = placed_of (suc t) txs in
    let new = made_by hash height false tx in
    let w = inputs_step is more fresh made apart h in
    let next : Agrees more (left_from is fresh ++ map Some new) (made ++ new) =
    all_map more (λ j e. found-append j.point (left_from is fresh) (map Some new)
    ∙ (ap₂ option_or (found-live j.point new) e ∙ sym (latest-append j.point made new))) w.1 in
    ap₂ (λ x xs. x ∷ xs) w.0 (groups_step hash height (suc t) txs (left_from is fresh ++ map Some new) (made ++ new) (apart_right is more apart) next)

start_agrees : (is : List Placed) (made : List Leaf) → Agrees is (map Some made) made
start_agrees [] made = tt
start_agrees (i ∷ is) made = (found-live i.point made, start_agrees is made)

pub by_letter : (b : Block) (height : ℕ) → double [] (placed_of 0 b.txs) ≡ None
    → groups b height ≡ literal_groups (block_hash_of b) height 1 (others b.txs) (made_first (block_hash_of b) height b.txs)
by_letter b height h =
    let made = made_first (block_hash_of b) height b.txs in
    groups_step (block_hash_of b) height 1 (others b.txs) (map Some made) made (apart_others b.txs h) (start_agrees (placed_of 1 (others b.txs)) made)
