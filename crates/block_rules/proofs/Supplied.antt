-- Sums of amounts over a block: where the rules on money pass, what it adds is paid.
use Rattle.std.proofs.Common.{◌≡◌, ℕ, zero, suc, ◌+◌, ◌-◌, ◌≤◌, Bool, true, false, List, [], ◌∷◌, ◌++◌, map, Option, Some, None, refl, sym, ap, ◌∙◌}
use Rattle.std.proofs.Common.{⊎_elim, arith, sum_by}
use Rattle.std.specs.Prelude.{nat_le, ◌&&◌, option_map}
use Rattle.std.proofs.lemmas.Bool.{cases_Bool, and_parts, leb-true}
use Rattle.std.proofs.lemmas.List.Sums.{sum_by-cons}
use Rattle.uo_base.specs.declared.event.Net.{Net}
use Rattle.uo_digest.specs.declared.digest.Digest.{Digest}
use Rattle.tx_codec.specs.Transaction.{Output, Transaction}
use Rattle.block_codec.specs.Block.{Block, block_hash_of}
use Rattle.leaf_record.specs.Leaf.{Outpoint, Leaf}
use Rattle.leaf_record.specs.History.{Entry, History, newest, amount_of, supply}
use Rattle.leaf_record.proofs.HistoryLaws.{newest_is, value_of, supply-append, supply-live, supply-set}
use Rattle.block_rules.specs.declared.chain.Found.{Found}
use Rattle.block_rules.specs.declared.refusal.Refusal.TheVariants as Why
use Rattle.block_rules.specs.Steps.{first_of, first_from}
use Rattle.block_rules.specs.Blocks.{OutputOrigin, leaf_of, is_spendable, origin_of, made_from, made_by, made_first, Placed, placed_from, Spend}
use Rattle.block_rules.specs.Blocks.{once_taken}
use Rattle.block_rules.specs.Blocks.{taken, spends_from, left_from, groups_from, groups, left_of_all, new_records, others}
use Rattle.block_rules.specs.Money.{most_money, subsidy_at, output_sum, found_of, Bill, own_found, bills_of, claimed_by, spends_of, Paid, paid_from}
use Rattle.block_rules.specs.Money.{found_after, paid_by, pays, overspend, fees, money_steps}
use Rattle.block_rules.proofs.Firsts.{unless-passed, option_or-none, each_passes}

-- ---- what is made and what is spent inside

abbrev own_value : Spend → ℕ
own_value s = value_of s.own

abbrev group_value : List Spend → ℕ
group_value g = sum_by own_value g

value_of-newest : (p : Outpoint) (us : History) → supply (taken p us) + value_of (option_map (λ e. e.leaf) (newest p us)) ≡ supply us
value_of-newest p us = by_case (newest p us) refl
  where
    by_case : (x : Option Entry) → newest p us ≡ x → supply (once_taken x us) + value_of (option_map (λ e. e.leaf) x) ≡ supply us
    by_case None e = omega arith
    by_case (Some f) e = supply-set us f.number f.leaf (newest_is p us f e).0

inside_spent : (is : List Placed) (fresh : History) → supply (left_from is fresh) + sum_by own_value (spends_from is fresh) ≡ supply fresh
inside_spent [] fresh = omega arith
inside_spent (i ∷ is) fresh =
    let s : Spend = record { at = i; own = option_map (λ e. e.leaf) (newest i.point fresh) } in
    let a = value_of-newest i.point fresh in
    let b = inside_spent is (taken i.point fresh) in
    let c = sum_by-cons own_value s (spends_from is (taken i.point fresh)) in
    omega (arith, a, b, c)

abbrev output_amount : Output → ℕ
output_amount o = o.amount

made_most : (origin : OutputOrigin) (i : ℕ) (os : List Output) → sum_by amount_of (made_from origin i os) ≤ sum_by output_amount os
made_most origin i [] = omega arith
made_most origin i (o ∷ os) =
    let rest = made_most origin (suc i) os in
    let c = sum_by-cons output_amount o os in
    ⊎_elim (λ e. rw e (let d = sum_by-cons amount_of (leaf_of origin i o) (made_from origin (suc i) os) in omega (arith, rest, c, d)))
    (λ e. rw e (omega (arith, rest, c))) (cases_Bool (is_spendable o))

made_supply : (hash : Digest) (h : ℕ) (c : Bool) (tx : Transaction) → supply (map Some (made_by hash h c tx)) ≤ output_sum tx
made_supply hash h c tx =
    let a = supply-live (made_by hash h c tx) in
    let m = made_most (origin_of hash h c tx) 0 tx.outputs in
    omega (arith, a, m)

-- what is left of the outputs of a block, and what it spends inside
left_most : (hash : Digest) (h t : ℕ) (txs : List Transaction) (fresh : History)
    → supply (left_of_all hash h t txs fresh) + sum_by group_value (groups_from hash h t txs fresh) ≤ supply fresh + sum_by output_sum txs
left_most hash h t [] fresh = omega arith
left_most hash h t (tx ∷ txs) fresh =
    let is = placed_from t 0 tx.inputs in
    let new = map Some (made_by hash h false tx) in
    let next = left_from is fresh ++ new in
    let a = inside_spent is fresh in
    let c = supply-append (left_from is fresh) new in
    let d = made_supply hash h false tx in
    let e = left_most hash h (suc t) txs next in
    let f = sum_by-cons group_value (spends_from is fresh) (groups_from hash h (suc t) txs next) in
    let g = sum_by-cons output_sum tx txs in
    omega (arith, a, c, d, e, f, g)

-- ---- what is paid

abbrev pub found_amount : Found → ℕ
found_amount f = f.amount

abbrev own_amount : Option Found → ℕ
own_amount None = 0
own_amount (Some f) = f.amount

paid_from-total : (own : List (Option Found)) (found : List Found)
    → sum_by found_amount (paid_from own found) + sum_by found_amount (found_after own found) ≡ sum_by own_amount own + sum_by found_amount found
paid_from-total [] found = omega arith
paid_from-total (Some f ∷ own) found =
    let a = paid_from-total own found in
    let b = sum_by-cons found_amount f (paid_from own found) in
    let c = sum_by-cons own_amount (Some f) own in
    omega (arith, a, b, c)
paid_from-total (None ∷ own) [] =
    let a = paid_from-total own [] in
    let z = found_after-none own in
    let c = sum_by-cons own_amount None own in
    (ap (λ xs. sum_by found_amount (paid_from own []) + sum_by found_amount xs) (sym z)) ∙ (a ∙ (omega (arith, c)))
  where
    found_after-none : (own : List (Option Found)) → found_after own [] ≡ []
    found_after-none [] = refl
    found_after-none (Some f ∷ own) = found_after-none own
    found_after-none (None ∷ own) = refl
paid_from-total (None ∷ own) (f ∷ found) =
    let a = paid_from-total own found in
    let b = sum_by-cons found_amount f (paid_from own found) in
    let c = sum_by-cons own_amount None own in
    let d = sum_by-cons found_amount f found in
    omega (arith, a, b, c, d)

abbrev bill_own : Bill → ℕ
bill_own bill = sum_by own_amount bill.own

paid_total : (bills : List Bill) (found : List Found) → sum_by pays (paid_by bills found) ≤ sum_by bill_own bills + sum_by found_amount found
paid_total [] found = omega arith
paid_total (bill ∷ bills) found =
    let paid : Paid = record { inputs = paid_from bill.own found; makes = bill.makes } in
    let a = paid_from-total bill.own found in
    let b = paid_total bills (found_after bill.own found) in
    let c = sum_by-cons pays paid (paid_by bills (found_after bill.own found)) in
    let d = sum_by-cons bill_own bill bills in
    omega (arith, a, b, c, d)

-- where no transaction spends too much, the fees are the difference
books_balance : (k : ℕ) (paid : List Paid) → first_from k overspend paid ≡ None → sum_by (λ p. p.makes) paid + fees paid ≡ sum_by pays paid
books_balance k [] h = refl
books_balance k (p ∷ ps) h =
    let w = option_or-none (overspend k p) (first_from (suc k) overspend ps) h in
    let q = and_parts (nat_le p.makes (pays p)) (nat_le (pays p) most_money)
    (unless-passed (nat_le p.makes (pays p) && nat_le (pays p) most_money) (Why.Overspend k) w.0) in
    let le : p.makes ≤ pays p = leb-true _ _ q.0 in
    let rest = books_balance (suc k) ps w.1 in
    let a = sum_by-cons (λ x. x.makes) p ps in
    let b = sum_by-cons (λ x. pays x - x.makes) p ps in
    let c = sum_by-cons pays p ps in
    omega (arith, le, rest, a, b, c)

-- ---- the bills of a block

own_found-value : (g : List Spend) → sum_by own_amount (map own_found g) ≡ sum_by own_value g
own_found-value [] = refl
own_found-value (s ∷ ss) =
    let a = own_found-value ss in
    let b = sum_by-cons own_amount (own_found s) (map own_found ss) in
    let c = sum_by-cons own_value s ss in
    let d = one s.own in
    omega (arith, a, b, c, d)
  where
    one : (x : Option Leaf) → own_amount (option_map (λ leaf. found_of leaf.rest) x) ≡ value_of x
    one None = refl
    one (Some leaf) = refl

bills_own : (gs : List (List Spend)) (txs : List Transaction) → sum_by bill_own (bills_of gs txs) ≤ sum_by group_value gs
bills_own [] txs = omega arith
bills_own (g ∷ gs) [] = omega arith
bills_own (g ∷ gs) (tx ∷ txs) =
    let bill : Bill = record { own = map own_found g; makes = output_sum tx } in
    let a = bills_own gs txs in
    let b = own_found-value g in
    let c = sum_by-cons bill_own bill (bills_of gs txs) in
    let d = sum_by-cons group_value g gs in
    omega (arith, a, b, c, d)

paid_makes : (bills : List Bill) (found : List Found) → sum_by (λ p. p.makes) (paid_by bills found) ≡ sum_by (λ b. b.makes) bills
paid_makes [] found = refl
paid_makes (bill ∷ bills) found =
    let paid : Paid = record { inputs = paid_from bill.own found; makes = bill.makes } in
    let a = paid_makes bills (found_after bill.own found) in
    let b = sum_by-cons (λ p. p.makes) paid (paid_by bills (found_after bill.own found)) in
    let c = sum_by-cons (λ x. x.makes) bill bills in
    omega (arith, a, b, c)

-- one bill for each transaction
bills_make : (hash : Digest) (h t : ℕ) (txs : List Transaction) (fresh : History)
    → sum_by (λ b. b.makes) (bills_of (groups_from hash h t txs fresh) txs) ≡ sum_by output_sum txs
bills_make hash h t [] fresh = refl
bills_make hash h t (tx ∷ txs) fresh =
    let is = placed_from t 0 tx.inputs in
    let next = left_from is fresh ++ map Some (made_by hash h false tx) in
    let bill : Bill = record { own = map own_found (spends_from is fresh); makes = output_sum tx } in
    let a = bills_make hash h (suc t) txs next in
    let b = sum_by-cons (λ x. x.makes) bill (bills_of (groups_from hash h (suc t) txs next) txs) in
    let c = sum_by-cons output_sum tx txs in
    omega (arith, a, b, c)

first_most : (hash : Digest) (h : ℕ) (txs : List Transaction) → supply (map Some (made_first hash h txs)) ≤ claimed_by txs
first_most hash h [] = omega arith
first_most hash h (coinbase ∷ txs) = made_supply hash h true coinbase

sums : (left inside made other cb makes spends fee own outside sub : ℕ) → cb ≤ sub + fee → makes + fee ≡ spends → makes ≡ other
    → spends ≤ own + outside → own ≤ inside → left + inside ≤ made + other → made ≤ cb → left ≤ sub + outside
sums left inside made other cb makes spends fee own outside sub a b c d e f g = omega arith

pub new_is_paid : (net : Net) (b : Block) (height : ℕ) (found : List Found) → first_of (money_steps (spends_of net height b) found) ≡ None
    → sum_by amount_of (new_records b height) ≤ subsidy_at net height + sum_by found_amount found
new_is_paid net b zero found m = omega arith
new_is_paid net b (suc k) found m =
    let hash = block_hash_of b in
    let height = suc k in
    let txs = others b.txs in
    let made = map Some (made_first hash height b.txs) in
    let gs = groups b height in
    let bills = bills_of gs txs in
    let paid = paid_by bills found in
    let steps = money_steps (spends_of net height b) found in
    let over = each_passes steps 1 m in
    let sub : claimed_by b.txs ≤ subsidy_at net height + fees paid =
    leb-true _ _ (unless-passed (nat_le (claimed_by b.txs) (subsidy_at net height + fees paid)) _ (each_passes steps 2 m)) in
    let q1 : sum_by (λ p. p.makes) paid + fees paid ≡ sum_by pays paid = books_balance 1 paid over in
    let q2 : sum_by (λ p. p.makes) paid ≡ sum_by output_sum txs = paid_makes bills found ∙ bills_make hash height 1 txs made in
    let q3 : sum_by pays paid ≤ sum_by bill_own bills + sum_by found_amount found = paid_total bills found in
    let q4 : sum_by bill_own bills ≤ sum_by group_value gs = bills_own gs txs in
    let q5 : supply (left_of_all hash height 1 txs made) + sum_by group_value gs ≤ supply made + sum_by output_sum txs =
    left_most hash height 1 txs made in
    let q6 : supply made ≤ claimed_by b.txs = first_most hash height b.txs in
    sums (supply (left_of_all hash height 1 txs made)) (sum_by group_value gs) (supply made) (sum_by output_sum txs) (claimed_by b.txs)
    (sum_by (λ p. p.makes) paid) (sum_by pays paid) (fees paid) (sum_by bill_own bills) (sum_by found_amount found) (subsidy_at net height) sub q1
    q2 q3 q4 q5 q6
