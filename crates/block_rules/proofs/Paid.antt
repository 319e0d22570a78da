-- Input by input, and what is counted of a block.
use Rattle.std.proofs.Common.{◌≡◌, ℕ, zero, suc, ◌+◌, ◌<◌, ◌≤◌, ◌^◌, false, cond, List, [], ◌∷◌, ◌++◌, map, drop, length, Option, Some, None, refl}
use Rattle.std.proofs.Common.{sym, ap, ◌∙◌, arith, add-one}
use Rattle.std.specs.Prelude.{slice_get, is_none, option_map, not, nat_le}
use Rattle.std.specs.List.{flat_map, list_any}
use Rattle.std.specs.Option.{option_or}
use Rattle.std.proofs.lemmas.Bool.{and_parts, leb-true}
use Rattle.std.proofs.lemmas.List.{length-append}
use Rattle.std.proofs.lemmas.List.Sums.{sum_by-cons, sum_by-append}
use Rattle.std.proofs.lemmas.Option.{none-some, same_Some}
use Rattle.uo_base.specs.declared.event.Net.{Net}
use Rattle.uo_digest.specs.declared.digest.Digest.{Digest}
use Rattle.tx_codec.specs.Transaction.{Transaction}
use Rattle.block_codec.specs.Block.{Block, block_hash_of}
use Rattle.leaf_record.specs.Leaf.{Leaf}
use Rattle.leaf_record.specs.History.{somes, History}
use Rattle.block_rules.specs.declared.chain.Found.{Found}
use Rattle.block_rules.specs.declared.chain.Outside.{Outside}
use Rattle.block_rules.specs.declared.refusal.Refusal.{Refusal}
use Rattle.block_rules.specs.Steps.{unless, first_from}
use Rattle.block_rules.specs.Blocks.{placed_from, made_by, made_first, Spend, spends_from, left_from, groups_from, groups, others, external_in}
use Rattle.block_rules.specs.Blocks.{external, new_records}
use Rattle.block_rules.specs.Money.{most_money, output_sum, found_of, Bill, own_found, bills_of, claimed_by, BlockSpends, spends_of, paid_from}
use Rattle.block_rules.specs.Rules.{has_too_much, has_value, value_fault}
use Rattle.block_rules.specs.Paying.{outside_count, outside_sum, IsCounted, PaysNext}
use Rattle.block_rules.specs.Walk.{Walked, IsWalked, new_at}
use Rattle.block_rules.proofs.Firsts.{option_or-none, unless-passed}
use Rattle.block_rules.specs.declared.origins.Origins.{Origins}
use Rattle.block_rules.specs.KeptOutputs.{KeptOutput}
use Rattle.block_rules.specs.Known.{leaf_at, history_at}
use Rattle.block_rules.proofs.Spending.{leaves_of, leaves_left}

-- ---- input by input

pub count_one : (o : Option Found) (own : List (Option Found)) → outside_count (o ∷ own) ≡ outside_count (o ∷ []) + outside_count own
count_one o own = sum_by-append (λ x. cond (is_none x) 1 0) (o ∷ []) own

-- an input that has ripened is passed
pub ripe_on : (f : ℕ → Found → Option Refusal) (k : ℕ) (own : List (Option Found)) (o : Option Found) (left others : List Found) (paid : Found)
    (whole : Option Refusal) → drop k own ≡ o ∷ drop (suc k) own → PaysNext o left paid others → f k paid ≡ None →
    first_from k f (paid_from (drop k own) left) ≡ whole → first_from (k + 1) f (paid_from (drop (k + 1) own) others) ≡ whole
ripe_on f k own o left others paid whole e p n h =
    rw add-one
    (sym (ap (λ z. option_or z (first_from (suc k) f (paid_from (drop (suc k) own) others))) n)
    ∙ (sym (ap (first_from k f) (ap (λ xs. paid_from xs left) e ∙ p.now (drop (suc k) own))) ∙ h))

pub counts_on : (k : ℕ) (own : List (Option Found)) (o : Option Found) (found left others : List Found) (paid : Found)
    → drop k own ≡ o ∷ drop (suc k) own → PaysNext o left paid others →
    outside_count own + length left ≡ length found + outside_count (drop k own)
    → outside_count own + length others ≡ length found + outside_count (drop (k + 1) own)
counts_on k own o found left others paid e p h =
    let a = count_one o (drop (suc k) own) in
    let b = ap outside_count e in
    let c = p.count in
    rw add-one (omega (arith, a, b, c, h))

-- ---- what is counted of a block

count_own : (g : List Spend) → outside_count (map own_found g) ≡ length (external_in g)
count_own [] = refl
count_own (s ∷ ss) = count_one (own_found s) (map own_found ss) ∙ by_case s.own (count_own ss)
  where
    by_case : (x : Option Leaf) → outside_count (map own_found ss) ≡ length (external_in ss)
        → outside_count (option_map (λ leaf. found_of leaf.rest) x ∷ []) + outside_count (map own_found ss)
        ≡ length (external_in (record { at = s.at; own = x } ∷ ss))
    by_case None h = omega (arith, h)
    by_case (Some leaf) h = omega (arith, h)

count_bills : (hash : Digest) (h t : ℕ) (txs : List Transaction) (fresh : History) → outside_sum (bills_of (groups_from hash h t txs fresh) txs)
    ≡ length (flat_map external_in (groups_from hash h t txs fresh))
count_bills hash h t [] fresh = refl
count_bills hash h t (tx ∷ txs) fresh =
    let is = placed_from t 0 tx.inputs in
    let next = left_from is fresh ++ map Some (made_by hash h false tx) in
    let bill : Bill = record { own = map own_found (spends_from is fresh); makes = output_sum tx } in
    let a = count_bills hash h (suc t) txs next in
    let b = sum_by-cons (λ x. outside_count x.own) bill (bills_of (groups_from hash h (suc t) txs next) txs) in
    let c = count_own (spends_from is fresh) in
    let d = length-append (external_in (spends_from is fresh)) (flat_map external_in (groups_from hash h (suc t) txs next)) in
    omega (arith, a, b, c, d)

few_bills : (gs : List (List Spend)) (txs : List Transaction) → length (bills_of gs txs) ≤ length txs
few_bills [] txs = omega arith
few_bills (g ∷ gs) [] = omega arith
few_bills (g ∷ gs) (tx ∷ txs) = let h = few_bills gs txs in omega (arith, h)

few_others : (txs : List Transaction) → length (others txs) ≤ length txs
few_others [] = omega arith
few_others (tx ∷ txs) = omega arith

pub counted : (b : Block) (height : ℕ) (w : Walked) → length b.txs < 2 ^ 32 → IsWalked b height w → IsCounted w.bills w.outsides
counted b height w few g =
    let hash = block_hash_of b in
    let a = few_bills (groups b height) (others b.txs) in
    let c = few_others b.txs in
    let e = ap length g.billed in
    record {
      few = omega (arith, a, c, e, few);
      same = ap outside_sum g.billed ∙ (count_bills hash height 1 (others b.txs) (map Some (made_first hash height b.txs)) ∙ sym (ap length g.outs));
    }

-- the records of what is left are new
new_are : (b : Block) (height : ℕ) (o : Origins) (outputs : List (Option KeptOutput)) (w : Walked) → w.left ≡ history_at o outputs
    → IsWalked b height w
    → map (leaf_at o) (new_at height outputs) ≡ new_records b height
new_are b zero o outputs w e g = refl
new_are b (suc h) o outputs w e g = leaves_left o outputs ∙ (ap somes (sym e) ∙ g.left)

pub new_is : (b : Block) (height : ℕ) (o : Origins) (outputs left : List (Option KeptOutput)) (w : Walked) → w.left ≡ history_at o outputs
    → IsWalked b height w → left ≡ map Some (new_at height outputs) → history_at o left ≡ map Some (new_records b height)
new_is b height o outputs left w e g l =
    ap (history_at o) l ∙ (leaves_of o (new_at height outputs) ∙ ap (map Some) (new_are b height o outputs w e g))

pub claimed_is : (txs : List Transaction) (tx : Transaction) → slice_get txs 0 ≡ Some tx → claimed_by txs ≡ output_sum tx
claimed_is [] tx e = absurd (none-some tx e)
claimed_is (c ∷ txs) tx e = ap output_sum (same_Some c tx e)

-- where no value is too great, the coinbase's sum is none
pub claimed_most : (txs : List Transaction) → value_fault txs ≡ None → claimed_by txs ≤ most_money
claimed_most [] h = omega arith
claimed_most (c ∷ txs) h =
    let w = option_or-none (unless (has_value c) 0) (first_from 1 (λ t tx. unless (has_value tx) t) txs) h in
    let p = and_parts (not (list_any has_too_much c.outputs)) (nat_le (output_sum c) most_money) (unless-passed (has_value c) 0 w.0) in
    leb-true _ _ p.1

pub spends_are : (net : Net) (height high : ℕ) (b : Block) (outs : List Outside) (new : List Leaf) (claimed : ℕ) (bills : List Bill) → high ≡ height
    → outs ≡ external b height → new ≡ new_records b height → claimed ≡ claimed_by b.txs → bills ≡ bills_of (groups b height) (others b.txs) →
    ◌≡◌ {A = BlockSpends} (record { net = net; height = high; external = outs; new = new; claimed = claimed; bills = bills }) (spends_of net height b)
spends_are net height high b outs new claimed bills h o n c l =
    ap (λ (x : ℕ). let s : BlockSpends = record { net = net; height = x; external = outs; new = new; claimed = claimed; bills = bills } in s) h
    ∙ (ap (λ (x : List Outside). let s : BlockSpends =
    record { net = net; height = height; external = x; new = new; claimed = claimed; bills = bills } in s) o
    ∙ (ap (λ (x : List Leaf). let s : BlockSpends =
    record { net = net; height = height; external = external b height; new = x; claimed = claimed; bills = bills } in s) n
    ∙ (ap (λ (x : ℕ). let s : BlockSpends = record {
      net = net;
      height = height;
      external = external b height;
      new = new_records b height;
      claimed =
          x;
      bills = bills;
    } in s) c
    ∙ ap (λ (x : List Bill). let s : BlockSpends = record {
      net = net;
      height = height;
      external = external b height;
      new = new_records b height;
      claimed = claimed_by b.txs;
      bills = x;
    } in s) l)))
