-- One walk over a block finds what its definitions say.
use Rattle.std.proofs.Common.{◌≡◌, ℕ, suc, ◌+◌, ◌<◌, ◌≤◌, Bool, true, false, List, [], ◌∷◌, ◌++◌, map, drop, length, Some, refl, sym, ap, ◌∙◌}
use Rattle.std.proofs.Common.{ap₂, subst, ⊎_elim, arith, add-one, append_assoc}
use Rattle.std.specs.Prelude.{slice_get, ◌==◌}
use Rattle.std.specs.List.{flat_map}
use Rattle.std.proofs.lemmas.Bool.{cases_Bool, eqb-true}
use Rattle.std.proofs.lemmas.List.{append-nil, drop_all}
use Rattle.std.proofs.lemmas.Option.{get_or_from_slice_get}
use Rattle.uo_base.proofs.Lists.{got-map, drop-got}
use Rattle.uo_digest.specs.declared.digest.Digest.{Digest}
use Rattle.tx_codec.specs.Transaction.{Transaction}
use Rattle.tx_codec.specs.Ids.{txid_of}
use Rattle.block_codec.specs.Block.{Block, block_hash_of}
use Rattle.leaf_record.specs.History.{somes, History}
use Rattle.leaf_record.proofs.HistoryLaws.{somes-live, somes-append}
use Rattle.block_rules.specs.declared.origins.Origins.{Origins}
use Rattle.block_rules.specs.Blocks.{OutputOrigin, origin_of, placed_from, made_by, made_first, made_from, Spend, spends_from, left_from, groups_from}
use Rattle.block_rules.specs.Blocks.{left_of_all, external_in, external, groups, others}
use Rattle.block_rules.specs.Known.{ArisesFrom, txid_at, origin_at}
use Rattle.block_rules.specs.Money.{bills_of}
use Rattle.block_rules.specs.Walk.{Walked, kept_of, first_kept, walked_on, begins, bill_for, IsWalked}
use Rattle.block_rules.proofs.Alike.{groups_alike, kept_alike}

-- with what is still to come, what was met is what the whole block has
pub record IsWalking (b : Block) (height t : ℕ) (w : Walked) : Type 0 where
  pub outs : w.outsides ++ flat_map external_in (groups_from (block_hash_of b) height t (drop t b.txs) w.left) ≡ external b height
  pub billed : w.bills ++ bills_of (groups_from (block_hash_of b) height t (drop t b.txs) w.left) (drop t b.txs)
      ≡ bills_of (groups b height) (others b.txs)
  pub left : somes (left_of_all (block_hash_of b) height t (drop t b.txs) w.left)
      ≡ somes (left_of_all (block_hash_of b) height 1 (others b.txs) (map Some (made_first (block_hash_of b) height b.txs)))

-- ---- what makes the outputs of a transaction

origin_is : (b : Block) (height t : ℕ) (tx : Transaction) (o : Origins) (coinbase : Bool) → ArisesFrom b height o → slice_get b.txs t ≡ Some tx
    → (t == 0) ≡ coinbase → origin_at o t ≡ origin_of (block_hash_of b) height coinbase tx
origin_is b height t tx o coinbase a e c =
    let id : txid_at o.txids.items t ≡ txid_of tx =
    ap (λ ids. txid_at ids t) a.txids ∙ get_or_from_slice_get (map txid_of b.txs) t (txid_of tx) _ (got-map txid_of b.txs t tx e) in
    ap (λ (x : Digest). let r : OutputOrigin = record { block = x; height = o.height; coinbase = t == 0; txid = txid_at o.txids.items t } in r)
    a.block
    ∙ (ap (λ (x : ℕ). let r : OutputOrigin = record { block = block_hash_of b; height = x; coinbase = t == 0; txid = txid_at o.txids.items t } in
    r) a.height
    ∙ ap₂ (λ (x : Bool) (y : Digest). let r : OutputOrigin = record { block = block_hash_of b; height = height; coinbase = x; txid = y } in r) c id)

made_of : (b : Block) (height t : ℕ) (tx : Transaction) (o : Origins) (coinbase : Bool) → ArisesFrom b height o → slice_get b.txs t ≡ Some tx
    → (t == 0) ≡ coinbase → somes (kept_of o t tx) ≡ made_by (block_hash_of b) height coinbase tx
made_of b height t tx o coinbase a e c = kept_alike o t 0 tx.outputs ∙ ap (λ x. made_from x 0 tx.outputs) (origin_is b height t tx o coinbase a e c)

pub arises_on : (b : Block) (height : ℕ) (o next : Origins) → next ≡ o → ArisesFrom b height o → ArisesFrom b height next
arises_on b height o next e a = subst (ArisesFrom b height) (sym e) a

-- ---- from transaction to transaction

drop-others : (txs : List Transaction) → drop 1 txs ≡ others txs
drop-others [] = refl
drop-others (tx ∷ txs) = refl

first_alike : (b : Block) (height : ℕ) (o : Origins) (txs : List Transaction)
    → ((tx : Transaction) → slice_get txs 0 ≡ Some tx → slice_get b.txs 0 ≡ Some tx) → ArisesFrom b height o →
    somes (first_kept o txs) ≡ somes (map Some (made_first (block_hash_of b) height txs))
first_alike b height o [] same a = refl
first_alike b height o (tx ∷ txs) same a = made_of b height 0 tx o true a (same tx refl) refl
    ∙ sym (somes-live (made_by (block_hash_of b) height true tx))

pub walk_begins : (b : Block) (height : ℕ) (o : Origins) (w : Walked) → ArisesFrom b height o → w ≡ begins o b.txs → IsWalking b height 1 w
walk_begins b height o w a e =
    let hash = block_hash_of b in
    let alike = groups_alike hash height 1 (others b.txs) (first_kept o b.txs) (map Some (made_first hash height b.txs))
    (first_alike b height o b.txs (λ tx h. h) a) in
    subst (IsWalking b height 1) (sym e) (record {
      outs = rw drop-others (ap (flat_map external_in) alike.0);
      billed = rw drop-others (ap (λ gs. bills_of gs (others b.txs)) alike.0);
      left = rw drop-others alike.1;
    })

module _ (b : Block) (height t : ℕ) (tx : Transaction) (o : Origins) (w : Walked) (a : ArisesFrom b height o) (e : slice_get b.txs t ≡ Some tx)
    (behind : 0 < t) (h : IsWalking b height t w) where
  abbrev rest : List Transaction
  rest = drop (suc t) b.txs

  abbrev spends : List Spend
  spends = spends_from (placed_from t 0 tx.inputs) w.left

  abbrev as_made : History
  as_made = left_from (placed_from t 0 tx.inputs) w.left ++ map Some (made_by (block_hash_of b) height false tx)

  abbrev as_kept : History
  as_kept = left_from (placed_from t 0 tx.inputs) w.left ++ kept_of o t tx

  not_first : (t == 0) ≡ false
  not_first = ⊎_elim (λ y. let zero_is = eqb-true t 0 y in absurd (omega (arith, behind, zero_is))) (λ f. f) (cases_Bool (t == 0))

  alike : (groups_from (block_hash_of b) height (suc t) rest as_kept ≡ groups_from (block_hash_of b) height (suc t) rest as_made)
      × (somes (left_of_all (block_hash_of b) height (suc t) rest as_kept) ≡ somes (left_of_all (block_hash_of b) height (suc t) rest as_made))
  alike = groups_alike (block_hash_of b) height (suc t) rest as_kept as_made
      (somes-append (left_from (placed_from t 0 tx.inputs) w.left) (kept_of o t tx)
      ∙ (ap (λ xs. somes (left_from (placed_from t 0 tx.inputs) w.left) ++ xs)
      (made_of b height t tx o false a e not_first ∙ sym (somes-live (made_by (block_hash_of b) height false tx)))
      ∙ sym (somes-append (left_from (placed_from t 0 tx.inputs) w.left) (map Some (made_by (block_hash_of b) height false tx)))))

  outs_on : (w.outsides ++ external_in spends) ++ flat_map external_in (groups_from (block_hash_of b) height (suc t) rest as_kept) ≡ external b height
  outs_on =
      append_assoc w.outsides (external_in spends) _
      ∙ (ap (λ gs. w.outsides ++ (external_in spends ++ flat_map external_in gs)) alike.0
      ∙ (sym (ap (λ xs. w.outsides ++ flat_map external_in (groups_from (block_hash_of b) height t xs w.left)) (drop-got b.txs t tx e)) ∙ h.outs))

  billed_on : (w.bills ++ bill_for t tx w.left ∷ []) ++ bills_of (groups_from (block_hash_of b) height (suc t) rest as_kept) rest
      ≡ bills_of (groups b height) (others b.txs)
  billed_on =
      append_assoc w.bills (bill_for t tx w.left ∷ []) _
      ∙ (ap (λ gs. w.bills ++ (bill_for t tx w.left ∷ bills_of gs rest)) alike.0
      ∙ (sym (ap (λ xs. w.bills ++ bills_of (groups_from (block_hash_of b) height t xs w.left) xs) (drop-got b.txs t tx e)) ∙ h.billed))

  left_on : somes (left_of_all (block_hash_of b) height (suc t) rest as_kept)
      ≡ somes (left_of_all (block_hash_of b) height 1 (others b.txs) (map Some (made_first (block_hash_of b) height b.txs)))
  left_on = alike.1 ∙ (sym (ap (λ xs. somes (left_of_all (block_hash_of b) height t xs w.left)) (drop-got b.txs t tx e)) ∙ h.left)

  pub walks_on : (next : Walked) → next ≡ walked_on t tx (kept_of o t tx) w → IsWalking b height (t + 1) next
  walks_on next n = subst (IsWalking b height (t + 1)) (sym n)
      (record { outs = rw add-one outs_on; billed = rw add-one billed_on; left = rw add-one left_on })

pub walk_ends : (b : Block) (height t : ℕ) (w : Walked) → length b.txs ≤ t → IsWalking b height t w → IsWalked b height w
walk_ends b height t w l h =
    let none = drop_all t b.txs l in
    let hash = block_hash_of b in
    record {
      outs = sym (append-nil w.outsides) ∙ (sym (ap (λ xs. w.outsides ++ flat_map external_in (groups_from hash height t xs w.left)) none) ∙ h.outs);
      billed = sym (append-nil w.bills) ∙ (sym (ap (λ xs. w.bills ++ bills_of (groups_from hash height t xs w.left) xs) none) ∙ h.billed);
      left = sym (ap (λ xs. somes (left_of_all hash height t xs w.left)) none) ∙ h.left;
    }
