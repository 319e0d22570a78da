-- Where no outpoint is spent twice in a block, its inputs have different ones, and so have its external inputs.
use Rattle.std.proofs.Common.{◌≡◌, ◌≢◌, ℕ, suc, true, false, List, [], ◌∷◌, ◌++◌, map, None, Some, refl, sym, ap, ◌∙◌, subst, ap₂, ⊎_elim}
use Rattle.std.specs.Prelude.{not}
use Rattle.std.specs.List.{list_any, AllByRecursion, flat_map}
use Rattle.std.proofs.lemmas.Bool.{cases_Bool, false≢true, or_parts, not-true}
use Rattle.std.proofs.lemmas.List.{map-append}
use Rattle.uo_digest.specs.declared.digest.Digest.{Digest}
use Rattle.tx_codec.specs.Transaction.{Transaction}
use Rattle.block_codec.specs.Block.{Block, block_hash_of}
use Rattle.uo_base.specs.declared.event.Limits.{Limits}
use Rattle.uo_base.specs.declared.event.Net.{Net}
use Rattle.leaf_record.specs.Leaf.{Outpoint}
use Rattle.leaf_record.specs.History.{History, same_point}
use Rattle.leaf_record.proofs.HistoryLaws.{same_point-same}
use Rattle.block_rules.specs.declared.chain.Chain.{Chain}
use Rattle.block_rules.specs.declared.chain.Outside.{Outside}
use Rattle.block_rules.specs.declared.refusal.Refusal.TheVariants as Why
use Rattle.block_rules.specs.Steps.{unless, first_of}
use Rattle.block_rules.specs.Blocks.{Placed, placed_from, placed_of, made_by, made_first, Spend, taken, spends_from, left_from, groups_from, groups}
use Rattle.block_rules.specs.Blocks.{others, is_external, outside_of, external_in, external}
use Rattle.block_rules.specs.Rules.{double, block_steps}
use Rattle.block_rules.proofs.Firsts.{unless-passed, option_or-none}
use Rattle.block_rules.proofs.Passed.{apart_passed}

-- all inputs have different outpoints
abbrev pub Apart : List Placed → Type 0
Apart [] = Unit {0}
Apart (i ∷ is) = AllByRecursion (λ j. i.point ≢ j.point) is × Apart is

differ : (p q : Outpoint) → same_point q p ≡ false → p ≢ q
differ p q h e = false≢true (sym h ∙ subst (λ x. same_point q x ≡ true) (sym e) (same_point-same q))

pub all_map : {X : Type 0} {P Q : X → Type 0} (xs : List X) → ((x : X) → P x → Q x) → AllByRecursion P xs → AllByRecursion Q xs
all_map [] f h = tt
all_map (x ∷ xs) f h = (f x h.0, all_map xs f h.1)

pub apart_from : (before : List Outpoint) (is : List Placed) → double before is ≡ None
    → AllByRecursion (λ j. list_any (same_point j.point) before ≡ false) is × Apart is
apart_from before [] h = (tt, tt)
apart_from before (i ∷ is) h =
    let a = option_or-none (unless (not (list_any (same_point i.point) before)) (Why.Double i.tx i.input)) (double (i.point ∷ before) is) h in
    let here = not-true (list_any (same_point i.point) before)
    (unless-passed (not (list_any (same_point i.point) before)) (Why.Double i.tx i.input) a.0) in
    let rest = apart_from (i.point ∷ before) is a.1 in (
      (here, all_map is (λ j k. (or_parts (same_point j.point i.point) (list_any (same_point j.point) before) k).1) rest.0),
      (all_map is (λ j k. differ i.point j.point (or_parts (same_point j.point i.point) (list_any (same_point j.point) before) k).0) rest.0, rest.1),
    )

pub apart_right : (xs ys : List Placed) → Apart (xs ++ ys) → Apart ys
apart_right [] ys h = h
apart_right (x ∷ xs) ys h = apart_right xs ys h.1

-- those behind the coinbase's
pub apart_others : (txs : List Transaction) → double [] (placed_of 0 txs) ≡ None → Apart (placed_of 1 (others txs))
apart_others [] h = tt
apart_others (coinbase ∷ txs) h = apart_right (placed_from 0 0 coinbase.inputs) (placed_of 1 txs) (apart_from [] (placed_of 0 (coinbase ∷ txs)) h).1

-- the groups have the inputs, in order
spends_at : (is : List Placed) (fresh : History) → map (λ s. s.at) (spends_from is fresh) ≡ is
spends_at [] fresh = refl
spends_at (i ∷ is) fresh = ap (λ xs. i ∷ xs) (spends_at is (taken i.point fresh))

pub groups_at : (hash : Digest) (h t : ℕ) (txs : List Transaction) (fresh : History)
    → map (λ s. s.at) (flat_map (λ g. g) (groups_from hash h t txs fresh)) ≡ placed_of t txs
groups_at hash h t [] fresh = refl
groups_at hash h t (tx ∷ txs) fresh =
    map-append (λ s. s.at) (spends_from (placed_from t 0 tx.inputs) fresh) _
    ∙ ap₂ (λ xs ys. xs ++ ys) (spends_at (placed_from t 0 tx.inputs) fresh)
    (groups_at hash h (suc t) txs (left_from (placed_from t 0 tx.inputs) fresh ++ map Some (made_by hash h false tx)))

-- ---- external inputs

abbrev pub point_at : Outside → Outpoint
point_at o = record { txid = o.txid; index = o.index }

-- all of these name different outputs
abbrev pub OutsideApart : List Outside → Type 0
OutsideApart [] = Unit {0}
OutsideApart (o ∷ os) = AllByRecursion (λ p. point_at o ≢ point_at p) os × OutsideApart os

all_external : (P : Outpoint → Type 0) (ss : List Spend) → AllByRecursion (λ j. P j.point) (map (λ s. s.at) ss)
    → AllByRecursion (λ o. P (point_at o)) (external_in ss)
all_external P [] h = tt
all_external P (s ∷ ss) h = ⊎_elim (λ e. rw e (h.0, all_external P ss h.1)) (λ e. rw e (all_external P ss h.1)) (cases_Bool (is_external s))

external_in-apart : (ss : List Spend) → Apart (map (λ s. s.at) ss) → OutsideApart (external_in ss)
external_in-apart [] h = tt
external_in-apart (s ∷ ss) h = ⊎_elim (λ e. rw e (all_external (λ p. s.at.point ≢ p) ss h.0, external_in-apart ss h.1))
    (λ e. rw e (external_in-apart ss h.1)) (cases_Bool (is_external s))

pub external_in-append : (ss rs : List Spend) → external_in (ss ++ rs) ≡ external_in ss ++ external_in rs
external_in-append [] rs = refl
external_in-append (s ∷ ss) rs = ⊎_elim (λ e. rw e (ap (λ xs. outside_of s.at ∷ xs) (external_in-append ss rs)))
    (λ e. rw e (external_in-append ss rs)) (cases_Bool (is_external s))

pub external_in-flat : (gs : List (List Spend)) → flat_map external_in gs ≡ external_in (flat_map (λ g. g) gs)
external_in-flat [] = refl
external_in-flat (g ∷ gs) = ap (λ xs. external_in g ++ xs) (external_in-flat gs) ∙ sym (external_in-append g (flat_map (λ g. g) gs))

-- where no step on the block alone fails, the external inputs name different outputs
pub external_apart : (net : Net) (limits : Limits) (chain : Chain) (b : Block) (height : ℕ) → first_of (block_steps net limits chain b) ≡ None
    → OutsideApart (external b height)
external_apart net limits chain b height h =
    let apart = apart_others b.txs (apart_passed net limits chain b h) in
    let hash = block_hash_of b in
    subst OutsideApart (sym (external_in-flat (groups b height)))
    (external_in-apart (flat_map (λ g. g) (groups b height))
    (subst Apart (sym (groups_at hash height 1 (others b.txs) (map Some (made_first hash height b.txs)))) apart))
