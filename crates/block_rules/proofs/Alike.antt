-- What a walk over a block finds depends on the outputs that are left, and not on the gaps between them.
use Rattle.std.proofs.Common.{◌≡◌, ℕ, suc, false, List, [], ◌∷◌, ◌++◌, map, Option, Some, None, refl, sym, ap, ◌∙◌, ap₂, ⊎_elim}
use Rattle.std.specs.Prelude.{option_map, if◌then◌else◌}
use Rattle.std.specs.Option.{option_or}
use Rattle.std.proofs.lemmas.Bool.{cases_Bool}
use Rattle.uo_digest.specs.declared.digest.Digest.{Digest}
use Rattle.tx_codec.specs.Transaction.{Output, Transaction}
use Rattle.leaf_record.specs.Leaf.{Outpoint, Leaf}
use Rattle.leaf_record.specs.History.{somes, Entry, entry_if, History, newer, newest, same_point}
use Rattle.leaf_record.proofs.HistoryLaws.{somes-append}
use Rattle.block_rules.specs.declared.origins.Origins.{Origins}
use Rattle.block_rules.specs.Blocks.{is_spendable, leaf_of, made_from, made_by, Placed, placed_from, Spend, once_taken, taken, spends_from, left_from}
use Rattle.block_rules.specs.Blocks.{groups_from, left_of_all}
use Rattle.block_rules.specs.KeptOutputs.{kept_from}
use Rattle.block_rules.specs.Known.{origin_at, history_at}
use Rattle.block_rules.specs.Laws.{latest}
use Rattle.block_rules.proofs.Latest.{found, is_of, found-cons}

or_none : {X : Type 0} (x : Option X) → option_or x None ≡ x
or_none None = refl
or_none (Some x) = refl

-- what is found of a name is the latest output that is left
pub found_is : (p : Outpoint) (us : History) → found p us ≡ latest p (somes us)
found_is p [] = refl
found_is p (None ∷ us) = found-cons p None us ∙ (or_none (found p us) ∙ found_is p us)
found_is p (Some leaf ∷ us) = found-cons p (Some leaf) us ∙ ap (λ x. option_or x (is_of p (Some leaf))) (found_is p us)

abbrev where_found : {X : Type 0} → Option Leaf → X → X → X
where_found None x y = y
where_found (Some leaf) x y = x

-- without the latest of a name
abbrev without : Outpoint → List Leaf → List Leaf
without p [] = []
without p (leaf ∷ leaves) = where_found (latest p leaves) (leaf ∷ without p leaves) (if same_point leaf.point p then leaves else leaf ∷ leaves)

taken_is : (p : Outpoint) (us : History) → somes (taken p us) ≡ without p (somes us)
taken_is p [] = refl
taken_is p (u ∷ us) = by_case u (newest p us) (taken_is p us) (sym (found_is p us))
  where
    by_case : (u : Option Leaf) (n : Option Entry) → somes (once_taken n us) ≡ without p (somes us) → latest p (somes us) ≡ option_map (λ e. e.leaf) n
        → somes (once_taken (newer p u n) (u ∷ us)) ≡ without p (somes (u ∷ us))
    by_case None None h l = h
    by_case None (Some e) h l = h
    by_case (Some leaf) (Some e) h l =
        ap (λ xs. leaf ∷ xs) h
        ∙ sym (ap (λ x. where_found x (leaf ∷ without p (somes us)) (if same_point leaf.point p then somes us else leaf ∷ somes us)) l)
    by_case (Some leaf) None h l =
        let here : somes (once_taken (entry_if p leaf) (Some leaf ∷ us)) ≡ (if same_point leaf.point p then somes us else leaf ∷ somes us) =
        ⊎_elim (λ t. rw t refl) (λ t. rw t refl) (cases_Bool (same_point leaf.point p)) in
        here ∙ sym (ap (λ x. where_found x (leaf ∷ without p (somes us)) (if same_point leaf.point p then somes us else leaf ∷ somes us)) l)

spends_alike : (ats : List Placed) (f g : History) → somes f ≡ somes g → (spends_from ats f ≡ spends_from ats g)
    × (somes (left_from ats f) ≡ somes (left_from ats g))
spends_alike [] f g e = (refl, e)
spends_alike (at ∷ ats) f g e =
    let own = found_is at.point f ∙ (ap (latest at.point) e ∙ sym (found_is at.point g)) in
    let left = taken_is at.point f ∙ (ap (without at.point) e ∙ sym (taken_is at.point g)) in
    let rest = spends_alike ats (taken at.point f) (taken at.point g) left in
    (ap₂ (λ (x : Option Leaf) xs. let s : Spend = record { at = at; own = x } in s ∷ xs) own rest.0, rest.1)

pub groups_alike : (hash : Digest) (height t : ℕ) (txs : List Transaction) (f g : History) → somes f ≡ somes g →
    (groups_from hash height t txs f ≡ groups_from hash height t txs g)
    × (somes (left_of_all hash height t txs f) ≡ somes (left_of_all hash height t txs g))
groups_alike hash height t [] f g e = (refl, e)
groups_alike hash height t (tx ∷ txs) f g e =
    let ats = placed_from t 0 tx.inputs in
    let new : History = map Some (made_by hash height false tx) in
    let now = spends_alike ats f g e in
    let next = somes-append (left_from ats f) new ∙ (ap (λ xs. xs ++ somes new) now.1 ∙ sym (somes-append (left_from ats g) new)) in
    let rest = groups_alike hash height (suc t) txs (left_from ats f ++ new) (left_from ats g ++ new) next in
    (ap₂ (λ x xs. x ∷ xs) now.0 rest.0, rest.1)

-- those that can be spent are what a transaction makes
pub kept_alike : (o : Origins) (t i : ℕ) (outputs : List Output) → somes (history_at o (kept_from t i outputs)) ≡ made_from (origin_at o t) i outputs
kept_alike o t i [] = refl
kept_alike o t i (output ∷ outputs) =
    ⊎_elim
    (λ s. rw s (ap (λ xs. leaf_of (origin_at o t) i output ∷ xs) (kept_alike o t (suc i) outputs)))
    (λ s. rw s (kept_alike o t (suc i) outputs))
    (cases_Bool (is_spendable output))
