-- What is left of the outputs of a block, and its records.
use Rattle.std.proofs.Common.{◌≡◌, ℕ, zero, suc, ◌<◌, List, [], ◌∷◌, map, length, Option, Some, None, refl, sym, ap, ◌∙◌, arith, get_or}
use Rattle.std.proofs.lemmas.List.{length-map}
use Rattle.std.proofs.lemmas.Option.{none-some, same_Some, slice_get_read}
use Rattle.std.specs.Prelude.{filter, slice_get, option_map}
use Rattle.std.specs.Option.{is_some}
use Rattle.uo_base.proofs.Lists.{got-map}
use Rattle.leaf_record.specs.Leaf.{Leaf}
use Rattle.leaf_record.specs.History.{somes, History}
use Rattle.leaf_record.proofs.HistoryLaws.{somes-live}
use Rattle.block_rules.specs.declared.origins.Origins.{Origins}
use Rattle.block_rules.specs.KeptOutputs.{KeptOutput}
use Rattle.block_rules.specs.Known.{leaf_at, history_at}
use Rattle.block_rules.specs.Paying.{IsWhole}
use Rattle.block_rules.specs.Walk.{new_at}

-- those that are left
left_are : {X : Type 0} (us : List (Option X)) → filter is_some us ≡ map Some (somes us)
left_are [] = refl
left_are (None ∷ us) = left_are us
left_are (Some x ∷ us) = ap (λ xs. Some x ∷ xs) (left_are us)

pub new_left : (height : ℕ) (us : List (Option KeptOutput)) → (height ≡ 0 → ⊥) → filter is_some us ≡ map Some (new_at height us)
new_left zero us ne = absurd (ne refl)
new_left (suc h) us ne = left_are us

-- their records
pub leaves_of : (o : Origins) (xs : List KeptOutput) → history_at o (map Some xs) ≡ map Some (map (leaf_at o) xs)
leaves_of o [] = refl
leaves_of o (x ∷ xs) = ap (λ ys. Some (leaf_at o x) ∷ ys) (leaves_of o xs)

pub leaves_left : (o : Origins) (us : List (Option KeptOutput)) → map (leaf_at o) (somes us) ≡ somes (history_at o us)
leaves_left o [] = refl
leaves_left o (None ∷ us) = leaves_left o us
leaves_left o (Some x ∷ us) = ap (λ ys. leaf_at o x ∷ ys) (leaves_left o us)

pub somes_of : (us : History) (leaves : List Leaf) → us ≡ map Some leaves → somes us ≡ leaves
somes_of us leaves e = ap somes e ∙ somes-live leaves

pub whole_of : (us : History) (leaves : List Leaf) → us ≡ map Some leaves → IsWhole us
whole_of us leaves e = e ∙ ap (map Some) (sym (somes_of us leaves e))

-- as many records as outputs, where nothing is missing
pub whole_len : (o : Origins) (us : List (Option KeptOutput)) → IsWhole (history_at o us) → length us ≡ length (somes (history_at o us))
whole_len o us w = sym (length-map us (option_map (leaf_at o))) ∙ (ap length w ∙ length-map (somes (history_at o us)) (λ x. Some x))

some_at : (leaves : List Leaf) (i : ℕ) (u : Option Leaf) → slice_get (map Some leaves) i ≡ Some u → (leaf : Leaf) × (u ≡ Some leaf)
    × (slice_get leaves i ≡ Some leaf)
some_at [] i u e = absurd (none-some u e)
some_at (leaf ∷ leaves) zero u e = (leaf, sym (same_Some _ u e), refl)
some_at (leaf ∷ leaves) (suc i) u e = some_at leaves i u e

-- what stands at an index where nothing is missing
pub whole_at : (o : Origins) (us : List (Option KeptOutput)) (i : ℕ) (u : Option KeptOutput) → IsWhole (history_at o us)
    → i < length (somes (history_at o us))
    → u ≡ get_or us i u → (kept : KeptOutput) × (u ≡ Some kept) × (slice_get (somes (history_at o us)) i ≡ Some (leaf_at o kept))
whole_at o us i u w lt e =
    let long = whole_len o us w in
    let at = slice_get_read us (length us) i u refl (omega (arith, lt, long)) e in
    let r = some_at (somes (history_at o us)) i (option_map (leaf_at o) u)
    (ap (λ xs. slice_get xs i) (sym w) ∙ got-map (option_map (leaf_at o)) us i u at) in
    by_case u r.0 r.1 r.2
  where
    by_case : (x : Option KeptOutput) (leaf : Leaf) → option_map (leaf_at o) x ≡ Some leaf → slice_get (somes (history_at o us)) i ≡ Some leaf
        → (kept : KeptOutput) × (x ≡ Some kept) × (slice_get (somes (history_at o us)) i ≡ Some (leaf_at o kept))
    by_case None leaf n g = absurd (none-some leaf n)
    by_case (Some kept) leaf n g = (kept, refl, g ∙ ap (λ x. Some x) (sym (same_Some (leaf_at o kept) leaf n)))
