-- No tree is higher than the row of its place, so at row 0 stand leaves alone; and what the children of a place tell of it.
use Rattle.std.proofs.Common.{◌≡◌, ℕ, zero, suc, ◌-◌, ◌*◌, ◌+◌, ◌/◌, ◌%◌, true, false, List, length, get_or, Option, Some, None, [], refl, sym, ap}
use Rattle.std.proofs.Common.{◌∙◌, ap₂, ⊎_elim}
use Rattle.std.specs.Prelude.{option_map, option_and_then}
use Rattle.std.proofs.lemmas.Bool.{cases_Bool}
use Rattle.std.proofs.lemmas.Option.{none-some, same_Some}
use Rattle.uo_digest.specs.declared.digest.Digest.{Digest}
use Rattle.forest_place.specs.Forest.{InForest, is_root}
use Rattle.forest_model.specs.Content.{Tree, leaf, inner, join, content, digest_of}
use Rattle.forest_model.specs.Standing.{half, climb, tree_at}
use Rattle.forest_model.proofs.Climbs.{tree_at-left, tree_at-right}
use Rattle.live_forest.specs.State.{leaf_number}
use Rattle.output_index.specs.Held.{Held}
use Rattle.clash_find.specs.Texts.{tree_text, node_text_at, pair_text, halves_at}

-- the tree is at most so high
abbrev IsLow : ℕ → Tree → Type 0
IsLow row (leaf i d) = Unit {0}
IsLow zero (inner l r) = ⊥
IsLow (suc row) (inner l r) = IsLow row l × IsLow row r

abbrev AreLow : ℕ → Option Tree → Type 0
AreLow row None = Unit {0}
AreLow row (Some t) = IsLow row t

higher : (row : ℕ) (t : Tree) → IsLow row t → IsLow (suc row) t
higher row (leaf i d) h = tt
higher zero (inner l r) h = absurd h
higher (suc row) (inner l r) h = (higher row l h.0, higher row r h.1)

low_join : (row : ℕ) (x y : Option Tree) → AreLow row x → AreLow row y → AreLow (suc row) (join x y)
low_join row None None h k = tt
low_join row None (Some t) h k = higher row t k
low_join row (Some t) None h k = higher row t h
low_join row (Some l) (Some r) h k = (h, k)

low_content : (es : List (Option Digest)) (row off : ℕ) → AreLow row (content es row off)
low_content es zero off = low_entry (get_or es off None)
  where
    low_entry : (x : Option Digest) → AreLow zero (option_map (leaf off) x)
    low_entry None = tt
    low_entry (Some d) = tt
low_content es (suc row) off = low_join row (content es row (2 * off)) (content es row (2 * off + 1)) (low_content es row (2 * off))
    (low_content es row (2 * off + 1))

low_half : (side row : ℕ) (x : Option Tree) → AreLow (suc row) x → AreLow row (half side x)
low_half side row None h = tt
low_half side row (Some (leaf i d)) h = tt
low_half zero row (Some (inner l r)) h = h.0
low_half (suc k) row (Some (inner l r)) h = h.1

low_climb : (es : List (Option Digest)) (k row off : ℕ) → AreLow row (climb es k row off)
low_climb es zero row off = tt
low_climb es (suc k) row off =
    ⊎_elim
    (λ (top : is_root (length es) row off ≡ true). rw top (low_content es row off))
    (λ (other : is_root (length es) row off ≡ false). rw other
    (low_half (off % 2) row (climb es k (suc row) (off / 2)) (low_climb es k (suc row) (off / 2))))
    (cases_Bool (is_root (length es) row off))

low_tree : (es : List (Option Digest)) (row off : ℕ) → AreLow row (tree_at es row off)
low_tree es row off = low_climb es (length es - row) row off

-- ---- the text of a node that is no leaf

module _ (H : List ℕ → Digest) (outputs : List Held) where
  no_leaf_low : (x : Option Tree) → AreLow zero x → leaf_number x ≡ None → option_and_then (tree_text H outputs) x ≡ None
  no_leaf_low None h e = refl
  no_leaf_low (Some (leaf i d)) h e = absurd (none-some i (sym e))
  no_leaf_low (Some (inner l r)) h e = absurd h

  no_leaf_high : (x : Option Tree) → leaf_number x ≡ None
      → option_and_then (tree_text H outputs) x ≡ pair_text (option_map (digest_of H) (half 0 x)) (option_map (digest_of H) (half 1 x))
  no_leaf_high None e = refl
  no_leaf_high (Some (leaf i d)) e = absurd (none-some i (sym e))
  no_leaf_high (Some (inner l r)) e = refl

  -- where no leaf stands, the text is that of what stands at the children
  pub halves_are : (es : List (Option Digest)) (row off : ℕ) → InForest (length es) row off → leaf_number (tree_at es row off) ≡ None
      → halves_at H es row off ≡ node_text_at H es outputs row off
  halves_are es zero off h e = sym (no_leaf_low (tree_at es zero off) (low_tree es zero off) e)
  halves_are es (suc row) off h e =
      ap₂ pair_text (ap (option_map (digest_of H)) (tree_at-left es row off h)) (ap (option_map (digest_of H)) (tree_at-right es row off h))
      ∙ sym (no_leaf_high (tree_at es (suc row) off) e)

  -- where a leaf stands, it is that of the entry
  leaf_text_is : (x : Option Tree) (i : ℕ) → leaf_number x ≡ Some i → option_and_then (tree_text H outputs) x ≡ tree_text H outputs (leaf i (H []))
  leaf_text_is None i e = absurd (none-some i e)
  leaf_text_is (Some (leaf j d)) i e = ap (λ k. tree_text H outputs (leaf k d)) (same_Some j i e)
  leaf_text_is (Some (inner l r)) i e = absurd (none-some i e)

  pub leaf_is : (es : List (Option Digest)) (row off i : ℕ) → leaf_number (tree_at es row off) ≡ Some i
      → tree_text H outputs (leaf i (H [])) ≡ node_text_at H es outputs row off
  leaf_is es row off i e = sym (leaf_text_is (tree_at es row off) i e)
