-- The entries that a block spends, in ascending order.
use Rattle.std.proofs.Common.{◌≡◌, ℕ, true, cond, List, get_or, All, Option, None, sym, ap, ◌∙◌, subst}
use Rattle.std.specs.Prelude.{◌==◌}
use Rattle.std.specs.List.Sorted.{IsPermutation}
use Rattle.std.proofs.lemmas.List.{ext_get_or}
use Rattle.std.proofs.lemmas.List.Sorted.{All-permutation, list_any-IsPermutation}
use Rattle.uo_digest.specs.declared.digest.Digest.{Digest}
use Rattle.forest_model.specs.Deletion.{entries_without}
use Rattle.forest_model.proofs.Deleting.{get_or-entries_without, length-entries_without}
use Rattle.live_forest.specs.State.{is_live}

-- in any order the same is spent
pub emptied_same : (numbers given sorted : List ℕ) (es : List (Option Digest)) → given ≡ numbers → IsPermutation given sorted
    → entries_without sorted es ≡ entries_without numbers es
emptied_same numbers given sorted es e perm =
    ext_get_or None (entries_without sorted es) (entries_without given es) (length-entries_without sorted es ∙ sym (length-entries_without given es))
    (λ i lt. get_or-entries_without sorted es i ∙ (ap (λ b. cond b None (get_or es i None))
    (sym (list_any-IsPermutation (λ j. j == i) given sorted perm)) ∙ sym (get_or-entries_without given es i)))
    ∙ ap (λ is. entries_without is es) e

pub live_same : (numbers given sorted taken : List ℕ) (es fs gs : List (Option Digest)) → given ≡ numbers → IsPermutation given sorted
    → taken ≡ sorted → fs ≡ es → gs ≡ fs → All (λ i. is_live es i ≡ true) numbers → All (λ i. is_live gs i ≡ true) taken
live_same numbers given sorted taken es fs gs e perm t f h live =
    subst (All (λ i. is_live gs i ≡ true)) (sym t)
    (All-permutation (λ i. is_live gs i ≡ true) given sorted perm
    (subst (All (λ i. is_live gs i ≡ true)) (sym e) (subst (λ xs. All (λ i. is_live xs i ≡ true) numbers) (sym (h ∙ f)) live)))
