-- What a mark gives back of the kept entries, number by number.
use Rattle.std.proofs.Common.{◌≡◌, ℕ, Bool, cond, List, [], ◌∷◌, ◌++◌, map, Option, Some, None, refl, sym, ap, ◌∙◌, ⊎_elim}
use Rattle.std.specs.Prelude.{option_map}
use Rattle.std.specs.List.{list_any}
use Rattle.std.specs.Option.{option_or, option_to_list}
use Rattle.std.proofs.lemmas.Bool.{cases_Bool}
use Rattle.std.proofs.lemmas.List.{map-append}
use Rattle.std.proofs.lemmas.Option.{none-some, same_Some}
use Rattle.forest_place.specs.declared.place.Place.{Place}
use Rattle.cache_model.specs.declared.kept.Kept.{Kept}
use Rattle.cache_model.specs.Lists.{leaf_key, AscendByNumber}
use Rattle.cache_model.specs.Undo.{find, change, back, KeepKeys, is_same_number, is_before_number}
use Rattle.cache_model.proofs.Undoing.{number_order, undone, same_found}
use Rattle.cache_update.proofs.Undone.{undo_append}
use Rattle.cache_update.specs.Given.{entry_was, at_place, entry_stood, entry_none, undo_entries, kept_given}

abbrev pub found : ℕ → List Kept → Option Kept
found i ks = find is_same_number leaf_key i ks

abbrev pub stood_key : ℕ × Place → ℕ
stood_key s = s.0

abbrev pub stood_of : ℕ → List (ℕ × Place) → Option (ℕ × Place)
stood_of i stood = find is_same_number stood_key i stood

abbrev pub is_among : ℕ → List ℕ → Bool
is_among i added = list_any (is_same_number i) added

abbrev pub put_at : Option (ℕ × Place) → Option Kept → Option Kept
put_at None x = x
put_at (Some s) x = option_map (at_place s) x

-- what a mark makes of what is kept under a number
abbrev pub given : List Kept → List (ℕ × Place) → List ℕ → ℕ → Option Kept → Option Kept
given taken stood added i x = option_or (found i taken) (put_at (stood_of i stood) (cond (is_among i added) None x))

back_was : (i : ℕ) (taken : List Kept) (x : Option Kept) → back is_same_number i (map entry_was taken) x ≡ option_or (found i taken) x
back_was i [] x = refl
back_was i (k ∷ taken) x = ⊎_elim (λ t. rw t refl) (λ t. rw t (back_was i taken x)) (cases_Bool (is_same_number i k.number))

back_stood : (i : ℕ) (stood : List (ℕ × Place)) (x : Option Kept) → back is_same_number i (map entry_stood stood) x ≡ put_at (stood_of i stood) x
back_stood i [] x = refl
back_stood i (s ∷ stood) x = ⊎_elim (λ t. rw t (ap (option_map (at_place s)) (back_stood i stood x) ∙ twice (stood_of i stood) x))
    (λ t. rw t (back_stood i stood x)) (cases_Bool (is_same_number i s.0))
  where
    twice : (y : Option (ℕ × Place)) (x : Option Kept) → option_map (at_place s) (put_at y x) ≡ option_map (at_place s) x
    twice None x = refl
    twice (Some y) None = refl
    twice (Some y) (Some k) = refl

back_none : (i : ℕ) (added : List ℕ) (x : Option Kept) → back is_same_number i (map entry_none added) x ≡ cond (is_among i added) None x
back_none i [] x = refl
back_none i (j ∷ added) x = ⊎_elim (λ t. rw t refl) (λ t. rw t (back_none i added x)) (cases_Bool (is_same_number i j))

was_keep : (taken : List Kept) → KeepKeys leaf_key (map entry_was taken)
was_keep [] = tt
was_keep (k ∷ taken) = (λ x v e. ap leaf_key (sym (same_Some k v e)), was_keep taken)

stood_keep : (stood : List (ℕ × Place)) → KeepKeys leaf_key (map entry_stood stood)
stood_keep [] = tt
stood_keep (s ∷ stood) = (λ x v e. keeps x v e, stood_keep stood)
  where
    keeps : (x : Option Kept) (v : Kept) → option_map (at_place s) x ≡ Some v → v.number ≡ s.0
    keeps None v e = absurd (none-some v e)
    keeps (Some k) v e = ap leaf_key (sym (same_Some (at_place s k) v e))

none_keep : (added : List ℕ) → KeepKeys leaf_key (map entry_none added)
none_keep [] = tt
none_keep (i ∷ added) = (λ x v e. absurd (none-some v e), none_keep added)

undone_entries : (log : List (ℕ × (Option Kept → Option Kept))) (ks : List Kept) → AscendByNumber ks → KeepKeys leaf_key log
    → AscendByNumber (undo_entries log ks) × ((i : ℕ) → found i (undo_entries log ks) ≡ back is_same_number i log (found i ks))
undone_entries log ks a h = undone is_same_number is_before_number leaf_key number_order log ks a h

-- the list given back ascends, and has this under each number
pub given_is : (taken : List Kept) (stood : List (ℕ × Place)) (added : List ℕ) (ks : List Kept) → AscendByNumber ks
    → AscendByNumber (kept_given taken stood added ks)
    × ((i : ℕ) → found i (kept_given taken stood added ks) ≡ given taken stood added i (found i ks))
given_is taken stood added ks a =
    let x = undone_entries (map entry_none added) ks a (none_keep added) in
    let y = undone_entries (map entry_stood stood) (undo_entries (map entry_none added) ks) x.0 (stood_keep stood) in
    let z = undone_entries (map entry_was taken) (undo_entries (map entry_stood stood) (undo_entries (map entry_none added) ks)) y.0
    (was_keep taken) in (
      z.0,
      λ i. z.1 i ∙ (back_was i taken _ ∙ ap (option_or (found i taken))
          (y.1 i ∙ (back_stood i stood _ ∙ ap (put_at (stood_of i stood)) (x.1 i ∙ back_none i added (found i ks))))),
    )

-- two marks that make the same under each number give back the same
pub given_alike : (taken taken' : List Kept) (stood stood' : List (ℕ × Place)) (added added' : List ℕ) (ks ks' : List Kept) → AscendByNumber ks
    → AscendByNumber ks' →
    ((i : ℕ) → given taken' stood' added' i (found i ks') ≡ given taken stood added i (found i ks))
    → kept_given taken' stood' added' ks' ≡ kept_given taken stood added ks
given_alike taken taken' stood stood' added added' ks ks' a b h =
    let x = given_is taken stood added ks a in
    let y = given_is taken' stood' added' ks' b in
    same_found is_same_number is_before_number leaf_key number_order _ _ y.0 x.0 (λ i. y.1 i ∙ (h i ∙ sym (x.1 i)))

-- a mark gives back a list that it makes again under each number
pub given_back : (taken : List Kept) (stood : List (ℕ × Place)) (added : List ℕ) (ks old : List Kept) → AscendByNumber ks → AscendByNumber old
    → ((i : ℕ) → given taken stood added i (found i ks) ≡ found i old) → kept_given taken stood added ks ≡ old
given_back taken stood added ks old a b h =
    let x = given_is taken stood added ks a in
    same_found is_same_number is_before_number leaf_key number_order _ _ x.0 b (λ i. x.1 i ∙ h i)

-- the last that was taken out comes back first
pub taken_on : (all : List Kept) (taken rest : List Kept) (ks now : List Kept) (k : Kept) (last : Option Kept) → taken ≡ rest ++ option_to_list last
    → last ≡ Some k → now ≡ change is_same_number is_before_number leaf_key k.number (λ x. Some k) ks →
    all ≡ undo_entries (map entry_was taken) ks → all ≡ undo_entries (map entry_was rest) now
taken_on all taken rest ks now k last e f g h =
    h ∙ (ap (λ (ys : List Kept). undo_entries (map entry_was ys) ks) (e ∙ ap (λ (x : Option Kept). rest ++ option_to_list x) f)
    ∙ (ap (λ log. undo_entries log ks) (map-append entry_was rest (k ∷ []))
    ∙ (undo_append is_same_number is_before_number leaf_key (map entry_was rest) (entry_was k ∷ []) ks
    ∙ ap (undo_entries (map entry_was rest)) (sym g))))
