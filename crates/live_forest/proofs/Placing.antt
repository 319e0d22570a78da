-- Where entries stand, told on the way down to them.
use Rattle.std.proofs.Common.{◌≡◌, ℕ, ◌+◌, ◌/◌, ◌^◌, ◌<◌, true, List, [], ◌∷◌, ◌++◌, length, map, take, get_or, Option, Some, refl, sym, ap, ap₂, ◌∙◌}
use Rattle.std.proofs.Common.{subst, arith}
use Rattle.std.proofs.lemmas.List.{map-append, append-nil, append_assoc, take_more}
use Rattle.std.proofs.lemmas.List.Elements.{All-head, All-tail}
use Rattle.uo_digest.specs.declared.digest.Digest.{Digest}
use Rattle.forest_place.specs.declared.place.Place.{Place}
use Rattle.forest_model.specs.Content.{content}
use Rattle.forest_model.specs.Standing.{tree_at}
use Rattle.forest_model.specs.EntryPlace.{entry_place}
use Rattle.live_forest.specs.State.{is_live}
use Rattle.live_forest.specs.Proving.{HasPlaces, AreIn}
use Rattle.live_forest.proofs.Seeking.{entry_place-stands}

-- an entry stands where the part does that has it alone
pub entry_here : (es : List (Option Digest)) (i : ℕ) (part q : Place) → part.row ≡ 0 → is_live es i ≡ true → i / 2 ^ part.row ≡ part.off
    → tree_at es q.row q.off ≡ content es part.row part.off → entry_place es i ≡ Some q
entry_here es i part q low live here stands =
    let one : i / 1 ≡ part.off = subst (λ r. i / 2 ^ r ≡ part.off) low here in
    let off : part.off ≡ i = omega (arith, one) in
    entry_place-stands es i q live (stands ∙ ap₂ (content es) low off)

-- a place once more
pub pushed_more : (q : Place) (numbers : List ℕ) (i : ℕ) (old before after : List Place) → i < length numbers → after ≡ before ++ q ∷ []
    → map Some before ≡ map Some old ++ map (λ _. Some q) (take i numbers) → map Some after ≡ map Some old ++ map (λ _. Some q) (take (i + 1) numbers)
pushed_more q numbers i old before after lt more is =
    let f : ℕ → Option Place = λ _. Some q in
    ap (map Some) more
    ∙ (map-append Some before (q ∷ [])
    ∙ (ap (λ xs. xs ++ Some q ∷ []) is
    ∙ (append_assoc (map Some old) (map f (take i numbers)) (Some q ∷ [])
    ∙ ap (λ xs. map Some old ++ xs) (sym (map-append f (take i numbers) (get_or numbers i 0 ∷ [])) ∙ ap (map f) (sym (take_more numbers i 0 lt))))))

pub places_none : (es : List (Option Digest)) (old : List Place) → HasPlaces es [] old old
places_none es old = sym (append-nil (map Some old))

-- the places of some entries, and then those of others
pub places_both : (es : List (Option Digest)) (low high numbers : List ℕ) (old mid new : List Place) → HasPlaces es low old mid
    → HasPlaces es high mid new → numbers ≡ low ++ high → HasPlaces es numbers old new
places_both es low high numbers old mid new one two all =
    two ∙ (ap (λ xs. xs ++ map (entry_place es) high) one
    ∙ (append_assoc (map Some old) (map (entry_place es) low) (map (entry_place es) high)
    ∙ ap (λ xs. map Some old ++ xs) (sym (map-append (entry_place es) low high) ∙ ap (map (entry_place es)) (sym all))))

-- all entries of a part of one entry stand at one place
pub places_same : (es : List (Option Digest)) (part q : Place) (numbers : List ℕ) → part.row ≡ 0
    → tree_at es q.row q.off ≡ content es part.row part.off → AreIn es part.row part.off numbers
    → map (λ _. Some q) numbers ≡ map (entry_place es) numbers
places_same es part q [] low stands inside = refl
places_same es part q (i ∷ is) low stands inside =
    let P : ℕ → Type 0 = λ j. (is_live es j ≡ true) × (j / 2 ^ part.row ≡ part.off) in
    let here = All-head P i is inside in
    ap₂ (λ x xs. x ∷ xs) (sym (entry_here es i part q low here.0 here.1 stands)) (places_same es part q is low stands (All-tail P i is inside))
