-- Lists of texts that lie behind references, and lists of what is made of them.
use Rattle.std.specs.Prelude.{◌≡◌, ℕ, List, [], map, slice_get, slice_index_or, Some}
use Rattle.std.specs.Borrow.{Bor}

-- text i of a list
abbrev pub text_at : List (Bor (List ℕ)) → ℕ → List ℕ
text_at texts i = slice_index_or (map (λ (text : Bor (List ℕ)). text.now) texts) i []

-- entry i of a list, if there is one, is what text i gives
abbrev pub IsGivenAt : {T : Type 0} → (List ℕ → T → Type 0) → List (Bor (List ℕ)) → List T → ℕ → Type 0
IsGivenAt {T} gives texts out i = (v : T) → slice_get out i ≡ Some v → gives (text_at texts i) v

-- what stood there and was so is so still
abbrev pub KeepsGiven : {T : Type 0} → (List ℕ → T → Type 0) → List (Bor (List ℕ)) → List T → List T → Type 0
KeepsGiven gives texts old new = (i : ℕ) → IsGivenAt gives texts old i → IsGivenAt gives texts new i
