-- What proves entries: the digests at the places that theirs need.
use Rattle.std.specs.Prelude.{◌≡◌, ◌≢◌, ℕ, ◌-◌, ◌*◌, ◌/◌, ◌^◌, ◌<◌, ◌≤◌, true, false, List, [], ◌++◌, length, map, filter, get_or, Option, Some}
use Rattle.std.specs.Prelude.{option_map, ◌==◌, nat_le, All, ◌↔◌, if◌then◌else◌}
use Rattle.std.specs.List.{filter_map}
use Rattle.uo_digest.specs.declared.digest.Digest.{Digest}
use Rattle.forest_place.specs.declared.place.Place.{Place}
use Rattle.forest_place.specs.Forest.{InForest, is_root, sibling_off}
use Rattle.forest_place.specs.Places.{row_places}
use Rattle.forest_model.specs.Content.{content}
use Rattle.forest_model.specs.Standing.{tree_at, digest_at}
use Rattle.forest_model.specs.EntryPlace.{entry_place}
use Rattle.forest_model.specs.Cover.{Cover, cover, is_needed, need}
use Rattle.live_forest.specs.State.{is_live}
use Rattle.live_forest.specs.declared.batch.Sibling.{Sibling}
use Rattle.live_forest.specs.declared.proving.Fork.{Fork}

-- where these entries stand
abbrev pub places_of : List (Option Digest) → List ℕ → List Place
places_of es numbers = filter_map (entry_place es) numbers

-- a place with the digest that stands there, if one does
abbrev pub standing : (List ℕ → Digest) → List (Option Digest) → Place → Option Sibling
standing H es p = option_map (λ d. record { place = p; digest = d }) (digest_at H es p.row p.off)

-- what proves these entries: the places that theirs need, in ascending position, with the digests that stand there
abbrev pub proof_of : (List ℕ → Digest) → List (Option Digest) → List ℕ → List Sibling
proof_of H es numbers = filter_map (standing H es) (need (length es) (places_of es numbers))

-- ---- row by row

-- what of it is among so many places of a row from an offset on
abbrev pub in_row : (List ℕ → Digest) → List (Option Digest) → List Place → ℕ → ℕ → ℕ → List Sibling
in_row H es ts row from count = filter_map (standing H es) (filter (is_needed (length es) ts) (row_places row from count))

-- what of it is among the places of a row that are at or beneath a place
abbrev pub beneath : (List ℕ → Digest) → List (Option Digest) → List Place → Place → ℕ → List Sibling
beneath H es ts q row = if nat_le row q.row then in_row H es ts row (q.off * 2 ^ (q.row - row)) (2 ^ (q.row - row)) else []

-- the list of a row
abbrev pub list_of : List (List Sibling) → ℕ → List Sibling
list_of rows row = get_or rows row []

-- the list has the places of these entries more
abbrev pub HasPlaces : List (Option Digest) → List ℕ → List Place → List Place → Type 0
HasPlaces es numbers old new = map Some new ≡ map Some old ++ map (entry_place es) numbers

-- live entries of a part
abbrev pub AreIn : List (Option Digest) → ℕ → ℕ → List ℕ → Type 0
AreIn es row off numbers = All (λ i. (is_live es i ≡ true) × (i / 2 ^ row ≡ off)) numbers

-- live entries that lie behind the slots from a row up
abbrev pub AreBehind : List (Option Digest) → ℕ → List ℕ → Type 0
AreBehind es slot numbers = All (λ i. (is_live es i ≡ true) × (length es / 2 ^ slot ≤ i / 2 ^ slot)) numbers

-- there is a list for each row in which the forest over n entries has a place, and no other
abbrev pub HasRows : ℕ → List (List Sibling) → Type 0
HasRows n rows = (row : ℕ) → (row < length rows) ↔ InForest n row 0

-- what proves these entries, row by row
pub record IsByRow (H : List ℕ → Digest) (es : List (Option Digest)) (numbers : List ℕ) (rows : List (List Sibling)) : Type 0 where
  pub many : HasRows (length es) rows
  pub are : (row : ℕ) → list_of rows row ≡ in_row H es (places_of es numbers) row 0 (length es / 2 ^ row)

-- the rows have this more of what is at and beneath a place
pub record AreMore (H : List ℕ → Digest) (es : List (Option Digest)) (ts : List Place) (q : Place) (old new : List (List Sibling)) : Type 0 where
  pub is : (row : ℕ) → list_of new row ≡ list_of old row ++ beneath H es ts q row

-- these are the numbers that a part has of all; where it has none, the sibling of its place is covered
pub record AreOfPart (es : List (Option Digest)) (ts : List Place) (all : List ℕ) (part q : Place) (numbers : List ℕ) : Type 0 where
  pub are : numbers ≡ filter (λ i. i / 2 ^ part.row == part.off) all
  pub beside : numbers ≡ [] → (is_root (length es) q.row q.off ≡ false) × ((c : Cover) × (cover ts q.row (sibling_off q.off) ≡ Some c))

-- the lowest part beneath one that has all of these entries, and where its tree stands
pub record IsFork (es : List (Option Digest)) (part : Place) (numbers : List ℕ) (fork : Fork) : Type 0 where
  pub beneath : fork.part.row ≤ part.row
  pub within : InForest (length es) fork.part.row fork.part.off
  pub stands : tree_at es fork.place.row fork.place.off ≡ content es fork.part.row fork.part.off
  pub there : InForest (length es) fork.place.row fork.place.off
  pub inside : AreIn es fork.part.row fork.part.off numbers
  pub apart : 0 < fork.part.row
      → get_or numbers 0 0 / 2 ^ (fork.part.row - 1) ≢ get_or numbers (length numbers - 1) 0 / 2 ^ (fork.part.row - 1)

-- the part has these numbers of all, and what is noted from here on is all that is noted beneath the first place
pub record IsOn (H : List ℕ → Digest) (es : List (Option Digest)) (ts : List Place) (all : List ℕ) (top part q : Place) (numbers : List ℕ)
    (first rows : List (List Sibling)) : Type 0 where
  pub has : AreOfPart es ts all part q numbers
  pub more : (last : List (List Sibling)) → AreMore H es ts q rows last → AreMore H es ts top first last

-- how many places of a row lie in the slots from a row up
abbrev pub width_from : ℕ → ℕ → ℕ → ℕ
width_from n slot row = if nat_le row slot then n / 2 ^ slot * 2 ^ (slot - row) else n / 2 ^ row

-- the rows have what is in the slots from a row up
pub record AreFrom (H : List ℕ → Digest) (es : List (Option Digest)) (ts : List Place) (slot : ℕ) (rows : List (List Sibling)) : Type 0 where
  pub is : (row : ℕ) → list_of rows row ≡ in_row H es ts row 0 (width_from (length es) slot row)

-- those of the numbers that lie behind the slots from a row up
abbrev pub behind : ℕ → ℕ → List ℕ → List ℕ
behind n slot all = filter (λ i. nat_le (n / 2 ^ slot) (i / 2 ^ slot)) all
