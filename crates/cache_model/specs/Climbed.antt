-- The proof of one kept entry, read off what is held on its way up.
use Rattle.std.specs.Prelude.{◌≡◌, ◌<◌, ◌^◌, ℕ, zero, suc, ◌-◌, ◌/◌, List, [], ◌∷◌, length, map, Option, Some, None, option_map}
use Rattle.uo_digest.specs.declared.digest.Digest.{Digest}
use Rattle.forest_place.specs.declared.place.Place.{Place}
use Rattle.forest_place.specs.Forest.{sibling_off}
use Rattle.forest_model.specs.Standing.{digest_at}
use Rattle.forest_model.specs.EntryPlace.{entry_place}
use Rattle.forest_model.specs.Cover.{need}
use Rattle.forest_model.specs.Right.{entries}
use Rattle.leaf_record.specs.Leaf.{leaf_text}
use Rattle.leaf_record.specs.History.{History}
use Rattle.cache_model.specs.declared.kept.Kept.{Kept}
use Rattle.cache_model.specs.Cache.{look}
use Rattle.cache_model.specs.Lists.{IsCacheOf, leaf_key}
use Rattle.cache_model.specs.Undo.{find, is_same_number}

-- a digest in front of others, and nothing where there is none
abbrev pub led : Option Digest → List Digest → List Digest
led None rest = []
led (Some d) rest = d ∷ rest

-- the digests that are held beside a place and beside those above it, in k rows, up to the first that is not held
abbrev pub beside_way : ℕ → List (Place × Digest) → ℕ → ℕ → List Digest
beside_way zero hs row off = []
beside_way (suc k) hs row off = led (look hs row (sibling_off off)) (beside_way k hs (suc row) (off / 2))

-- where the entry with this number stands, if it is kept
abbrev pub kept_place : List Kept → ℕ → Option Place
kept_place ks number = option_map (λ (k : Kept). k.place) (find is_same_number leaf_key number ks)

-- the digests on the way up of the entry with this number, if it is kept. A forest has 40 rows
abbrev pub proof_in : List Kept → List (Place × Digest) → ℕ → Option (List Digest)
proof_in ks hs number = option_map (λ (p : Place). beside_way (40 - p.row) hs p.row p.off) (kept_place ks number)

-- the hashes that stand at the needed places of an entry's place
pub record IsProofOf (H : List ℕ → Digest) (es : List (Option Digest)) (number : ℕ) (hashes : List Digest) : Type 0 where
  pub place : Place
  pub stands : entry_place es number ≡ Some place
  pub right : map Some hashes ≡ map (λ q. digest_at H es q.row q.off) (need (length es) (place ∷ []))

-- what is held on the way up of a kept entry is its proof
abbrev pub ProofIsClimbed : Type 0
ProofIsClimbed = (H : List ℕ → Digest) (scripts : List (List ℕ)) (us : History) (ks : List Kept) (hs : List (Place × Digest))
    (number : ℕ) (hashes : List Digest) →
    length us < 2 ^ 40 → IsCacheOf H scripts us ks hs → proof_in ks hs number ≡ Some hashes → IsProofOf H (entries H leaf_text us) number hashes
