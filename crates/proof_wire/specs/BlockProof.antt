-- What a proof message says beside a block, and its one text.
use Rattle.std.specs.Prelude.{ℕ, ◌<◌, ◌^◌, Bool, true, false, List, [], ◌∷◌, ◌++◌, length, map}
use Rattle.std.specs.List.{flat_map, AllByRecursion}
use Rattle.std.specs.Int.{w64, to_le_bytes}
use Rattle.uo_base.specs.Compact.{counted}
use Rattle.uo_digest.specs.declared.digest.Digest.{Digest}
use Rattle.uo_digest.specs.Reading.{IsDigest, digest_text}
use Rattle.forest_place.specs.declared.naming.Naming.{Naming}
use Rattle.forest_place.specs.Named.{version_of}
use Rattle.leaf_record.specs.Leaf.{Rest, RestFits, rest_text}

-- where the leaf of a spent output stands, and what the output is beside its name
pub record Spend : Type 0 where
  pub target : ℕ
  pub rest : Rest

-- one spend for each output that the block takes from the forest, in the block's order, and the hashes
-- that are needed besides, in ascending position
pub record BlockProof : Type 0 where
  pub spends : List Spend
  pub hashes : List Digest

-- the numbers of the places
abbrev pub targets_of : List Spend → List ℕ
targets_of spends = map (λ s. s.target) spends

-- what is said of the outputs
abbrev pub rests_of : List Spend → List Rest
rests_of spends = map (λ s. s.rest) spends

-- each target with its rest
abbrev pub spends_of : List ℕ → List Rest → List Spend
spends_of [] rests = []
spends_of (t ∷ targets) [] = []
spends_of (t ∷ targets) (r ∷ rests) = record { target = t; rest = r } ∷ spends_of targets rests

-- ---- its text

-- what follows version and kind
unfoldable pub body_text : BlockProof → List ℕ
body_text p =
    counted (to_le_bytes w64) (targets_of p.spends) ++ flat_map rest_text (rests_of p.spends)
    ++ counted digest_text p.hashes

-- a whole message: how its targets name places, which its version tells, whether it is lean, and what it says. In a lean message the
-- hashes that its reader knows are left out
pub record ProofMessage : Type 0 where
  pub naming : Naming
  pub lean : Bool
  pub proof : BlockProof

abbrev pub kind_of : Bool → ℕ
kind_of false = 0
kind_of true = 1

-- the version, the kind and the body
abbrev pub message_text : ProofMessage → List ℕ
message_text m = version_of m.naming ∷ kind_of m.lean ∷ body_text m.proof

-- ---- which have a text

pub record SpendFits (s : Spend) : Type 0 where
  pub target : s.target < 2 ^ 64
  pub rest : RestFits s.rest

pub record ProofFits (p : BlockProof) : Type 0 where
  pub count_of_spends : length p.spends < 2 ^ 64
  pub spends : AllByRecursion SpendFits p.spends
  pub count_of_hashes : length p.hashes < 2 ^ 64
  pub hashes : AllByRecursion IsDigest p.hashes

abbrev pub MessageFits : ProofMessage → Type 0
MessageFits m = ProofFits m.proof
