-- What a message says while it is made: the targets, and the texts of the rests one behind the other.
use Rattle.std.specs.Prelude.{◌≡◌, ℕ, List, length}
use Rattle.std.specs.List.{flat_map, AllByRecursion}
use Rattle.uo_base.specs.Reading.{things}
use Rattle.uo_digest.specs.declared.digest.Digest.{Digest}
use Rattle.uo_digest.specs.Reading.{IsDigest}
use Rattle.leaf_record.specs.Leaf.{Rest, RestFits, rest_text}
use Rattle.leaf_record.specs.Reading.{rest_at}
use Rattle.proof_wire.specs.BlockProof.{Spend, BlockProof, targets_of, rests_of, SpendFits, spends_of}

-- as many rests as are counted
abbrev pub rests_made : ℕ → List ℕ → List Rest
rests_made n text = things rest_at n text

-- this is the text of so many rests that fit
pub record IsOfRests (n : ℕ) (text : List ℕ) : Type 0 where
  pub rests : List Rest
  pub fit : AllByRecursion RestFits rests
  pub count : length rests ≡ n
  pub told : text ≡ flat_map rest_text rests

-- each target with the rest that is read for it
abbrev pub proof_made : List ℕ → List ℕ → List Digest → BlockProof
proof_made targets text hashes = record { spends = spends_of targets (rests_made (length targets) text); hashes = hashes }

-- these are the targets and the text of some spends that fit
pub record IsOfSpends (targets text : List ℕ) : Type 0 where
  pub spends : List Spend
  pub fit : AllByRecursion SpendFits spends
  pub at : targets ≡ targets_of spends
  pub told : text ≡ flat_map rest_text (rests_of spends)

abbrev pub IsMade : List ℕ → List ℕ → List Digest → Type 0
IsMade targets text hashes = IsOfSpends targets text × AllByRecursion IsDigest hashes
