-- A ticket: what one shows who holds an output, and its one text.
use Rattle.std.specs.Prelude.{◌≡◌, ◌≢◌, ℕ, ◌<◌, ◌^◌, List, ◌∷◌, ◌++◌, length}
use Rattle.std.specs.List.{AllByRecursion}
use Rattle.std.specs.Int.{w32, w64, to_le_bytes}
use Rattle.uo_base.specs.Compact.{counted}
use Rattle.uo_digest.specs.declared.digest.Digest.{Digest}
use Rattle.uo_digest.specs.Reading.{IsDigest, digest_text}
use Rattle.leaf_record.specs.Leaf.{Leaf, LeafFits, rest_text}

-- the block up to which it speaks, where the leaf of the output stands then, as a fixed position, the output, and the hashes that
-- a proof of this one leaf needs, in ascending position
pub record Ticket : Type 0 where
  pub tip : Digest
  pub target : ℕ
  pub leaf : Leaf
  pub hashes : List Digest

-- what follows the version
unfoldable pub ticket_body_text : Ticket → List ℕ
ticket_body_text k =
    k.tip.0 ++ to_le_bytes w64 k.target ++ k.leaf.point.txid.0 ++ to_le_bytes w32 k.leaf.point.index ++ rest_text k.leaf.rest
    ++ counted digest_text k.hashes

-- `UTXT`, the version 1 and the body
abbrev pub ticket_text : Ticket → List ℕ
ticket_text k = 85 ∷ 84 ∷ 88 ∷ 84 ∷ 1 ∷ ticket_body_text k

-- the text begins as that of a ticket of this other version
pub record IsOfVersion (v : ℕ) (text : List ℕ) : Type 0 where
  pub other : v ≢ 1
  pub body : List ℕ
  pub begins : text ≡ 85 ∷ 84 ∷ 88 ∷ 84 ∷ v ∷ body

-- which have a text
pub record TicketFits (k : Ticket) : Type 0 where
  pub tip : IsDigest k.tip
  pub target : k.target < 2 ^ 64
  pub leaf : LeafFits k.leaf
  pub count : length k.hashes < 2 ^ 64
  pub hashes : AllByRecursion IsDigest k.hashes
