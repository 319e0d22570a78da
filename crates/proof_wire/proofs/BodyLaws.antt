-- The reading of a body, part by part.
use Rattle.std.proofs.Common.{◌≡◌, ℕ, ◌*◌, ◌/◌, eqb, List, [], length, true, false, Some, None, refl, sym, ap, ◌∙◌, arith}
use Rattle.std.specs.Prelude.{Result, Ok, Err, IfOk, IsErrOf}
use Rattle.std.specs.Borrow.{Bor}
use Rattle.std.specs.Int.{w64, from_le_bytes}
use Rattle.std.specs.List.{AllByRecursion}
use Rattle.std.proofs.lemmas.Bool.{eqb-true}
use Rattle.std.proofs.lemmas.List.{nil_from_length}
use Rattle.uo_base.specs.Reading.{IsBytes, number_at, times, GivesOrFails}
use Rattle.uo_base.specs.Compact.{counted_at}
use Rattle.uo_base.proofs.Walks.{times-length}
use Rattle.uo_base.proofs.EvenParts.{length-parts}
use Rattle.uo_digest.specs.declared.digest.Digest.{Digest}
use Rattle.uo_digest.specs.Reading.{digest_in_front}
use Rattle.leaf_record.specs.Leaf.{Rest}
use Rattle.leaf_record.specs.Reading.{rest_at}
use Rattle.proof_wire.specs.declared.fault.MessageFault.{MessageFault}
use Rattle.proof_wire.specs.declared.fault.MessageFault.TheVariants.{NotAMessage, Version, NoMemory}
use Rattle.proof_wire.specs.BlockProof.{BlockProof, ProofFits, body_text, spends_of}
use Rattle.proof_wire.specs.Reading.{body_at, whole_at, claims}
use Rattle.proof_wire.specs.Views.{targets_in, rests_in, BeginsWithRest, IsMessageView}
use Rattle.proof_wire.proofs.ProofLaws.{whole_took, no_body}
use Rattle.proof_wire.proofs.CountedParts.{targets_even}
use Rattle.proof_wire.proofs.ViewLaws.{length-rests}

pub no_targets : (bytes : List ℕ) → counted_at (number_at w64) bytes ≡ None → whole_at bytes ≡ None
unfolding whole_at body_at
no_targets bytes e = rw e refl

-- behind the targets s of a body
module _ (bytes s left : List ℕ) (targets : counted_at (number_at w64) bytes ≡ Some (targets_in s, left))
    (whole : 8 * (length s / 8) ≡ length s) where
  count : length (targets_in s) ≡ length s / 8
  count = length-parts (number_at w64) 8 (from_le_bytes w64) targets_even s whole

  by_count : {A : Type 0} (f : ℕ → A) (x : A) → f (length s / 8) ≡ x → f (length (targets_in s)) ≡ x
  by_count f x e = ap f count ∙ e

  pub no_rests : times rest_at (length s / 8) left ≡ None → whole_at bytes ≡ None
  unfolding whole_at body_at
  no_rests e = let rests = by_count (λ n. times rest_at n left) _ e in rw (targets, rests) refl

  -- a rest that did not come ends the body
  pub rests_end : (e : MessageFault) → claims e (times rest_at (length s / 8) left ≡ None) → claims e (whole_at bytes ≡ None)
  rests_end NotAMessage none = no_rests none
  rests_end NoMemory none = tt
  rests_end (Version v) none = none

  module _ (rs : List Rest) (behind : List ℕ) (rests : times rest_at (length s / 8) left ≡ Some (rs, behind)) where
    pub no_hashes : counted_at digest_in_front behind ≡ None → whole_at bytes ≡ None
    unfolding whole_at body_at
    no_hashes e = let rests = by_count (λ n. times rest_at n left) _ rests in rw (targets, rests, e) refl

    pub more_left : (hs : List Digest) (end : List ℕ) → counted_at digest_in_front behind ≡ Some (hs, end) → eqb (length end) 0 ≡ false
        → whole_at bytes ≡ None
    unfolding whole_at body_at
    more_left hs end e some = let rests = by_count (λ n. times rest_at n left) _ rests in rw (targets, rests, e, some) refl

    pub all_read : (hs : List Digest) (end : List ℕ) → counted_at digest_in_front behind ≡ Some (hs, end) → eqb (length end) 0 ≡ true
        → whole_at bytes ≡ Some (record { spends = spends_of (targets_in s) rs; hashes = hs }, [])
    unfolding whole_at body_at
    all_read hs end e none =
        let rests = by_count (λ n. times rest_at n left) _ rests in
        let nil : end ≡ [] = nil_from_length end (eqb-true _ _ none) in rw (targets, rests, e, nil) refl

  pub is_view : (starts : List (Bor (List ℕ))) (behind hashes : List ℕ) → times rest_at (length s / 8) left ≡ Some (rests_in starts, behind)
      → AllByRecursion BeginsWithRest starts → 32 * (length hashes / 32) ≡ length hashes → IsMessageView s starts hashes
  is_view starts behind hashes rests begin even =
      let many : length starts ≡ length s / 8 =
      sym (length-rests starts begin) ∙ times-length rest_at (length s / 8) left (rests_in starts) behind rests in
      record { even_targets = omega (arith, many, whole); begin = begin; even_hashes = even }

-- ---- what a call that reads a whole body answers

pub full_found : (r : Result BlockProof MessageFault) (bytes : List ℕ) → IsBytes bytes
    → GivesOrFails {X = BlockProof} {A = BlockProof} (λ m. m) claims r [] (whole_at bytes)
    → IfOk r (λ m. ProofFits m × (bytes ≡ body_text m))
full_found (Ok m) bytes is_bytes gives = let b = whole_took bytes m [] is_bytes gives in (b.fits, b.text)
full_found (Err e) bytes is_bytes gives = tt

pub full_none : (r : Result BlockProof MessageFault) (bytes : List ℕ)
    → GivesOrFails {X = BlockProof} {A = BlockProof} (λ m. m) claims r [] (whole_at bytes)
    → IsErrOf r NotAMessage → (p : BlockProof) → ProofFits p → bytes ≡ body_text p → ⊥
full_none (Ok m) bytes gives is p fits e = cc
full_none (Err NotAMessage) bytes gives is p fits e = no_body bytes gives p fits e
full_none (Err NoMemory) bytes gives is p fits e = cc
full_none (Err (Version v)) bytes gives is p fits e = gives

pub full_version : (r : Result BlockProof MessageFault) (bytes : List ℕ)
    → GivesOrFails {X = BlockProof} {A = BlockProof} (λ m. m) claims r [] (whole_at bytes)
    → (v : ℕ) → IsErrOf r (Version v) → ⊥
full_version (Ok m) bytes gives v is = cc
full_version (Err NotAMessage) bytes gives v is = cc
full_version (Err NoMemory) bytes gives v is = cc
full_version (Err (Version u)) bytes gives v is = gives
