-- A digest is what its bytes are, its text is a lawful format, and digests one behind the other are found by their index.
use Rattle.std.proofs.Common.{◌≡◌, ℕ, ◌+◌, ◌*◌, ◌/◌, ◌<◌, ◌≤◌, List, length, take, drop, Option, Some, refl, sym, ap, ◌∙◌, arith}
use Rattle.std.specs.Prelude.{slice_get}
use Rattle.std.proofs.lemmas.Bool.{le-ltb, lt-ltb}
use Rattle.std.proofs.lemmas.List.{append-nil}
use Rattle.uo_base.specs.Reading.{bytes_at}
use Rattle.uo_base.proofs.EvenParts.{IsEven, at_index, length-parts}
use Rattle.uo_base.proofs.Formats.{Lawful, same, led, ended, bytes_lawful}
use Rattle.uo_digest.specs.declared.digest.Digest.{Digest}
use Rattle.uo_digest.specs.Reading.{IsDigest, digest_text, digest_in_front, digests_in}

pub digest_is : (d : Digest) (bytes : List ℕ) → d.0 ≡ bytes → d ≡ record { 0 = bytes }
digest_is d bytes e = ap (λ xs. let x : Digest = record { 0 = xs } in x) e

pub digest_lawful : Lawful IsDigest digest_text digest_in_front
unfolding digest_in_front
digest_lawful =
    same _ IsDigest _ digest_text digest_in_front
    (led (λ (d : Digest). Unit {0}) (λ xs. length xs ≡ 32) (λ xs. xs) (bytes_at 32) (λ d. d.0) _ _ _ (bytes_lawful 32) (λ bytes _.
    ended (λ d. Unit {0} × (d.0 ≡ bytes)) (record { 0 = bytes }) (tt, refl) (λ d e. digest_is d bytes e.1)))
    (λ d f. f.1.0) (λ d f. (tt, (f, tt))) (λ d _. append-nil d.0)

-- ---- digests one behind the other

abbrev of_bytes : List ℕ → Digest
of_bytes bytes = record { 0 = bytes }

pub digests_even : IsEven digest_in_front 32 of_bytes
unfolding digest_in_front
digests_even = record {
  reads = λ bytes le. rw (le-ltb (length bytes) 32 le) refl;
  short = λ bytes lt. rw (lt-ltb (length bytes) 32 lt) refl;
  divides = λ n. omega arith;
}

module _ (bytes : List ℕ) (whole : 32 * (length bytes / 32) ≡ length bytes) where
  pub length-digests : length (digests_in bytes) ≡ length bytes / 32
  length-digests = length-parts digest_in_front 32 of_bytes digests_even bytes whole

  module _ (all : List Digest) (i : ℕ) (is : digests_in bytes ≡ all) (lt : i < length all) where
    -- the i-th ends within the text
    pub digest_within : 32 * i + 32 ≤ length bytes
    digest_within = omega (arith, whole, length-digests, ap length is)

    -- and is made of the bytes there
    pub digest_index : (d : Digest) → d.0 ≡ take 32 (drop (32 * i) bytes) → slice_get all i ≡ Some d
    digest_index d e =
        let found = at_index digest_in_front 32 of_bytes digests_even (length bytes / 32) i bytes (omega (arith, whole))
        (omega (arith, whole, digest_within)) in
        ap (λ xs. slice_get xs i) (sym is) ∙ found ∙ ap (λ (x : Digest). let y : Option Digest = Some x in y) (sym (digest_is d _ e))
