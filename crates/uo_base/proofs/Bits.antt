-- Sets that are the bits of a word, as the code works them out.
use Rattle.std.proofs.Common.{◌≡◌, ℕ, zero, suc, ◌+◌, ◌-◌, ◌*◌, ◌/◌, ◌%◌, ◌^◌, ◌<◌, ◌≤◌, refl, sym, ap, ◌∙◌, ⊎_elim, arith, mod-eq_of_lt}
use Rattle.std.specs.Prelude.{◌==◌, if◌then◌else◌, bit_and, bit_or}
use Rattle.std.specs.Int.{Width}
use Rattle.std.proofs.lemmas.Bool.{cases_lt}
use Rattle.std.proofs.lemmas.Nat.{pow_pos, mod-pow-add, mod_below, and_le_l, and_mask, ones_cat, ones-le, one_shl}
use Rattle.std.proofs.lemmas.Nat.Bits.{bit_at_set_same, bit_at_set_other, bit_at_clear_same, bit_at_clear_other, bit_at_above}
use lib.Count.{ones}
use mir.Val.{bits}
use Rattle.uo_base.specs.Bits.{is_bit, rank, IsWith, IsWithout}

ones_bit : (b : ℕ) → b < 2 → ones b ≡ (if b == 1 then 1 else 0)
unfolding ones
ones_bit zero h = refl
ones_bit (suc zero) h = refl
ones_bit (suc (suc b)) h = elim (let z : ⊥ = omega arith in z) [ ]

-- how many bits there are below one
pub rank_is : (n i : ℕ) → rank (is_bit n) i ≡ ones (n % 2 ^ i)
rank_is n zero = let few : ones (n % 1) ≤ 0 = ones-le 0 (n % 1) (omega arith) in omega arith
rank_is n (suc i) =
    let e : 1 + i ≡ suc i = omega arith in
    let parts : n % 2 ^ (1 + i) ≡ n / 2 ^ i % 2 * 2 ^ i + n % 2 ^ i = mod-pow-add n 1 i in
    let counted = ones_cat i (n / 2 ^ i % 2) (n % 2 ^ i) (mod_below n (2 ^ i) (pow_pos i)) in
    let low = rank_is n i in
    let bit = ones_bit (n / 2 ^ i % 2) (omega arith) in
    let all : ones (n % 2 ^ suc i) ≡ ones (n / 2 ^ i % 2) + ones (n % 2 ^ i) = ap (λ k. ones (n % 2 ^ k)) (sym e) ∙ ap ones parts ∙ counted in
    omega (arith, all, low, bit)

module _ (w : Width) where
  pub rank_all : (n : ℕ) → n < 2 ^ bits w → ones n ≡ rank (is_bit n) (bits w)
  rank_all n few = ap ones (sym (mod-eq_of_lt few)) ∙ sym (rank_is n (bits w))

  pub rank_bits : (n i : ℕ) → i < bits w → ones (bit_and n (1 * 2 ^ i % 2 ^ bits w - 1)) ≡ rank (is_bit n) i
  rank_bits n i h = ap (λ k. ones (bit_and n (k - 1))) (one_shl i (bits w) h) ∙ ap ones (and_mask n i) ∙ sym (rank_is n i)

  pub with_is : (n i : ℕ) → i < bits w → IsWith (is_bit n) (is_bit (bit_or n (1 * 2 ^ i % 2 ^ bits w))) i
  with_is n i h = record {
    here = ap (λ x. x == 1) (bit_at_set_same w n i h);
    others = λ j ne. ap (λ x. x == 1) (bit_at_set_other w n i h j ne);
  }

  pub without_is : (n i : ℕ) → n < 2 ^ bits w → i < bits w
      → IsWithout (is_bit n) (is_bit (bit_and n (2 ^ bits w - 1 - 1 * 2 ^ i % 2 ^ bits w))) i
  without_is n i few h = record {
    here = ap (λ x. x == 1) (bit_at_clear_same w n i h);
    others = λ j ne.
        ⊎_elim
        (λ low. ap (λ x. x == 1) (bit_at_clear_other w n i h j low ne))
        (λ high. ap (λ x. x == 1) (bit_at_above _ (bits w) j (below n _ few) high ∙ sym (bit_at_above n (bits w) j few high)))
        (cases_lt j (bits w));
  }
    where
      below : (a b : ℕ) → a < 2 ^ bits w → bit_and a b < 2 ^ bits w
      below a b lt = let le = and_le_l a b in omega (arith, le, lt)
