-- Roots that are filled in, one row after another.
use Rattle.std.proofs.Common.{◌≡◌, ℕ, ◌+◌, ◌<◌, true, length, Option, None, sym, ◌∙◌, subst, refl, ⊎_elim, arith}
use Rattle.std.proofs.lemmas.Bool.{cases_eq}
use Rattle.std.proofs.lemmas.List.{get_or-set_same, get_or-set_other, length-set}
use Rattle.uo_digest.specs.declared.digest.Digest.{Digest}
use Rattle.forest_place.specs.Forest.{is_slot}
use Rattle.forest_roots.specs.Stump.{Stump, root_in, empty_roots, with_root}

-- the roots below this row are these
pub record AreFilled (n : ℕ) (roots : ℕ → Option Digest) (row : ℕ) (f : Stump) : Type 0 where
  pub leaves : f.leaves ≡ n
  pub forty : length f.rows ≡ 40
  pub done : (k : ℕ) → k < row → is_slot n k ≡ true → root_in f k ≡ roots k

pub none_filled : (n : ℕ) (roots : ℕ → Option Digest) (f : Stump) → f ≡ empty_roots n → AreFilled n roots 0 f
none_filled n roots f e = subst (AreFilled n roots 0) (sym e) (record { leaves = refl; forty = refl; done = λ k lt. absurd (omega (arith, lt)) })

pub one_filled : (n : ℕ) (roots : ℕ → Option Digest) (row : ℕ) (root : Option Digest) (f g : Stump) → row < 40 → root ≡ roots row
    → g ≡ with_root f row root → AreFilled n roots row f → AreFilled n roots (row + 1) g
one_filled n roots row root f g low is e filled =
    subst (AreFilled n roots (row + 1)) (sym e) (record {
      leaves = filled.leaves;
      forty = length-set f.rows row root ∙ filled.forty;
      done = λ k lt slot. ⊎_elim
          (λ same. subst (λ j. root_in (with_root f row root) j ≡ roots j) (sym same)
          (get_or-set_same f.rows row root None (omega (arith, low, filled.forty)) ∙ is))
          (λ other. get_or-set_other f.rows row k root None other ∙ filled.done k (omega (arith, lt, other)) slot)
          (cases_eq k row);
    })

pub none_there : (n : ℕ) (roots : ℕ → Option Digest) (row : ℕ) (f g : Stump) → (is_slot n row ≡ true → ⊥) → g ≡ f → AreFilled n roots row f
    → AreFilled n roots (row + 1) g
none_there n roots row f g other_row e filled =
    subst (AreFilled n roots (row + 1)) (sym e) (record {
      leaves = filled.leaves;
      forty = filled.forty;
      done = λ k lt slot. ⊎_elim
          (λ same. absurd (other_row (subst (λ j. is_slot n j ≡ true) same slot)))
          (λ other. filled.done k (omega (arith, lt, other)) slot)
          (cases_eq k row);
    })
