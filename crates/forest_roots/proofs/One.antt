-- Roots that stand for one list of entries are equal.
use Rattle.std.proofs.Common.{◌≡◌, ℕ, Bool, true, false, List, Option, None, refl, sym, ap, ap₂, ◌∙◌}
use Rattle.std.proofs.lemmas.List.{ext_get_or}
use Rattle.uo_digest.specs.declared.digest.Digest.{Digest}
use Rattle.forest_place.specs.Forest.{is_slot}
use Rattle.forest_roots.specs.Stump.{Stump, root_in, IsStump, StandsFor}

pub one_stump : (H : List ℕ → Digest) (es : List (Option Digest)) (f g : Stump) → IsStump f → IsStump g → StandsFor H es f → StandsFor H es g → f ≡ g
one_stump H es f g a b s t =
    let leaves : f.leaves ≡ g.leaves = s.leaves ∙ sym t.leaves in
    let rows : f.rows ≡ g.rows = ext_get_or None f.rows g.rows (a.forty ∙ sym b.forty) (λ k lt. at_row k leaves (is_slot f.leaves k) refl) in
    ap₂ (λ (n : ℕ) (xs : List (Option Digest)). let z : Stump = record { leaves = n; rows = xs } in z) leaves rows
  where
    at_row : (k : ℕ) → f.leaves ≡ g.leaves → (slot : Bool) → is_slot f.leaves k ≡ slot → root_in f k ≡ root_in g k
    at_row k e true slot = s.roots k slot ∙ sym (t.roots k (ap (λ n. is_slot n k) (sym e) ∙ slot))
    at_row k e false slot = a.bare k slot ∙ sym (b.bare k (ap (λ n. is_slot n k) (sym e) ∙ slot))
