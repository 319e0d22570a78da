use Rattle.std.proofs.Common.{ℕ, ◌≡◌, zero, suc, get_or, replicate, Option, None, refl}
use Rattle.uo_digest.specs.declared.digest.Digest.{Digest}
use Rattle.forest_roots.proofs.roots.Roots.of.Goals as goal

none_anywhere : (n k : ℕ) → ◌≡◌ {A = Option Digest} (get_or (replicate n None) k None) None
none_anywhere zero k = refl
none_anywhere (suc n) zero = refl
none_anywhere (suc n) (suc k) = none_anywhere n k

pub invariant_of-result : goal.invariant_of-result
invariant_of-result g c = record { few = c.requires; forty = refl; bare = λ row none. none_anywhere 40 row }
