use Rattle.std.proofs.Common.{◌≡◌, ℕ, List, zero, suc, get_or, refl}
use Rattle.std.specs.Prelude.{replicate}
use Rattle.output_index.proofs.Flags.{no_flags}
use Rattle.output_index.proofs.number_set.NumberSet.new.Goals as goal

pub returns-clause-none : goal.returns-clause-none
returns-clause-none c = no_flags words none
  where
    words : List ℕ
    words = replicate 4 0

    none : (w : ℕ) → get_or words w 0 ≡ 0
    none zero = refl
    none (suc zero) = refl
    none (suc (suc zero)) = refl
    none (suc (suc (suc zero))) = refl
    none (suc (suc (suc (suc w)))) = refl
