-- Each byte before j is that of the digest.
use Rattle.std.proofs.Common.{◌≡◌, ℕ, ◌<◌, length, get_or}
use Rattle.uo_digest.specs.XorFold.{xor_behind}
use Rattle.uo_digest.proofs.xor_fold.columns.Given as goal

abbrev pub invariant-loop-j : goal.invariant-loop-j
invariant-loop-j l = (length l.bytes ≡ 32) × ((k : ℕ) → k < l.j → get_or l.bytes k 0 ≡ xor_behind (get_or l.front.bytes k 0) l.front.taken l.text k)
