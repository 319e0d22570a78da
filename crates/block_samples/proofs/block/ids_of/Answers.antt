use Rattle.std.proofs.Common.{◌≡◌, ℕ, ◌+◌, List, [], ◌∷◌, ◌++◌, take, Some, refl}
use Rattle.std.specs.Prelude.{slice_get}
use Rattle.std.proofs.lemmas.List.{take_more}
use Rattle.std.proofs.lemmas.Option.{slice_get_within, get_or_from_slice_get}
use Rattle.uo_digest.specs.declared.digest.Digest.{Digest}
use Rattle.block_samples.proofs.block.ids_of.Goals as goal

one_more : (xs old new : List Digest) (i : ℕ) (x : Digest) → old ≡ take i xs → new ≡ old ++ x ∷ [] → slice_get xs i ≡ Some x → new ≡ take (i + 1) xs
one_more xs old new i x so_far is got =
    rw (take_more xs i x (slice_get_within xs i x got), get_or_from_slice_get xs i x x got, is, so_far) refl

pub loop-i-preserved : goal.loop-i-preserved
loop-i-preserved c = one_more _ _ _ _ _ c.loop-i.invariant c.in_ok-push.ensures.items c.txid.ensures
