use Rattle.std.proofs.Common.{◌≡◌, take}
use Rattle.std.specs.Prelude.{filter_map}
use Rattle.cache_model.specs.Cache.{look}
use Rattle.state_text.proofs.writing.digests_at.Given as goal

abbrev pub invariant-loop-i : goal.invariant-loop-i
invariant-loop-i l = l.digests.items ≡ filter_map (λ p. look l.held p.row p.off) (take l.i l.places)
