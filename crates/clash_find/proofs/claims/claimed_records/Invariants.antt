use Rattle.std.proofs.Common.{◌≡◌, take}
use Rattle.clash_find.specs.Texts.{claims}
use Rattle.clash_find.proofs.claims.claimed_records.Given as goal

abbrev pub invariant-loop-i : goal.invariant-loop-i
invariant-loop-i l = l.records.items ≡ take l.i (claims l.external l.message)
