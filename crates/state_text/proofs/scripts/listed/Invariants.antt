use Rattle.std.proofs.Common.{◌≡◌, map, take}
use Rattle.state_text.proofs.scripts.listed.Given as goal

abbrev pub invariant-loop-script : goal.invariant-loop-script
invariant-loop-script l = l.watch ≡ take l.script-index (map (λ s. s.items) l.scripts)
