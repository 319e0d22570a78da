use Rattle.std.proofs.Common.{◌-◌, ◌≤◌, length, get_or, arith}
use Rattle.std.proofs.lemmas.Bool.{ltb-true}
use Rattle.proof_shape.proofs.Ordered.{has_where}
use Rattle.proof_shape.proofs.above.is_past.Goals as goal

pub returns-else-len-eq0 : goal.returns-else-len-eq0
returns-else-len-eq0 c t y h =
    let xs = c.args.sorted.now in
    let w = has_where xs y h in
    let last : get_or xs w.0 0 ≤ get_or xs (length xs - 1) 0 = c.requires w.0 (length xs - 1) 0 (omega (arith, w.1)) (omega (arith, w.1)) in
    omega (arith, ltb-true _ _ t, last, w.2)
