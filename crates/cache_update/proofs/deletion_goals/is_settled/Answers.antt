use Rattle.std.proofs.Common.{◌≡◌, subst, arith}
use Rattle.std.proofs.lemmas.Bool.{OnTrue_from, ltb-true}
use Rattle.forest_place.specs.Position.{position}
use Rattle.cache_update.proofs.Descending.{settled}
use Rattle.cache_update.proofs.deletion_goals.is_settled.Goals as goal

pub returns-then-number-gt0 : goal.returns-then-number-gt0
returns-then-number-gt0 c =
    let t = c.args.targets.now in
    let p = c.args.place in
    let is : c.position-number.result ≡ position t.leaves p.row p.off =
    subst (λ n. c.position-number.result ≡ position n p.row p.off) c.leaves.ensures.is c.position-number.ensures.is in
    OnTrue_from _ _ (λ yes. settled t.leaves t.targets c.args.last_gone c.requires.none t.leaves p.row p.off (omega arith) c.requires.within
    (let past = ltb-true _ _ yes in omega (arith, past, is, c.if-number-gt0.true)))
