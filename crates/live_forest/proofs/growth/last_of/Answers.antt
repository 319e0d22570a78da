use Rattle.std.proofs.Common.{◌≡◌, suc, ◌+◌, ◌*◌, ◌%◌, ◌^◌, ap, arith}
use Rattle.std.proofs.Math.Nat.{mod-eq_of_lt}
use Rattle.live_forest.proofs.Growing.{one_more, two_pos}
use Rattle.live_forest.proofs.growth.last_of.Goals as goal

pub returns : goal.returns
returns c =
    let row = c.args.row in
    let off = c.args.off in
    let e : suc row ≡ row + 1 = omega arith in
    let one : 2 ^ suc row ≡ 2 ^ (row + 1) = ap (λ k. 2 ^ k) e in
    let few : off * 2 ^ suc row ≡ off * 2 ^ (row + 1) = ap (λ k. off * k) one in
    let more : (off + 1) * 2 ^ suc row ≡ (off + 1) * 2 ^ (row + 1) = ap (λ k. (off + 1) * k) one in
    let fits : (off + 1) * 2 ^ (row + 1) % 2 ^ 64 ≡ (off + 1) * 2 ^ (row + 1) = mod-eq_of_lt (omega (arith, more, c.requires.small)) in
    omega (arith, fits, one, few, more, one_more (suc row) off, two_pos (suc row))
