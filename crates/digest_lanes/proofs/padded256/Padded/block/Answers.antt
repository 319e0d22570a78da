use Rattle.std.proofs.Common.{◌≡◌, ◌+◌, ◌-◌, ◌*◌, ◌/◌, ◌≤◌, length, take, arith, sym, length-append}
use Rattle.std.proofs.lemmas.List.{length-take-le}
use Rattle.digest_lanes.proofs.BlockLemmas.{block_in_text, block_in_tail}
use Rattle.digest_lanes.proofs.padded256.Padded.block.Goals as goal

pub returns-then-k-whole-clause-bytes : goal.returns-then-k-whole-clause-bytes
returns-then-k-whole-clause-bytes c =
    let k = c.args.k in
    let t = c.self.inside.text.now in
    let width : 64 * k + 64 - 64 * k ≡ 64 = omega arith in
    let at : 64 * k ≡ k * 64 = omega arith in
    rw (← c.self.view_is, width, at) (sym (block_in_text 64 (k * 64) (length t / 64 * 64) t _ (omega arith) (omega arith)))

pub returns-else-k-whole-clause-bytes : goal.returns-else-k-whole-clause-bytes
returns-else-k-whole-clause-bytes c =
    let k = c.args.k in
    let t = c.self.inside.text.now in
    let b = 64 * (k - length t / 64) in
    let w = length t / 64 * 64 in
    let e = c.self.inside.tail_len in
    let within : e ≤ length c.self.inside.tail = omega (arith, c.self.invariant.0, c.self.invariant.1) in
    let width : b + 64 - b ≡ 64 = omega arith in
    let long = length-append (take w t) (take e c.self.inside.tail) in
    let asked = rw (← c.self.view_is) at c.requires in
    let fits : b + 64 ≤ e = omega (arith, asked, long, length-take-le w t (omega arith), length-take-le e c.self.inside.tail within) in
    rw (← c.self.view_is, width) (sym (block_in_tail 64 (k * 64) b w e t c.self.inside.tail (omega arith) (omega arith) fits within))
