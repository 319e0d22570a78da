use Rattle.std.proofs.Common.{◌≡◌, ◌+◌, ◌-◌, ◌*◌, ◌/◌, ◌≤◌, length, take, arith, sym, length-append}
use Rattle.std.proofs.lemmas.List.{length-take-le}
use Rattle.digest_lanes.proofs.BlockLemmas.{block_in_text, block_in_tail}
use Rattle.digest_lanes.proofs.padded512.Padded.block.Goals as goal

pub returns-then-k-whole-clause-bytes : goal.returns-then-k-whole-clause-bytes
returns-then-k-whole-clause-bytes c =
    let k = c.args.k in
    let t = c.self.inside.text.now in
    let width : 128 * k + 128 - 128 * k ≡ 128 = omega arith in
    let at : 128 * k ≡ k * 128 = omega arith in
    rw (← c.self.view_is, width, at) (sym (block_in_text 128 (k * 128) (length t / 128 * 128) t _ (omega arith) (omega arith)))

pub returns-else-k-whole-clause-bytes : goal.returns-else-k-whole-clause-bytes
returns-else-k-whole-clause-bytes c =
    let k = c.args.k in
    let t = c.self.inside.text.now in
    let b = 128 * (k - length t / 128) in
    let w = length t / 128 * 128 in
    let e = c.self.inside.tail_len in
    let within : e ≤ length c.self.inside.tail = omega (arith, c.self.invariant.0, c.self.invariant.1) in
    let width : b + 128 - b ≡ 128 = omega arith in
    let long = length-append (take w t) (take e c.self.inside.tail) in
    let asked = rw (← c.self.view_is) at c.requires in
    let fits : b + 128 ≤ e = omega (arith, asked, long, length-take-le w t (omega arith), length-take-le e c.self.inside.tail within) in
    rw (← c.self.view_is, width) (sym (block_in_tail 128 (k * 128) b w e t c.self.inside.tail (omega arith) (omega arith) fits within))
