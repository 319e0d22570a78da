use Rattle.std.proofs.Common.{◌≡◌, ◌/◌, ◌*◌, take, ap, ◌∙◌, arith}
use Rattle.output_index.specs.NumberSet.{count, is_in, flags_of}
use Rattle.uo_base.specs.Bits.{rank}
use Rattle.output_index.proofs.Flags.{count_word, count_last, count_flags}
use Rattle.output_index.proofs.number_set.NumberSet.count_below.Goals as goal

pub loop-i-preserved : goal.loop-i-preserved
loop-i-preserved c = record {
  few = omega (arith, c.loop-i.invariant.few, c.bits_of-found.ensures.few);
  found = omega (arith, c.loop-i.invariant.found, c.bits_of-found.ensures.is, count_word c.self.inside.words c.loop-i.i);
}

pub returns : goal.returns
returns c =
    let words = c.self.inside.words in
    let n = c.args.number in
    let end : c.loop-i.i ≡ n / 64 = omega (arith, c.loop-i.auto.i-end, c.loop-i-test.false) in
    let all = ap (λ i. rank (is_in words) (64 * i)) end in
    let found : c.loop-i.found ≡ count (take n (flags_of words)) =
    omega (arith, c.loop-i.invariant.found, all, count_last words n, count_flags words n c.requires) in
    found ∙ ap (λ flags. count (take n flags)) c.self.view_is
