use Rattle.std.proofs.Common.{◌≡◌, ◌+◌, ◌-◌, ◌*◌, ◌/◌, length, take, drop, ap, sym, ◌∙◌, arith}
use Rattle.sha2.specs.Sha512.{compress, hash_after, initial_hash_512_256}
use Rattle.sha2.proofs.Absorbing512.{hash_after_next}
use Rattle.digest_lanes.proofs.texts512.hash_whole.Goals as goal

pub each-init : goal.each-init
unfolding hash_after
each-init c = c.initial_state-state.ensures 0 (omega arith)

pub each-preserved : goal.each-preserved
each-preserved c =
    let k = c.each.k in
    let t = c.args.text.now in
    let width : 128 * k + 128 - 128 * k ≡ 128 = omega arith in
    let at : 128 * k ≡ k * 128 = omega arith in
    let next = c.compress-next.ensures 0 (omega arith) _ (c.block_words-words.ensures 0 (omega arith)) in
    (rw (width, at) at next) ∙ ap (λ s. compress s (take 128 (drop (k * 128) t))) c.each.invariant ∙ sym (hash_after_next initial_hash_512_256 t k)

pub returns : goal.returns
returns c =
    let done : c.each.k ≡ length c.args.text.now / 128 = omega (arith, c.each.auto.k-end) in
    c.first_lane.ensures ∙ c.each.invariant ∙ ap (hash_after initial_hash_512_256 c.args.text.now) done
