use Rattle.std.proofs.Common.{◌++◌, map-id, sym, ap, ◌∙◌, arith}
use Rattle.std.specs.Prelude.{take}
use Rattle.sha2.specs.Sha512.{compress, digest_bytes, padded_message}
use Rattle.digest_lanes.proofs.Pair512Lemmas.{digest_front, sha512_256_of_pair}
use Rattle.digest_lanes.proofs.pairs512.pair_alone.Goals as goal

pub returns : goal.returns
returns c =
    let near = c.half_of_one-near.ensures in
    let far = c.half_of_one-far.ensures in
    let l = c.args.left.now in
    let r = c.args.right.now in
    let words = c.pair_words-words.ensures 0 (omega arith) l r near.long far.long (map-id c.half_of_one-near.result ∙ near.words)
    (map-id c.half_of_one-far.result ∙ far.words) in
    let block = padded_message (l ++ r) in
    let state = sym (map-id c.compress-state.result) ∙ c.compress-state.ensures 0 (omega arith) block words
    ∙ ap (λ s. compress s block) (c.initial_state.ensures 0 (omega arith)) in
    c.digest.ensures ∙ digest_front c.compress-state.result ∙ ap (λ s. take 32 (digest_bytes s 8)) state
    ∙ sha512_256_of_pair l r near.long far.long
