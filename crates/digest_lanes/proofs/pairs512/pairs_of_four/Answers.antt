use Rattle.std.proofs.Common.{[], slice_index_or, ◌++◌, ap, ◌∙◌}
use Rattle.std.specs.Prelude.{take}
use Rattle.sha2.specs.Sha512.{compress, digest_bytes, padded_message}
use Rattle.digest_lanes.proofs.Pair512Lemmas.{sha512_256_of_pair}
use Rattle.digest_lanes.proofs.pairs512.pairs_of_four.Goals as goal

pub returns : goal.returns
returns c j h =
    let near = c.half_of_four-near.ensures in
    let far = c.half_of_four-far.ensures in
    let l = slice_index_or c.args.left.now j [] in
    let r = slice_index_or c.args.right.now j [] in
    let words = c.pair_words-words.ensures j h l r (near.long j h) (far.long j h) (near.words j h) (far.words j h) in
    let block = padded_message (l ++ r) in
    let state = c.compress-state.ensures j h block words ∙ ap (λ s. compress s block) (c.initial_state.ensures j h) in
    c.digests_of_four.ensures j h ∙ ap (λ s. take 32 (digest_bytes s 8)) state ∙ sha512_256_of_pair l r (near.long j h) (far.long j h)
