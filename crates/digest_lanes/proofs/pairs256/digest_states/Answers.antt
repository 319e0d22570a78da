use Rattle.std.proofs.Common.{ap, ◌∙◌}
use Rattle.sha2.specs.Sha256.{compress, digest_bytes, padded_message}
use Rattle.digest_lanes.specs.Lanes.{lane}
use Rattle.digest_lanes.proofs.Pair256Lemmas.{sha256_of_digest}
use Rattle.digest_lanes.proofs.pairs256.digest_states.Goals as goal

pub returns : goal.returns
returns c j h =
    let b = padded_message (digest_bytes (lane j c.args.state) 8) in
    let state = c.compress.ensures j h b (c.digest_words-words.ensures j h) ∙ ap (λ s. compress s b) (c.initial_state.ensures j h) in
    ap (λ s. digest_bytes s 8) state ∙ sha256_of_digest (lane j c.args.state)
