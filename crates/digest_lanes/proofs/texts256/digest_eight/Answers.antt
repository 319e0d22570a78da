use Rattle.std.proofs.Common.{slice_index, ap, ◌∙◌}
use Rattle.sha2.specs.Sha256.{digest_bytes, sha256}
use Rattle.digest_lanes.specs.Texts.{text_at}
use Rattle.digest_lanes.proofs.Pair256Lemmas.{sha256_of_state}
use Rattle.digest_lanes.proofs.texts256.digest_eight.Goals as goal

pub returns : goal.returns
returns c j h =
    let t = text_at c.args.texts.now (slice_index c.args.group.now j) in
    c.digests.ensures j h ∙ c.digest_states-outer.ensures j h
    ∙ ap sha256 (ap (λ s. digest_bytes s 8) (c.states_of-inner.ensures j h) ∙ sha256_of_state t c.args.blocks (c.requires.blocks j h))
