use Rattle.std.proofs.Common.{ap, ◌∙◌}
use Rattle.std.specs.Prelude.{slice_index, take}
use Rattle.sha2.specs.Sha512.{digest_bytes}
use Rattle.digest_lanes.specs.Texts.{text_at}
use Rattle.digest_lanes.proofs.MidstateLemmas.{digest_behind}
use Rattle.digest_lanes.proofs.texts512.digest_four.Goals as goal

pub returns : goal.returns
returns c = λ j h before held.
    c.digests_of_four.ensures j h ∙ ap (λ s. take 32 (digest_bytes s 8)) (c.states_of.ensures j h)
    ∙ digest_behind c.args.start.now before (text_at c.args.texts.now (slice_index c.args.group.now j)) c.args.blocks held (c.requires.blocks j h)
