use Rattle.std.proofs.Common.{◌*◌, ◌/◌, length, ◌∙◌}
use Rattle.std.proofs.lemmas.List.{take_rest}
use Rattle.digest_lanes.proofs.BlockLemmas.{padded_is}
use Rattle.digest_lanes.proofs.Padding512Lemmas.{tail_padding}
use Rattle.digest_lanes.specs.Midstate.{padded_behind}
use Rattle.digest_lanes.proofs.padded512.Padded.new.Goals as goal

pub returns : goal.returns
unfolding padded_behind
returns c =
    let t = c.args.text.now in
    let whole = length t / 128 * 128 in
    padded_is whole t _ _ (c.tail_of-tail_len.ensures.bytes ∙ tail_padding t _ c.args.before c.requires (take_rest t whole))
