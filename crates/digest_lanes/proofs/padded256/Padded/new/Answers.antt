use Rattle.std.proofs.Common.{◌*◌, ◌/◌, length, ◌∙◌}
use Rattle.std.proofs.lemmas.List.{take_rest}
use Rattle.digest_lanes.proofs.BlockLemmas.{padded_is}
use Rattle.digest_lanes.proofs.Padding256Lemmas.{tail_padding}
use Rattle.digest_lanes.proofs.padded256.Padded.new.Goals as goal

pub returns : goal.returns
returns c =
    let t = c.args.text.now in
    let whole = length t / 64 * 64 in
    padded_is whole t _ _ (c.tail_of-tail_len.ensures.bytes ∙ tail_padding t _ (take_rest t whole))
