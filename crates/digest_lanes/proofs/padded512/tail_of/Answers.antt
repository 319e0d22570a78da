use Rattle.std.proofs.Common.{◌-◌, ◌%◌, length, arith, refl, ◌∙◌}
use Rattle.std.specs.Int.{w128, to_be_bytes}
use Rattle.digest_lanes.proofs.BlockLemmas.{tail_is}
use Rattle.digest_lanes.proofs.padded512.tail_of.Goals as goal
use Rattle.digest_lanes.proofs.padded512.tail_of.Goals.{then-used-lt-BLOCK, else-used-lt-BLOCK}

pub returns : goal.returns
returns c =
    let rest = c.args.rest.now in
    let bytes = to_be_bytes w128 c.args.bits in
    let written = c.copy_from_slice-2.ensures.after ∙ c.to_be_bytes.ensures in
    elim c.if-used-lt-BLOCK.branch [
      | then-used-lt-BLOCK w ↦ record {
        fits = omega (arith, w.end-is);
        bytes = tail_is rest _ _ _ bytes 256 _ _ _ ((239 - length rest) % 128) 128 0 refl c.copy_from_slice.ensures.after written (omega arith)
            (omega arith) (omega arith);
      }
      | else-used-lt-BLOCK w ↦ record {
        fits = omega (arith, w.end-is);
        bytes = tail_is rest _ _ _ bytes 256 _ _ _ ((239 - length rest) % 128) 128 0 refl c.copy_from_slice.ensures.after written (omega arith)
            (omega arith) (omega arith);
      }
    ]
