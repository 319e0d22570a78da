use Rattle.std.proofs.Common.{take, arith}
use Rattle.std.proofs.lemmas.Slice.Zip.{AllZip-long}
use Rattle.uo_base.proofs.Lists.{take_few}
use Rattle.output_index.specs.Forgetting.{IsRead}
use Rattle.output_index.proofs.Forgetting.{zip-more}
use Rattle.output_index.proofs.outputs.read_entries.Goals as goal

pub push-requires : goal.push-requires
push-requires c =
    let ns = c.args.numbers.now in
    let i = c.loop-number.number-index in
    omega (
      arith,
      AllZip-long (IsRead c.args.outputs.now) (take i ns) c.loop-number.read.items c.loop-number.invariant,
      take_few i ns,
      c.loop-number-test.true,
      c.requires.few,
    )

pub loop-number-preserved : goal.loop-number-preserved
loop-number-preserved c =
    let hs = c.args.outputs.now in
    let ns = c.args.numbers.now in
    let i = c.loop-number.number-index in
    rw c.push.ensures.items (zip-more (IsRead hs) ns c.loop-number.read.items i 0 c.read_entry.result c.loop-number-test.true c.loop-number.invariant
    c.read_entry.ensures)
