use Rattle.std.proofs.Common.{false, take, length, sym, ap, subst, arith}
use Rattle.std.proofs.lemmas.Slice.Zip.{AllZip-long}
use Rattle.uo_base.proofs.Lists.{take_few}
use Rattle.output_index.specs.declared.read_entry.ReadEntry.{ReadEntry}
use Rattle.output_index.specs.Forgetting.{IsRead, IsToForget, AreRead}
use Rattle.output_index.proofs.Forgetting.{zip-more, zip-at}
use Rattle.output_index.proofs.outputs.entries_to_forget.Goals as goal

pub bounds-read-at : goal.bounds-read-at
bounds-read-at c = omega (
  arith,
  ap length c.as_slice-read.ensures.value,
  AllZip-long (IsRead c.args.outputs.now) c.args.numbers.now c.read_entries-entries.result.items c.read_entries-entries.ensures,
  c.loop-at-test.true,
)

pub to_forget-requires : goal.to_forget-requires
to_forget-requires c =
    let hs = c.args.outputs.now in
    let ns = c.args.numbers.now in
    let none : ReadEntry = record { mark = 0; oldest = false } in
    zip-at (IsRead hs) ns c.as_slice-read.result.now c.loop-at.at 0 none
    (subst (AreRead hs ns) (sym c.as_slice-read.ensures.value) c.read_entries-entries.ensures) c.loop-at-test.true

pub push-requires : goal.push-requires
push-requires c =
    let ns = c.args.numbers.now in
    let i = c.loop-at.at in
    omega (
      arith,
      AllZip-long (IsToForget c.args.outputs.now) (take i ns) c.loop-at.known.items c.loop-at.invariant,
      take_few i ns,
      c.loop-at-test.true,
      c.requires.few,
    )

pub loop-at-preserved : goal.loop-at-preserved
loop-at-preserved c =
    let hs = c.args.outputs.now in
    let ns = c.args.numbers.now in
    let i = c.loop-at.at in
    rw c.push.ensures.items (zip-more (IsToForget hs) ns c.loop-at.known.items i 0 c.to_forget.result c.loop-at-test.true c.loop-at.invariant
    c.to_forget.ensures)
