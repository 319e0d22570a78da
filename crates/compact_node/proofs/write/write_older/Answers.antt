use Rattle.std.proofs.Common.{◌≤◌, length, arith}
use Rattle.std.proofs.lemmas.List.{drop_all}
use Rattle.compact_node.proofs.Writing.{begins, next_can, goes_on, stops, ends}
use Rattle.compact_node.proofs.write.write_older.Goals as goal

pub loop-i-init : goal.loop-i-init
loop-i-init g c = record { written = begins _ _ _ _ c.requires; later = omega arith }

pub write_past-requires : goal.write_past-requires
write_past-requires g c = next_can _ _ _ _ _ _ _ _ c.loop-i.invariant.written _ c.get.ensures

pub returns-in_err-write_past-clause-part : goal.returns-in_err-write_past-clause-part
returns-in_err-write_past-clause-part g c = stops _ _ _ _ _ _ _ _ c.loop-i.invariant.written _ c.get.ensures _ c.write_past.ensures.part

pub loop-i-preserved : goal.loop-i-preserved
loop-i-preserved g c = record {
  written = goes_on _ _ _ _ _ _ _ _ c.loop-i.invariant.written _ c.get.ensures _ _ _ c.in_ok-write_past.ensures.kept c.in_ok-write_past.ensures.held
      c.in_ok-write_past.ensures.whole;
  later = omega (arith, c.loop-i.invariant.later, c.write_past.ensures.later);
}

pub returns-clause-whole : goal.returns-clause-whole
returns-clause-whole g c =
    let all : length c.args.older.now ≤ c.loop-i.i = omega (arith, c.kept-i-end.ensures.kept) in
    ends _ _ _ _ _ _ _ _ c.loop-i.invariant.written (drop_all c.loop-i.i c.args.older.now all)
