use Rattle.std.proofs.Common.{◌≡◌, ◌++◌, length, take}
use Rattle.std.specs.List.{flat_map, AllByRecursion}
use Rattle.uo_base.specs.Compact.{compact}
use Rattle.uo_digest.specs.Reading.{IsDigest, digest_text}
use Rattle.ticket_check.proofs.writing.put_hashes.Given as goal

abbrev pub invariant-loop-i : goal.invariant-loop-i
invariant-loop-i l = record {
  text : l.out.items ≡ l.fn.out.items ++ (compact (length l.hashes) ++ flat_map digest_text (take l.i l.hashes));
  fit : AllByRecursion IsDigest (take l.i l.hashes);
}
