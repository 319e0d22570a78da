use Rattle.std.proofs.Common.{◌≡◌, ◌++◌, length, take}
use Rattle.std.specs.List.{flat_map}
use Rattle.uo_base.specs.Compact.{compact}
use Rattle.uo_digest.specs.Reading.{digest_text}
use Rattle.state_text.proofs.writing.put_hashes.Given as goal

abbrev pub invariant-loop-hash : goal.invariant-loop-hash
invariant-loop-hash l = l.out.items ≡ l.fn.out.items ++ (compact (length l.hashes) ++ flat_map digest_text (take l.hash-index l.hashes))
