use Rattle.std.proofs.Common.{◌++◌, ◌∙◌, arith}
use Rattle.sha2.specs.Sha256.{sha256}
use Rattle.uo_digest.specs.declared.digest.Digest.{Digest as Digested}
use Rattle.uo_digest.proofs.BatchLemmas.{same_eight, eight_of}
use Rattle.uo_digest.proofs.doubles.eight_digests.Goals as goal

pub returns : goal.returns
returns c =
    let is = c.double_pairs_of_eight.ensures in
    same_eight (is 0 (omega arith)) (is 1 (omega arith)) (is 2 (omega arith)) (is 3 (omega arith))
    (is 4 (omega arith)) (is 5 (omega arith)) (is 6 (omega arith)) (is 7 (omega arith))
    ∙ eight_of (λ (pair : Digested × Digested). record { 0 = sha256 (sha256 (pair.0.0 ++ pair.1.0)) }) c.args.pairs.now _ c.requires
