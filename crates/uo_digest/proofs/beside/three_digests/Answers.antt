use Rattle.std.proofs.Common.{◌++◌, ◌∙◌, arith}
use Rattle.sha2.specs.Sha512.{sha512_256}
use Rattle.uo_digest.specs.declared.digest.Digest.{Digest as Digested}
use Rattle.uo_digest.proofs.BatchLemmas.{same_three, three_of}
use Rattle.uo_digest.proofs.beside.three_digests.Goals as goal

pub returns : goal.returns
returns c =
    let is = c.pairs_of_four.ensures in
    same_three (is 0 (omega arith)) (is 1 (omega arith)) (is 2 (omega arith))
    ∙ three_of (λ (pair : Digested × Digested). record { 0 = sha512_256 (pair.0.0 ++ pair.1.0) }) c.args.pairs.now _ c.requires
