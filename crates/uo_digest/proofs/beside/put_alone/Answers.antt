use Rattle.std.proofs.Common.{◌-◌, ◌++◌, length, arith}
use Rattle.sha2.specs.Sha512.{sha512_256}
use Rattle.uo_digest.specs.declared.digest.Digest.{Digest as Digested}
use Rattle.uo_digest.proofs.BatchLemmas.{put_last}
use Rattle.uo_digest.proofs.beside.put_alone.Goals as goal

pub returns : goal.returns
returns c =
    let f : Digested × Digested → Digested = λ pair. record { 0 = sha512_256 (pair.0.0 ++ pair.1.0) } in
    put_last f c.args.pairs.now c.args.out.now c.args.from (length c.args.pairs.now - c.args.from) _ _ (omega (arith, c.requires.within))
    c.requires.before c.digest_pairs_alone.ensures
