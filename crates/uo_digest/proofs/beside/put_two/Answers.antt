use Rattle.std.proofs.Common.{◌≡◌, ◌+◌, ◌-◌, ◌++◌, ◌∙◌, ap, take, drop, map, arith}
use Rattle.sha2.specs.Sha512.{sha512_256}
use Rattle.uo_digest.specs.declared.digest.Digest.{Digest as Digested}
use Rattle.uo_digest.proofs.BatchLemmas.{put_last}
use Rattle.uo_digest.proofs.beside.put_two.Goals as goal

pub returns : goal.returns
returns c =
    let size : c.args.from + 2 - c.args.from ≡ 2 = omega arith in
    let f : Digested × Digested → Digested = λ pair. record { 0 = sha512_256 (pair.0.0 ++ pair.1.0) } in
    put_last f c.args.pairs.now c.args.out.now c.args.from 2 _ _ c.requires.within c.requires.before
    (c.copy_from_slice.ensures.after ∙ c.two_digests-two.ensures ∙ ap (λ n. map f (take n (drop c.args.from c.args.pairs.now))) size)
