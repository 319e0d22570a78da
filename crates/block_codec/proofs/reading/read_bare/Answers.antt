use Rattle.std.proofs.Common.{refl, arith}
use Rattle.std.proofs.lemmas.Result.{err_from_is_err_and}
use Rattle.block_codec.proofs.BlockLaws.{block_read, refused}
use Rattle.block_codec.proofs.reading.read_bare.Goals as goal

pub returns-in_err-header-clause-none : goal.returns-in_err-header-clause-none
returns-in_err-header-clause-none c =
    let p = err_from_is_err_and c.from_residual.result c.from_residual.ensures.1 in
    rw (p.1, p.2) (refused c.in_err-header.field-0.0 c.args.text.now c.in_err-header.ensures)

pub invariant_of-result : goal.invariant_of-result
invariant_of-result c =
    let b = block_read _ _ _ (λ i. omega (arith, c.type_inv.text i)) c.in_ok-header.ensures in
    record { fits = b.fits; text = b.text; short = c.requires; ids = refl }

pub returns-clause-found : goal.returns-clause-found
returns-clause-found c =
    let b = block_read c.args.text.now c.in_ok-header.header c.in_ok-header.txs.items (λ i. omega (arith, c.type_inv.text i))
    c.in_ok-header.ensures in
    (b.fits, b.text)
