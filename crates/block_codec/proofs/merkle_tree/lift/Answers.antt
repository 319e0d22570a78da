use Rattle.std.proofs.Common.{◌≡◌, ◌*◌, ◌+◌, ◌∙◌, sym, subst, arith}
use Rattle.block_codec.specs.Pairs.{IsLifted}
use Rattle.block_codec.proofs.PairLaws.{lifted-start, lent_whole, lifted-more, lifted-end}
use Rattle.block_codec.proofs.merkle_tree.lift.Goals as goal

pub eights-init : goal.eights-init
eights-init c = lifted-start _

pub eights-preserved : goal.eights-preserved
eights-preserved c =
    let next : 8 * c.eights.eight + 8 ≡ 8 * (c.eights.eight + 1) = omega arith in
    let before = subst (λ now. IsLifted c.args.hashes.now.items now (8 * c.eights.eight)) (sym c.deref_mut.ensures.value) c.eights.invariant in
    let lifted = c.lift_eight.ensures _ before in
    let whole = lent_whole c.lift_eight.new.hashes c.eights.hashes.items c.eights.hashes.len (lifted.len ∙ sym c.eights.invariant.len)
    c.eights.hashes.ok.0 in
    rw (← next) (subst (λ now. IsLifted c.args.hashes.now.items now (8 * c.eights.eight + 8)) (sym whole) lifted)

pub rest-preserved : goal.rest-preserved
rest-preserved c =
    lifted-more _ _ _ _ (omega (arith, c.args.hashes.now.ok.0, c.rest.invariant.len)) (rw c.deref.ensures.value at c.hash_above.ensures)
    c.rest.invariant

pub returns : goal.returns
returns c =
    let all : c.div_ceil-count.result ≡ c.rest.pair = omega arith in
    rw (c.truncate.ensures.items, all) (lifted-end _ _ _ (omega (arith, c.args.hashes.now.ok.0, c.rest.invariant.len)) c.rest.invariant)
