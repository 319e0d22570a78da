use Rattle.std.proofs.Common.{sym, ◌∙◌, rules}
use Rattle.uo_digest.proofs.DigestLaws.{digest_is}
use Rattle.tx_codec.specs.Ids.{txid_of}
use Rattle.block_codec.proofs.IdLaws.{next_known, next_hashed, put_one}
use Rattle.block_codec.proofs.ids.put_each.Goals as goal
use Rattle.block_codec.proofs.ids.put_each.Goals.{then-is_segwit, else-is_segwit}

pub offset_bounds-legacy-next : goal.offset_bounds-legacy-next
offset_bounds-legacy-next c =
    let k = next_known c.args.txs.now c.args.legacy.now _ _ c.index-txs-i.result c.loop-i-test.true c.index-txs-i.is
    (sym c.is_segwit.ensures ∙ c.if-is_segwit.false) c.loop-i.invariant.left in
    let within = k.within in
    search rules

pub bounds-legacy-next : goal.bounds-legacy-next
bounds-legacy-next c =
    let k = next_known c.args.txs.now c.args.legacy.now _ _ c.index-txs-i.result c.loop-i-test.true c.index-txs-i.is
    (sym c.is_segwit.ensures ∙ c.if-is_segwit.false) c.loop-i.invariant.left in
    k.within

pub loop-i-preserved : goal.loop-i-preserved
loop-i-preserved c = record {
  same = search rules;
  given = elim c.if-is_segwit.branch [
    | then-is_segwit w ↦ rw w.out-is (put_one txid_of c.args.txs.now _ _ c.index-txs-i.result _ c.loop-i.invariant.same c.loop-i-test.true
        c.index-txs-i.is (digest_is _ _ w.txid.ensures) c.loop-i.invariant.given)
    | else-is_segwit w ↦
        let k = next_known c.args.txs.now c.args.legacy.now _ _ c.index-txs-i.result c.loop-i-test.true c.index-txs-i.is
        (sym c.is_segwit.ensures ∙ w.if-is_segwit.false) c.loop-i.invariant.left in
        rw w.out-is (put_one txid_of c.args.txs.now _ _ c.index-txs-i.result _ c.loop-i.invariant.same c.loop-i-test.true c.index-txs-i.is (k.is _)
        c.loop-i.invariant.given)
  ];
  left = elim c.if-is_segwit.branch [
    | then-is_segwit w ↦ rw w.next-is (next_hashed _ c.args.legacy.now _ c.loop-i.next c.index-txs-i.result c.loop-i-test.true c.index-txs-i.is
        (sym c.is_segwit.ensures ∙ w.if-is_segwit.true) c.loop-i.invariant.left)
    | else-is_segwit w ↦
        let k = next_known c.args.txs.now c.args.legacy.now _ _ c.index-txs-i.result c.loop-i-test.true c.index-txs-i.is
        (sym c.is_segwit.ensures ∙ w.if-is_segwit.false) c.loop-i.invariant.left in
        rw w.next-is k.left
  ];
}
