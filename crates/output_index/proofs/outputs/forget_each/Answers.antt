use Rattle.std.proofs.Common.{ℕ, false, ap, sym, subst, ◌∙◌, arith, get_or, drop, ◌+◌, refl}
use Rattle.std.proofs.lemmas.Slice.Zip.{AllZip-long}
use Rattle.uo_base.proofs.Lists.{other_later}
use Rattle.output_index.specs.declared.entry_to_forget.EntryToForget.{EntryToForget}
use Rattle.output_index.specs.Held.{is_spent, without_all}
use Rattle.output_index.specs.Forgetting.{IsToForget}
use Rattle.output_index.proofs.HeldLaws.{spent-without_other}
use Rattle.output_index.proofs.Forgetting.{without_all-more, to_forget-without, zip-at}
use Rattle.output_index.proofs.outputs.forget_each.Goals as goal

pub loop-at-init : goal.loop-at-init
loop-at-init c =
    let ns = c.args.numbers.now in
    let hs = c.args.outputs.now in
    record {
      same = refl;
      spent = λ k le lt. c.requires.spent k 0 lt;
      known = λ k le lt. zip-at (IsToForget hs) ns c.args.known.now k _ _ c.requires.known lt;
      len = AllZip-long (IsToForget hs) ns c.args.known.now c.requires.known;
    }

pub loop-at-preserved : goal.loop-at-preserved
loop-at-preserved c =
    let ns = c.args.numbers.now in
    let i = c.loop-at.at in
    let n = get_or ns i 0 in
    let hs = c.loop-at.outputs in
    let known : ℕ → EntryToForget = λ k. get_or c.args.known.now k (record { mark = 0; alone = false }) in
    record {
      same = ap (without_all (drop (i + 1) ns)) c.forget_known.ensures
          ∙ (sym (without_all-more ns i hs c.loop-at-test.true) ∙ c.loop-at.invariant.same);
      spent = λ k le lt. ap (is_spent (get_or ns k 0)) c.forget_known.ensures
          ∙ (spent-without_other n (get_or ns k 0) hs (other_later ns i k c.requires.apart le lt)
          ∙ c.loop-at.invariant.spent k (omega (arith, le)) lt);
      known = λ k le lt. subst (λ xs. IsToForget xs (get_or ns k 0) (known k)) (sym c.forget_known.ensures)
          (to_forget-without n (get_or ns k 0) (known k) hs (other_later ns i k c.requires.apart le lt)
          (c.loop-at.invariant.known k (omega (arith, le)) lt));
      len = c.loop-at.invariant.len;
    }
