use Rattle.std.proofs.Common.{◌++◌, ap, ◌∙◌, get_or, arith, lt_of_lt_of_le}
use Rattle.std.proofs.lemmas.List.FromFn.{fill_by_all, get_or-map-range_with_len}
use Rattle.uo_digest.specs.XorFold.{xor_at, xor_behind, xor_fold}
use Rattle.uo_digest.proofs.Columns.{behind_front}
use Rattle.uo_digest.proofs.xor_fold.columns.Goals as goal

pub returns : goal.returns
unfolding xor_fold
returns g taken is =
    let text = g.args.text.now in
    fill_by_all (xor_at (taken ++ text)) g.loop-j.bytes 32 0 g.loop-j.invariant.0 (λ k lt.
    let start = ap (λ bytes. get_or bytes k 0) is.0 ∙ get_or-map-range_with_len (xor_at taken) 0 32 k k 0 lt (omega arith) in
    g.loop-j.invariant.1 k (lt_of_lt_of_le lt g.loop-j-test.false)
    ∙ ap (λ b. xor_behind b g.args.front.now.taken text k) start
    ∙ ap (λ n. xor_behind (xor_at taken k) n text k) is.1
    ∙ behind_front taken text k)
