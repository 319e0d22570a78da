use Rattle.std.proofs.Common.{◌+◌, ◌++◌, get_or, take, drop, sym, ap, subst, ◌∙◌, arith}
use Rattle.std.specs.Io.KnownBytes.{Appends}
use Rattle.std.proofs.KnownBytes.{Appends-trans}
use Rattle.uo_base.proofs.PortLemmas.{AppendsPart-after}
use Rattle.order_run.specs.Frames.{numbered_text}
use Rattle.order_run.proofs.Numbers.{one_more, all_parts, frame_is, frame_short, some_left}
use Rattle.order_run.proofs.path_frames.put_numbered.Goals as goal

pub put_block-requires : goal.put_block-requires
put_block-requires g c =
    frame_short c.args.arrivals.now (get_or c.args.numbers.now c.loop-number.number-index 0) c.body.result.now c.requires.short
    (c.requires.within c.loop-number.number-index 0 c.loop-number-test.true) c.body.ensures

pub returns-in_err-put_block-clause-part : goal.returns-in_err-put_block-clause-part
returns-in_err-put_block-clause-part g c =
    let i = c.loop-number.number-index in
    let number = get_or c.args.numbers.now i 0 in
    let frame = frame_is c.args.net c.args.arrivals.now number c.body.result.now (c.requires.within i 0 c.loop-number-test.true) c.body.ensures in
    let behind = numbered_text c.args.net c.args.arrivals.now (drop (i + 1) c.args.numbers.now) in
    let before = numbered_text c.args.net c.args.arrivals.now (take i c.args.numbers.now) in
    AppendsPart-after _ _ _ before _ behind _ c.loop-number.invariant.written c.put_block.ensures.part
    (all_parts c.args.net c.args.arrivals.now c.args.numbers.now i c.loop-number-test.true ∙ ap (λ l. before ++ (l ++ behind)) (sym frame))

pub returns-in_err-put_block-clause-untouched : goal.returns-in_err-put_block-clause-untouched
returns-in_err-put_block-clause-untouched g c = λ none. absurd (some_left _ c.loop-number.number-index none c.loop-number-test.true)

pub loop-number-preserved : goal.loop-number-preserved
loop-number-preserved g c =
    let i = c.loop-number.number-index in
    let number = get_or c.args.numbers.now i 0 in
    let frame = frame_is c.args.net c.args.arrivals.now number c.body.result.now (c.requires.within i 0 c.loop-number-test.true) c.body.ensures in
    let before = numbered_text c.args.net c.args.arrivals.now (take i c.args.numbers.now) in
    let all = ap (λ l. before ++ l) frame ∙ sym (one_more c.args.net c.args.arrivals.now c.args.numbers.now i c.loop-number-test.true) in
    record {
      written = subst (λ l. Appends (g.O.Sink.held c.args.out.now) (g.O.Sink.held c.put_block.new.sink) l) all
          (Appends-trans _ _ _ _ _ c.loop-number.invariant.written c.in_ok-put_block.ensures.whole);
      quiet = λ none. absurd (some_left _ i none c.loop-number-test.true);
      later = (let a = c.put_block.ensures.later in let b = c.loop-number.invariant.later in omega arith);
    }
