use Rattle.std.proofs.Common.{false, is_some, replicate, length, sym, ap, ◌∙◌}
use Rattle.chain_order.proofs.Numbering.{is_some-number_of}
use Rattle.chain_order.proofs.Walking.{no_tip, starts, stops, walks, ends, fewer_left, answers_err}
use Rattle.chain_order.proofs.arrivals.Arrivals.way_back.Goals as goal

pub returns-then-is_none : goal.returns-then-is_none
returns-then-is_none c = no_tip _ _ (sym (is_some-number_of c.args.self.now c.args.tip.now.0) ∙ ap (λ r. is_some r) (sym c.number_of.ensures.number)
    ∙ c.if-is_none.ensures)

pub loop-numbers-init : goal.loop-numbers-init
loop-numbers-init c =
    let clones = c.in_ok-room.ensures.items_if_clones_equal in
    starts _ _ _ _ (sym (is_some-number_of c.args.self.now c.args.tip.now.0) ∙ ap (λ r. is_some r) (sym c.number_of.ensures.number)
    ∙ c.if-is_none.ensures)
    (c.as_mut_slice-marks.ensures.value ∙ clones (λ y e. e) ∙ ap (λ n. replicate n false)
    (c.len.ensures ∙ c.self.inside.list.ok.0 ∙ ap (λ xs. length xs) c.self.view_is)) c.new-numbers.ensures.items

pub loop-numbers-smaller : goal.loop-numbers-smaller
loop-numbers-smaller c = fewer_left _ _ _ _ _ c.loop-numbers.invariant _ _ c.in_ok-hash.hash c.in_ok-hash.ensures.one

pub returns-in_err-hash : goal.returns-in_err-hash
returns-in_err-hash c =
    answers_err _ c.args.self.now c.args.tip.now _ c.in_err-hash.field-0.0 c.from_residual-in_err-hash.ensures.1
    (stops _ _ _ _ _ c.loop-numbers.invariant c.in_err-hash.field-0.0 c.in_err-hash.ensures.none)

pub returns-then-eq : goal.returns-then-eq
returns-then-eq c = ends _ _ _ _ _ c.loop-numbers.invariant _ _ c.in_ok-hash.hash c.in_ok-hash.ensures.one (sym c.eq.ensures ∙ c.if-eq.true) _
    c.reverse.ensures.items

pub loop-numbers-preserved : goal.loop-numbers-preserved
loop-numbers-preserved c = walks _ _ _ _ _ c.loop-numbers.invariant _ _ c.in_ok-hash.hash c.in_ok-hash.ensures.one (sym c.eq.ensures ∙ c.if-eq.false)
