use Rattle.std.proofs.Common.{refl, sym, ◌∙◌, arith}
use Rattle.cache_update.specs.Differences.{gained}
use Rattle.cache_update.proofs.Passes.{gather_on, gather_end}
use Rattle.cache_update.proofs.Walked.{before_first, before_next}
use Rattle.cache_update.proofs.differ.note_all_gained.Goals as goal

pub loop-i-init : goal.loop-i-init
loop-i-init c = record { rest = refl; len = omega arith; near = λ d lt. before_first c.args.older.now _; room = omega arith }

pub index_on-at-requires-clause-before : goal.index_on-at-requires-clause-before
index_on-at-requires-clause-before c = c.loop-i.invariant.near _ (omega (arith, c.loop-i-test.true))

pub loop-i-preserved : goal.loop-i-preserved
loop-i-preserved c = record {
  rest = c.loop-i.invariant.rest ∙ gather_on (gained c.args.older.now) c.args.newer.now c.loop-i.gained.items _ c.loop-i.i _ (omega arith)
      c.note_gained.ensures.items;
  len = omega (arith, c.loop-i.invariant.len, c.note_gained.ensures.len);
  near = λ d lt. before_next c.args.older.now c.args.newer.now c.loop-i.i _ _ d c.requires.newer (omega (arith, lt)) c.index_on-at.ensures;
  room = omega (arith, c.loop-i.invariant.room, c.note_gained.ensures.capacity);
}

pub returns-clause-items : goal.returns-clause-items
returns-clause-items c = sym (c.loop-i.invariant.rest
    ∙ gather_end (gained c.args.older.now) c.args.newer.now c.loop-i.gained.items c.loop-i.i (omega arith))
