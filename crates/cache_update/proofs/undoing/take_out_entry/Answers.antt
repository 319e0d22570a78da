use Rattle.std.proofs.Common.{None, refl, sym, ap, ◌∙◌, arith, eq-eqb, ne_eqb}
use Rattle.cache_model.specs.declared.kept.Kept.{Kept}
use Rattle.cache_model.specs.Undo.{is_same_number}
use Rattle.cache_update.proofs.Outs.{gone_there, none_other, none_end, none_keeps, changed_ascends}
use Rattle.cache_update.proofs.undoing.take_out_entry.Goals as goal

pub returns-then-i-len-clause-items : goal.returns-then-i-len-clause-items
returns-then-i-len-clause-items c = none_end c.args.kept.now.items c.args.number c.index_of_number-i.result
    (rw c.deref.ensures.value at c.index_of_number-i.ensures) (λ now. None) refl (omega arith)

pub returns-then-number-index-clause-items : goal.returns-then-number-index-clause-items
returns-then-number-index-clause-items c =
    c.remove.ensures.items
    ∙ gone_there c.args.kept.now.items c.args.number c.index_of_number-i.result (rw c.deref.ensures.value at c.index_of_number-i.ensures)
    c.index.result.now (omega arith) (ap (λ (k : Kept). is_same_number c.args.number k.number) (sym c.index.ensures)
    ∙ eq-eqb c.args.number c.index.result.now.number c.if-number-index.true)

pub returns-then-number-index-clause-ascends : goal.returns-then-number-index-clause-ascends
returns-then-number-index-clause-ascends c = changed_ascends c.args.kept.now.items _ c.args.number (λ now. None) c.requires (none_keeps c.args.number)
    (returns-then-number-index-clause-items c)

pub returns-else-number-index-clause-items : goal.returns-else-number-index-clause-items
returns-else-number-index-clause-items c =
    none_other c.args.kept.now.items c.args.number c.index_of_number-i.result (rw c.deref.ensures.value at c.index_of_number-i.ensures) (λ now. None)
    c.index.result.now refl (omega arith) (ap (λ (k : Kept). is_same_number c.args.number k.number) (sym c.index.ensures)
    ∙ ne_eqb c.args.number c.index.result.now.number c.if-number-index.false)
