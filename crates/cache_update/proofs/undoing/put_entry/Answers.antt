use Rattle.std.specs.Prelude.{insert}
use Rattle.std.proofs.Common.{Some, refl, sym, ap, ◌∙◌, arith, cond, eq-eqb, ne_eqb}
use Rattle.std.proofs.lemmas.List.{set_split}
use Rattle.cache_model.specs.declared.kept.Kept.{Kept}
use Rattle.cache_model.specs.Undo.{is_same_number}
use Rattle.cache_update.proofs.Outs.{entry_there, entry_before, entry_end, entry_keeps, changed_ascends}
use Rattle.cache_update.proofs.undoing.put_entry.Goals as goal

pub returns-then-i-len-clause-items : goal.returns-then-i-len-clause-items
returns-then-i-len-clause-items c =
    c.push_reserved.ensures.items
    ∙ sym (entry_end c.args.kept.now.items c.args.entry.number c.index_of_number-i.result (rw c.deref.ensures.value at c.index_of_number-i.ensures)
    c.args.entry (omega arith))

pub returns-then-i-len-clause-ascends : goal.returns-then-i-len-clause-ascends
returns-then-i-len-clause-ascends c = changed_ascends c.args.kept.now.items _ c.args.entry.number (λ now. Some c.args.entry) c.requires.ascends
    (entry_keeps c.args.entry) (returns-then-i-len-clause-items c)

pub returns-then-entry-index-clause-items : goal.returns-then-entry-index-clause-items
returns-then-entry-index-clause-items c =
    set_split c.args.kept.now.items c.index_of_number-i.result c.args.entry (omega arith)
    ∙ sym (entry_there c.args.kept.now.items c.args.entry.number c.index_of_number-i.result (rw c.deref.ensures.value at c.index_of_number-i.ensures)
    (λ now. Some c.args.entry) c.index.result.now c.args.entry (omega arith)
    (ap (λ (k : Kept). is_same_number c.args.entry.number k.number) (sym c.index.ensures)
    ∙ eq-eqb c.args.entry.number c.index.result.now.number c.if-entry-index.true) refl)

pub returns-then-entry-index-clause-ascends : goal.returns-then-entry-index-clause-ascends
returns-then-entry-index-clause-ascends c = changed_ascends c.args.kept.now.items _ c.args.entry.number (λ now. Some c.args.entry) c.requires.ascends
    (entry_keeps c.args.entry) (returns-then-entry-index-clause-items c)

pub returns-else-entry-index-clause-items : goal.returns-else-entry-index-clause-items
returns-else-entry-index-clause-items c =
    c.insert.ensures.items ∙ (ap (λ b. cond b (insert c.args.kept.now.items c.index_of_number-i.result c.args.entry) c.args.kept.now.items)
    (c.insert.ensures.succeeds c.requires.room)
    ∙ sym (entry_before c.args.kept.now.items c.args.entry.number c.index_of_number-i.result (rw c.deref.ensures.value at c.index_of_number-i.ensures)
    c.args.entry c.index.result.now (omega arith) (ap (λ (k : Kept). is_same_number c.args.entry.number k.number) (sym c.index.ensures)
    ∙ ne_eqb c.args.entry.number c.index.result.now.number c.if-entry-index.false)))

pub returns-else-entry-index-clause-ascends : goal.returns-else-entry-index-clause-ascends
returns-else-entry-index-clause-ascends c = changed_ascends c.args.kept.now.items _ c.args.entry.number (λ now. Some c.args.entry) c.requires.ascends
    (entry_keeps c.args.entry) (returns-else-entry-index-clause-items c)

pub returns-else-entry-index-clause-capacity : goal.returns-else-entry-index-clause-capacity
returns-else-entry-index-clause-capacity c = (c.insert.ensures.in_place c.requires.room).1.0
