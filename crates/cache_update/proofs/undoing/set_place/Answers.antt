use Rattle.std.proofs.Common.{refl, sym, ap, ◌∙◌, arith, eq-eqb, ne_eqb}
use Rattle.std.specs.Prelude.{option_map}
use Rattle.std.proofs.lemmas.List.{set_split}
use Rattle.cache_model.specs.declared.kept.Kept.{Kept}
use Rattle.cache_model.specs.Undo.{is_same_number}
use Rattle.cache_update.specs.Given.{at_place}
use Rattle.cache_update.proofs.Outs.{entry_there, none_other, none_end, place_keeps, changed_ascends, placed_there}
use Rattle.cache_update.proofs.undoing.set_place.Goals as goal

pub returns-then-i-len-clause-items : goal.returns-then-i-len-clause-items
returns-then-i-len-clause-items c = none_end c.args.kept.now.items c.args.number c.index_of_number-i.result
    (rw c.deref.ensures.value at c.index_of_number-i.ensures) (λ now. option_map (at_place (c.args.number, c.args.place)) now) refl (omega arith)

pub returns-then-number-index-clause-items : goal.returns-then-number-index-clause-items
returns-then-number-index-clause-items c =
    set_split c.args.kept.now.items c.index_of_number-i.result _ (omega arith)
    ∙ sym (entry_there c.args.kept.now.items c.args.number c.index_of_number-i.result (rw c.deref.ensures.value at c.index_of_number-i.ensures)
    (λ now. option_map (at_place (c.args.number, c.args.place)) now) c.index.result.now _ (omega arith)
    (ap (λ (k : Kept). is_same_number c.args.number k.number) (sym c.index.ensures)
    ∙ eq-eqb c.args.number c.index.result.now.number c.if-number-index.true)
    (placed_there c.args.kept.now.items c.index_of_number-i.result c.args.number c.args.place c.index.result.now c.index_mut.result.now (omega arith)
    c.index.ensures c.index_mut.ensures.value c.if-number-index.true))

pub returns-then-number-index-clause-ascends : goal.returns-then-number-index-clause-ascends
returns-then-number-index-clause-ascends c = changed_ascends c.args.kept.now.items _ c.args.number
    (λ now. option_map (at_place (c.args.number, c.args.place)) now) c.requires (place_keeps c.args.number c.args.place)
    (returns-then-number-index-clause-items c)

pub returns-else-number-index-clause-items : goal.returns-else-number-index-clause-items
returns-else-number-index-clause-items c =
    none_other c.args.kept.now.items c.args.number c.index_of_number-i.result (rw c.deref.ensures.value at c.index_of_number-i.ensures)
    (λ now. option_map (at_place (c.args.number, c.args.place)) now) c.index.result.now refl (omega arith)
    (ap (λ (k : Kept). is_same_number c.args.number k.number) (sym c.index.ensures)
    ∙ ne_eqb c.args.number c.index.result.now.number c.if-number-index.false)
