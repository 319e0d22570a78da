use Rattle.std.proofs.Common.{◌<◌, length, sym, ap, ◌∙◌, arith}
use Rattle.std.specs.Map.{lookup}
use Rattle.std.specs.BTreeMap.{is_at}
use Rattle.std.specs.Ordering.{nat_cmp}
use Rattle.output_index.specs.Overflow.{in_maps}
use Rattle.output_index.proofs.EntryLists.{at_other}
use Rattle.output_index.proofs.Holding.{on_err}
use Rattle.output_index.proofs.MarkMaps.{at-map, at-set, others-set}
use Rattle.output_index.proofs.overflow.Overflow.put_newest.Goals as goal

pub returns-in_err-before-clause-others : goal.returns-in_err-before-clause-others
returns-in_err-before-clause-others c =
    let maps = c.make_maps.new.maps.items in
    let i = c.map_of.result in
    let mark = c.args.mark in
    let s = sym c.map_of.ensures.is in
    let l : i < length maps = omega (arith, c.map_of.ensures.few, c.in_ok-make_maps.ensures.len) in
    λ m o. others-set maps c.index_mut.result.now c.insert.new.self i mark s l c.index_mut.ensures.value
    (λ j a. ap (lookup (is_at (nat_cmp j))) c.in_err-before.ensures.err) m o
    ∙ (c.make_maps.ensures.same m ∙ ap (λ xs. in_maps xs m) c.self.view_is)

pub returns-in_err-before-clause-err : goal.returns-in_err-before-clause-err
returns-in_err-before-clause-err c =
    let maps = c.make_maps.new.maps.items in
    let i = c.map_of.result in
    let mark = c.args.mark in
    let s = sym c.map_of.ensures.is in
    let l : i < length maps = omega (arith, c.map_of.ensures.few, c.in_ok-make_maps.ensures.len) in
    on_err _ _ (at-set maps c.insert.new.self i mark s l ∙ (ap (lookup (is_at (nat_cmp mark))) c.in_err-before.ensures.err
    ∙ (sym (at-map maps c.index_mut.result.now i mark s l c.index_mut.ensures.value)
    ∙ (c.make_maps.ensures.same mark ∙ ap (λ xs. in_maps xs mark) c.self.view_is))))

pub returns-clause-before : goal.returns-clause-before
returns-clause-before c =
    let maps = c.make_maps.new.maps.items in
    let i = c.map_of.result in
    let mark = c.args.mark in
    let s = sym c.map_of.ensures.is in
    let l : i < length maps = omega (arith, c.map_of.ensures.few, c.in_ok-make_maps.ensures.len) in
    c.in_ok-before.ensures.old ∙ (sym (at-map maps c.index_mut.result.now i mark s l c.index_mut.ensures.value)
    ∙ (c.make_maps.ensures.same mark ∙ ap (λ xs. in_maps xs mark) c.self.view_is))

pub returns-clause-here : goal.returns-clause-here
returns-clause-here c =
    let maps = c.make_maps.new.maps.items in
    let i = c.map_of.result in
    let mark = c.args.mark in
    let s = sym c.map_of.ensures.is in
    let l : i < length maps = omega (arith, c.map_of.ensures.few, c.in_ok-make_maps.ensures.len) in
    at-set maps c.insert.new.self i mark s l ∙ c.in_ok-before.ensures.updates.1

pub returns-clause-others : goal.returns-clause-others
returns-clause-others c =
    let maps = c.make_maps.new.maps.items in
    let i = c.map_of.result in
    let mark = c.args.mark in
    let s = sym c.map_of.ensures.is in
    let l : i < length maps = omega (arith, c.map_of.ensures.few, c.in_ok-make_maps.ensures.len) in
    λ m o. others-set maps c.index_mut.result.now c.insert.new.self i mark s l c.index_mut.ensures.value
    (λ j a. c.in_ok-before.ensures.updates.2 j (at_other mark j (λ e. a (sym e)))) m o
    ∙ (c.make_maps.ensures.same m ∙ ap (λ xs. in_maps xs m) c.self.view_is)
