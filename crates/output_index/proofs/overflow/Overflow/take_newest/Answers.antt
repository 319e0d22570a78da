use Rattle.std.proofs.Common.{◌<◌, length, sym, ap, subst, ◌∙◌}
use Rattle.std.specs.Prelude.{IsSome}
use Rattle.output_index.specs.Overflow.{in_maps}
use Rattle.output_index.proofs.MarkMaps.{at-map, at-set, others-set, map-within}
use Rattle.output_index.proofs.overflow.Overflow.take_newest.Goals as goal

pub returns-clause-older : goal.returns-clause-older
returns-clause-older c =
    let maps = c.self.inside.maps.items in
    let i = c.map_of.result in
    let mark = c.args.mark in
    let s = sym c.map_of.ensures.is in
    let l = subst (λ j. j < length maps) s (map-within maps mark (subst (λ xs. IsSome (in_maps xs mark)) (sym c.self.view_is) c.requires)) in
    λ r. at-set maps c.take_newest_in.new.newest i mark s l ∙ c.take_newest_in.ensures.older r

pub returns-clause-stays : goal.returns-clause-stays
returns-clause-stays c =
    let maps = c.self.inside.maps.items in
    let i = c.map_of.result in
    let mark = c.args.mark in
    let s = sym c.map_of.ensures.is in
    let l = subst (λ j. j < length maps) s (map-within maps mark (subst (λ xs. IsSome (in_maps xs mark)) (sym c.self.view_is) c.requires)) in
    λ r. at-set maps c.take_newest_in.new.newest i mark s l ∙ (c.take_newest_in.ensures.stays r
    ∙ (sym (at-map maps c.index_mut.result.now i mark s l c.index_mut.ensures.value) ∙ ap (λ xs. in_maps xs mark) c.self.view_is))

pub returns-clause-others : goal.returns-clause-others
returns-clause-others c =
    let maps = c.self.inside.maps.items in
    let i = c.map_of.result in
    let mark = c.args.mark in
    let s = sym c.map_of.ensures.is in
    let l = subst (λ j. j < length maps) s (map-within maps mark (subst (λ xs. IsSome (in_maps xs mark)) (sym c.self.view_is) c.requires)) in
    λ m o. others-set maps c.index_mut.result.now c.take_newest_in.new.newest i mark s l c.index_mut.ensures.value c.take_newest_in.ensures.others m o
    ∙ ap (λ xs. in_maps xs m) c.self.view_is
