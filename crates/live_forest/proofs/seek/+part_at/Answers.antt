use Rattle.std.proofs.Common.{length, sym, ap, ◌∙◌, subst, arith}
use Rattle.forest_place.specs.Places.{child}
use Rattle.forest_place.proofs.Positions.{row_small}
use Rattle.live_forest.specs.Lookups.{IsPartAt}
use Rattle.live_forest.proofs.Seeking.{none_of, some_of, up_code, part_at_root, nothing_at_root, entry_above, node_above}
use Rattle.live_forest.specs.Parts.{entries_in}
use Rattle.live_forest.proofs.seek.+part_at.Goals as goal

pub overflow_add-row : goal.overflow_add-row
overflow_add-row t c = omega (
  arith,
  row_small (length (entries_in c.args.n c.args.store.now)) c.args.row c.args.off 40 c.requires.within
      c.requires.small,
)

pub part_at-requires : goal.part_at-requires
part_at-requires t c =
    let small = row_small (length (entries_in c.args.n c.args.store.now)) c.args.row c.args.off 40 c.requires.within c.requires.small in (
      omega (arith, c.decreases, small),
      (
        c.requires.small,
        (
          c.requires.room,
          (
            c.requires.alike,
            up_code (entries_in c.args.n c.args.store.now) c.args.store.now c.requires.alike c.args.row c.args.off c.requires.within
                (sym c.is_root.ensures ∙ c.if-is_root.false),
          ),
        ),
      ),
    )

pub returns-then-not-some : goal.returns-then-not-some
returns-then-not-some t c = nothing_at_root (entries_in c.args.n c.args.store.now) c.args.store.now c.requires.alike c.args.row c.args.off
    (sym c.is_root.ensures ∙ c.if-is_root.true) c.requires.within (none_of _ _ c.has_in-some.ensures c.if-not-some.true)

pub returns-else-not-some : goal.returns-else-not-some
returns-else-not-some t c =
    let has = some_of _ _ c.has_in-some.ensures c.if-not-some.false in
    part_at_root (entries_in c.args.n c.args.store.now) c.args.store.now c.requires.alike c.args.row c.args.off has.0
    (sym c.is_root.ensures ∙ c.if-is_root.true) c.requires.within has.1

pub returns-then-node-eq0 : goal.returns-then-node-eq0
returns-then-node-eq0 t c =
    entry_above (entries_in c.args.n c.args.store.now) c.args.store.now c.requires.alike c.args.row c.args.off c.in-Some.above
    c.smallest-node.result
    c.requires.within (sym c.is_root.ensures ∙ c.if-is_root.false) c.in-Some.ensures c.smallest-node.ensures c.if-node-eq0.true

pub returns-else-node-eq0 : goal.returns-else-node-eq0
returns-else-node-eq0 t c =
    subst (IsPartAt (entries_in c.args.n c.args.store.now) c.args.row c.args.off) (sym (c.child.ensures ∙ ap (λ s. child s c.smallest-node.result) c.side.ensures.is))
    (node_above (entries_in c.args.n c.args.store.now) c.args.store.now c.requires.alike c.args.row c.args.off c.in-Some.above
    c.smallest-node.result
    c.requires.within (sym c.is_root.ensures ∙ c.if-is_root.false) c.in-Some.ensures c.smallest-node.ensures
    (omega (arith, c.if-node-eq0.false)))
