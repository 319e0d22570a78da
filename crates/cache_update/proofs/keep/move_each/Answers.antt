use Rattle.std.proofs.Common.{sym, ◌∙◌, subst, arith, All, drop, add-one}
use Rattle.forest_place.specs.Forest.{InForest}
use Rattle.cache_model.specs.declared.kept.Kept.{Kept}
use Rattle.cache_update.proofs.Keeps.{left_on, left_set, at_place, stay_on, not_gone, go_on, taken_on, drop_removed}
use Rattle.cache_update.proofs.keep.move_each.Goals as goal

pub loop-i-preserved-in-Some : goal.loop-i-preserved-in-Some
loop-i-preserved-in-Some c =
    let m = sym c.moved.ensures.is ∙ c.in-Some.is in
    record {
      stay = stay_on c.args.targets.now.leaves c.args.targets.now.targets c.loop-i.kept.items c.loop-i.i c.index.result.now c.index_mut.result.now
          c.in-Some.place _ (omega arith) c.index.ensures c.index_mut.ensures.value m c.loop-i.invariant.stay;
      gone = c.loop-i.invariant.gone ∙ not_gone c.args.targets.now.leaves c.args.targets.now.targets c.loop-i.kept.items c.loop-i.taken.items
          c.loop-i.i c.index.result.now (at_place c.index_mut.result.now c.in-Some.place) c.in-Some.place (omega arith) c.index.ensures m;
      within = omega (arith, c.loop-i-test.true);
      len = c.loop-i.invariant.len;
      taken_room = c.loop-i.invariant.taken_room;
      kept_room = c.loop-i.invariant.kept_room;
      left = left_set (λ (k : Kept). InForest c.args.targets.now.leaves k.place.row k.place.off) c.loop-i.kept.items c.loop-i.i
          (at_place c.index_mut.result.now c.in-Some.place) (left_on (λ (k : Kept). InForest c.args.targets.now.leaves k.place.row k.place.off)
          c.loop-i.kept.items c.loop-i.i c.index.result.now (omega arith) c.loop-i.invariant.left);
    }

pub push_reserved-requires : goal.push_reserved-requires
push_reserved-requires c = omega (arith, c.loop-i.invariant.len, c.loop-i.invariant.taken_room, c.requires.room, c.loop-i-test.true)

pub loop-i-preserved : goal.loop-i-preserved
loop-i-preserved c =
    let m = sym c.moved.ensures.is ∙ c.in-None.is in
    record {
      stay = go_on c.args.targets.now.leaves c.args.targets.now.targets c.loop-i.kept.items c.remove-entry.new.self.items c.loop-i.i
          c.index.result.now _ (omega arith) c.index.ensures m c.remove-entry.ensures.items c.loop-i.invariant.stay;
      gone = c.loop-i.invariant.gone ∙ taken_on c.args.targets.now.leaves c.args.targets.now.targets c.loop-i.kept.items c.remove-entry.new.self.items
          c.loop-i.taken.items c.push_reserved.new.self.items c.loop-i.i c.index.result.now c.remove-entry.result (omega arith) c.index.ensures
          c.remove-entry.ensures.value m c.remove-entry.ensures.items c.push_reserved.ensures.items;
      within = omega (arith, c.loop-i-test.true, c.remove-entry.ensures.len);
      len = omega (arith, c.loop-i.invariant.len, c.remove-entry.ensures.len, c.push_reserved.ensures.len);
      taken_room = omega (arith, c.loop-i.invariant.taken_room, c.push_reserved.ensures.capacity);
      kept_room = omega (arith, c.loop-i.invariant.kept_room, c.remove-entry.ensures.capacity);
      left = subst (λ xs. All (λ (k : Kept). InForest c.args.targets.now.leaves k.place.row k.place.off) (drop c.loop-i.i xs))
          (sym c.remove-entry.ensures.items)
          (subst (All (λ (k : Kept). InForest c.args.targets.now.leaves k.place.row k.place.off))
          (sym (drop_removed c.loop-i.kept.items c.loop-i.i (omega arith)))
          (subst (λ k. All (λ (k : Kept). InForest c.args.targets.now.leaves k.place.row k.place.off) (drop k c.loop-i.kept.items))
          (add-one c.loop-i.i)
          (left_on (λ (k : Kept). InForest c.args.targets.now.leaves k.place.row k.place.off) c.loop-i.kept.items c.loop-i.i c.index.result.now
          (omega arith) c.loop-i.invariant.left)));
    }
