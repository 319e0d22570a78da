use Rattle.std.proofs.Common.{◌≡◌, suc, ◌+◌, ◌-◌, ◌++◌, [], length, refl, sym, ap, ◌∙◌, subst, arith}
use Rattle.std.proofs.lemmas.List.{append-nil, append_assoc}
use Rattle.live_forest.specs.Proving.{places_of, HasRows, HasPlaces, AreBehind, AreFrom, behind}
use Rattle.live_forest.proofs.Placing.{places_none, places_both}
use Rattle.live_forest.proofs.Descending.{behind_all, behind_nothing}
use Rattle.live_forest.proofs.Slotted.{all_behind, from_nothing, stand_there}
use Rattle.live_forest.specs.Parts.{entries_in}
use Rattle.live_forest.proofs.Holding.{length-entries}
use Rattle.live_forest.proofs.proving.rows_of.Goals as goal

pub loop-row-init : goal.loop-row-init
loop-row-init g c =
    let es = (entries_in c.args.n c.args.store.now) in
    record {
      wide = subst (λ k. HasRows k c.in_ok-rows.rows.items) (sym (length-entries c.args.n c.args.store.now c.requires.room))
          c.in_ok-rows.ensures.wide;
      rise = c.requires.rise;
      placed = ([], refl, places_none es c.args.places.now.items);
      later = behind_all es c.args.numbers.now c.requires.small c.requires.live;
      left = all_behind (length es) c.args.numbers.now c.requires.small;
      from = from_nothing g.D.Digester.digest_of es (places_of es c.args.numbers.now) c.in_ok-rows.rows.items c.requires.small
          c.in_ok-rows.ensures.none;
    }

pub loop-row-preserved : goal.loop-row-preserved
loop-row-preserved g c =
    let H = g.D.Digester.digest_of in
    let es = (entries_in c.args.n c.args.store.now) in
    let numbers = c.args.numbers.now in
    let ts = places_of es numbers in
    let r = c.loop-row.row in
    let up : 40 - r ≡ suc (39 - r) = omega (arith, c.loop-row-test.true) in
    let down : 39 - r ≡ 40 - (r + 1) = omega (arith, c.loop-row-test.true) in
    let left = subst (λ k. c.loop-row.left.now ≡ behind (length es) k numbers) up c.loop-row.invariant.left in
    let from = subst (λ k. AreFrom H es ts k c.loop-row.rows.items) up c.loop-row.invariant.from in
    let was = c.loop-row.invariant.placed in
    let more = c.in_ok-left.ensures.places in
    record {
      wide = c.descend_from.ensures.wide;
      rise = c.in_ok-left.ensures.rise;
      placed = (
        was.0 ++ more.0,
        append_assoc was.0 more.0 c.in_ok-left.left.now ∙ (ap (λ xs. was.0 ++ xs) more.1 ∙ was.1),
        places_both es was.0 more.0 (was.0 ++ more.0) c.args.places.now.items c.loop-row.places.items c.descend_from.new.places.items was.2 more.2
            refl,
      );
      later = subst (λ k. AreBehind es k c.in_ok-left.left.now) down c.in_ok-left.ensures.later;
      left = subst (λ k. c.in_ok-left.left.now ≡ behind (length es) k numbers) down (c.in_ok-left.ensures.behind numbers left);
      from = subst (λ k. AreFrom H es ts k c.descend_from.new.rows.items) down
          (c.in_ok-left.ensures.noted ts numbers (stand_there es numbers c.requires.live) left from);
    }

pub descend_from-requires-clause-later : goal.descend_from-requires-clause-later
descend_from-requires-clause-later g c =
    let up : 40 - c.loop-row.row ≡ suc (39 - c.loop-row.row) = omega (arith, c.loop-row-test.true) in
    subst (λ k. AreBehind (entries_in c.args.n c.args.store.now) k c.loop-row.left.now) up c.loop-row.invariant.later

pub returns-clause-places : goal.returns-clause-places
returns-clause-places g c =
    let es = (entries_in c.args.n c.args.store.now) in
    let was = c.loop-row.invariant.placed in
    let e : 40 - c.loop-row.row ≡ 0 = omega (arith, c.loop-row-test.false) in
    let none : c.loop-row.left.now ≡ [] = behind_nothing es c.loop-row.left.now
    (subst (λ k. AreBehind es k c.loop-row.left.now) e c.loop-row.invariant.later) in
    let all : was.0 ≡ c.args.numbers.now = sym (append-nil was.0) ∙ (ap (λ xs. was.0 ++ xs) (sym none) ∙ was.1) in
    subst (λ xs. HasPlaces es xs c.args.places.now.items c.loop-row.places.items) all was.2

pub no_rows-requires : goal.no_rows-requires
no_rows-requires g c = omega (arith, length-entries c.args.n c.args.store.now c.requires.room, c.requires.small)
