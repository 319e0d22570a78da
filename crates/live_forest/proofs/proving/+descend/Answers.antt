use Rattle.std.proofs.Common.{◌≡◌, ◌+◌, ◌-◌, ◌*◌, ◌<◌, ◌++◌, length, get_or, map, Some, sym, ap, ap₂, ◌∙◌, subst, arith}
use Rattle.std.specs.List.Sorted.{IsNonDecreasing}
use Rattle.std.proofs.lemmas.List.{take-append-drop}
use Rattle.std.proofs.lemmas.List.Sorted.{IsNonDecreasingBy-take, IsNonDecreasingBy-drop}
use Rattle.forest_place.specs.Forest.{InForest}
use Rattle.forest_place.proofs.Positions.{row_small}
use Rattle.forest_model.specs.Content.{content}
use Rattle.forest_model.specs.Standing.{tree_at}
use Rattle.live_forest.specs.Parts.{entries_in}
use Rattle.live_forest.specs.Proving.{AreIn}
use Rattle.live_forest.proofs.Seeking.{within_left, within_right}
use Rattle.live_forest.proofs.Ascending.{off-below}
use Rattle.live_forest.proofs.Parting.{one_spent}
use Rattle.live_forest.proofs.Placing.{places_both, places_same}
use Rattle.live_forest.proofs.Following.{on_entry, ends_apart, some_low, some_high}
use Rattle.live_forest.proofs.Descending.{on_ok, halves_of, in_low, in_high, AreHalved, way_low, way_high, way_both}
use Rattle.live_forest.proofs.proving.+descend.Goals as goal

pub returns-then-fork-eq0-clause-noted : goal.returns-then-fork-eq0-clause-noted
returns-then-fork-eq0-clause-noted g t c =
    let es = entries_in c.args.n c.args.store.now in
    let fork = c.in_ok-fork.fork in
    on_ok c.push_each.result (λ _ ts all at w. on_entry g.D.Digester.digest_of es ts all at c.args.place fork.part fork.place c.args.numbers.now _ _
    c.requires.some (omega (arith, c.if-fork-eq0.true)) c.in_ok-fork.ensures.is.stands (c.in_ok-fork.ensures.noted ts all at w)) c.push_each.ensures

pub returns-then-fork-eq0-clause-places : goal.returns-then-fork-eq0-clause-places
returns-then-fork-eq0-clause-places g t c =
    let es = entries_in c.args.n c.args.store.now in
    let fork = c.in_ok-fork.fork in
    on_ok c.push_each.result (λ e. e ∙ ap (λ xs. map Some c.args.places.now.items ++ xs)
    (places_same es fork.part fork.place c.args.numbers.now (omega (arith, c.if-fork-eq0.true)) c.in_ok-fork.ensures.is.stands
    c.in_ok-fork.ensures.is.inside)) c.push_each.ensures

pub count_upto-requires-clause-row : goal.count_upto-requires-clause-row
count_upto-requires-clause-row g t c =
    let es = entries_in c.args.n c.args.store.now in
    let p = c.in_ok-fork.fork.part in
    let halves = halves_of (length es) p c.children.result.0 c.children.result.1 (omega (arith, c.if-fork-eq0.false)) c.in_ok-fork.ensures.is.within
    c.children.ensures.rows c.children.ensures.left c.children.ensures.right in
    row_small (length es) c.children.result.0.row c.children.result.0.off 40 halves.left_within c.requires.small

pub children-requires-2-clause-row : goal.children-requires-2-clause-row
children-requires-2-clause-row g t c =
    let es = entries_in c.args.n c.args.store.now in
    let p = c.in_ok-fork.fork.part in
    let halves = halves_of (length es) p c.children.result.0 c.children.result.1 (omega (arith, c.if-fork-eq0.false)) c.in_ok-fork.ensures.is.within
    c.children.ensures.rows c.children.ensures.left c.children.ensures.right in
    let H = g.D.Digester.digest_of in
    let parts = c.args.store.now in
    let q = c.in_ok-fork.fork.place in
    let is = c.in_ok-fork.ensures.is in
    let both = ends_apart H es parts c.requires.right p q c.args.numbers.now halves.some is.within is.stands is.inside c.requires.some c.requires.rise
    (is.apart halves.some) in
    both.0.high

pub children-requires-2-clause-off : goal.children-requires-2-clause-off
children-requires-2-clause-off g t c =
    let q = c.in_ok-fork.fork.place in
    omega (arith, off-below (length (entries_in c.args.n c.args.store.now)) q.row q.off c.in_ok-fork.ensures.is.there, c.requires.small)

pub descend-requires : goal.descend-requires
descend-requires g t c κs within =
    let es = entries_in c.args.n c.args.store.now in
    let p = c.in_ok-fork.fork.part in
    let halves = halves_of (length es) p c.children.result.0 c.children.result.1 (omega (arith, c.if-fork-eq0.false)) c.in_ok-fork.ensures.is.within
    c.children.ensures.rows c.children.ensures.left c.children.ensures.right in
    let H = g.D.Digester.digest_of in
    let parts = c.args.store.now in
    let q = c.in_ok-fork.fork.place in
    let is = c.in_ok-fork.ensures.is in
    let both = ends_apart H es parts c.requires.right p q c.args.numbers.now halves.some is.within is.stands is.inside c.requires.some c.requires.rise
    (is.apart halves.some) in
    let under : c.children-2.result.0.row ≡ q.row - 1 = omega (arith, c.children-2.ensures.rows.0) in
    let beside : c.children-2.result.1.row ≡ q.row - 1 = omega (arith, c.children-2.ensures.rows.1) in
    let stands : tree_at es c.children-2.result.0.row c.children-2.result.0.off ≡ content es c.children.result.0.row c.children.result.0.off =
    rw (under, c.children-2.ensures.left, halves.left_row, c.children.ensures.left) both.0.low in
    let there : InForest (length es) c.children-2.result.0.row c.children-2.result.0.off =
    rw (under, c.children-2.ensures.left) (within_left (length es) q.row q.off both.0.high is.there) in
    let rise : IsNonDecreasing c.split_at.result.0.now =
    subst IsNonDecreasing (sym c.split_at.ensures.front) (IsNonDecreasingBy-take (λ x. x) _ c.args.numbers.now c.requires.rise) in
    let its = c.split_at.ensures.front ∙ c.count_upto.ensures.upto in
    let inside = subst (AreIn es c.children.result.0.row c.children.result.0.off) (sym its)
    (in_low es p c.children.result.0 c.children.result.1 c.args.numbers.now halves c.children.ensures.left c.children.ensures.right is.inside) in
    let some : 0 < length c.split_at.result.0.now = subst (λ xs. 0 < length xs) (sym its)
    (some_low p c.children.result.0 c.args.numbers.now c.requires.some halves.left_row c.children.ensures.left both.1) in (
      omega (arith, c.decreases, halves.left_row, halves.some, is.beneath),
      (
        within.0,
        (
          within.1,
          (
            c.requires.small,
            (
              c.requires.room,
              (
                c.requires.held,
                (c.requires.right, (halves.left_within, (stands, (there, (some, (rise, (inside, c.in_ok-fork.ensures.wide))))))),
              ),
            ),
          ),
        ),
      ),
    )

pub descend-requires-2 : goal.descend-requires-2
descend-requires-2 g t c κs within =
    let es = entries_in c.args.n c.args.store.now in
    let p = c.in_ok-fork.fork.part in
    let halves = halves_of (length es) p c.children.result.0 c.children.result.1 (omega (arith, c.if-fork-eq0.false)) c.in_ok-fork.ensures.is.within
    c.children.ensures.rows c.children.ensures.left c.children.ensures.right in
    let H = g.D.Digester.digest_of in
    let parts = c.args.store.now in
    let q = c.in_ok-fork.fork.place in
    let is = c.in_ok-fork.ensures.is in
    let both = ends_apart H es parts c.requires.right p q c.args.numbers.now halves.some is.within is.stands is.inside c.requires.some c.requires.rise
    (is.apart halves.some) in
    let under : c.children-2.result.0.row ≡ q.row - 1 = omega (arith, c.children-2.ensures.rows.0) in
    let beside : c.children-2.result.1.row ≡ q.row - 1 = omega (arith, c.children-2.ensures.rows.1) in
    let stands : tree_at es c.children-2.result.1.row c.children-2.result.1.off ≡ content es c.children.result.1.row c.children.result.1.off =
    rw (beside, c.children-2.ensures.right, halves.right_row, c.children.ensures.right) both.0.above in
    let there : InForest (length es) c.children-2.result.1.row c.children-2.result.1.off =
    rw (beside, c.children-2.ensures.right) (within_right (length es) q.row q.off both.0.high is.there) in
    let rise : IsNonDecreasing c.split_at.result.1.now =
    subst IsNonDecreasing (sym c.split_at.ensures.back) (IsNonDecreasingBy-drop (λ x. x) _ c.args.numbers.now c.requires.rise) in
    let its = c.split_at.ensures.back ∙ c.count_upto.ensures.beyond in
    let inside = subst (AreIn es c.children.result.1.row c.children.result.1.off) (sym its)
    (in_high es p c.children.result.0 c.children.result.1 c.args.numbers.now halves c.children.ensures.left c.children.ensures.right is.inside) in
    let some : 0 < length c.split_at.result.1.now = subst (λ xs. 0 < length xs) (sym its)
    (some_high p c.children.result.0 c.args.numbers.now c.requires.some halves.left_row c.children.ensures.left both.2) in (
      omega (arith, c.decreases, halves.right_row, halves.some, is.beneath),
      (
        within.0,
        (
          within.1,
          (
            c.requires.small,
            (
              c.requires.room,
              (
                c.requires.held,
                (c.requires.right, (halves.right_within, (stands, (there, (some, (rise, (inside, c.in_ok-descend.ensures.wide))))))),
              ),
            ),
          ),
        ),
      ),
    )

pub returns-clause-noted : goal.returns-clause-noted
returns-clause-noted g t c =
    let es = entries_in c.args.n c.args.store.now in
    let p = c.in_ok-fork.fork.part in
    let halves = halves_of (length es) p c.children.result.0 c.children.result.1 (omega (arith, c.if-fork-eq0.false)) c.in_ok-fork.ensures.is.within
    c.children.ensures.rows c.children.ensures.left c.children.ensures.right in
    let H = g.D.Digester.digest_of in
    let parts = c.args.store.now in
    let q = c.in_ok-fork.fork.place in
    let is = c.in_ok-fork.ensures.is in
    let both = ends_apart H es parts c.requires.right p q c.args.numbers.now halves.some is.within is.stands is.inside c.requires.some c.requires.rise
    (is.apart halves.some) in
    let under : c.children-2.result.0.row ≡ q.row - 1 = omega (arith, c.children-2.ensures.rows.0) in
    let beside : c.children-2.result.1.row ≡ q.row - 1 = omega (arith, c.children-2.ensures.rows.1) in
    let xs = c.args.numbers.now in
    let first = get_or xs 0 0 in
    let has = one_spent xs 0 0 c.requires.some in
    let l = c.children.result.0 in
    let r = c.children.result.1 in
    let u = c.children-2.result.0 in
    let b = c.children-2.result.1 in
    let lo : l.off ≡ 2 * p.off = c.children.ensures.left in
    let ro : r.off ≡ 2 * p.off + 1 = c.children.ensures.right in
    let uo : u.off ≡ 2 * q.off = c.children-2.ensures.left in
    let bo : b.off ≡ 2 * q.off + 1 = c.children-2.ensures.right in
    let stands_low : tree_at es u.row u.off ≡ content es l.row l.off =
    ap₂ (tree_at es) under uo ∙ (both.0.low ∙ sym (ap₂ (content es) halves.left_row lo)) in
    let stands_high : tree_at es b.row b.off ≡ content es r.row r.off =
    ap₂ (tree_at es) beside bo ∙ (both.0.above ∙ sym (ap₂ (content es) halves.right_row ro)) in
    on_ok c.descend-2.result (λ two ts all at w.
    let on = c.in_ok-fork.ensures.noted ts all at w in
    let halved : AreHalved es ts all at p q l r u b = record {
      some = halves.some;
      high = both.0.high;
      there = is.there;
      left_row = halves.left_row;
      left_off = lo;
      right_row = halves.right_row;
      right_off = ro;
      under_row = under;
      under_off = uo;
      beside_row = beside;
      beside_off = bo;
      left_stands = stands_low;
      right_stands = stands_high;
    } in
    let one = way_low es ts all at p q l r u b xs halved on.has c.split_at.result.0.now first
    (c.split_at.ensures.front ∙ c.count_upto.ensures.upto) has in
    let other = way_high es ts all at p q l r u b xs halved on.has c.split_at.result.1.now first
    (c.split_at.ensures.back ∙ c.count_upto.ensures.beyond) has in
    on.more _ (way_both es ts all at p q l r u b xs halved on.has H first _ c.descend.new.rows.items c.descend-2.new.rows.items is.stands has
    (c.in_ok-descend.ensures.noted ts all at one) (two ts all at other))) c.descend-2.ensures.noted

pub returns-clause-places : goal.returns-clause-places
returns-clause-places g t c =
    let xs = c.args.numbers.now in
    let all : xs ≡ c.split_at.result.0.now ++ c.split_at.result.1.now =
    sym (ap₂ (λ low high. low ++ high) c.split_at.ensures.front c.split_at.ensures.back ∙ take-append-drop c.count_upto.result xs) in
    on_ok c.descend-2.result (λ two. places_both (entries_in c.args.n c.args.store.now) c.split_at.result.0.now c.split_at.result.1.now xs
    c.args.places.now.items c.descend.new.places.items c.descend-2.new.places.items c.in_ok-descend.ensures.places two all) c.descend-2.ensures.places
