use Rattle.std.proofs.Common.{◌≡◌, ℕ, ◌-◌, ◌/◌, ◌%◌, ◌^◌, true, false, ◌++◌, List, [], length, Option, refl, sym, ap, ap₂, ◌∙◌, subst, arith, eq-eqb}
use Rattle.std.specs.Prelude.{◌==◌, filter}
use Rattle.std.proofs.lemmas.Bool.{eqb-true, eqb-false, true≢false}
use Rattle.std.proofs.lemmas.List.{nil_from_length, take-append-drop}
use Rattle.uo_digest.specs.declared.digest.Digest.{Digest}
use Rattle.forest_place.specs.declared.place.Place.{Place}
use Rattle.forest_place.specs.Forest.{InForest, is_slot, is_root, root_off}
use Rattle.forest_place.proofs.Parts.{is_root-root_off}
use Rattle.forest_model.proofs.Climbs.{tree_at-root}
use Rattle.live_forest.specs.Proving.{AreIn, AreBehind, HasPlaces, AreFrom}
use Rattle.live_forest.proofs.Placing.{places_none}
use Rattle.live_forest.proofs.Descending.{in_slot, behind_slot, behind_none}
use Rattle.live_forest.proofs.Slotted.{from_same, from_more, behind_even, slot_has, slot_leaves, slot_nothing}
use Rattle.live_forest.proofs.proving.descend_from.Goals.{then-not-is_empty+in_ok-descend, else-not-is_empty}
use Rattle.std.specs.List.Sorted.{IsNonDecreasing}
use Rattle.std.proofs.lemmas.List.Sorted.{IsNonDecreasingBy-take, IsNonDecreasingBy-drop}
use Rattle.live_forest.specs.Parts.{entries_in}
use Rattle.live_forest.proofs.proving.descend_from.Goals as goal

-- the root of a slot
record IsTop (es : List (Option Digest)) (row : ℕ) (root : Place) : Type 0 where
  pub row_is : root.row ≡ row
  pub off_is : root.off ≡ length es / 2 ^ row - 1
  pub odd : length es / 2 ^ row % 2 ≡ 1
  pub top : is_root (length es) root.row root.off ≡ true
  pub within : InForest (length es) root.row root.off

top_of : (es : List (Option Digest)) (row : ℕ) (root : Place) → (is_slot (length es) row ≡ true) × (root ≡ record { row = row; off = root_off (length es) row })
    → IsTop es row root
top_of es row root w =
    let odd : length es / 2 ^ row % 2 ≡ 1 = eqb-true _ _ w.0 in
    subst (IsTop es row) (sym w.1)
    (record { row_is = refl; off_is = refl; odd = odd; top = is_root-root_off (length es) row w.0; within = omega (arith, odd) })

even_in : (n row : ℕ) → is_slot n row ≡ false → n / 2 ^ row % 2 ≡ 0
even_in n row none = let odd : n / 2 ^ row % 2 ≡ 1 → ⊥ = eqb-false _ _ none in omega (arith, odd)

pub returns-in_default-clause-behind : goal.returns-in_default-clause-behind
returns-in_default-clause-behind g c = λ all is.
    let n = length (entries_in c.args.n c.args.store.now) in
    behind_even n c.args.row c.args.numbers.now all (even_in n c.args.row c.in_default.ensures) is

pub returns-in_default-clause-noted : goal.returns-in_default-clause-noted
returns-in_default-clause-noted g c = λ ts all at is f.
    let es = entries_in c.args.n c.args.store.now in
    from_same g.D.Digester.digest_of es ts c.args.row c.args.rows.now.items (even_in (length es) c.args.row c.in_default.ensures) f

pub returns-in_default-clause-later : goal.returns-in_default-clause-later
returns-in_default-clause-later g c =
    let es = entries_in c.args.n c.args.store.now in
    behind_none es c.args.row c.args.numbers.now (even_in (length es) c.args.row c.in_default.ensures) c.requires.later

pub returns-in_default-clause-places : goal.returns-in_default-clause-places
returns-in_default-clause-places g c = ([], refl, places_none (entries_in c.args.n c.args.store.now) c.args.places.now.items)

pub descend-requires-clause-stands : goal.descend-requires-clause-stands
descend-requires-clause-stands g c =
    let es = entries_in c.args.n c.args.store.now in
    let root = c.in-Some.root in
    tree_at-root es root.row root.off (top_of es c.args.row root c.in-Some.ensures).top

pub returns-clause-behind : goal.returns-clause-behind
returns-clause-behind g c = λ all is.
    let es = entries_in c.args.n c.args.store.now in
    let root = c.in-Some.root in
    let t = top_of es c.args.row root c.in-Some.ensures in
    c.split_at.ensures.back ∙ (c.count_upto.ensures.beyond ∙ slot_leaves (length es) c.args.row root.off c.args.numbers.now all t.odd t.off_is is)

pub returns-clause-noted : goal.returns-clause-noted
returns-clause-noted g c = λ ts all at is f.
    let H = g.D.Digester.digest_of in
    let es = entries_in c.args.n c.args.store.now in
    let row = c.args.row in
    let root = c.in-Some.root in
    let t = top_of es row root c.in-Some.ensures in
    let has = c.split_at.ensures.front
    ∙ (c.count_upto.ensures.upto ∙ slot_has (length es) row root.off c.args.numbers.now all t.odd t.off_is is) in
    let parts = subst (λ r. c.split_at.result.0.now ≡ filter (λ i. i / 2 ^ r == root.off) all) (sym t.row_is) has in
    elim c.if-not-is_empty.branch [
      | then-not-is_empty+in_ok-descend w ↦
          subst (λ rows. AreFrom H es ts row rows.items) (sym w.rows-is)
          (from_more H es ts row root c.args.rows.now.items w.descend.new.rows.items t.row_is t.off_is t.odd f
          (w.in_ok-descend.ensures.noted ts all at (record {
            are = parts;
            beside =
                λ none. absurd (true≢false (sym (c.is_empty.ensures ∙ eq-eqb _ _ (ap length none)) ∙ w.if-not-is_empty.true));
          })))
      | else-not-is_empty w ↦
          let none = nil_from_length _ (eqb-true _ _ (sym c.is_empty.ensures ∙ w.if-not-is_empty.false)) in
          subst (λ rows. AreFrom H es ts row rows.items) (sym w.rows-is)
          (from_more H es ts row root c.args.rows.now.items c.args.rows.now.items t.row_is t.off_is t.odd f
          (slot_nothing H es ts all at root c.args.rows.now.items t.top (sym parts ∙ none)))
    ]

pub descend-requires-clause-inside : goal.descend-requires-clause-inside
descend-requires-clause-inside g c =
    let es = entries_in c.args.n c.args.store.now in
    let root = c.in-Some.root in
    let t = top_of es c.args.row root c.in-Some.ensures in
    subst (λ r. AreIn es r root.off c.split_at.result.0.now) (sym t.row_is)
    (subst (AreIn es c.args.row root.off) (sym (c.split_at.ensures.front ∙ c.count_upto.ensures.upto))
    (in_slot es c.args.row root.off c.args.numbers.now t.odd t.off_is c.requires.later))

pub returns-clause-later : goal.returns-clause-later
returns-clause-later g c =
    let es = entries_in c.args.n c.args.store.now in
    let root = c.in-Some.root in
    let t = top_of es c.args.row root c.in-Some.ensures in
    subst (AreBehind es c.args.row) (sym (c.split_at.ensures.back ∙ c.count_upto.ensures.beyond))
    (behind_slot es c.args.row root.off c.args.numbers.now t.odd t.off_is c.requires.later)

pub returns-clause-places : goal.returns-clause-places
returns-clause-places g c =
    let es = (entries_in c.args.n c.args.store.now) in
    let xs = c.args.numbers.now in
    let here = c.split_at.result.0.now in
    let all : here ++ c.split_at.result.1.now ≡ xs = ap₂ (λ low high. low ++ high) c.split_at.ensures.front c.split_at.ensures.back
    ∙ take-append-drop c.count_upto.result xs in (
      here,
      all,
      elim c.if-not-is_empty.branch [
        | then-not-is_empty+in_ok-descend w ↦ subst (λ ps. HasPlaces es here c.args.places.now.items ps.items) (sym w.places-is)
            w.in_ok-descend.ensures.places
        | else-not-is_empty w ↦
            let none : here ≡ [] = nil_from_length _ (eqb-true _ _ (sym c.is_empty.ensures ∙ w.if-not-is_empty.false)) in
            subst (λ ps. HasPlaces es here c.args.places.now.items ps.items) (sym w.places-is)
            (subst (λ ys. HasPlaces es ys c.args.places.now.items c.args.places.now.items) (sym none) (places_none es c.args.places.now.items))
      ],
    )

pub descend-requires-clause-within : goal.descend-requires-clause-within
descend-requires-clause-within g c = (top_of (entries_in c.args.n c.args.store.now) c.args.row c.in-Some.root c.in-Some.ensures).within

pub descend-requires-clause-there : goal.descend-requires-clause-there
descend-requires-clause-there g c = (top_of (entries_in c.args.n c.args.store.now) c.args.row c.in-Some.root c.in-Some.ensures).within

pub descend-requires-clause-rise : goal.descend-requires-clause-rise
descend-requires-clause-rise g c =
    subst IsNonDecreasing (sym c.split_at.ensures.front) (IsNonDecreasingBy-take (λ x. x) _ c.args.numbers.now c.requires.rise)

pub returns-clause-rise : goal.returns-clause-rise
returns-clause-rise g c =
    subst IsNonDecreasing (sym c.split_at.ensures.back) (IsNonDecreasingBy-drop (λ x. x) _ c.args.numbers.now c.requires.rise)
