use Rattle.std.proofs.Common.{◌≡◌, ◌%◌, ◌++◌, length, Some, None, refl, sym, ap, ◌∙◌, subst, arith}
use Rattle.std.proofs.lemmas.Bool.{true≢false}
use Rattle.forest_place.specs.declared.place.Place.{Place}
use Rattle.forest_place.specs.Forest.{InForest, sibling_off}
use Rattle.forest_place.proofs.Positions.{row_small}
use Rattle.forest_model.specs.Content.{content}
use Rattle.live_forest.specs.Parts.{kept}
use Rattle.live_forest.specs.Proving.{list_of}
use Rattle.live_forest.proofs.Seeking.{alike, tree_none}
use Rattle.live_forest.proofs.Noting.{there, digest_here, rows_stay}
use Rattle.live_forest.proofs.Beneath.{noted_is}
use Rattle.live_forest.proofs.Following.{first_half, other_of, first_pair, all_in_half, own_kept, pair_of, other_pair, half_within, half_stands, high_above, stand_beneath, on_half}
use Rattle.live_forest.proofs.Following.{on_both}
use Rattle.live_forest.specs.Parts.{entries_in}
use Rattle.live_forest.proofs.proving.descend_to_fork.Goals as goal

pub share_half-requires : goal.share_half-requires
share_half-requires g c =
    omega (
      arith,
      row_small (length (entries_in c.args.n c.args.store.now)) c.way.at.row c.way.at.off 40 c.way.invariant.within c.requires.small,
    )

pub overflow_shr-half : goal.overflow_shr-half
overflow_shr-half g c =
    let row = row_small (length (entries_in c.args.n c.args.store.now)) c.way.at.row c.way.at.off 40 c.way.invariant.within c.requires.small in
    omega (arith, row)

pub beside_in-requires-clause-live : goal.beside_in-requires-clause-live
beside_in-requires-clause-live g c = (c.requires.inside 0 0 c.requires.some).0

pub beside_in-requires-clause-within : goal.beside_in-requires-clause-within
beside_in-requires-clause-within g c =
    let es = entries_in c.args.n c.args.store.now in
    let at = c.way.at in
    let half = first_half at c.args.numbers.now in
    let other = other_of half in
    let pair = first_pair es at c.args.numbers.now c.requires.some (c.share_half.ensures.0 c.way-test.true).0 c.way.invariant.inside in
    half_within (length es) at other half (other_pair at half other pair) c.way.invariant.within

pub way-preserved-in-None : goal.way-preserved-in-None
way-preserved-in-None g c =
    let H = g.D.Digester.digest_of in
    let es = (entries_in c.args.n c.args.store.now) in
    let parts = c.args.store.now in
    let at = c.way.at in
    let q = c.way.above in
    let half = first_half at c.args.numbers.now in
    let other = other_of half in
    let share = c.share_half.ensures.0 c.way-test.true in
    let some = c.requires.some in
    let pair = first_pair es at c.args.numbers.now some share.0 c.way.invariant.inside in
    let inside = all_in_half es at c.args.numbers.now c.requires.rise some share.1 c.way.invariant.inside in
    let none : None ≡ kept es parts other.row other.off =
    c.in-None.ensures in
    let nothing : content es other.row other.off ≡ None = tree_none es parts (alike H es parts c.requires.right) other.row other.off
    (half_within (length es) at other half (other_pair at half other pair) c.way.invariant.within) none in
    record {
      within = half_within (length es) at half other pair c.way.invariant.within;
      stands = half_stands H es parts c.requires.right at half other q pair c.way.invariant.within c.way.invariant.stands none;
      there = c.way.invariant.there;
      beneath = let row = pair.row in omega (arith, row, c.way.invariant.beneath);
      inside = inside;
      wide = c.way.invariant.wide;
      on = λ ts all s w. on_half H es ts all s c.args.place at half other q _ _ _ pair (c.way.invariant.on ts all s w) nothing;
    }

pub child-below-requires-clause-row : goal.child-below-requires-clause-row
child-below-requires-clause-row g c =
    let H = g.D.Digester.digest_of in
    let es = (entries_in c.args.n c.args.store.now) in
    let parts = c.args.store.now in
    let at = c.way.at in
    let q = c.way.above in
    let half = first_half at c.args.numbers.now in
    let other = other_of half in
    let share = c.share_half.ensures.0 c.way-test.true in
    let some = c.requires.some in
    let pair = first_pair es at c.args.numbers.now some share.0 c.way.invariant.inside in
    let inside = all_in_half es at c.args.numbers.now c.requires.rise some share.1 c.way.invariant.inside in
    let one = own_kept H es parts c.requires.right half.row half.off _ (half_within (length es) at half other pair c.way.invariant.within)
    (inside 0 0 some).0 refl in
    let two : Some c.in-Some.digest.now ≡ kept es parts other.row other.off =
    c.in-Some.ensures in
    let above = high_above H es parts c.requires.right at half other q one.0 c.in-Some.digest.now pair c.way.invariant.within c.way.invariant.stands
    one.1 two in
    above

pub put-requires : goal.put-requires
put-requires g c =
    let H = g.D.Digester.digest_of in
    let es = (entries_in c.args.n c.args.store.now) in
    let parts = c.args.store.now in
    let at = c.way.at in
    let q = c.way.above in
    let half = first_half at c.args.numbers.now in
    let other = other_of half in
    let share = c.share_half.ensures.0 c.way-test.true in
    let some = c.requires.some in
    let pair = first_pair es at c.args.numbers.now some share.0 c.way.invariant.inside in
    let inside = all_in_half es at c.args.numbers.now c.requires.rise some share.1 c.way.invariant.inside in
    let one = own_kept H es parts c.requires.right half.row half.off _ (half_within (length es) at half other pair c.way.invariant.within)
    (inside 0 0 some).0 refl in
    let two : Some c.in-Some.digest.now ≡ kept es parts other.row other.off =
    c.in-Some.ensures in
    let above = high_above H es parts c.requires.right at half other q one.0 c.in-Some.digest.now pair c.way.invariant.within c.way.invariant.stands
    one.1 two in
    let below = c.child-below.result in
    let beside = c.sibling.result in
    let under = pair_of q below beside _ c.side.ensures.side above c.child-below.ensures c.sibling.ensures.row c.sibling.ensures.off in
    let alike : below.off % 2 ≡ half.off % 2 = let off = ap (λ (p : Place). p.off) c.child-below.ensures in omega (arith, off, c.side.ensures.is) in
    let beneath = stand_beneath H es parts c.requires.right at half other q below beside one.0 c.in-Some.digest.now pair under alike
    c.way.invariant.within c.way.invariant.stands one.1 two in
    let there' = there H es parts c.requires.right other.row other.off beside c.in-Some.digest.now
    (half_within (length es) at other half (other_pair at half other pair) c.way.invariant.within) beneath.other_there two in
    (c.way.invariant.wide beside.row).1 (omega (arith, there'))

pub way-preserved : goal.way-preserved
way-preserved g c =
    let H = g.D.Digester.digest_of in
    let es = (entries_in c.args.n c.args.store.now) in
    let parts = c.args.store.now in
    let at = c.way.at in
    let q = c.way.above in
    let half = first_half at c.args.numbers.now in
    let other = other_of half in
    let share = c.share_half.ensures.0 c.way-test.true in
    let some = c.requires.some in
    let pair = first_pair es at c.args.numbers.now some share.0 c.way.invariant.inside in
    let inside = all_in_half es at c.args.numbers.now c.requires.rise some share.1 c.way.invariant.inside in
    let one = own_kept H es parts c.requires.right half.row half.off _ (half_within (length es) at half other pair c.way.invariant.within)
    (inside 0 0 some).0 refl in
    let two : Some c.in-Some.digest.now ≡ kept es parts other.row other.off =
    c.in-Some.ensures in
    let above = high_above H es parts c.requires.right at half other q one.0 c.in-Some.digest.now pair c.way.invariant.within c.way.invariant.stands
    one.1 two in
    let below = c.child-below.result in
    let beside = c.sibling.result in
    let under = pair_of q below beside _ c.side.ensures.side above c.child-below.ensures c.sibling.ensures.row c.sibling.ensures.off in
    let alike : below.off % 2 ≡ half.off % 2 = let off = ap (λ (p : Place). p.off) c.child-below.ensures in omega (arith, off, c.side.ensures.is) in
    let beneath = stand_beneath H es parts c.requires.right at half other q below beside one.0 c.in-Some.digest.now pair under alike
    c.way.invariant.within c.way.invariant.stands one.1 two in
    let within' = half_within (length es) at other half (other_pair at half other pair) c.way.invariant.within in
    let noted = c.in_ok-put-in-Some.ensures.here ∙ ap (λ xs. list_of c.way.rows.items beside.row ++ xs)
    (sym (noted_is H es beside c.in-Some.digest.now
    (digest_here H es parts c.requires.right other.row other.off beside c.in-Some.digest.now within' beneath.other_there two))) in
    record {
      within = half_within (length es) at half other pair c.way.invariant.within;
      stands = beneath.half_there;
      there = half_within (length es) q below beside under c.way.invariant.there;
      beneath = let row = pair.row in omega (arith, row, c.way.invariant.beneath);
      inside = inside;
      wide = rows_stay (length es) c.way.rows.items c.put.new.rows.items c.put.ensures.len c.way.invariant.wide;
      on = λ ts all s w. on_both H es ts all s c.args.place at half other q below beside _ _ _ _ pair under some inside alike
          c.way.invariant.there c.way.invariant.stands beneath noted c.put.ensures.others (c.way.invariant.on ts all s w);
    }

pub returns-in_err-put-in-Some-clause-wide : goal.returns-in_err-put-in-Some-clause-wide
returns-in_err-put-in-Some-clause-wide g c =
    rows_stay (length (entries_in c.args.n c.args.store.now)) c.way.rows.items c.put.new.rows.items c.put.ensures.len c.way.invariant.wide

pub returns-clause-is : goal.returns-clause-is
returns-clause-is g c = record {
  beneath = c.way.invariant.beneath;
  within = c.way.invariant.within;
  stands = c.way.invariant.stands;
  there = c.way.invariant.there;
  inside = c.way.invariant.inside;
  apart = λ some share. true≢false (sym (c.share_half.ensures.1 (some, share)) ∙ c.way-test.false);
}
