use Rattle.std.proofs.Common.{◌≡◌, Some, refl, sym, ap, subst, ◌∙◌}
use Rattle.std.specs.Prelude.{IsSome}
use Rattle.std.proofs.lemmas.Option.{same_Some}
use Rattle.output_index.specs.declared.entry.Entry.{Entry}
use Rattle.output_index.specs.Entries.{held_in, removed, changed, set_older}
use Rattle.output_index.specs.Links.{mark_in}
use Rattle.output_index.specs.NewestByMark.{newest_with}
use Rattle.output_index.specs.Overflow.{TellsOther}
use Rattle.output_index.proofs.Holding.{held-set_older}
use Rattle.output_index.proofs.Chaining.{alike, newest-there, chained-alike, chained-between, chained-newest, mark-held, mark_there, newest-above}
use Rattle.output_index.proofs.Chaining.{teller}
use Rattle.output_index.proofs.links.unlink.Goals as goal

pub at-entry-requires : goal.at-entry-requires
at-entry-requires c = mark-held c.args.number c.args.mark c.args.entries.now c.requires.mark

pub take_newest-requires : goal.take_newest-requires
take_newest-requires c = newest-there c.args.number c.args.mark c.args.entries.now c.args.marks.now c.requires.mark c.requires.chained

pub next_newer-newer-requires-clause-same : goal.next_newer-newer-requires-clause-same
next_newer-newer-requires-clause-same c =
    let n = c.args.number in
    let t = c.in-Some.newest in
    let e : Entry = c.at-entry.result.now in
    let old = c.args.marks.now in
    let mark : c.args.mark ≡ mark_in e = same_Some c.args.mark (mark_in e)
    (sym c.requires.mark ∙ mark_there n e c.args.entries.now c.at-entry.ensures) in
    let told = subst (TellsOther n (newest_with old c.args.mark)) c.in-Some.is c.take_newest.ensures.other in
    (newest-above n t e c.args.entries.now old c.at-entry.ensures (subst (λ m. newest_with old m ≡ Some t) mark told.0) told.1 c.requires.chained).1

pub next_newer-newer-requires-clause-below : goal.next_newer-newer-requires-clause-below
next_newer-newer-requires-clause-below c =
    let n = c.args.number in
    let t = c.in-Some.newest in
    let e : Entry = c.at-entry.result.now in
    let old = c.args.marks.now in
    let mark : c.args.mark ≡ mark_in e = same_Some c.args.mark (mark_in e)
    (sym c.requires.mark ∙ mark_there n e c.args.entries.now c.at-entry.ensures) in
    let told = subst (TellsOther n (newest_with old c.args.mark)) c.in-Some.is c.take_newest.ensures.other in
    (newest-above n t e c.args.entries.now old c.at-entry.ensures (subst (λ m. newest_with old m ≡ Some t) mark told.0) told.1 c.requires.chained).0

pub set_older-requires : goal.set_older-requires
set_older-requires c =
    let k = teller c.args.number c.next_newer-newer.result c.args.entries.now c.next_newer-newer.ensures in
    subst IsSome (sym k.1) refl

pub returns-in-Some-clause-chained : goal.returns-in-Some-clause-chained
returns-in-Some-clause-chained c =
    let n = c.args.number in
    let k = c.next_newer-newer.result in
    let e : Entry = c.at-entry.result.now in
    let es = c.args.entries.now in
    let old = c.args.marks.now in
    let new = c.take_newest.new.self in
    let some : IsSome c.take_newest.result = subst IsSome (sym c.in-Some.is) refl in
    let same = alike c.args.mark old new (c.take_newest.ensures.stays some) c.take_newest.ensures.others in
    rw c.set_older.ensures
    (chained-alike (removed n (changed k (set_older e.older) es)) old new same
    (chained-between n k e es old c.at-entry.ensures c.next_newer-newer.ensures c.requires.chained))

pub returns-in-Some-clause-same : goal.returns-in-Some-clause-same
returns-in-Some-clause-same c = ap held_in c.set_older.ensures
    ∙ held-set_older c.next_newer-newer.result c.at-entry.result.now.older c.args.entries.now

pub returns-in-None-clause-chained : goal.returns-in-None-clause-chained
returns-in-None-clause-chained c =
    let n = c.args.number in
    let e : Entry = c.at-entry.result.now in
    let old = c.args.marks.now in
    let new = c.take_newest.new.self in
    let mark : c.args.mark ≡ mark_in e = same_Some c.args.mark (mark_in e)
    (sym c.requires.mark ∙ mark_there n e c.args.entries.now c.at-entry.ensures) in
    let was = subst (TellsOther n (newest_with old c.args.mark)) c.in-None.is c.take_newest.ensures.other in
    chained-newest n e c.args.entries.now old new c.at-entry.ensures
    (subst (λ m. newest_with old m ≡ Some n) mark was)
    (subst (λ m. newest_with new m ≡ e.older) mark (c.take_newest.ensures.older c.in-None.is))
    (λ m apart. c.take_newest.ensures.others m (λ s. apart (s ∙ mark)))
    c.requires.chained
