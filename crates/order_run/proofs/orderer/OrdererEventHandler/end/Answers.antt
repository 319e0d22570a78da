use Rattle.std.proofs.Common.{sym}
use Rattle.std.proofs.KnownBytes.{Appends-nil}
use Rattle.order_run.proofs.Ending.{ends_ordered, ends_no_tip, ends_missing, ends_loop, OnOk-any, told_numbers}
use Rattle.order_run.proofs.Numbers.{numbers_within}
use Rattle.order_run.proofs.orderer.OrdererEventHandler.end.Goals as goal

pub write_path-requires : goal.write_path-requires
write_path-requires g c =
    let t = told_numbers _ _ c.self.view_is _ _ (sym c.deref.ensures.value) c.in-Ok.ensures.told in
    numbers_within _ _ t.path t.are

pub returns-in-Ok-clause-status : goal.returns-in-Ok-clause-status
returns-in-Ok-clause-status g c =
    let t = told_numbers _ _ c.self.view_is _ _ (sym c.deref.ensures.value) c.in-Ok.ensures.told in
    rw (ends_ordered c.args.self.now.net c.args.self.now.blocks _ _ _ t.path t.are t.told) c.write_path.ensures.status

pub returns-in-Ok-clause-said : goal.returns-in-Ok-clause-said
returns-in-Ok-clause-said g c =
    let t = told_numbers _ _ c.self.view_is _ _ (sym c.deref.ensures.value) c.in-Ok.ensures.told in
    rw (ends_ordered c.args.self.now.net c.args.self.now.blocks _ _ _ t.path t.are t.told) c.write_path.ensures.said

pub returns-in-Ok-clause-sent : goal.returns-in-Ok-clause-sent
returns-in-Ok-clause-sent g c =
    let t = told_numbers _ _ c.self.view_is _ _ (sym c.deref.ensures.value) c.in-Ok.ensures.told in
    rw (ends_ordered c.args.self.now.net c.args.self.now.blocks _ _ _ t.path t.are t.told) c.write_path.ensures.sent

pub returns-in-Ok-clause-part : goal.returns-in-Ok-clause-part
returns-in-Ok-clause-part g c =
    let t = told_numbers _ _ c.self.view_is _ _ (sym c.deref.ensures.value) c.in-Ok.ensures.told in
    rw (ends_ordered c.args.self.now.net c.args.self.now.blocks _ _ _ t.path t.are t.told) c.write_path.ensures.part

pub returns-in-Ok-clause-untouched : goal.returns-in-Ok-clause-untouched
returns-in-Ok-clause-untouched g c =
    let t = told_numbers _ _ c.self.view_is _ _ (sym c.deref.ensures.value) c.in-Ok.ensures.told in
    rw (ends_ordered c.args.self.now.net c.args.self.now.blocks _ _ _ t.path t.are t.told) c.write_path.ensures.untouched

pub returns-in-Err-NoTip-clause-status : goal.returns-in-Err-NoTip-clause-status
returns-in-Err-NoTip-clause-status g c =
    let told = rw c.in-Err-NoTip.field-0-is at c.in-Err-NoTip.ensures.told in
    rw (← c.self.view_is) (rw (ends_no_tip _ _ _ _ told) c.refuse.ensures.status)

pub returns-in-Err-NoTip-clause-said : goal.returns-in-Err-NoTip-clause-said
returns-in-Err-NoTip-clause-said g c =
    let told = rw c.in-Err-NoTip.field-0-is at c.in-Err-NoTip.ensures.told in
    rw (← c.self.view_is) (rw (ends_no_tip _ _ _ _ told) c.refuse.ensures.said)

pub returns-in-Err-NoTip-clause-sent : goal.returns-in-Err-NoTip-clause-sent
returns-in-Err-NoTip-clause-sent g c =
    let told = rw c.in-Err-NoTip.field-0-is at c.in-Err-NoTip.ensures.told in
    rw (← c.self.view_is) (rw (ends_no_tip _ _ _ _ told) (OnOk-any c.refuse.result (Appends-nil _)))

pub returns-in-Err-Missing-clause-status : goal.returns-in-Err-Missing-clause-status
returns-in-Err-Missing-clause-status g c =
    let told = rw c.in-Err-Missing.field-0-is at c.in-Err-Missing.ensures.told in
    rw (← c.self.view_is) (rw (ends_missing _ _ _ _ _ told) c.refuse-in-Err-Missing.ensures.status)

pub returns-in-Err-Missing-clause-said : goal.returns-in-Err-Missing-clause-said
returns-in-Err-Missing-clause-said g c =
    let told = rw c.in-Err-Missing.field-0-is at c.in-Err-Missing.ensures.told in
    rw (← c.self.view_is) (rw (ends_missing _ _ _ _ _ told) c.refuse-in-Err-Missing.ensures.said)

pub returns-in-Err-Missing-clause-sent : goal.returns-in-Err-Missing-clause-sent
returns-in-Err-Missing-clause-sent g c =
    let told = rw c.in-Err-Missing.field-0-is at c.in-Err-Missing.ensures.told in
    rw (← c.self.view_is) (rw (ends_missing _ _ _ _ _ told) (OnOk-any c.refuse-in-Err-Missing.result (Appends-nil _)))

pub returns-in-Err-Loop-clause-status : goal.returns-in-Err-Loop-clause-status
returns-in-Err-Loop-clause-status g c =
    let told = rw c.in-Err-Loop.field-0-is at c.in-Err-Loop.ensures.told in
    rw (← c.self.view_is) (rw (ends_loop _ _ _ _ _ told) c.refuse-in-Err-Loop.ensures.status)

pub returns-in-Err-Loop-clause-said : goal.returns-in-Err-Loop-clause-said
returns-in-Err-Loop-clause-said g c =
    let told = rw c.in-Err-Loop.field-0-is at c.in-Err-Loop.ensures.told in
    rw (← c.self.view_is) (rw (ends_loop _ _ _ _ _ told) c.refuse-in-Err-Loop.ensures.said)

pub returns-in-Err-Loop-clause-sent : goal.returns-in-Err-Loop-clause-sent
returns-in-Err-Loop-clause-sent g c =
    let told = rw c.in-Err-Loop.field-0-is at c.in-Err-Loop.ensures.told in
    rw (← c.self.view_is) (rw (ends_loop _ _ _ _ _ told) (OnOk-any c.refuse-in-Err-Loop.result (Appends-nil _)))
