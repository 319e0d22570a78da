use Rattle.std.proofs.Common.{◌≡◌, ◌∙◌, length, Some, ap, subst, Ok}
use Rattle.std.specs.Prelude.{option_map}
use Rattle.uo_base.specs.FeedEvent.{event_of}
use Rattle.node_rules.specs.Laws.{kept_after}
use Rattle.node_rules.specs.Machine.{event_in}
use Rattle.bridge_prover.specs.Laws.{LevelsTold, SaysAsOwn}
use Rattle.bridge_prover.specs.Standing.{IsBridge}
use Rattle.bridge_prover.proofs.Refining.{bridge_is_own}
use Rattle.bridge_prover.proofs.Telling.{levels_told, next_kept, stepped, stepped_block}
use Rattle.bridge_prover.proofs.bridge.Bridge.step.Goals as goal

pub returns-in-Block-clause-levels : goal.returns-in-Block-clause-levels
returns-in-Block-clause-levels g c =
    let s = c.args.self.now in
    let is = subst (IsBridge g.D.Digester.digest_of) c.self.view_is c.self.invariant.0 in
    stepped_block (λ p. p.verdict) (λ p. option_map (λ bytes. bytes.items) p.message) g.D.Digester.digest_of (λ e v m s'. LevelsTold s v s')
    s c.take_bytes.new.self c.args.event _ _ c.take_bytes.result (ap (λ x. event_in (event_of x)) c.in-Block.is)
    (λ e. levels_told g.D.Digester.digest_of s e is) c.take_bytes.ensures.verdict c.take_bytes.ensures.message c.take_bytes.ensures.next

pub returns-in-Block-clause-kept : goal.returns-in-Block-clause-kept
returns-in-Block-clause-kept g c =
    let s = c.args.self.now in
    stepped_block (λ p. p.verdict) (λ p. option_map (λ bytes. bytes.items) p.message) g.D.Digester.digest_of
    (λ e v m s'. length s'.undo ≡ kept_after (Some v) (length s.undo)) s c.take_bytes.new.self c.args.event _ _ c.take_bytes.result
    (ap (λ x. event_in (event_of x)) c.in-Block.is)
    (next_kept g.D.Digester.digest_of s) c.take_bytes.ensures.verdict c.take_bytes.ensures.message c.take_bytes.ensures.next

pub returns-in-Block-clause-refines : goal.returns-in-Block-clause-refines
returns-in-Block-clause-refines g c =
    let s = c.args.self.now in
    let is = subst (IsBridge g.D.Digester.digest_of) c.self.view_is c.self.invariant.0 in
    stepped_block (λ p. p.verdict) (λ p. option_map (λ bytes. bytes.items) p.message) g.D.Digester.digest_of
    (λ e v m s'. SaysAsOwn g.D.Digester.digest_of s e v m s') s c.take_bytes.new.self c.args.event _ _ c.take_bytes.result
    (ap (λ x. event_in (event_of x)) c.in-Block.is)
    (λ e. bridge_is_own g.D.Digester.digest_of s e is) c.take_bytes.ensures.verdict c.take_bytes.ensures.message c.take_bytes.ensures.next

pub returns-in-Rollback-clause-levels : goal.returns-in-Rollback-clause-levels
returns-in-Rollback-clause-levels g c =
    let s = c.args.self.now in
    let is = subst (IsBridge g.D.Digester.digest_of) c.self.view_is c.self.invariant.0 in
    stepped {E = Unit {0}} (λ p. p.verdict) (λ p. option_map (λ bytes. bytes.items) p.message) g.D.Digester.digest_of
    (λ e v m s'. LevelsTold s v s') s c.roll_back.new.self c.args.event _ (Ok c.alone.result) (ap (λ x. event_in (event_of x)) c.in-Rollback.is)
    (λ e. levels_told g.D.Digester.digest_of s e is) (c.alone.ensures.verdict ∙ c.roll_back.ensures.verdict)
    (ap (option_map (λ bytes. bytes.items)) c.alone.ensures.message) c.roll_back.ensures.next

pub returns-in-Rollback-clause-kept : goal.returns-in-Rollback-clause-kept
returns-in-Rollback-clause-kept g c =
    let s = c.args.self.now in
    stepped {E = Unit {0}} (λ p. p.verdict) (λ p. option_map (λ bytes. bytes.items) p.message) g.D.Digester.digest_of
    (λ e v m s'. length s'.undo ≡ kept_after (Some v) (length s.undo)) s c.roll_back.new.self c.args.event _ (Ok c.alone.result)
    (ap (λ x. event_in (event_of x)) c.in-Rollback.is)
    (next_kept g.D.Digester.digest_of s) (c.alone.ensures.verdict ∙ c.roll_back.ensures.verdict)
    (ap (option_map (λ bytes. bytes.items)) c.alone.ensures.message) c.roll_back.ensures.next

pub returns-in-Rollback-clause-refines : goal.returns-in-Rollback-clause-refines
returns-in-Rollback-clause-refines g c =
    let s = c.args.self.now in
    let is = subst (IsBridge g.D.Digester.digest_of) c.self.view_is c.self.invariant.0 in
    stepped {E = Unit {0}} (λ p. p.verdict) (λ p. option_map (λ bytes. bytes.items) p.message) g.D.Digester.digest_of
    (λ e v m s'. SaysAsOwn g.D.Digester.digest_of s e v m s') s c.roll_back.new.self c.args.event _ (Ok c.alone.result)
    (ap (λ x. event_in (event_of x)) c.in-Rollback.is)
    (λ e. bridge_is_own g.D.Digester.digest_of s e is) (c.alone.ensures.verdict ∙ c.roll_back.ensures.verdict)
    (ap (option_map (λ bytes. bytes.items)) c.alone.ensures.message) c.roll_back.ensures.next
