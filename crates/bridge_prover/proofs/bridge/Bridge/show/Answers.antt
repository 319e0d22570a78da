use Rattle.std.proofs.Common.{◌≡◌, ◌+◌, ◌*◌, ◌≤◌, length, None, Option, sym, ap, ◌∙◌, subst}
use Rattle.std.specs.Prelude.{option_copied, option_map, IfSome}
use Rattle.std.proofs.lemmas.Result.{IfOk-weaker, IfErr-weaker}
use Rattle.forest_place.specs.Position.{rows}
use Rattle.block_rules.specs.declared.refusal.Refusal.TheVariants as Why
use Rattle.node_rules.specs.Accepting.{proof_fault}
use Rattle.node_rules.specs.Judged.{IsFirst, handed_as}
use Rattle.node_rules.specs.Judging.{found_by}
use Rattle.node_rules.specs.Messages.{points_of}
use Rattle.node_rules.specs.Reading.{handed_in, read}
use Rattle.bridge_prover.specs.declared.bridge.judge.Shown.{Shown}
use Rattle.bridge_prover.specs.Full.{history_of, watched_by}
use Rattle.bridge_prover.specs.Shown.{AreKnown, Shows}
use Rattle.bridge_prover.specs.Standing.{IsBridge}
use Rattle.bridge_prover.specs.Taken.{refusal_beside, view_on}
use Rattle.bridge_prover.proofs.Historied.{known_so}
use Rattle.bridge_prover.proofs.Taking.{proof_first, message_passes, nothing_passes, nothing_shows}
use Rattle.bridge_prover.proofs.bridge.Bridge.show.Goals as goal

pub show_by-requires-clause-known : goal.show_by-requires-clause-known
show_by-requires-clause-known g c =
    let H = g.D.Digester.digest_of in
    let s = c.args.self.now in
    let is = subst (IsBridge H) c.self.view_is c.self.invariant.0 in
    subst (AreKnown H (watched_by s) (history_of s)) (sym c.deref.ensures.value)
    (known_so H s c.in_ok-known.known.items is c.in_ok-known.ensures.own c.in_ok-known.ensures.ascends)

pub returns-in_default-clause-passes : goal.returns-in_default-clause-passes
returns-in_default-clause-passes g c =
    nothing_passes g.D.Digester.digest_of c.args.self.now c.args.spends.now.external (handed_in (option_copied c.args.message))
    (c.in_ok-message.ensures.is ∙ ap handed_as c.in_default.is) c.in_ok-message.ensures.passes

pub returns-in_default-clause-shows : goal.returns-in_default-clause-shows
returns-in_default-clause-shows g c =
    nothing_shows g.D.Digester.digest_of c.args.self.now c.args.spends.now.external (handed_in (option_copied c.args.message)) _
    (c.in_ok-message.ensures.is ∙ ap handed_as c.in_default.is) c.new.ensures.items

pub returns-in_default-clause-found : goal.returns-in_default-clause-found
returns-in_default-clause-found g c =
    c.new-in_default.ensures.items ∙ sym (ap found_by (c.in_ok-message.ensures.is ∙ ap handed_as c.in_default.is))

pub returns-clause-passes : goal.returns-clause-passes
returns-clause-passes g c =
    let H = g.D.Digester.digest_of in
    let s = c.args.self.now in
    let ext = c.args.spends.now.external in
    let handed = handed_in (option_copied c.args.message) in
    IfOk-weaker c.show_by.result (λ x. proof_fault H (view_on H s) (points_of c.external.result.now) c.in-Some.message ≡ None)
    (λ x. refusal_beside H s ext handed ≡ None)
    (λ x e. message_passes H s ext handed c.in-Some.message (c.in_ok-message.ensures.is ∙ ap handed_as c.in-Some.is)
    c.in_ok-message.ensures.passes
    (subst (λ xs. proof_fault H (view_on H s) (points_of xs) c.in-Some.message ≡ None) c.external.ensures e))
    c.show_by.ensures.passes

pub returns-clause-shows : goal.returns-clause-shows
returns-clause-shows g c =
    let H = g.D.Digester.digest_of in
    let s = c.args.self.now in
    let ext = c.args.spends.now.external in
    let handed = handed_in (option_copied c.args.message) in
    IfOk-weaker c.show_by.result
    (λ (x : Option Shown). Shows H (watched_by s) (history_of s) c.external.result.now (read c.in-Some.message)
    (option_map (λ a. a.numbers.items) x))
    (λ (x : Option Shown). Shows H (watched_by s) (history_of s) ext handed (option_map (λ a. a.numbers.items) x))
    (λ (x : Option Shown) e. subst (λ h. Shows H (watched_by s) (history_of s) ext h (option_map (λ a. a.numbers.items) x))
    (sym (c.in_ok-message.ensures.is ∙ ap handed_as c.in-Some.is))
    (subst (λ xs. Shows H (watched_by s) (history_of s) xs (read c.in-Some.message) (option_map (λ a. a.numbers.items) x))
    c.external.ensures e))
    c.show_by.ensures.shows

pub returns-clause-found : goal.returns-clause-found
returns-clause-found g c =
    IfOk-weaker c.show_by.result (λ (x : Option Shown). IfSome x (λ a. a.found.items ≡ found_by (read c.in-Some.message)))
    (λ (x : Option Shown). IfSome x (λ a. a.found.items ≡ found_by (handed_in (option_copied c.args.message))))
    (λ (x : Option Shown) e. subst (λ h. IfSome x (λ a. a.found.items ≡ found_by h))
    (sym (c.in_ok-message.ensures.is ∙ ap handed_as c.in-Some.is)) e)
    c.show_by.ensures.found

pub returns-clause-err : goal.returns-clause-err
returns-clause-err g c =
    let H = g.D.Digester.digest_of in
    let s = c.args.self.now in
    let ext = c.args.spends.now.external in
    let handed = handed_in (option_copied c.args.message) in
    IfErr-weaker c.show_by.result
    (λ fault. IsFirst (option_map Why.Proof (proof_fault H (view_on H s) (points_of c.external.result.now) c.in-Some.message)) fault)
    (λ fault. IsFirst (refusal_beside H s ext handed) fault)
    (λ fault e. proof_first H (view_on H s) ext handed c.in-Some.message fault
    (c.in_ok-message.ensures.is ∙ ap handed_as c.in-Some.is) c.in_ok-message.ensures.passes
    (subst (λ xs. IsFirst (option_map Why.Proof (proof_fault H (view_on H s) (points_of xs) c.in-Some.message)) fault) c.external.ensures e))
    c.show_by.ensures.err

pub returns-clause-steps : goal.returns-clause-steps
returns-clause-steps g c =
    subst (λ ext. c.show_by.new.steps ≤ c.args.steps.now + length ext + 2 * (length ext * rows (length c.args.self.now.entries))) c.external.ensures
    c.show_by.ensures.steps
