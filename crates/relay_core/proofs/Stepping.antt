-- What a step leaves, from what it answers.
use Rattle.std.proofs.Common.{◌≡◌, ℕ, ◌+◌, ◌≤◌, Bool, true, false, List, [], ◌∷◌, ◌++◌, length, Option, Some, None, Result, Ok, Err, cond, sym, subst}
use Rattle.std.proofs.Common.{arith}
use Rattle.std.specs.Prelude.{IfOk, OnOk, OnErr, slice_get}
use Rattle.std.proofs.lemmas.List.{length-append}
use Rattle.uo_base.specs.FeedEvent.{FeedEvent, BlockCame, RollbackCame, StrayCame}
use Rattle.uo_digest.specs.declared.digest.Digest.{Digest}
use Rattle.node_rules.specs.Machine.{event_in}
use Rattle.bridge_prover.specs.Bridge.{verdict_on, message_on}
use Rattle.relay_core.specs.declared.act.Outcome.{Outcome}
use Rattle.relay_core.specs.Changes.{ChangesAsTold}
use Rattle.relay_core.specs.Acts.{WorldAct, BridgeTook, FollowerAsked, AskServed, ReplyDelivered}
use Rattle.relay_core.specs.World.{FollowerState, WorldState, is_acceptance, sent_of, with_ask, with_reply, next_world, outcome_on}
use Rattle.relay_core.specs.Branches.{Begun, AreActBytes, StandsForActs, AreOnBranches, IsNeverRefused, IsNotLost, Digests}
use Rattle.relay_core.proofs.Changing.{outcomes_tell_changes}
use Rattle.relay_core.proofs.Acting.{acts_are_followed, followers_are_on_branches, no_reply_is_lost, replies_are_never_refused}

pub on_ok : {T E : Type 0} (r : Result T E) (A B : Type 0) → OnOk r A → (A → B) → OnOk r B
on_ok (Ok x) A B h f = f h
on_ok (Err e) A B h f = tt

either : {T E : Type 0} (r : Result T E) (A B C : Type 0) → OnOk r A → OnErr r B → (A → C) → (B → C) → C
either (Ok x) A B C h k f g = f h
either (Err e) A B C h k f g = g k

-- a step gives one serial at most
one_sent : (event : FeedEvent) (message : Option (List ℕ)) (b : Bool) → length (cond b (sent_of event message) []) ≤ 1
one_sent (BlockCame block beside) message true = omega arith
one_sent (RollbackCame count) message true = omega arith
one_sent StrayCame message true = omega arith
one_sent event message false = omega arith

module _ (H : List ℕ → Digest) where
  given_one : (w : WorldState) (act : WorldAct) → length (next_world H w act).sent ≤ length w.sent + 1
  given_one w (BridgeTook event) =
      let e = event_in event in
      let few = one_sent event (message_on H w.bridge e) (is_acceptance (verdict_on w.bridge e)) in
      omega (arith, length-append w.sent (cond (is_acceptance (verdict_on w.bridge e)) (sent_of event (message_on H w.bridge e)) []), few)
  given_one w (FollowerAsked f) = by (slice_get w.followers f)
    where
      by : (x : Option FollowerState) → length (with_ask w x).sent ≤ length w.sent + 1
      by None = omega arith
      by (Some x) = omega arith
  given_one w (AskServed j) = by (slice_get w.asks j)
    where
      by : (x : Option (List ℕ)) → length (with_reply w x).sent ≤ length w.sent + 1
      by None = omega arith
      by (Some x) = omega arith
  given_one w (ReplyDelivered f j) = omega arith

  pub counted : {T E : Type 0} (r : Result T E) (w v : WorldState) (act : WorldAct) → OnOk r (v ≡ next_world H w act) → OnErr r (v ≡ w)
      → length v.sent ≤ length w.sent + 1
  counted r w v act next stays =
      either r (v ≡ next_world H w act) (v ≡ w) (length v.sent ≤ length w.sent + 1) next stays
      (λ is. subst (λ u. length u.sent ≤ length w.sent + 1) (sym is) (given_one w act))
      (λ is. subst (λ u. length u.sent ≤ length w.sent + 1) (sym is) (omega arith))

  pub stands_on : (w v : WorldState) (act : WorldAct) → AreActBytes act → v ≡ next_world H w act →
      (begun : Begun) (acts : List WorldAct) → StandsForActs H begun acts w → StandsForActs H begun (acts ++ act ∷ []) v
  stands_on w v act are is begun acts stands =
      subst (StandsForActs H begun (acts ++ act ∷ [])) (sym is) ((acts_are_followed H begun).1 acts w act are stands)

  pub branches_on : Digests H → (w v : WorldState) (act : WorldAct) → AreActBytes act → v ≡ next_world H w act →
      (begun : Begun) (acts : List WorldAct) → StandsForActs H begun acts w → AreOnBranches H begun (acts ++ act ∷ []) v
  branches_on long w v act are is begun acts stands =
      followers_are_on_branches H long begun (acts ++ act ∷ []) v (stands_on w v act are is begun acts stands)

  pub never_against : Digests H → (w : WorldState) (begun : Begun) (acts : List WorldAct) → StandsForActs H begun acts w
      → IsNeverRefused H w
  never_against long w begun acts stands = replies_are_never_refused H long begun acts w stands

  pub found_on : {E : Type 0} (r : Result Outcome E) → Digests H → (w : WorldState) (act : WorldAct) → IfOk r (λ o. o ≡ outcome_on w act)
      → IfOk r (λ o. (begun : Begun) (acts : List WorldAct) → StandsForActs H begun acts w → IsNotLost o)
  found_on (Ok o) long w act is = λ begun acts stands. subst IsNotLost (sym is) (no_reply_is_lost H long begun acts w stands act)
  found_on (Err e) long w act is = tt

  pub told_on : {E : Type 0} (r : Result Outcome E) (w v : WorldState) (act : WorldAct) → IfOk r (λ o. o ≡ outcome_on w act)
      → OnOk r (v ≡ next_world H w act) → IfOk r (λ o. ChangesAsTold o w v)
  told_on (Ok o) w v act is next =
      subst (λ p. ChangesAsTold p w v) (sym is) (subst (ChangesAsTold (outcome_on w act) w) (sym next) (outcomes_tell_changes H w act))
  told_on (Err e) w v act is next = tt
