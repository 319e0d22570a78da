-- A world behind what its parts were left as.
use Rattle.std.proofs.Common.{◌≡◌, ℕ, zero, suc, Bool, true, false, List, [], ◌∷◌, ◌++◌, length, Option, Some, Result, Ok, Err, cond, refl, sym, ap}
use Rattle.std.proofs.Common.{ap₂, ◌∙◌}
use Rattle.std.specs.Prelude.{OnOk, OnErr, slice_get, slice_set}
use Rattle.std.proofs.lemmas.List.{append-nil}
use Rattle.std.proofs.lemmas.Option.{same_Some}
use Rattle.uo_base.specs.FeedEvent.{BlockCame, RollbackCame}
use Rattle.uo_digest.specs.declared.digest.Digest.{Digest}
use Rattle.node_rules.specs.Machine.{event_in}
use Rattle.bridge_prover.specs.Bridge.{BridgeState, verdict_on, next_bridge, message_on}
use Rattle.relay_core.specs.declared.store.Reply.{Reply}
use Rattle.relay_core.specs.World.{Sent, FollowerState, WorldState, chain_after, is_acceptance, sent_after, with_event, with_moved, applies}
use Rattle.relay_core.specs.World.{follower_moved}

-- what is there put there again
set_same : {X : Type 0} (xs : List X) (i : ℕ) (x : X) → slice_get xs i ≡ Some x → slice_set xs i x ≡ xs
set_same [] i x e = refl
set_same (z ∷ xs) zero x e = ap (λ y. y ∷ xs) (sym (same_Some z x e))
set_same (z ∷ xs) (suc i) x e = ap (λ ys. z ∷ ys) (set_same xs i x e)

module _ (H : List ℕ → Digest) (w : WorldState) where
  -- the bridge went back: nothing is sent
  none_sent : (b : Bool) → w.sent ≡ w.sent ++ cond b [] []
  none_sent true = sym (append-nil w.sent)
  none_sent false = sym (append-nil w.sent)

  rolled : (count : ℕ) (bridge : BridgeState) (chain : List ℕ) → let e = event_in (RollbackCame count) in
      bridge ≡ next_bridge H w.bridge e → chain ≡ chain_after (verdict_on w.bridge e) (suc (length w.sent)) w.chain
      → record w { bridge = bridge; chain = chain } ≡ with_event H w (RollbackCame count)
  rolled count bridge chain p q =
      let e = event_in (RollbackCame count) in
      let made = λ (b : BridgeState) (c : List ℕ) (s : List Sent). let v : WorldState = record w { bridge = b; sent = s; chain = c } in v in
      ap₂ (λ b c. made b c w.sent) p q ∙ ap (made (next_bridge H w.bridge e) (chain_after (verdict_on w.bridge e) (suc (length w.sent)) w.chain))
      (none_sent (is_acceptance (verdict_on w.bridge e)))

  pub rolled_ok : {T E : Type 0} (r : Result T E) (count : ℕ) (bridge : BridgeState) (chain : List ℕ) → let e = event_in (RollbackCame count) in
      OnOk r (bridge ≡ next_bridge H w.bridge e) → ((serial : ℕ) → OnOk r (chain ≡ chain_after (verdict_on w.bridge e) serial w.chain))
      → OnOk r (record w { bridge = bridge; chain = chain } ≡ with_event H w (RollbackCame count))
  rolled_ok (Ok x) count bridge chain p q = rolled count bridge chain p (q (suc (length w.sent)))
  rolled_ok (Err e) count bridge chain p q = tt

  -- a follower took a reply
  handed : (f : ℕ) (x y : FollowerState) (r : Reply) (j : ℕ) → slice_get w.followers f ≡ Some x → slice_get w.replies j ≡ Some r
      → y ≡ cond (applies r x) (follower_moved H w.sent r.kind x) x →
      record w { followers = slice_set w.followers f y } ≡ with_moved H w f (slice_get w.followers f) (slice_get w.replies j)
  handed f x y r j at_f at_j is =
      let made = λ (xs : List FollowerState). let v : WorldState = record w { followers = xs } in v in
      ap (λ z. made (slice_set w.followers f z)) is ∙ (ap made (by (applies r x)) ∙ ap₂ (λ a b. with_moved H w f a b) (sym at_f) (sym at_j))
    where
      by : (b : Bool) → slice_set w.followers f (cond b (follower_moved H w.sent r.kind x) x)
          ≡ cond b (slice_set w.followers f (follower_moved H w.sent r.kind x)) w.followers
      by true = refl
      by false = set_same w.followers f x at_f

  pub handed_ok : {T E : Type 0} (a : Result T E) (f : ℕ) (x y : FollowerState) (r : Reply) (j : ℕ) → slice_get w.followers f ≡ Some x
      → slice_get w.replies j ≡ Some r → OnOk a (y ≡ cond (applies r x) (follower_moved H w.sent r.kind x) x) →
      OnOk a (record w { followers = slice_set w.followers f y } ≡ with_moved H w f (slice_get w.followers f) (slice_get w.replies j))
  handed_ok (Ok z) f x y r j at_f at_j h = handed f x y r j at_f at_j h
  handed_ok (Err e) f x y r j at_f at_j h = tt

  pub handed_err : {T E : Type 0} (a : Result T E) (f : ℕ) (x y : FollowerState) → slice_get w.followers f ≡ Some x → OnErr a (y ≡ x)
      → OnErr a (record w { followers = slice_set w.followers f y } ≡ w)
  handed_err (Ok z) f x y at_f h = tt
  handed_err (Err e) f x y at_f h =
      let made = λ (xs : List FollowerState). let v : WorldState = record w { followers = xs } in v in
      ap (λ z. made (slice_set w.followers f z)) h ∙ ap made (set_same w.followers f x at_f)

  -- the bridge handled a block
  pub taken_ok : {T E : Type 0} (r : Result T E) (bytes : List ℕ) (message : Option (List ℕ)) (bridge : BridgeState) (sent : List Sent)
      (chain : List ℕ) →
      let event = BlockCame bytes message in
      let e = event_in event in
      OnOk r (bridge ≡ next_bridge H w.bridge e) → OnOk r (sent ≡ sent_after (verdict_on w.bridge e) event (message_on H w.bridge e) w.sent) →
      OnOk r (chain ≡ chain_after (verdict_on w.bridge e) (suc (length w.sent)) w.chain)
      → OnOk r (record w { bridge = bridge; sent = sent; chain = chain } ≡ with_event H w event)
  taken_ok (Ok x) bytes message bridge sent chain p q s =
      let event = BlockCame bytes message in
      let e = event_in event in
      let made = λ (b : BridgeState) (c : List ℕ) (x : List Sent). let v : WorldState = record w { bridge = b; sent = x; chain = c } in v in
      ap₂ (λ b c. made b c sent) p s ∙ ap (made (next_bridge H w.bridge e) (chain_after (verdict_on w.bridge e) (suc (length w.sent)) w.chain)) q
  taken_ok (Err e) bytes message bridge sent chain p q s = tt

  pub taken_err : {T E : Type 0} (r : Result T E) (bridge : BridgeState) (sent : List Sent) (chain : List ℕ) → OnErr r (bridge ≡ w.bridge)
      → OnErr r (sent ≡ w.sent) → OnErr r (chain ≡ w.chain) →
      OnErr r (record w { bridge = bridge; sent = sent; chain = chain } ≡ w)
  taken_err (Ok x) bridge sent chain p q s = tt
  taken_err (Err e) bridge sent chain p q s =
      let made = λ (b : BridgeState) (c : List ℕ) (x : List Sent). let v : WorldState = record w { bridge = b; sent = x; chain = c } in v in
      ap₂ (λ b c. made b c sent) p s ∙ ap (made w.bridge w.chain) q
