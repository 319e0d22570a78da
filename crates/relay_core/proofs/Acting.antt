-- What holds of a world through each act holds after any list of acts.
use Rattle.std.proofs.Common.{◌≡◌, ℕ, zero, suc, ◌≤◌, ◌<◌, ◌^◌, true, List, [], ◌∷◌, ◌++◌, map, length, Option, Some, None, cond, refl, sym, ap, ◌∙◌}
use Rattle.std.proofs.Common.{subst, arith, ⊎_elim}
use Rattle.std.specs.Prelude.{nat_le, slice_get}
use Rattle.std.specs.List.{AllByRecursion, AllZip}
use Rattle.std.proofs.lemmas.Bool.{cases_Bool, leb-true, le-leb}
use Rattle.std.proofs.lemmas.List.{length-append, append-nil, append_assoc}
use Rattle.std.proofs.lemmas.Option.{none-some, same_Some, slice_get_within}
use Rattle.uo_base.proofs.Lists.{all-at, all-push}
use Rattle.uo_digest.specs.declared.digest.Digest.{Digest}
use Rattle.forest_model.specs.Right.{entries}
use Rattle.leaf_record.specs.Leaf.{leaf_text}
use Rattle.block_rules.specs.declared.chain.Chain.{Chain}
use Rattle.node_rules.specs.Judging.{Rules}
use Rattle.node_rules.specs.Machine.{Level, start, event_in, is_made}
use Rattle.compact_node.specs.Node.{LevelStands, node_verdict}
use Rattle.bridge_prover.specs.Bridge as Bridges
use Rattle.relay_core.specs.declared.store.Reply.{Reply}
use Rattle.relay_core.specs.Acts.{WorldAct, BridgeTook, FollowerAsked, AskServed, ReplyDelivered}
use Rattle.relay_core.specs.World.{FollowerState, WorldState, newest_serial, fresh_follower, is_acceptance, sent_of, with_ask, with_reply, applies}
use Rattle.relay_core.specs.World.{event_for, next_world, world_after}
use Rattle.relay_core.specs.Branches.{Digests, Begun, begun_rules, begun_world, blocks_of, world_at, branch, AreActBytes, StandsForActs, IsOnBranch}
use Rattle.relay_core.specs.Branches.{AreOnBranches, IsNeverRefused, FollowersAreOnBranches, OneSerialOneChain, RepliesAreNeverRefused}
use Rattle.relay_core.specs.Branches.{IsNeverLost, NoReplyIsLost}
use Rattle.relay_core.specs.Branches.{ActsAreFollowed}
use Rattle.forest_roots.proofs.One.{one_stump}
use Rattle.node_rules.proofs.Fitting.{start_fits}
use Rattle.compact_node.proofs.Throughout.{fresh-node, fresh-stands}
use Rattle.bridge_prover.proofs.Refining.{fresh_stands, fresh_is_bridge}
use Rattle.relay_core.proofs.Linking.{IsLevelOf, ReplyFits}
use Rattle.relay_core.proofs.Handing.{FollowerFits, at_newest, reply_moves}
use Rattle.relay_core.proofs.Firm.{firm_start, never_lost}
use Rattle.relay_core.proofs.Standing.{zip-at, zip-weaker, Sound, act_sound}

-- ---- lists of acts

module _ (H : List ℕ → Digest) where
  pub after-push : (w : WorldState) (acts : List WorldAct) (act : WorldAct)
      → world_after H w (acts ++ act ∷ []) ≡ next_world H (world_after H w acts) act
  after-push w [] act = refl
  after-push w (a ∷ acts) act = after-push (next_world H w a) acts act

  -- no act takes a serial back
  sent_grows : (w : WorldState) (act : WorldAct) → length w.sent ≤ length (next_world H w act).sent
  sent_grows w (BridgeTook event) =
      let e = event_in event in
      let more = cond (is_acceptance (Bridges.verdict_on w.bridge e)) (sent_of event (Bridges.message_on H w.bridge e)) [] in
      omega (arith, length-append w.sent more)
  sent_grows w (FollowerAsked f) = by (slice_get w.followers f)
    where
      by : (x : Option FollowerState) → length w.sent ≤ length (with_ask w x).sent
      by None = omega arith
      by (Some x) = omega arith
  sent_grows w (AskServed j) = by (slice_get w.asks j)
    where
      by : (x : Option (List ℕ)) → length w.sent ≤ length (with_reply w x).sent
      by None = omega arith
      by (Some x) = omega arith
  sent_grows w (ReplyDelivered f j) = omega arith

  all_sent_grow : (w : WorldState) (acts : List WorldAct) → length w.sent ≤ length (world_after H w acts).sent
  all_sent_grow w [] = omega arith
  all_sent_grow w (act ∷ acts) = let a = sent_grows w act in let b = all_sent_grow (next_world H w act) acts in omega (arith, a, b)

  -- the act at which a serial was given is the same in a longer list
  at-old : (w : WorldState) (acts : List WorldAct) (act : WorldAct) (s : ℕ) → s ≤ length (world_after H w acts).sent
      → world_at H w (acts ++ act ∷ []) s ≡ world_at H w acts s
  at-old w [] act s given = ap (λ b. cond b w (next_world H w act)) (le-leb s (length w.sent) given)
  at-old w (a ∷ acts) act s given =
      let next = next_world H w a in
      ap (λ (v : WorldState). cond (nat_le s (length w.sent)) w v) (at-old next acts act s given)

  -- a serial that was not given before is given by the last act, if by any
  at-new : (w : WorldState) (acts : List WorldAct) (act : WorldAct) (s : ℕ) → length (world_after H w acts).sent < s
      → world_at H w (acts ++ act ∷ []) s ≡ world_after H w (acts ++ act ∷ [])
  at-new w [] act s above = ⊎_elim (λ t. let few = leb-true s (length w.sent) t in absurd (omega (arith, few, above))) (λ f. rw f refl)
      (cases_Bool (nat_le s (length w.sent)))
  at-new w (a ∷ acts) act s above =
      let next = next_world H w a in
      let more = all_sent_grow w (a ∷ acts) in
      ⊎_elim (λ t. let few = leb-true s (length w.sent) t in absurd (omega (arith, few, above, more))) (λ f. rw f (at-new next acts act s above))
      (cases_Bool (nat_le s (length w.sent)))

  -- ---- from the start

  module _ (long : Digests H) (begun : Begun) (few : begun.limits.leaves < 2 ^ 40) (short : begun.limits.bytes ≤ 2 ^ 48) where
    abbrev rules : Rules
    rules = begun_rules begun

    abbrev first : WorldState
    first = begun_world begun

    -- the level of a serial is what the proving node holds behind the serial's branch
    abbrev IsOf : List WorldAct → ℕ → Level → Type 0
    IsOf acts s l = IsLevelOf rules l (branch H first acts s)

    abbrev IsSound : List WorldAct → Type 0
    IsSound acts = Sound H long rules few begun.lists (IsOf acts) (world_after H first acts)

    fresh_followers : (lists : List (List (List ℕ)))
        → AllZip (FollowerFits H rules (start.now ∷ [])) lists (map (fresh_follower begun.net begun.limits) lists)
    fresh_followers [] = tt
    fresh_followers (scripts ∷ lists) = (
      record {
        same_rules = refl;
        same_scripts = refl;
        is = fresh-node H begun.net begun.limits scripts few short;
        state = start;
        stands = fresh-stands H begun.net begun.limits scripts;
        at = (refl, tt);
      },
      fresh_followers lists,
    )

    start_told : (s : ℕ) (l : Level) → slice_get (start.now ∷ []) s ≡ Some l → IsOf [] s l
    start_told zero l e = subst (λ m. IsLevelOf rules m []) (same_Some start.now l e) (record { level = refl; blocks_are = refl; tip = refl })
    start_told (suc s) l e = absurd (none-some l e)

    start_sound : IsSound []
    start_sound = record {
      levels = start.now ∷ [];
      count = refl;
      told = start_told;
      state = start;
      beside = record {
        same_rules = refl;
        no_watch = refl;
        is = fresh_is_bridge H begun.net begun.limits None few;
        stands = fresh_stands H begun.net begun.limits None;
        fits = start_fits rules;
      };
      rest = [];
      line = (refl, (refl, refl));
      replies = tt;
      followers = fresh_followers begun.lists;
      firm = firm_start begun.net begun.limits begun.lists;
    }

    one_more : (acts : List WorldAct) (act : WorldAct) → AreActBytes act → IsSound acts → IsSound (acts ++ act ∷ [])
    one_more acts act are sound =
        let w = world_after H first acts in
        let w' = next_world H w act in
        let Q = IsOf (acts ++ act ∷ []) in
        let at = λ (s : ℕ) (l : Level) (v : WorldState). IsLevelOf rules l (blocks_of v.sent v.chain) in
        let keeps : (s : ℕ) (l : Level) → s ≤ length w.sent → IsOf acts s l → Q s l =
        λ s l given of. subst (at s l) (sym (at-old first acts act s given)) of in
        let new : (v : WorldState) (l : Level) → v ≡ w' → length v.sent ≡ suc (length w.sent) → IsLevelOf rules l (blocks_of v.sent v.chain)
        → Q (suc (length w.sent)) l =
        λ v l is count of. subst (at (suc (length w.sent)) l)
        (is ∙ (sym (after-push first acts act) ∙ sym (at-new first acts act (suc (length w.sent)) (omega arith)))) of in
        subst (Sound H long rules few begun.lists Q) (sym (after-push first acts act))
        (act_sound H long rules few begun.lists (IsOf acts) Q w sound keeps w' new act refl are)

    sound_through : (acts more : List WorldAct) → AllByRecursion AreActBytes more → IsSound acts → IsSound (acts ++ more)
    sound_through acts [] all sound = subst IsSound (sym (append-nil acts)) sound
    sound_through acts (act ∷ more) all sound =
        subst IsSound (append_assoc acts (act ∷ []) more) (sound_through (acts ++ act ∷ []) more all.1 (one_more acts act all.0 sound))

    pub sound_after : (acts : List WorldAct) → AllByRecursion AreActBytes acts → IsSound acts
    sound_after acts all = sound_through [] acts all start_sound

    -- ---- followers

    module _ (acts : List WorldAct) (sound : IsSound acts) where
      abbrev w : WorldState
      w = world_after H first acts

      pub on_branch : (scripts : List (List ℕ)) (x : FollowerState) → FollowerFits H rules sound.levels scripts x
          → IsOnBranch H begun acts scripts x
      on_branch scripts x fits =
          let s = newest_serial x.serials in
          let l = fits.state.now in
          let at = at_newest H rules w.sent sound.levels scripts x fits in
          let of = sound.told s l at in
          let within = slice_get_within sound.levels s l at in
          let count = sound.count in
          let chain = fits.stands.newest.chain in
          record {
            given = omega (arith, within, count);
            blocks = ap (λ (c : Chain). c.blocks) chain ∙ of.blocks_are;
            tip = ap (λ (c : Chain). c.tip) chain ∙ of.tip;
            stands = subst (λ m. LevelStands H scripts m x.node.newest) (sym of.level)
                (subst (λ y. LevelStands H y l x.node.newest) fits.same_scripts fits.stands.newest);
            watch = fits.same_scripts;
          }

      pub all_on_branches : AllZip (IsOnBranch H begun acts) begun.lists w.followers
      all_on_branches = zip-weaker (FollowerFits H rules sound.levels) (IsOnBranch H begun acts) on_branch begun.lists w.followers
          sound.followers

      pub one_chain : (f g : ℕ) (x y : FollowerState) → slice_get w.followers f ≡ Some x → slice_get w.followers g ≡ Some y
          → newest_serial x.serials ≡ newest_serial y.serials →
          (x.node.newest.chain ≡ y.node.newest.chain) × (x.node.newest.roots ≡ y.node.newest.roots)
      one_chain f g x y at_f at_g same =
          let a = zip-at (FollowerFits H rules sound.levels) begun.lists w.followers f x sound.followers at_f in
          let b = zip-at (FollowerFits H rules sound.levels) begun.lists w.followers g y sound.followers at_g in
          let m = b.2.state.now in
          let at_x = at_newest H rules w.sent sound.levels a.0 x a.2 in
          let at_y = at_newest H rules w.sent sound.levels b.0 y b.2 in
          let now : a.2.state.now ≡ m = same_Some _ _ (sym (subst (λ s. slice_get sound.levels s ≡ Some a.2.state.now) same at_x) ∙ at_y) in
          let first_stands = subst (λ l. LevelStands H x.node.scripts l x.node.newest) now a.2.stands.newest in
          let second_stands = b.2.stands.newest in (
            first_stands.chain ∙ sym second_stands.chain,
            one_stump H (entries H leaf_text m.history) x.node.newest.roots y.node.newest.roots a.2.is.newest.stump b.2.is.newest.stump
                first_stands.roots second_stands.roots,
          )

      pub never_refused : (f j : ℕ) (x : FollowerState) (r : Reply) → slice_get w.followers f ≡ Some x → slice_get w.replies j ≡ Some r
          → applies r x ≡ true →
          is_made (Some (node_verdict H x.node (event_in (event_for w.sent r.kind)))) ≡ true
      never_refused f j x r at_f at_j can =
          let a = zip-at (FollowerFits H rules sound.levels) begun.lists w.followers f x sound.followers at_f in
          (reply_moves H rules w.sent sound.levels a.0 x a.2 r can
          (all-at (ReplyFits H rules w.sent sound.levels) w.replies j r sound.replies at_j)).made

-- ---- the laws

abbrev Through : (List ℕ → Digest) → Begun → List WorldAct → (WorldState → Type 0) → Type 0
Through H begun acts P = (w : WorldState) → StandsForActs H begun acts w → P (world_after H (begun_world begun) acts) → P w

through : (H : List ℕ → Digest) (begun : Begun) (acts : List WorldAct) (P : WorldState → Type 0) → Through H begun acts P
through H begun acts P w stands h = subst P (sym stands.is) h

pub followers_are_on_branches : FollowersAreOnBranches
followers_are_on_branches H long begun acts w stands =
    let sound = sound_after H long begun stands.leaves stands.bytes acts stands.all in
    through H begun acts (λ v. AreOnBranches H begun acts v) w stands
    (all_on_branches H long begun stands.leaves stands.bytes acts sound)

pub one_serial_one_chain : OneSerialOneChain
one_serial_one_chain H long begun acts w stands =
    let sound = sound_after H long begun stands.leaves stands.bytes acts stands.all in
    through H begun acts
    (λ v. (f g : ℕ) (x y : FollowerState) → slice_get v.followers f ≡ Some x → slice_get v.followers g ≡ Some y
    → newest_serial x.serials ≡ newest_serial y.serials → (x.node.newest.chain ≡ y.node.newest.chain) × (x.node.newest.roots ≡ y.node.newest.roots))
    w stands (one_chain H long begun stands.leaves stands.bytes acts sound)

pub replies_are_never_refused : RepliesAreNeverRefused
replies_are_never_refused H long begun acts w stands =
    let sound = sound_after H long begun stands.leaves stands.bytes acts stands.all in
    through H begun acts (IsNeverRefused H) w stands (never_refused H long begun stands.leaves stands.bytes acts sound)

pub no_reply_is_lost : NoReplyIsLost
no_reply_is_lost H long begun acts w stands =
    let sound = sound_after H long begun stands.leaves stands.bytes acts stands.all in
    through H begun acts IsNeverLost w stands (never_lost (world_after H (begun_world begun) acts) sound.firm)

pub acts_are_followed : ActsAreFollowed
acts_are_followed H begun = (
  λ leaves bytes. record { leaves = leaves; bytes = bytes; all = tt; is = refl },
  λ acts w act are stands. record {
    leaves = stands.leaves;
    bytes = stands.bytes;
    all = all-push AreActBytes acts act stands.all are;
    is = ap (λ v. next_world H v act) stands.is ∙ sym (after-push H (begun_world begun) acts act);
  },
)
