-- A follower that gets a reply which applies.
use Rattle.std.proofs.Common.{◌≡◌, ℕ, zero, suc, ◌≤◌, Bool, true, List, [], ◌∷◌, ◌++◌, length, take, drop, Some, None, cond, refl, sym, ap, ap₂, ◌∙◌}
use Rattle.std.proofs.Common.{subst, arith}
use Rattle.std.specs.Prelude.{◌==◌, nat_le, is_some, slice_get}
use Rattle.std.specs.List.{AllZip}
use Rattle.std.proofs.lemmas.Bool.{and_parts, eqb-true, leb-true, false≢true}
use Rattle.std.proofs.lemmas.Option.{same_Some}
use Rattle.uo_base.proofs.Lists.{got_front, zip-take}
use Rattle.uo_digest.specs.declared.digest.Digest.{Digest}
use Rattle.block_codec.specs.Block.{Block, block_hash_of}
use Rattle.block_rules.specs.declared.verdict.Verdict.{Verdict}
use Rattle.block_rules.specs.declared.verdict.Verdict.TheVariants.{Accepted}
use Rattle.block_rules.specs.Blocks.{external}
use Rattle.node_rules.specs.Reading.{Handed}
use Rattle.node_rules.specs.Judging.{Rules, full, message_of, written}
use Rattle.node_rules.specs.Laws.{IsTakenByAll}
use Rattle.node_rules.specs.Machine.{ChainEvent, BlockCame, RollbackCame, Level, State, Outcome, chain_of, full_judge, level_after, pushed}
use Rattle.node_rules.specs.Machine.{by_refusal, by_evidence, back, rolled_back, event_in, step, full_outcome, is_made}
use Rattle.compact_node.specs.Node.{NodeState, IsNode, LevelStands, Stands, node_verdict, next_node}
use Rattle.relay_core.specs.declared.act.Kind.{Kind}
use Rattle.relay_core.specs.declared.act.Kind.TheVariants.{Next, Same, Back, Lost}
use Rattle.relay_core.specs.declared.store.Reply.{Reply}
use Rattle.relay_core.specs.World.{Sent, FollowerState, newest_serial, can_do, applies, block_event, event_for, serials_after, follower_moved}
use Rattle.node_rules.proofs.Writing.{own_accepts}
use Rattle.compact_node.proofs.Keeping.{next_is_node}
use Rattle.compact_node.proofs.Refining.{compact_is_full}
use Rattle.compact_node.proofs.Throughout.{kept_told}
use Rattle.relay_core.proofs.Linking.{Leads, Follows, KindFits, ReplyFits}

-- ---- pairs in step

pub zip-long : {X Y : Type 0} (P : X → Y → Type 0) (xs : List X) (ys : List Y) → AllZip P xs ys → length xs ≡ length ys
zip-long P [] [] z = refl
zip-long P [] (y ∷ ys) z = absurd z
zip-long P (x ∷ xs) [] z = absurd z
zip-long P (x ∷ xs) (y ∷ ys) z = ap suc (zip-long P xs ys z.1)

-- behind a rollback
back-zip : (P : ℕ → Level → Type 0) (k : ℕ) (ss : List ℕ) (l : Level) (ls : List Level) → k ≤ length ls → AllZip P ss (l ∷ ls)
    → AllZip P (drop k ss) ((back k l ls).now ∷ (back k l ls).older)
back-zip P zero ss l ls few z = z
back-zip P (suc k) [] l ls few z = absurd z
back-zip P (suc k) (s ∷ ss) l [] few z = absurd (omega (arith, few))
back-zip P (suc k) (s ∷ ss) l (m ∷ ls) few z = back-zip P k ss m ls (omega (arith, few)) z.1

module _ (H : List ℕ → Digest) (rules : Rules) where
  -- ---- the node that holds every output takes the block

  module _ (scripts : List (List ℕ)) (s : State) (x : Sent) (newer : Level) (leads : Leads H rules s.now x newer) where
    abbrev b : Block
    b = leads.block

    abbrev handed : Handed
    handed = written (external b s.now.blocks) (message_of H None s.now.history (external b s.now.blocks))

    abbrev taken : IsTakenByAll H scripts rules (chain_of s.now) s.now.history b handed
    taken = own_accepts H s.now.history leads.few None scripts tt rules (chain_of s.now) b leads.passes

    abbrev outcome : Level → Outcome
    outcome l = record { verdict = Some (Accepted s.now.blocks (block_hash_of b) (length l.history)); state = pushed l s }

    full_takes : step rules (full_judge H scripts rules) s (BlockCame (Some b) handed) ≡ outcome newer
    full_takes =
        let evidence = full H scripts s.now.history (external b s.now.blocks) handed in
        let same : level_after s.now b evidence ≡ newer =
        ap (λ (ns : List ℕ). level_after s.now b (record evidence { numbers = ns })) taken.same_entries ∙ sym leads.next in
        ap (λ (f : Bool). by_evidence rules s b (cond f None (Some evidence))) taken.not_forged
        ∙ (ap (by_refusal s b evidence) taken.accepted ∙ ap outcome same)

  -- ---- followers

  -- the node stands for the levels of the serials
  pub record FollowerFits (levels : List Level) (scripts : List (List ℕ)) (x : FollowerState) : Type 0 where
    pub same_rules : x.node.rules ≡ rules
    pub same_scripts : x.node.scripts ≡ scripts
    pub is : IsNode x.node
    pub state : State
    pub stands : Stands H state x.node
    pub at : AllZip (λ s l. slice_get levels s ≡ Some l) x.serials (state.now ∷ state.older)

  at_more : (levels more : List Level) (ss : List ℕ) (ls : List Level) → AllZip (λ s l. slice_get levels s ≡ Some l) ss ls
      → AllZip (λ s l. slice_get (levels ++ more) s ≡ Some l) ss ls
  at_more levels more [] [] z = tt
  at_more levels more [] (l ∷ ls) z = absurd z
  at_more levels more (s ∷ ss) [] z = absurd z
  at_more levels more (s ∷ ss) (l ∷ ls) z = (got_front levels more s l z.0, at_more levels more ss ls z.1)

  pub follower_more : (levels more : List Level) (scripts : List (List ℕ)) (x : FollowerState) → FollowerFits levels scripts x
      → FollowerFits (levels ++ more) scripts x
  follower_more levels more scripts x fits = record {
    same_rules = fits.same_rules;
    same_scripts = fits.same_scripts;
    is = fits.is;
    state = fits.state;
    stands = fits.stands;
    at = at_more levels more x.serials (fits.state.now ∷ fits.state.older) fits.at;
  }

  -- it takes the event, and stands for these levels then
  takes : (state : State) (x : NodeState) (e : ChainEvent) (v : Verdict) (t : State) → IsNode x → Stands H state x
      → full_outcome H x.scripts x.rules state e ≡ record { verdict = Some v; state = t } → is_made (Some v) ≡ true →
      (is_made (Some (node_verdict H x e)) ≡ true) × Stands H t (next_node H x e)
  takes state x e v t is stands o made =
      let all = compact_is_full H x e is state stands (ap (λ (p : Outcome). is_some p.verdict) o) in
      let said : Some v ≡ Some (node_verdict H x e) = ap (λ (p : Outcome). p.verdict) (sym o) ∙ all.0 in
      (ap is_made (sym said) ∙ made, subst (λ (p : Outcome). Stands H p.state (next_node H x e)) o all.1)

  module _ (sent : List Sent) (levels : List Level) (scripts : List (List ℕ)) (x : FollowerState) (fits : FollowerFits levels scripts x) where
    abbrev pub IsAt : ℕ → Level → Type 0
    IsAt s l = slice_get levels s ≡ Some l

    -- the follower behind the reply, and that its node was not against it
    pub record Moves (kind : Kind) : Type 0 where
      pub follower : FollowerFits levels scripts (follower_moved H sent kind x)
      pub made : is_made (Some (node_verdict H x.node (event_in (event_for sent kind)))) ≡ true

    moves : (kind : Kind) (t : State) → (is_made (Some (node_verdict H x.node (event_in (event_for sent kind)))) ≡ true)
        × Stands H t (next_node H x.node (event_in (event_for sent kind))) →
        AllZip IsAt (serials_after kind x.serials) (t.now ∷ t.older) → Moves kind
    moves kind t took at =
        let e = event_in (event_for sent kind) in
        let told = kept_told H x.node e in
        record {
          follower = record {
            same_rules = told.0 ∙ fits.same_rules;
            same_scripts = told.1 ∙ fits.same_scripts;
            is = next_is_node H x.node e fits.is;
            state = t;
            stands = took.1;
            at = at;
          };
          made = took.0;
        }

    -- the newest serial is that of the newest level
    newest_at : (ss : List ℕ) (l : Level) (ls : List Level) → AllZip IsAt ss (l ∷ ls) → IsAt (newest_serial ss) l
    newest_at [] l ls z = absurd z
    newest_at (s ∷ ss) l ls z = z.0

    pub at_newest : IsAt (newest_serial x.serials) fits.state.now
    at_newest = newest_at x.serials fits.state.now fits.state.older fits.at

    pub serials_long : length x.serials ≡ suc (length x.node.older)
    serials_long =
        zip-long IsAt x.serials (fits.state.now ∷ fits.state.older) fits.at
        ∙ ap suc (zip-long (LevelStands H x.node.scripts) fits.state.older x.node.older fits.stands.older)

    one_more : (serial : ℕ) (l : Level) (ss : List ℕ) (now : Level) (older : List Level) → IsAt serial l → AllZip IsAt ss (now ∷ older)
        → AllZip IsAt (take 101 (serial ∷ ss)) (l ∷ take 100 (now ∷ older))
    one_more serial l ss now older at z = (at, zip-take IsAt 100 ss (now ∷ older) z)

    next_moves : (serial : ℕ) → Follows H rules sent levels (newest_serial x.serials) serial → Moves (Next serial)
    next_moves serial f =
        let s = fits.state in
        let same : f.older ≡ s.now = same_Some _ _ (sym f.at_first ∙ at_newest) in
        let y = f.link.one in
        let leads = subst (λ l. Leads H rules l y f.newer) same f.link.leads in
        let t : State = pushed f.newer s in
        let v = Accepted s.now.blocks (block_hash_of leads.block) (length f.newer.history) in
        let e₀ = BlockCame (Some leads.block) (written (external leads.block s.now.blocks)
        (message_of H None s.now.history (external leads.block s.now.blocks))) in
        let read : event_in (event_for sent (Next serial)) ≡ e₀ = ap (λ o. event_in (block_event o)) f.link.at
        ∙ ap₂ BlockCame leads.reads leads.handed in
        let full = full_takes scripts s y f.newer leads in
        let full' : full_outcome H x.node.scripts x.node.rules s e₀ ≡ record { verdict = Some v; state = t } =
        subst (λ r. full_outcome H x.node.scripts r s e₀ ≡ record { verdict = Some v; state = t }) (sym fits.same_rules)
        (subst (λ w. full_outcome H w rules s e₀ ≡ record { verdict = Some v; state = t }) (sym fits.same_scripts) full) in
        let took = takes s x.node e₀ v t fits.is fits.stands full' refl in
        moves (Next serial) t
        (subst (λ e. (is_made (Some (node_verdict H x.node e)) ≡ true) × Stands H t (next_node H x.node e)) (sym read) took)
        (one_more serial f.newer x.serials s.now s.older f.at_serial fits.at)

    back_moves : (count : ℕ) → nat_le count (length x.node.older) ≡ true → Moves (Back count)
    back_moves count can =
        let s = fits.state in
        let few : count ≤ length s.older = subst (λ n. count ≤ n) (sym
        (zip-long (LevelStands H x.node.scripts) s.older x.node.older fits.stands.older)) (leb-true count (length x.node.older) can) in
        let can' : nat_le count (length s.older) ≡ true = subst (λ n. nat_le count n ≡ true)
        (sym (zip-long (LevelStands H x.node.scripts) s.older x.node.older fits.stands.older)) can in
        let t = back count s.now s.older in
        let o = rolled_back count t in
        let full : full_outcome H x.node.scripts x.node.rules s (RollbackCame count) ≡ o = rw can' refl in
        moves (Back count) t (takes s x.node (RollbackCame count) _ t fits.is fits.stands full refl)
        (back-zip IsAt count x.serials s.now s.older few fits.at)

    kind_moves : (kind : Kind) → can_do kind (length x.node.older) ≡ true → KindFits H rules sent levels (newest_serial x.serials) kind → Moves kind
    kind_moves (Next serial) can f = next_moves serial f
    kind_moves Same can f = absurd (false≢true can)
    kind_moves (Back count) can f = back_moves count can
    kind_moves Lost can f = absurd (false≢true can)

    pub reply_moves : (r : Reply) → applies r x ≡ true → ReplyFits H rules sent levels r → Moves r.kind
    reply_moves r a f =
        let parts = and_parts (newest_serial x.serials == r.first) (can_do r.kind (length x.node.older)) a in
        let same : newest_serial x.serials ≡ r.first = eqb-true (newest_serial x.serials) r.first parts.0 in
        kind_moves r.kind parts.1 (subst (λ n. KindFits H rules sent levels n r.kind) (sym same) f)
