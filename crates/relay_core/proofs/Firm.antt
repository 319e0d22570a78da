-- A follower's oldest serial is on the part of the bridge's chain that the bridge can not take back. So no one who asks is lost.
use Rattle.std.proofs.Common.{◌≡◌, ◌≢◌, ℕ, zero, suc, ◌≤◌, ◌<◌, Bool, true, false, List, [], ◌∷◌, ◌++◌, ◌||◌, map, length, take, drop, Option, Some}
use Rattle.std.proofs.Common.{None}
use Rattle.std.proofs.Common.{cond, refl, sym, ap, ◌∙◌, subst, arith}
use Rattle.std.specs.Prelude.{◌==◌, is_some, slice_get, slice_set, option_map}
use Rattle.std.specs.List.{AllByRecursion}
use Rattle.std.proofs.Math.Bool.{or-true}
use Rattle.std.proofs.Math.Seq.{drop-nil}
use Rattle.std.proofs.lemmas.Bool.{and_parts, eq-eqb, eqb-true, leb-true, false≢true}
use Rattle.std.proofs.lemmas.List.{append_assoc, drop-append-le, length-take, length_push, take-append-drop}
use Rattle.std.proofs.lemmas.Option.{none-some, same_Some}
use Rattle.uo_base.specs.declared.event.Limits.{Limits}
use Rattle.uo_base.specs.declared.event.Net.{Net}
use Rattle.uo_base.proofs.Lists.{all-at, all-push, got_front, got_last}
use Rattle.uo_digest.specs.declared.digest.Digest.{Digest}
use Rattle.reorg_undo.specs.Undo.{UndoRecord}
use Rattle.bridge_prover.specs.Bridge.{BridgeState}
use Rattle.relay_core.specs.declared.act.Kind.{Kind}
use Rattle.relay_core.specs.declared.act.Kind.TheVariants.{Next, Same, Back, Lost}
use Rattle.relay_core.specs.declared.act.Outcome.TheVariants.{Replied, Moved, Stale}
use Rattle.relay_core.specs.declared.store.Reply.{Reply}
use Rattle.relay_core.specs.Acts.{BridgeTook, FollowerAsked, AskServed, ReplyDelivered}
use Rattle.relay_core.specs.World.{Sent, FollowerState, WorldState, fresh_follower, fresh_world, newest_serial, ask_outcome, is_on, fork_index}
use Rattle.relay_core.specs.World.{after_on, next_or_same}
use Rattle.relay_core.specs.World.{kind_by, reply_to, replied, can_do, applies, serials_after, follower_moved, delivered}
use Rattle.relay_core.specs.Branches.{IsNeverLost}
use Rattle.relay_core.proofs.Linking.{got_either}

-- ---- on a part of a chain

on_more : (m n : ℕ) (ss : List ℕ) (s : ℕ) → m ≤ n → is_on (drop n ss) s ≡ true → is_on (drop m ss) s ≡ true
on_more zero zero ss s few on = on
on_more (suc m) zero ss s few on = absurd (omega (arith, few))
on_more m (suc n) [] s few on = absurd (false≢true on)
on_more zero (suc n) (x ∷ ss) s few on = ap (λ b. (x == s) || b) (on_more zero n ss s (omega arith) on) ∙ or-true (x == s)
on_more (suc m) (suc n) (x ∷ ss) s few on = on_more m n ss s (omega (arith, few)) on

on_got : (m k : ℕ) (ss : List ℕ) (s : ℕ) → m ≤ k → slice_get ss k ≡ Some s → is_on (drop m ss) s ≡ true
on_got m k [] s few at = absurd (none-some s at)
on_got zero zero (x ∷ ss) s few at = rw (eq-eqb x s (same_Some x s at)) refl
on_got (suc m) zero (x ∷ ss) s few at = absurd (omega (arith, few))
on_got zero (suc k) (x ∷ ss) s few at = ap (λ b. (x == s) || b) (on_got zero k ss s (omega arith) at) ∙ or-true (x == s)
on_got (suc m) (suc k) (x ∷ ss) s few at = on_got m k ss s (omega (arith, few)) at

-- ---- the last of some serials, the oldest, is on a part of a chain

abbrev EndsOn : List ℕ → List ℕ → Type 0
EndsOn part [] = ⊥
EndsOn part (s ∷ []) = is_on part s ≡ true
EndsOn part (s ∷ p ∷ ss) = EndsOn part (p ∷ ss)

ends-more : (part more : List ℕ) → ((s : ℕ) → is_on part s ≡ true → is_on more s ≡ true) → (ss : List ℕ) → EndsOn part ss → EndsOn more ss
ends-more part more h [] ends = ends
ends-more part more h (s ∷ []) ends = h s ends
ends-more part more h (s ∷ p ∷ ss) ends = ends-more part more h (p ∷ ss) ends

ends-drop : (part : List ℕ) (k : ℕ) (ss : List ℕ) → k < length ss → EndsOn part ss → EndsOn part (drop k ss)
ends-drop part zero ss few ends = ends
ends-drop part (suc k) [] few ends = ends
ends-drop part (suc k) (s ∷ []) few ends = absurd (omega (arith, few))
ends-drop part (suc k) (s ∷ p ∷ ss) few ends = ends-drop part k (p ∷ ss) (omega (arith, few)) ends

-- the last stays, or there are so many that another is the last
ends-take : (part : List ℕ) (k s : ℕ) (ss : List ℕ) → ((p : ℕ) → slice_get (s ∷ ss) k ≡ Some p → is_on part p ≡ true) → EndsOn part (s ∷ ss)
    → EndsOn part (take (suc k) (s ∷ ss))
ends-take part zero s ss at ends = at s refl
ends-take part (suc k) s [] at ends = ends
ends-take part (suc k) s (p ∷ ss) at ends = ends-take part k p ss at ends

met : (chain ss : List ℕ) → EndsOn chain ss → is_some (fork_index chain ss) ≡ true
met chain [] ends = absurd ends
met chain (s ∷ []) ends = rw ends refl
met chain (s ∷ p ∷ ss) ends = by (is_on chain s) (fork_index chain (p ∷ ss)) (met chain (p ∷ ss) ends)
  where
    by : (b : Bool) (x : Option ℕ) → is_some x ≡ true → is_some (cond b (Some 0) (option_map (λ k. suc k) x)) ≡ true
    by true x e = refl
    by false None e = e
    by false (Some k) e = refl

-- ---- the lines of serials, each of which begins with its serial

module _ (lines : List (List ℕ)) where
  -- each part of it is the line of the serial that it begins with
  abbrev IsLine : List ℕ → Type 0
  IsLine [] = Unit {0}
  IsLine (s ∷ ss) = (slice_get lines s ≡ Some (s ∷ ss)) × IsLine ss

  record IsNext (first serial : ℕ) : Type 0 where
    line : List ℕ
    at_first : slice_get lines first ≡ Some line
    at_serial : slice_get lines serial ≡ Some (serial ∷ line)

  abbrev IsFound : ℕ → Kind → Type 0
  IsFound first (Next serial) = IsNext first serial
  IsFound first Same = Unit {0}
  IsFound first (Back count) = Unit {0}
  IsFound first Lost = ⊥

  line-drop : (k : ℕ) (ss : List ℕ) → IsLine ss → IsLine (drop k ss)
  line-drop zero ss line = line
  line-drop (suc k) [] line = line
  line-drop (suc k) (s ∷ ss) line = line-drop k ss line.1

  after_next : (s : ℕ) (ss : List ℕ) → IsLine (s ∷ ss) → (first serial : ℕ) → after_on (s ∷ ss) first ≡ Some serial → IsNext first serial
  after_next s [] line first serial e = absurd (none-some serial e)
  after_next s (p ∷ ss) line first serial e = by (p == first) refl e (after_next p ss line.1 first serial)
    where
      by : (b : Bool) → (p == first) ≡ b → cond b (Some s) (after_on (p ∷ ss) first) ≡ Some serial
          → (after_on (p ∷ ss) first ≡ Some serial → IsNext first serial) → IsNext first serial
      by true here e later =
          subst (λ t. IsNext first t) (same_Some s serial e)
          (subst (λ t. IsNext t s) (eqb-true p first here) (record { line = p ∷ ss; at_first = line.1.0; at_serial = line.0 }))
      by false here e later = later e

  next_found : (chain : List ℕ) → IsLine chain → (first : ℕ) (x : Option ℕ) → after_on chain first ≡ x → IsFound first (next_or_same x)
  next_found chain line first None e = tt
  next_found [] line first (Some serial) e = absurd (none-some serial e)
  next_found (s ∷ ss) line first (Some serial) e = after_next s ss line first serial e

  kind_found : (chain : List ℕ) → IsLine chain → (first : ℕ) (x : Option ℕ) → is_some x ≡ true → IsFound first (kind_by chain first x)
  kind_found chain line first None found = false≢true found
  kind_found chain line first (Some zero) found = next_found chain line first (after_on chain first) refl
  kind_found chain line first (Some (suc k)) found = tt

  -- a follower's serials are the front of a line
  record IsFirm (part : List ℕ) (x : FollowerState) : Type 0 where
    rest : List ℕ
    line : IsLine (x.serials ++ rest)
    ends : EndsOn part x.serials

  -- what comes next goes in front of the line
  line-next : (serial : ℕ) (ss : List ℕ) (part : List ℕ) → IsNext (newest_serial ss) serial → EndsOn part ss → (rest : List ℕ) → IsLine (ss ++ rest)
      → IsLine (serial ∷ ss ++ rest)
  line-next serial [] part next ends rest line = absurd ends
  line-next serial (s ∷ ss) part next ends rest line = (
    subst (λ l. slice_get lines serial ≡ Some (serial ∷ l)) (same_Some _ _ (sym next.at_first ∙ line.0)) next.at_serial,
    line,
  )

  ends-next : (part : List ℕ) (serial : ℕ) (ss : List ℕ) → EndsOn part ss → EndsOn part (serial ∷ ss)
  ends-next part serial [] ends = absurd ends
  ends-next part serial (s ∷ ss) ends = ends

module _ (lines more : List (List ℕ)) where
  line_more : (ss : List ℕ) → IsLine lines ss → IsLine (lines ++ more) ss
  line_more [] line = tt
  line_more (s ∷ ss) line = (got_front lines more s (s ∷ ss) line.0, line_more ss line.1)

  found_more : (first : ℕ) (kind : Kind) → IsFound lines first kind → IsFound (lines ++ more) first kind
  found_more first (Next serial) next = record {
    line = next.line;
    at_first = got_front lines more first next.line next.at_first;
    at_serial = got_front lines more serial (serial ∷ next.line) next.at_serial;
  }
  found_more first Same found = tt
  found_more first (Back count) found = tt
  found_more first Lost found = found

-- ---- a world

-- the part of the bridge's chain that it can not take back
abbrev floor_of : WorldState → List ℕ
floor_of w = drop (length w.bridge.undo) w.chain

-- Each serial has a line, the chain is one, and a hundred serials down a line is what the bridge can not take back. So is the oldest serial of each
-- ask and of each follower.
pub record Firm (w : WorldState) : Type 0 where
  lines : List (List ℕ)
  count : length lines ≡ suc (length w.sent)
  chain : IsLine lines w.chain
  deep : (s : ℕ) (line : List ℕ) → slice_get lines s ≡ Some line → (p : ℕ) → slice_get line 100 ≡ Some p → is_on (floor_of w) p ≡ true
  asks : AllByRecursion (EndsOn (floor_of w)) w.asks
  replies : AllByRecursion (λ r. IsFound lines r.first r.kind) w.replies
  followers : AllByRecursion (IsFirm lines (floor_of w)) w.followers

all-weaker : {X : Type 0} (P Q : X → Type 0) → ((x : X) → P x → Q x) → (xs : List X) → AllByRecursion P xs → AllByRecursion Q xs
all-weaker P Q h [] all = tt
all-weaker P Q h (x ∷ xs) all = (h x all.0, all-weaker P Q h xs all.1)

all-set : {X : Type 0} (P : X → Type 0) (xs : List X) (i : ℕ) (x : X) → AllByRecursion P xs → P x → AllByRecursion P (slice_set xs i x)
all-set P [] i x all one = tt
all-set P (y ∷ xs) zero x all one = (one, all.1)
all-set P (y ∷ xs) (suc i) x all one = (all.0, all-set P xs i x all.1 one)

-- a rollback leaves the part as it is
same_floor : (k : ℕ) (us : List UndoRecord) (ss : List ℕ) → k ≤ length us → drop (length (drop k us)) (drop k ss) ≡ drop (length us) ss
same_floor zero us ss few = refl
same_floor (suc k) [] ss few = absurd (omega (arith, few))
same_floor (suc k) (u ∷ us) [] few = drop-nil (length (drop k us))
same_floor (suc k) (u ∷ us) (s ∷ ss) few = same_floor k us ss (omega (arith, few))

pub firm_start : (net : Net) (limits : Limits) (lists : List (List (List ℕ))) → Firm (fresh_world net limits lists)
firm_start net limits lists = record {
  lines = (0 ∷ []) ∷ [];
  count = refl;
  chain = (refl, tt);
  deep = none;
  asks = tt;
  replies = tt;
  followers = each lists;
}
  where
    none : (s : ℕ) (line : List ℕ) → slice_get ((0 ∷ []) ∷ []) s ≡ Some line → (p : ℕ) → slice_get line 100 ≡ Some p → is_on (0 ∷ []) p ≡ true
    none zero line at p deep = absurd (none-some p (subst (λ l. slice_get l 100 ≡ Some p) (sym (same_Some (0 ∷ []) line at)) deep))
    none (suc s) line at p deep = absurd (none-some line at)

    each : (lists : List (List (List ℕ))) → AllByRecursion (IsFirm ((0 ∷ []) ∷ []) (0 ∷ [])) (map (fresh_follower net limits) lists)
    each [] = tt
    each (scripts ∷ lists) = (record { rest = []; line = (refl, tt); ends = refl }, each lists)

module _ (w : WorldState) (firm : Firm w) where
  abbrev lines : List (List ℕ)
  lines = firm.lines

  pub firm_ask : (f : ℕ) (x : FollowerState) → slice_get w.followers f ≡ Some x → Firm (record w { asks = w.asks ++ x.serials ∷ [] })
  firm_ask f x at = record {
    lines = lines;
    count = firm.count;
    chain = firm.chain;
    deep = firm.deep;
    asks = all-push (EndsOn (floor_of w)) w.asks x.serials firm.asks (all-at (IsFirm lines (floor_of w)) w.followers f x firm.followers at).ends;
    replies = firm.replies;
    followers = firm.followers;
  }

  -- what is answered to an ask
  found_ask : (j : ℕ) (serials : List ℕ) → slice_get w.asks j ≡ Some serials → let r = reply_to w.chain serials in IsFound lines r.first r.kind
  found_ask j serials at =
      kind_found lines w.chain firm.chain (newest_serial serials) (fork_index w.chain serials)
      (met w.chain serials (ends-more (floor_of w) w.chain (λ s. on_more 0 (length w.bridge.undo) w.chain s (omega arith)) serials
      (all-at (EndsOn (floor_of w)) w.asks j serials firm.asks at)))

  pub firm_reply : (j : ℕ) (serials : List ℕ) → slice_get w.asks j ≡ Some serials
      → Firm (record w { replies = w.replies ++ reply_to w.chain serials ∷ [] })
  firm_reply j serials at = record {
    lines = lines;
    count = firm.count;
    chain = firm.chain;
    deep = firm.deep;
    asks = firm.asks;
    replies = all-push (λ (r : Reply). IsFound lines r.first r.kind) w.replies (reply_to w.chain serials) firm.replies (found_ask j serials at);
    followers = firm.followers;
  }

  kind_moves : (x : FollowerState) → IsFirm lines (floor_of w) x → (kind : Kind) → length x.serials ≡ suc (length x.node.older)
      → can_do kind (length x.node.older) ≡ true → IsFound lines (newest_serial x.serials) kind
      → (rest : List ℕ) × (IsLine lines (serials_after kind x.serials ++ rest)) × EndsOn (floor_of w) (serials_after kind x.serials)
  kind_moves x is (Next serial) long can next =
      let ss = x.serials in
      let line = line-next lines serial ss (floor_of w) next is.ends is.rest is.line in
      let same : serial ∷ ss ++ is.rest ≡ take 101 (serial ∷ ss) ++ (drop 101 (serial ∷ ss) ++ is.rest) =
      ap (λ l. l ++ is.rest) (sym (take-append-drop 101 (serial ∷ ss)))
      ∙ append_assoc (take 101 (serial ∷ ss)) (drop 101 (serial ∷ ss)) is.rest in (
        drop 101 (serial ∷ ss) ++ is.rest,
        subst (IsLine lines) same line,
        ends-take (floor_of w) 100 serial ss
            (λ p at. firm.deep serial (serial ∷ ss ++ is.rest) line.0 p (got_front (serial ∷ ss) is.rest 100 p at))
            (ends-next lines (floor_of w) serial ss is.ends),
      )
  kind_moves x is Same long can found = absurd (false≢true can)
  kind_moves x is (Back count) long can found =
      let few = leb-true count (length x.node.older) can in (
        is.rest,
        subst (IsLine lines) (drop-append-le count x.serials is.rest (omega (arith, few, long)))
            (line-drop lines count (x.serials ++ is.rest) is.line),
        ends-drop (floor_of w) count x.serials (omega (arith, few, long)) is.ends,
      )
  kind_moves x is Lost long can found = absurd found

  pub firm_moved : (H : List ℕ → Digest) (f j : ℕ) (x : FollowerState) (r : Reply) → slice_get w.followers f ≡ Some x → slice_get w.replies j ≡ Some r
      → applies r x ≡ true → length x.serials ≡ suc (length x.node.older)
      → Firm (record w { followers = slice_set w.followers f (follower_moved H w.sent r.kind x) })
  firm_moved H f j x r at_f at_j can long =
      let parts = and_parts (newest_serial x.serials == r.first) (can_do r.kind (length x.node.older)) can in
      let found = subst (λ n. IsFound lines n r.kind) (sym (eqb-true (newest_serial x.serials) r.first parts.0))
      (all-at (λ (r : Reply). IsFound lines r.first r.kind) w.replies j r firm.replies at_j) in
      let then = kind_moves x (all-at (IsFirm lines (floor_of w)) w.followers f x firm.followers at_f) r.kind long parts.1 found in
      record {
        lines = lines;
        count = firm.count;
        chain = firm.chain;
        deep = firm.deep;
        asks = firm.asks;
        replies = firm.replies;
        followers = all-set (IsFirm lines (floor_of w)) w.followers f (follower_moved H w.sent r.kind x) firm.followers
            (record { rest = then.0; line = then.1; ends = then.2 });
      }

  -- the bridge goes back
  pub firm_back : (k : ℕ) (bridge : BridgeState) → bridge.undo ≡ drop k w.bridge.undo → k ≤ length w.bridge.undo
      → Firm (record w { bridge = bridge; chain = drop k w.chain })
  firm_back k bridge undo few =
      let same : floor_of w ≡ drop (length bridge.undo) (drop k w.chain) =
      sym (ap (λ us. drop (length us) (drop k w.chain)) undo ∙ same_floor k w.bridge.undo w.chain few) in
      record {
        lines = lines;
        count = firm.count;
        chain = line-drop lines k w.chain firm.chain;
        deep = λ s line at p deep. subst (λ part. is_on part p ≡ true) same (firm.deep s line at p deep);
        asks = subst (λ part. AllByRecursion (EndsOn part) w.asks) same firm.asks;
        replies = firm.replies;
        followers = subst (λ part. AllByRecursion (IsFirm lines part) w.followers) same firm.followers;
      }

  -- the bridge accepts a block
  pub firm_block : (bridge : BridgeState) (one : Sent) (u : UndoRecord) → bridge.undo ≡ take 100 (u ∷ w.bridge.undo)
      → Firm (record w { bridge = bridge; sent = w.sent ++ one ∷ []; chain = suc (length w.sent) ∷ w.chain })
  firm_block bridge one u undo =
      let long = length-take 100 (u ∷ w.bridge.undo) in
      let kept : length bridge.undo ≡ length (take 100 (u ∷ w.bridge.undo)) = ap length undo in
      let few : length bridge.undo ≤ 100 = omega (arith, long, kept) in
      let up : length bridge.undo ≤ suc (length w.bridge.undo) = omega (arith, long, kept) in
      let serial = suc (length w.sent) in
      let new = serial ∷ w.chain in
      let part = drop (length bridge.undo) new in
      let higher : (s : ℕ) → is_on (floor_of w) s ≡ true → is_on part s ≡ true =
      λ s on. on_more (length bridge.undo) (suc (length w.bridge.undo)) new s up on in
      let count = firm.count in
      let more = length_push w.sent one in
      let more' = length_push lines new in
      record {
        lines = lines ++ new ∷ [];
        count = omega (arith, count, more, more');
        chain = (
          subst (λ n. slice_get (lines ++ new ∷ []) n ≡ Some new) count (got_last lines new),
          line_more lines (new ∷ []) w.chain firm.chain,
        );
        deep = got_either lines new (λ s line. (p : ℕ) → slice_get line 100 ≡ Some p → is_on part p ≡ true)
            (λ s line at p deep. higher p (firm.deep s line at p deep)) (λ p deep. on_got (length bridge.undo) 100 new p few deep);
        asks = all-weaker (EndsOn (floor_of w)) (EndsOn part) (ends-more (floor_of w) part higher) w.asks firm.asks;
        replies =
            all-weaker (λ (r : Reply). IsFound lines r.first r.kind) (λ r. IsFound (lines ++ new ∷ []) r.first r.kind)
            (λ r. found_more lines (new ∷ []) r.first r.kind) w.replies firm.replies;
        followers =
            all-weaker (IsFirm lines (floor_of w)) (IsFirm (lines ++ new ∷ []) part)
            (λ x is. record {
              rest = is.rest;
              line = line_more lines (new ∷ []) (x.serials ++ is.rest) is.line;
              ends = ends-more (floor_of w) part higher x.serials is.ends;
            }) w.followers firm.followers;
      }

  pub never_lost : IsNeverLost w
  never_lost (BridgeTook event) reply e = cc
  never_lost (FollowerAsked f) reply e = by (slice_get w.followers f) e
    where
      by : (x : Option FollowerState) → ask_outcome w x ≢ Replied reply Lost
      by None e = cc
      by (Some x) e = cc
  never_lost (AskServed j) reply e = by (slice_get w.asks j) refl e
    where
      by : (x : Option (List ℕ)) → slice_get w.asks j ≡ x → replied w x ≢ Replied reply Lost
      by None at e = cc
      by (Some serials) at e =
          let lost : kind_by w.chain (newest_serial serials) (fork_index w.chain serials) ≡ Lost = cc in
          subst (IsFound lines (newest_serial serials)) lost (found_ask j serials at)
  never_lost (ReplyDelivered f j) reply e = by (slice_get w.followers f) (slice_get w.replies j) e
    where
      by : (x : Option FollowerState) (r : Option Reply) → delivered x r ≢ Replied reply Lost
      by None r e = cc
      by (Some x) None e = cc
      by (Some x) (Some r) e = told (applies r x) e
        where
          told : (b : Bool) → cond b (Moved (newest_serial (serials_after r.kind x.serials))) Stale ≢ Replied reply Lost
          told true e = cc
          told false e = cc
