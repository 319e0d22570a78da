-- A ticket is a lawful format.
use Rattle.std.proofs.Common.{◌≡◌, ℕ, ◌<◌, ◌^◌, true, false, List, [], ◌∷◌, ◌++◌, length, drop, Option, Some, None, Ok, Err, refl, sym, ap, ap₂, ◌∙◌}
use Rattle.std.proofs.Common.{subst, append_assoc, ⊎_elim, eq-eqb}
use Rattle.std.specs.Prelude.{◌==◌, ◌&&◌, ◌↔◌, MatchOption, Result, IfOk, IsErrOf}
use Rattle.std.proofs.lemmas.Bool.{and_parts, eqb-true, cases_Bool, false≢true, ne_eqb}
use Rattle.std.specs.Int.{w32, w64, to_le_bytes}
use Rattle.std.specs.List.{AllByRecursion}
use Rattle.std.proofs.lemmas.List.{append-nil}
use Rattle.uo_base.specs.Reading.{IsBytes, number_at, OneReading}
use Rattle.uo_base.specs.Compact.{counted, counted_at}
use Rattle.uo_base.proofs.Formats.{Lawful, same, led, ended, one_reading, Always, u32_lawful, u64_lawful, IsBytes-drop}
use Rattle.uo_base.proofs.CompactLaws.{AreCounted, counted_lawful}
use Rattle.uo_digest.specs.Reading.{IsDigest, digest_text, digest_in_front}
use Rattle.uo_digest.proofs.DigestLaws.{digest_lawful}
use Rattle.leaf_record.specs.Leaf.{RestFits, LeafFits, rest_text}
use Rattle.leaf_record.specs.Reading.{rest_at}
use Rattle.leaf_record.proofs.LeafLaws.{rest_lawful}
use Rattle.ticket_check.specs.Tickets.{Ticket, ticket_body_text, ticket_text, TicketFits, IsOfVersion}
use Rattle.ticket_check.specs.declared.fault.TicketFault.{TicketFault}
use Rattle.ticket_check.specs.declared.fault.TicketFault.TheVariants.{NotATicket, Version}
use Rattle.ticket_check.specs.Reading.{front_text, ticket_body_at, ended_read, of_version, ticket_in, IsWhole}

hashes_lawful : Lawful (AreCounted IsDigest) (counted digest_text) (counted_at digest_in_front)
hashes_lawful = counted_lawful IsDigest digest_text digest_in_front digest_lawful

pub body_lawful : Lawful TicketFits ticket_body_text ticket_body_at
unfolding ticket_body_at ticket_body_text
body_lawful =
    same _ TicketFits _ ticket_body_text ticket_body_at
    (led Always IsDigest digest_text digest_in_front (λ k. k.tip) _ _ _ digest_lawful (λ tip _.
    led (λ k. Unit {0} × (k.tip ≡ tip)) (λ n. n < 2 ^ 64) (to_le_bytes w64) (number_at w64) (λ k. k.target) _ _ _ u64_lawful (λ target _.
    led (λ k. (Unit {0} × (k.tip ≡ tip)) × (k.target ≡ target)) IsDigest digest_text digest_in_front (λ k. k.leaf.point.txid) _ _ _ digest_lawful
    (λ txid _.
    led (λ k. ((Unit {0} × (k.tip ≡ tip)) × (k.target ≡ target)) × (k.leaf.point.txid ≡ txid)) (λ n. n < 2 ^ 32) (to_le_bytes w32) (number_at w32)
    (λ k. k.leaf.point.index) _ _ _ u32_lawful (λ index _.
    led (λ k. (((Unit {0} × (k.tip ≡ tip)) × (k.target ≡ target)) × (k.leaf.point.txid ≡ txid)) × (k.leaf.point.index ≡ index)) RestFits rest_text
    rest_at (λ k. k.leaf.rest) _ _ _ rest_lawful (λ rest _.
    led (λ k. ((((Unit {0} × (k.tip ≡ tip)) × (k.target ≡ target)) × (k.leaf.point.txid ≡ txid)) × (k.leaf.point.index ≡ index))
    × (k.leaf.rest ≡ rest)) (AreCounted IsDigest) (counted digest_text) (counted_at digest_in_front) (λ k. k.hashes) _ _ _ hashes_lawful
    (λ hashes _.
    ended (λ k. (((((Unit {0} × (k.tip ≡ tip)) × (k.target ≡ target)) × (k.leaf.point.txid ≡ txid)) × (k.leaf.point.index ≡ index))
    × (k.leaf.rest ≡ rest)) × (k.hashes ≡ hashes))
    (record { tip = tip; target = target; leaf = record { point = record { txid = txid; index = index }; rest = rest }; hashes = hashes })
    ((((((tt, refl), refl), refl), refl), refl), refl)
    (λ k e. rw (← e.0.0.0.0.0.1, ← e.0.0.0.0.1, ← e.0.0.0.1, ← e.0.0.1, ← e.0.1, ← e.1) refl))))))))
    (λ k f. record {
      tip = f.1.0;
      target = f.1.1.0;
      leaf = record { txid = f.1.1.1.0; index = f.1.1.1.1.0; rest = f.1.1.1.1.1.0 };
      count =
          f.1.1.1.1.1.1.0.0;
      hashes = f.1.1.1.1.1.1.0.1;
    })
    (λ k f. (tt, (f.tip, (f.target, (f.leaf.txid, (f.leaf.index, (f.leaf.rest, ((f.count, f.hashes), tt))))))))
    (λ k _. regrouped k.tip.0 (to_le_bytes w64 k.target) k.leaf.point.txid.0 (to_le_bytes w32 k.leaf.point.index) (rest_text k.leaf.rest)
    (counted digest_text k.hashes))
  where
    regrouped : (t p x i r h : List ℕ) → t ++ (p ++ (x ++ (i ++ (r ++ (h ++ []))))) ≡ t ++ p ++ x ++ i ++ r ++ h
    regrouped t p x i r h = simp (append_assoc, append-nil)

-- the parts as they are written
pub parts_told : (k : Ticket) (o a b c : List ℕ) → a ≡ o ++ front_text k.tip k.target
    → b ≡ a ++ k.leaf.point.txid.0 ++ to_le_bytes w32 k.leaf.point.index ++ rest_text k.leaf.rest → c ≡ b ++ counted digest_text k.hashes
    → c ≡ o ++ ticket_text k
unfolding ticket_body_text
parts_told k o a b c ea eb ec =
    ec ∙ (ap (λ (t : List ℕ). t ++ counted digest_text k.hashes)
    (eb ∙ ap (λ (t : List ℕ). t ++ k.leaf.point.txid.0 ++ to_le_bytes w32 k.leaf.point.index ++ rest_text k.leaf.rest) ea)
    ∙ regrouped (85 ∷ 84 ∷ 88 ∷ 84 ∷ 1 ∷ []) o k.tip.0 (to_le_bytes w64 k.target) k.leaf.point.txid.0 (to_le_bytes w32 k.leaf.point.index)
    (rest_text k.leaf.rest) (counted digest_text k.hashes))
  where
    regrouped : (m o t p x i r h : List ℕ) → (o ++ (m ++ (t ++ p))) ++ x ++ i ++ r ++ h ≡ o ++ (m ++ (t ++ p ++ x ++ i ++ r ++ h))
    regrouped m o t p x i r h = simp append_assoc

-- and what is written fits
pub parts_fit : (k : Ticket) → IsDigest k.tip → k.target < 2 ^ 64 → LeafFits k.leaf → length k.hashes < 2 ^ 64 → AllByRecursion IsDigest k.hashes
    → TicketFits k
parts_fit k tip target leaf count hashes = record { tip = tip; target = target; leaf = leaf; count = count; hashes = hashes }

-- bytes are the body of what fits
pub body_took : (bytes : List ℕ) (k : Ticket) → IsBytes bytes → ticket_body_at bytes ≡ Some (k, []) → TicketFits k × (bytes ≡ ticket_body_text k)
body_took bytes k is_bytes e =
    let t = body_lawful.took bytes k [] is_bytes e in
    (t.fits, t.parts ∙ append-nil (ticket_body_text k))

pub no_body : (bytes : List ℕ) → ((k : Ticket) → ticket_body_at bytes ≡ Some (k, []) → ⊥) → (k : Ticket) → TicketFits k
    → bytes ≡ ticket_body_text k → ⊥
no_body bytes none k fits e = none k (ap ticket_body_at (e ∙ sym (append-nil (ticket_body_text k))) ∙ body_lawful.again k [] fits)

tails : {a b c d e : ℕ} {xs ys : List ℕ} → a ∷ b ∷ c ∷ d ∷ e ∷ xs ≡ a ∷ b ∷ c ∷ d ∷ e ∷ ys → xs ≡ ys
tails e = cc

-- a ticket's text is the front of no other's
pub one_ticket : OneReading TicketFits ticket_text
one_ticket x y a b fx fy e = one_reading _ _ _ body_lawful x y a b fx fy (tails e)

-- what is read of a whole text
pub body_read : (r : Option Ticket) (bytes : List ℕ) → IsBytes bytes → IsWhole r bytes
    → MatchOption r ((k : Ticket) → TicketFits k → bytes ≡ ticket_body_text k → ⊥) (λ k. TicketFits k × (bytes ≡ ticket_body_text k))
body_read None bytes is_bytes none = λ k fits e. no_body bytes none k fits e
body_read (Some k) bytes is_bytes e = body_took bytes k is_bytes e

-- ---- the whole text, by computation

marked : (a b c d v : ℕ) (body : List ℕ) → ((a == 85) && ((b == 84) && ((c == 88) && (d == 84)))) ≡ true
    → a ∷ b ∷ c ∷ d ∷ v ∷ body ≡ 85 ∷ 84 ∷ 88 ∷ 84 ∷ v ∷ body
marked a b c d v body h =
    let w = and_parts (a == 85) ((b == 84) && ((c == 88) && (d == 84))) h in
    let x = and_parts (b == 84) ((c == 88) && (d == 84)) w.1 in
    let y = and_parts (c == 88) (d == 84) x.1 in
    rw (eqb-true a 85 w.0, eqb-true b 84 x.0, eqb-true c 88 y.0, eqb-true d 84 y.1) refl

-- what of a text's reading is known by cases on its first five bytes
of_front : (P : Result Ticket TicketFault → Type 0) (text : List ℕ)
    → ((v : ℕ) (body : List ℕ) → text ≡ 85 ∷ 84 ∷ 88 ∷ 84 ∷ v ∷ body → P (of_version v body)) → P (Err NotATicket) → P (ticket_in text)
of_front P [] go none = none
of_front P (a ∷ []) go none = none
of_front P (a ∷ b ∷ []) go none = none
of_front P (a ∷ b ∷ c ∷ []) go none = none
of_front P (a ∷ b ∷ c ∷ d ∷ []) go none = none
of_front P (a ∷ b ∷ c ∷ d ∷ v ∷ body) go none =
    ⊎_elim
    (λ t. rw t (go v body (marked a b c d v body t)))
    (λ f. rw f none)
    (cases_Bool ((a == 85) && ((b == 84) && ((c == 88) && (d == 84)))))

of_one : (P : Result Ticket TicketFault → Type 0) (v : ℕ) (body : List ℕ) → (v ≡ 1 → P (ended_read (ticket_body_at body)))
    → ((v ≡ 1 → ⊥) → P (Err (Version v))) → P (of_version v body)
of_one P v body one other =
    ⊎_elim (λ t. rw t (one (eqb-true v 1 t))) (λ f. rw f (other (λ e. false≢true (sym f ∙ eq-eqb v 1 e)))) (cases_Bool (v == 1))

never_read : (x : Option (Ticket × List ℕ)) → ((k : Ticket) → x ≡ Some (k, []) → ⊥) → Err NotATicket ≡ ended_read x
never_read None never = refl
never_read (Some (k, [])) never = absurd (never k refl)
never_read (Some (k, x ∷ left)) never = refl

tail_bytes : (v : ℕ) (body text : List ℕ) → IsBytes text → text ≡ 85 ∷ 84 ∷ 88 ∷ 84 ∷ v ∷ body → IsBytes body
tail_bytes v body text is_bytes e = subst (λ (t : List ℕ). IsBytes (drop 5 t)) e (IsBytes-drop 5 text is_bytes)

pub read_exactly : (r : Result Ticket TicketFault) (text : List ℕ) → IsBytes text → IfOk r (λ k. TicketFits k × (text ≡ ticket_text k))
    → (IsErrOf r NotATicket → (k : Ticket) → TicketFits k → text ≡ ticket_text k → ⊥) → ((v : ℕ) → IsErrOf r (Version v) ↔ IsOfVersion v text)
    → r ≡ ticket_in text
read_exactly (Ok k) text is_bytes found none version =
    let again : ticket_body_at (ticket_body_text k) ≡ Some (k, []) =
    ap ticket_body_at (sym (append-nil (ticket_body_text k))) ∙ body_lawful.again k [] found.0 in
    sym (ap ticket_in found.1 ∙ ap ended_read again)
read_exactly (Err NotATicket) text is_bytes found none version =
    of_front (λ r. Err NotATicket ≡ r) text
    (λ v body begins.
    of_one (λ r. Err NotATicket ≡ r) v body
    (λ one. never_read (ticket_body_at body) (λ k e. let t = body_took body k (tail_bytes v body text is_bytes begins) e in
    none refl k t.0 (begins ∙ ap₂ (λ (w : ℕ) (b : List ℕ). 85 ∷ 84 ∷ 88 ∷ 84 ∷ w ∷ b) one t.1)))
    (λ other. let z = (version v).1 (record { other = other; body = body; begins = begins }) in absurd cc))
    refl
read_exactly (Err (Version v)) text is_bytes found none version =
    let w = (version v).0 refl in
    let f : (v == 1) ≡ false = ne_eqb v 1 w.other in
    sym (ap ticket_in w.begins ∙ (rw f refl))

-- what is read of bytes has a text
pub ticket_fits : (text : List ℕ) (k : Ticket) → IsBytes text → ticket_in text ≡ Ok k → TicketFits k
ticket_fits text k is_bytes e =
    of_front (λ r. r ≡ Ok k → TicketFits k) text
    (λ v body begins. of_one (λ r. r ≡ Ok k → TicketFits k) v body
    (λ one. by_body body (tail_bytes v body text is_bytes begins) (ticket_body_at body) refl)
    (λ other h. absurd cc))
    (λ h. absurd cc) e
  where
    by_body : (body : List ℕ) → IsBytes body → (x : Option (Ticket × List ℕ)) → ticket_body_at body ≡ x → ended_read x ≡ Ok k → TicketFits k
    by_body body bytes None f h = absurd cc
    by_body body bytes (Some (j, [])) f h = let same : j ≡ k = cc in subst TicketFits same (body_took body j bytes f).0
    by_body body bytes (Some (j, x ∷ left)) f h = absurd cc
