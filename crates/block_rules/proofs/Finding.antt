-- How the newest output of a name is found: transaction by transaction of its id, the newest first.
use Rattle.std.proofs.Common.{◌≡◌, ℕ, zero, suc, ◌+◌, ◌-◌, ◌<◌, ◌≤◌, true, false, List, [], ◌∷◌, length, set, Option, Some, None, refl, sym, ap, ◌∙◌}
use Rattle.std.proofs.Common.{ap₂, subst, ⊎_elim, arith, lt-ltb, get_or}
use Rattle.std.specs.Prelude.{◌&&◌, ◌==◌, bytes_eq, nat_lt, slice_get, option_map}
use Rattle.std.specs.BTreeMap as tree
use Rattle.std.specs.BTreeMap.{BTreeMap}
use Rattle.std.proofs.lemmas.Bool.{cases_Bool, ltb-true, ltb-false}
use Rattle.std.proofs.lemmas.Option.{none-some, same_Some, slice_get_within, slice_get_read}
use Rattle.uo_digest.specs.declared.digest.Digest.{Digest}
use Rattle.leaf_record.specs.Leaf.{Outpoint, Leaf}
use Rattle.leaf_record.specs.History.{History, Entry, newer, newest, same_point}
use Rattle.leaf_record.proofs.HistoryLaws.{same_point-true, same_point-same, newest_is}
use Rattle.block_rules.specs.declared.outpoint.TxidKey.{TxidKey}
use Rattle.block_rules.specs.declared.made_outputs.Named.{Named}
use Rattle.block_rules.specs.Blocks.{once_taken, taken}
use Rattle.block_rules.specs.Keys.{key_of_id, id_cmp}
use Rattle.block_rules.specs.Known.{txid_at, found_if, found_at, number_if, number_in, IsNewest, IsPlaced, IsNamed}
use Rattle.block_rules.specs.Money.{found_of}

-- ---- the newest of a name, number by number

newest_none : (p : Outpoint) (us : History) → ((n : ℕ) (leaf : Leaf) → slice_get us n ≡ Some (Some leaf) → same_point leaf.point p ≡ false)
    → newest p us ≡ None
newest_none p [] f = refl
newest_none p (u ∷ us) f = ap (newer p u) (newest_none p us (λ n leaf e. f (suc n) leaf e)) ∙ by_case u (λ leaf e. f 0 leaf (ap (λ x. Some x) e))
  where
    by_case : (u : Option Leaf) → ((leaf : Leaf) → u ≡ Some leaf → same_point leaf.point p ≡ false) → newer p u None ≡ None
    by_case None g = refl
    by_case (Some leaf) g = rw (g leaf refl) refl

newest_here : (p : Outpoint) (us : History) (n : ℕ) (leaf : Leaf) → slice_get us n ≡ Some (Some leaf) → same_point leaf.point p ≡ true →
    ((k : ℕ) (other : Leaf) → n < k → slice_get us k ≡ Some (Some other) → same_point other.point p ≡ false)
    → newest p us ≡ Some (record { number = n; leaf = leaf })
newest_here p [] n leaf e s f = absurd (none-some _ e)
newest_here p (u ∷ us) zero leaf e s f =
    ap (newer p u) (newest_none p us (λ n other g. f (suc n) other (omega arith) g))
    ∙ (ap (λ x. newer p x None) (same_Some u (Some leaf) e) ∙ rw s refl)
newest_here p (u ∷ us) (suc n) leaf e s f =
    ap (newer p u) (newest_here p us n leaf e s (λ k other l g. f (suc k) other (omega (arith, l)) g))

other_id : (q p : Outpoint) → bytes_eq q.txid.0 p.txid.0 ≡ false → same_point q p ≡ false
other_id q p e = ap (λ b. b && q.index == p.index) e

-- ---- what is still to be asked

abbrev pub steps_left : Option ℕ → ℕ
steps_left None = 0
steps_left (Some k) = suc k

-- the transactions from the next one back are still to be asked
pub record IsSought (ids : List Digest) (named : List Named) (h : History) (p : Outpoint) (next : Option ℕ) : Type 0 where
  pub to : ℕ
  pub here : IsNewest ids named h p.txid (length named) to next
  pub behind : (n : ℕ) (leaf : Leaf) → to ≤ n → slice_get h n ≡ Some (Some leaf) → same_point leaf.point p ≡ false

module _ (ids : List Digest) (named : List Named) (newest_of : BTreeMap TxidKey ℕ) (known : ℕ) (h : History) (p : Outpoint)
    (is : IsNamed ids named newest_of known h) where
  pub sought_starts : known ≡ length h → (next : Option ℕ) → next ≡ tree.get id_cmp newest_of (key_of_id p.txid) → IsSought ids named h p next
  sought_starts all next e = record {
    to = known;
    here = subst (IsNewest ids named h p.txid (length named) known) (sym e) (is.newest p.txid);
    behind = λ n leaf l g. let w = slice_get_within h n (Some leaf) g in absurd (omega (arith, l, w, all));
  }

  pub sought_some : (next : Option ℕ) (k : ℕ) (d : Named) → next ≡ Some k → IsSought ids named h p next → d ≡ get_or named k d
      → IsSought ids named h p (Some k) × (slice_get named k ≡ Some d)
  sought_some next k d e s g =
      let here = subst (IsSought ids named h p) e s in
      (here, slice_get_read named (length named) k d refl here.here.within g)

  pub sought_none : IsSought ids named h p None → newest p h ≡ None
  sought_none s = newest_none p h (λ n leaf g. ⊎_elim (λ t. other_id leaf.point p (s.here n leaf (omega arith) (ltb-true n s.to t) g))
      (λ f. s.behind n leaf (ltb-false n s.to f) g) (cases_Bool (nat_lt n s.to)))

  module _ (k : ℕ) (d : Named) (s : IsSought ids named h p (Some k)) (e : slice_get named k ≡ Some d) where
    placed : IsPlaced ids named h known k d
    placed = is.placed k d e

    -- behind its own outputs none has the name
    behind_end : (n : ℕ) (leaf : Leaf) → d.end ≤ n → slice_get h n ≡ Some (Some leaf) → same_point leaf.point p ≡ false
    behind_end n leaf l g = ⊎_elim (λ t. other_id leaf.point p (s.here.none d e n leaf l (ltb-true n s.to t) g))
        (λ f. s.behind n leaf (ltb-false n s.to f) g) (cases_Bool (nat_lt n s.to))

    -- and of its own only that at the index
    behind_start : (n : ℕ) (leaf : Leaf) → d.start ≤ n → (d.start + p.index ≡ n → n < d.end → ⊥) → slice_get h n ≡ Some (Some leaf)
        → same_point leaf.point p ≡ false
    behind_start n leaf l other g =
        ⊎_elim
        (λ t.
        let b = ltb-true n d.end t in
        let o = placed.own n leaf l b g in
        ⊎_elim (λ y. let i = ap (λ (q : Outpoint). q.index) (same_point-true leaf.point p y) in absurd (other (omega (arith, i, o.1)) b)) (λ f. f)
        (cases_Bool (same_point leaf.point p)))
        (λ f. behind_end n leaf (ltb-false n d.end f) g)
        (cases_Bool (nat_lt n d.end))

    pub sought_on : number_in d p.index h ≡ None → IsSought ids named h p d.before
    sought_on none = record {
      to = d.start;
      here = more d.before (subst (λ id. IsNewest ids named h id k d.start d.before) s.here.same placed.before);
      behind = λ n leaf l g. behind_start n leaf l (λ at b. none-some n (sym none ∙ found n leaf at b g)) g;
    }
      where
        more : (x : Option ℕ) → IsNewest ids named h p.txid k d.start x → IsNewest ids named h p.txid (length named) d.start x
        more None m = m
        more (Some j) m = let a = m.within in let b = s.here.within in record { within = omega (arith, a, b); same = m.same; none = m.none }

        found : (n : ℕ) (leaf : Leaf) → d.start + p.index ≡ n → n < d.end → slice_get h n ≡ Some (Some leaf) → number_in d p.index h ≡ Some n
        found n leaf at b g =
            rw (lt-ltb p.index (d.end - d.start) (omega (arith, at, b)))
            (ap (λ m. number_if m (slice_get h m)) at ∙ ap (number_if n) g)

    pub sought_less : steps_left d.before < suc k
    sought_less = by_case d.before placed.before
      where
        by_case : (x : Option ℕ) → IsNewest ids named h (txid_at ids k) k d.start x → steps_left x < suc k
        by_case None m = omega arith
        by_case (Some j) m = let a = m.within in omega (arith, a)

    pub sought_found : (n : ℕ) → number_in d p.index h ≡ Some n → Some n ≡ option_map (λ e. e.number) (newest p h)
    sought_found n e =
        ⊎_elim
        (λ t. by_case (slice_get h (d.start + p.index)) refl (ltb-true p.index (d.end - d.start) t) (rw t at e))
        (λ f. absurd (none-some n (rw f at e)))
        (cases_Bool (nat_lt p.index (d.end - d.start)))
      where
        by_case : (u : Option (Option Leaf)) → slice_get h (d.start + p.index) ≡ u → p.index < d.end - d.start
            → number_if (d.start + p.index) u ≡ Some n → Some n ≡ option_map (λ e. e.number) (newest p h)
        by_case None g l m = absurd (none-some n m)
        by_case (Some None) g l m = absurd (none-some n m)
        by_case (Some (Some leaf)) g l m =
            let o = placed.own (d.start + p.index) leaf (omega arith) (omega (arith, l)) g in
            let index : leaf.point.index ≡ p.index = omega (arith, o.1) in
            let point : leaf.point ≡ p = ap₂ (λ (x : Digest) (y : ℕ). let q : Outpoint = record { txid = x; index = y } in
            q) (o.0 ∙ s.here.same) index in
            let same = ap (λ q. same_point q p) point ∙ same_point-same p in
            sym (ap (option_map (λ e. e.number)) (newest_here p h (d.start + p.index) leaf g same
            (λ j other a b. behind_start j other (omega (arith, a)) (λ at c. omega (arith, at, a)) b)) ∙ m)

-- ---- and what is taken away

pub told_found : (p : Outpoint) (h : History) (n : ℕ) → Some n ≡ option_map (λ e. e.number) (newest p h)
    → found_at n h ≡ option_map (λ e. found_of e.leaf.rest) (newest p h)
told_found p h n e = by_case (newest p h) refl e
  where
    by_case : (x : Option Entry) → newest p h ≡ x → Some n ≡ option_map (λ e. e.number) x → found_at n h ≡ option_map (λ e. found_of e.leaf.rest) x
    by_case None q e = absurd (none-some n (sym e))
    by_case (Some f) q e = ap (λ k. found_at k h) (same_Some n f.number e) ∙ ap found_if (newest_is p h f q).0

pub told_taken : (p : Outpoint) (h : History) (n : ℕ) → Some n ≡ option_map (λ e. e.number) (newest p h) → set h n None ≡ taken p h
told_taken p h n e = by_case (newest p h) e
  where
    by_case : (x : Option Entry) → Some n ≡ option_map (λ e. e.number) x → set h n None ≡ once_taken x h
    by_case None e = absurd (none-some n (sym e))
    by_case (Some f) e = ap (λ k. set h k None) (same_Some n f.number e)

pub told_none : (p : Outpoint) (h : History) → None ≡ option_map (λ e. e.number) (newest p h) → newest p h ≡ None
told_none p h e = by_case (newest p h) e
  where
    by_case : (x : Option Entry) → None ≡ option_map (λ e. e.number) x → x ≡ None
    by_case None e = refl
    by_case (Some f) e = absurd (none-some f.number e)

pub told_within : (p : Outpoint) (h : History) (n : ℕ) → Some n ≡ option_map (λ e. e.number) (newest p h) → n < length h
told_within p h n e = by_case (newest p h) refl e
  where
    by_case : (x : Option Entry) → newest p h ≡ x → Some n ≡ option_map (λ e. e.number) x → n < length h
    by_case None q e = absurd (none-some n (sym e))
    by_case (Some f) q e = let w = slice_get_within h f.number (Some f.leaf) (newest_is p h f q).0 in let s = same_Some n f.number e in
        omega (arith, w, s)
