-- What is known of the outputs is kept where some are spent, where more are named, and where more are made.
use Rattle.std.proofs.Common.{◌≡◌, ℕ, zero, suc, ◌+◌, ◌<◌, ◌≤◌, Bool, true, false, cond, List, [], ◌∷◌, ◌++◌, set, length, Option, Some, None, sym}
use Rattle.std.proofs.Common.{ap, ◌∙◌, subst, ap₂, ⊎_elim, arith}
use Rattle.std.specs.Prelude.{bytes_eq, nat_lt, slice_get, option_map, if◌then◌else◌}
use Rattle.std.specs.BTreeMap as tree
use Rattle.std.specs.BTreeMap.{BTreeMap}
use Rattle.std.proofs.lemmas.Bool.{cases_Bool, ltb-true, ltb-false}
use Rattle.std.proofs.lemmas.List.{length-append, length-map, length-set, map-append}
use Rattle.std.proofs.lemmas.Option.{none-some, same_Some}
use Rattle.uo_digest.specs.declared.digest.Digest.{Digest}
use Rattle.tx_codec.specs.Transaction.{Output}
use Rattle.leaf_record.specs.Leaf.{Leaf}
use Rattle.leaf_record.specs.History.{History}
use Rattle.block_rules.specs.declared.origins.Origins.{Origins}
use Rattle.block_rules.specs.declared.outpoint.TxidKey.{TxidKey}
use Rattle.block_rules.specs.declared.made_outputs.Named.{Named}
use Rattle.block_rules.specs.declared.made_outputs.MadeOutputs.{MadeOutputs}
use Rattle.block_rules.specs.Blocks.{is_spendable}
use Rattle.block_rules.specs.KeptOutputs.{KeptOutput, kept_from}
use Rattle.block_rules.specs.Keys.{key_of_id, id_cmp}
use Rattle.block_rules.specs.Known.{txid_at, leaf_at, history_at, history, NoneOf, IsNewest, IsPlaced, IsNamed, AreOf, Knows, KnowsAll}
use Rattle.block_rules.proofs.Keyed.{id_eq, same_digest}

-- ---- lists by index

get_front : {X : Type 0} (xs ys : List X) (k : ℕ) (x : X) → k < length xs → slice_get (xs ++ ys) k ≡ Some x → slice_get xs k ≡ Some x
get_front [] ys k x l e = absurd (omega (arith, l))
get_front (z ∷ xs) ys zero x l e = e
get_front (z ∷ xs) ys (suc k) x l e = get_front xs ys k x (omega (arith, l)) e

get_behind : {X : Type 0} (xs ys : List X) (k : ℕ) (x : X) → length xs ≤ k → slice_get (xs ++ ys) k ≡ Some x → (j : ℕ) × (length xs + j ≡ k)
    × (slice_get ys j ≡ Some x)
get_behind [] ys k x l e = (k, omega arith, e)
get_behind (z ∷ xs) ys zero x l e = absurd (omega (arith, l))
get_behind (z ∷ xs) ys (suc k) x l e = let r = get_behind xs ys k x (omega (arith, l)) e in let a = r.1 in (r.0, omega (arith, a), r.2)

get_last : {X : Type 0} (xs : List X) (y x : X) (k : ℕ) → length xs ≤ k → slice_get (xs ++ y ∷ []) k ≡ Some x → (k ≡ length xs) × (y ≡ x)
get_last xs y x k l e = let r = get_behind xs (y ∷ []) k x l e in by_case r.0 r.1 r.2
  where
    by_case : (j : ℕ) → length xs + j ≡ k → slice_get (y ∷ []) j ≡ Some x → (k ≡ length xs) × (y ≡ x)
    by_case zero a b = (omega (arith, a), same_Some y x b)
    by_case (suc j) a b = absurd (none-some x b)

get_set : {X : Type 0} (xs : List (Option X)) (i k : ℕ) (x : X) → slice_get (set xs i None) k ≡ Some (Some x) → slice_get xs k ≡ Some (Some x)
get_set [] i k x e = e
get_set (y ∷ xs) zero zero x e = absurd (none-some x (same_Some None (Some x) e))
get_set (y ∷ xs) zero (suc k) x e = e
get_set (y ∷ xs) (suc i) zero x e = e
get_set (y ∷ xs) (suc i) (suc k) x e = get_set xs i k x e

-- ---- other outputs

-- no other outputs are left up to a number
abbrev Fewer : ℕ → History → History → Type 0
Fewer to h g = (n : ℕ) (leaf : Leaf) → n < to → slice_get g n ≡ Some (Some leaf) → slice_get h n ≡ Some (Some leaf)

newest_kept : (ids : List Digest) (named : List Named) (h g : History) (known : ℕ) (id : Digest) (few to : ℕ) (x : Option ℕ) → to ≤ known
    → Fewer known h g → IsNewest ids named h id few to x → IsNewest ids named g id few to x
newest_kept ids named h g known id few to None l f s = λ n leaf a b e. s n leaf a b (f n leaf (omega (arith, l, b)) e)
newest_kept ids named h g known id few to (Some k) l f s =
    record { within = s.within; same = s.same; none = λ d m n leaf a b e. s.none d m n leaf a b (f n leaf (omega (arith, l, b)) e) }

named_kept : (ids : List Digest) (named : List Named) (newest : BTreeMap TxidKey ℕ) (known : ℕ) (h g : History) → Fewer known h g → known ≤ length g
    → IsNamed ids named newest known h → IsNamed ids named newest known g
named_kept ids named newest known h g f l s = record {
  few = l;
  placed = λ k d e.
      let p = s.placed k d e in
      let a = p.ordered in
      let b = p.within in
      record {
        ordered = a;
        within = b;
        own = λ n leaf x y m. p.own n leaf x y (f n leaf (omega (arith, y, b)) m);
        before = newest_kept ids named h g known (txid_at ids k) k d.start d.before (omega (arith, a, b)) f p.before;
      };
  newest = λ id. newest_kept ids named h g known id (length named) known (tree.get id_cmp newest (key_of_id id)) (omega arith) f (s.newest id);
}

pub spent_kept : (ids : List Digest) (named : List Named) (newest : BTreeMap TxidKey ℕ) (known : ℕ) (h g : History) (i : ℕ) → g ≡ set h i None
    → IsNamed ids named newest known h → IsNamed ids named newest known g
spent_kept ids named newest known h g i e s =
    let few = s.few in
    let long = length-set h i None in
    subst (IsNamed ids named newest known) (sym e)
    (named_kept ids named newest known h (set h i None) (λ n leaf l m. get_set h i n leaf m) (omega (arith, few, long)) s)

-- ---- more outputs

kept_at : (o : Origins) (t i : ℕ) (outputs : List Output) (n : ℕ) (leaf : Leaf)
    → slice_get (history_at o (kept_from t i outputs)) n ≡ Some (Some leaf) → (leaf.point.txid ≡ txid_at o.txids.items t) × (i + n ≡ leaf.point.index)
kept_at o t i [] n leaf e = absurd (none-some _ e)
kept_at o t i (output ∷ outputs) zero leaf e = by_case (is_spendable output) (same_Some _ _ e)
  where
    by_case : (b : Bool) → option_map (leaf_at o) (if b then Some (record { tx = t; index = i; amount = output.amount; script = output.script }) else
        None) ≡ Some leaf → (leaf.point.txid ≡ txid_at o.txids.items t) × (i + 0 ≡ leaf.point.index)
    by_case true m = let s = same_Some _ leaf m in let k = ap (λ (l : Leaf). l.point.index) s in
        (sym (ap (λ (l : Leaf). l.point.txid) s), omega (arith, k))
    by_case false m = absurd (none-some leaf m)
kept_at o t i (output ∷ outputs) (suc n) leaf e = let r = kept_at o t (suc i) outputs n leaf e in let a = r.1 in (r.0, omega (arith, a))

module _ (o : Origins) (named : List Named) (newest : BTreeMap TxidKey ℕ) (known t : ℕ) (outputs : List Output) (h g : History)
    (e : g ≡ h ++ history_at o (kept_from t 0 outputs)) (all : known ≡ length h) where
  pub added_named : IsNamed o.txids.items named newest known h → IsNamed o.txids.items named newest known g
  added_named s =
      let long = length-append h (history_at o (kept_from t 0 outputs)) in
      subst (IsNamed o.txids.items named newest known) (sym e) (named_kept o.txids.items named newest known h
      (h ++ history_at o (kept_from t 0 outputs)) (λ n leaf l m. get_front h _ n (Some leaf) (omega (arith, l, all)) m) (omega (arith, all, long))
      s)

  pub added_last : AreOf o.txids.items t known g
  added_last = subst (AreOf o.txids.items t known) (sym e) (λ n leaf l m.
      let r = get_behind h (history_at o (kept_from t 0 outputs)) n (Some leaf) (omega (arith, l, all)) m in
      let a = r.1 in
      let k = kept_at o t 0 outputs r.0 leaf r.2 in
      let b = k.1 in
      (k.0, omega (arith, a, b, all)))

-- ---- more names

module _ (ids : List Digest) (named : List Named) (old new : BTreeMap TxidKey ℕ) (known : ℕ) (h : History) (before : Option ℕ)
    (s : IsNamed ids named old known h) (last : AreOf ids (length named) known h)
    (was : before ≡ tree.get id_cmp old (key_of_id (txid_at ids (length named))))
    (u : tree.Updates id_cmp old new (key_of_id (txid_at ids (length named))) (Some (length named))) where
  abbrev one : Named
  one = record { start = known; end = length h; before = before }

  abbrev more : List Named
  more = named ++ one ∷ []

  longer : length more ≡ length named + 1
  longer = length-append named (one ∷ [])

  newest_more : (id : Digest) (few to : ℕ) (x : Option ℕ) → few ≤ length named → IsNewest ids named h id few to x → IsNewest ids more h id few to x
  newest_more id few to None l m = m
  newest_more id few to (Some k) l m = let a = m.within in
      record { within = a; same = m.same; none = λ d e. m.none d (get_front named (one ∷ []) k d (omega (arith, a, l)) e) }

  none_more : (id : Digest) (from : ℕ) → bytes_eq (txid_at ids (length named)).0 id.0 ≡ false → NoneOf id from known h → NoneOf id from (length h) h
  none_more id from other f n leaf a b e =
      ⊎_elim
      (λ t. f n leaf a (ltb-true n known t) e)
      (λ t. ap (λ (x : Digest). bytes_eq x.0 id.0) (last n leaf (ltb-false n known t) e).0 ∙ other)
      (cases_Bool (nat_lt n known))

  placed_more : (k : ℕ) (d : Named) → slice_get more k ≡ Some d → IsPlaced ids more h (length h) k d
  placed_more k d e =
      ⊎_elim
      (λ t.
      let l = ltb-true k (length named) t in
      let p = s.placed k d (get_front named (one ∷ []) k d l e) in
      let a = p.within in
      let few = s.few in
      record {
        ordered = p.ordered;
        within = omega (arith, a, few);
        own = p.own;
        before =
            newest_more (txid_at ids k) k d.start d.before (omega (arith, l)) p.before;
      })
      (λ t.
      let r = get_last named one d k (ltb-false k (length named) t) e in
      subst (λ j. IsPlaced ids more h (length h) j d) (sym r.0)
      (subst (IsPlaced ids more h (length h) (length named)) r.1 (record {
        ordered = s.few;
        within = omega arith;
        own = λ n leaf a b m. last n leaf a m;
        before = subst (IsNewest ids more h (txid_at ids (length named)) (length named) known) (sym was)
            (newest_more (txid_at ids (length named)) (length named) known _ (omega arith) (s.newest (txid_at ids (length named))));
      })))
      (cases_Bool (nat_lt k (length named)))

  names_more : (id : Digest) → IsNewest ids more h id (length more) (length h) (tree.get id_cmp new (key_of_id id))
  names_more id =
      subst (IsNewest ids more h id (length more) (length h)) (sym
      (u.0 (key_of_id id) ∙ ap (λ b. cond b (Some (length named)) (tree.get id_cmp old (key_of_id id))) (id_eq (txid_at ids (length named)) id)))
      (⊎_elim
      (λ t. rw t (record {
        within = let a = longer in omega (arith, a);
        same = same_digest (txid_at ids (length named)) id t;
        none = λ d e. let r = get_last named one d (length named) (omega arith) e in λ n leaf a b m. let c = ap (λ (x : Named). x.end) r.1 in
            absurd (omega (arith, a, b, c));
      }))
      (λ f. rw f (by_case (tree.get id_cmp old (key_of_id id)) f (s.newest id)))
      (cases_Bool (bytes_eq (txid_at ids (length named)).0 id.0)))
    where
      by_case : (x : Option ℕ) → bytes_eq (txid_at ids (length named)).0 id.0 ≡ false → IsNewest ids named h id (length named) known x
          → IsNewest ids more h id (length more) (length h) x
      by_case None f m = none_more id 0 f m
      by_case (Some k) f m =
          let a = m.within in
          record {
            within = let b = longer in omega (arith, a, b);
            same = m.same;
            none = λ d e. none_more id d.end f (m.none d (get_front named (one ∷ []) k d a e));
          }

  pub names_on : IsNamed ids more new (length h) h
  names_on = record { few = omega arith; placed = placed_more; newest = names_more }

pub named_all : (o : Origins) (outputs : List (Option KeptOutput)) (named more : List Named) (old new : BTreeMap TxidKey ℕ) (known size end place : ℕ)
    (before : Option ℕ) (key : TxidKey) → place ≡ length named → key ≡ key_of_id (txid_at o.txids.items place) → size ≡ length outputs → end ≡ size →
    IsNamed o.txids.items named old known (history_at o outputs) → AreOf o.txids.items (length named) known (history_at o outputs)
    → before ≡ tree.get id_cmp old key → tree.Updates id_cmp old new key (Some place) →
    more ≡ named ++ record { start = known; end = end; before = before } ∷ [] → IsNamed o.txids.items more new size (history_at o outputs)
named_all o outputs named more old new known size end place before key at k e f s last was u m =
    let h = history_at o outputs in
    let long : length h ≡ size = length-map outputs (option_map (leaf_at o)) ∙ sym e in
    let key_is : key ≡ key_of_id (txid_at o.txids.items (length named)) = k ∙ ap (λ (n : ℕ). key_of_id (txid_at o.txids.items n)) at in
    let told = subst (λ (n : ℕ). tree.Updates id_cmp old new (key_of_id (txid_at o.txids.items (length named))) (Some n)) at
    (subst (λ (x : TxidKey). tree.Updates id_cmp old new x (Some place)) key_is u) in
    let all = names_on o.txids.items named old new known h before s last (was ∙ ap (tree.get id_cmp old) key_is) told in
    subst (λ (xs : List Named). IsNamed o.txids.items xs new size h) (sym m)
    (subst (λ (n : ℕ). IsNamed o.txids.items (named ++ record { start = known; end = n; before = before } ∷ []) new size h) (sym f)
    (subst (λ (n : ℕ). IsNamed o.txids.items (named ++ record { start = known; end = n; before = before } ∷ []) new n h) long all))

-- ---- of what was made

pub added_knows : (old next : MadeOutputs) (t : ℕ) (outputs : List Output) → t ≡ length old.named.items → KnowsAll old
    → next.outputs.items ≡ old.outputs.items ++ kept_from t 0 outputs →
    next.origins ≡ old.origins → next.named.items ≡ old.named.items → next.known ≡ old.known → next.newest ≡ old.newest → Knows next
added_knows old next t outputs place all added origins named known newest =
    let ids = old.origins.txids.items in
    let is : history next ≡ history old ++ history_at old.origins (kept_from t 0 outputs) =
    ap₂ history_at origins added ∙ map-append (option_map (leaf_at old.origins)) old.outputs.items (kept_from t 0 outputs) in
    let long = length-map old.outputs.items (option_map (leaf_at old.origins)) in
    let whole : old.known ≡ length (history old) = all.all ∙ sym long in
    let front = added_named old.origins old.named.items old.newest old.known t outputs (history old) (history next) is whole all.front in
    let last = subst (λ (n : ℕ). AreOf ids n old.known (history next)) place
    (added_last old.origins old.named.items old.newest old.known t outputs (history old) (history next) is whole) in
    record {
      front =
          subst (λ (x : Origins). IsNamed x.txids.items next.named.items next.newest next.known (history next)) (sym origins)
          (subst (λ (x : List Named). IsNamed ids x next.newest next.known (history next)) (sym named)
          (subst (λ (x : BTreeMap TxidKey ℕ). IsNamed ids old.named.items x next.known (history next)) (sym newest)
          (subst (λ (x : ℕ). IsNamed ids old.named.items old.newest x (history next)) (sym known) front)));
      last =
          subst (λ (x : Origins). AreOf x.txids.items (length next.named.items) next.known (history next)) (sym origins)
          (subst (λ (x : List Named). AreOf ids (length x) next.known (history next)) (sym named)
          (subst (λ (x : ℕ). AreOf ids (length old.named.items) x (history next)) (sym known) last));
    }
