-- The tickets of kept entries.
use Rattle.std.proofs.Common.{◌≡◌, ℕ, ◌-◌, ◌^◌, ◌<◌, true, List, [], ◌∷◌, map, length, get_or, Option, Some, None, refl, sym, ap, ◌∙◌, subst, ⊎_elim}
use Rattle.std.proofs.Common.{arith}
use Rattle.std.specs.Prelude.{option_map}
use Rattle.std.specs.Borrow.{Bor}
use Rattle.std.specs.List.{filter_map, cons_option}
use Rattle.std.proofs.lemmas.Bool.{cases_Bool, or_left, or_right, eqb-true}
use Rattle.std.proofs.lemmas.List.{length-map}
use Rattle.std.proofs.lemmas.Option.{none-some, same_Some}
use Rattle.uo_digest.specs.declared.digest.Digest.{Digest}
use Rattle.forest_place.specs.declared.place.Place.{Place}
use Rattle.forest_place.specs.Forest.{InForest}
use Rattle.forest_place.specs.Places.{is_at, has_place}
use Rattle.forest_place.proofs.Listed.{is_at-same}
use Rattle.forest_place.specs.Position.{IsLow}
use Rattle.forest_place.specs.declared.naming.Naming.TheVariants.{FixedPosition}
use Rattle.forest_place.proofs.NamedLaws.{place_by-number}
use Rattle.forest_place.proofs.Positions.{places_low}
use Rattle.forest_model.specs.Content.{leaf}
use Rattle.forest_model.specs.Standing.{tree_at, digest_at}
use Rattle.forest_model.specs.Cover.{need}
use Rattle.forest_model.specs.EntryPlace.{entry_place}
use Rattle.forest_model.specs.Right.{entries, IsLiveAt}
use Rattle.forest_model.proofs.Climbs.{tree_at-forest}
use Rattle.forest_model.proofs.Living.{entry_found}
use Rattle.leaf_record.specs.Leaf.{Leaf, leaf_text}
use Rattle.leaf_record.specs.History.{History}
use Rattle.cache_model.specs.declared.kept.Kept.{Kept}
use Rattle.cache_model.specs.Climbed.{beside_way}
use Rattle.cache_model.specs.Known.{kept as kept_numbers}
use Rattle.cache_model.specs.Lists.{IsCacheOf, kept_leaf, kept_leaf_of, leaf_places}
use Rattle.cache_model.specs.Undo.{is_same_number}
use Rattle.cache_model.proofs.Proving.{proof_climbed}
use Rattle.block_rules.specs.declared.chain.Chain.{Chain}
use Rattle.node_rules.proofs.Righting.{got, got_entry}
use Rattle.compact_node.specs.Node.{LevelState, NodeState, IsNode}
use Rattle.ticket_check.specs.Judging.{TicketRight}
use Rattle.ticket_check.specs.Written.{kept_of_number, ticket_with}
use Rattle.ticket_check.specs.Laws.{KeptTicketsAreRight}
use Rattle.proof_verify.proofs.Values.{asked_all}

-- ---- what is found

-- it comes from one number
found_from : (f : ℕ → Option Kept) (i : ℕ) (xs : List ℕ) (v : Kept) → kept_of_number (filter_map f xs) i ≡ Some v → (x : ℕ) × (f x ≡ Some v)
found_from f i [] v e = absurd (none-some v e)
found_from f i (x ∷ xs) v e = by_first (f x) refl e (found_from f i xs v)
  where
    by_first : (y : Option Kept) → f x ≡ y → kept_of_number (cons_option y (filter_map f xs)) i ≡ Some v
        → (kept_of_number (filter_map f xs) i ≡ Some v → (z : ℕ) × (f z ≡ Some v)) → (z : ℕ) × (f z ≡ Some v)
    by_first None g e rest = rest e
    by_first (Some y) g e rest =
        ⊎_elim
        (λ t. (x, g ∙ rw t at e))
        (λ t. rest (rw t at e))
        (cases_Bool (is_same_number i y.number))

found_number : (ks : List Kept) (i : ℕ) (v : Kept) → kept_of_number ks i ≡ Some v → v.number ≡ i
found_number [] i v e = absurd (none-some v e)
found_number (k ∷ ks) i v e =
    ⊎_elim
    (λ t. ap (λ (x : Kept). x.number) (sym (same_Some k v (rw t at e))) ∙ sym (eqb-true i k.number t))
    (λ t. found_number ks i v (rw t at e))
    (cases_Bool (is_same_number i k.number))

found_place : (ks : List Kept) (i : ℕ) (v : Kept) → kept_of_number ks i ≡ Some v → has_place (leaf_places ks) v.place.row v.place.off ≡ true
found_place [] i v e = absurd (none-some v e)
found_place (k ∷ ks) i v e =
    ⊎_elim
    (λ t.
    let same : k ≡ v = same_Some k v (rw t at e) in
    or_left (is_at v.place.row v.place.off k.place) (has_place (leaf_places ks) v.place.row v.place.off)
    (subst (λ (x : Kept). is_at v.place.row v.place.off x.place ≡ true) (sym same) (is_at-same v.place.row v.place.off)))
    (λ t. or_right (is_at v.place.row v.place.off k.place) (has_place (leaf_places ks) v.place.row v.place.off) (found_place ks i v (rw t at e)))
    (cases_Bool (is_same_number i k.number))

-- a kept entry stands where a place has a fixed position
pub kept_low : (s : NodeState) (number : ℕ) (e : Kept) → IsNode s → kept_of_number s.newest.kept number ≡ Some e → IsLow e.place.row e.place.off
kept_low s number e is found =
    let few = is.newest.stump.few in
    places_low s.newest.roots.leaves e.place.row e.place.off (omega (arith, few))
    (is.newest.lists.shape.within e.place (found_place s.newest.kept number e found))

-- ---- that of a kept entry is right

module _ (H : List ℕ → Digest) (us : History) where
  abbrev es : List (Option Digest)
  es = entries H leaf_text us

  abbrev digest_of_leaf : Leaf → Digest
  digest_of_leaf l = H (leaf_text l)

  same_length : length es ≡ length us
  same_length = length-map us (option_map digest_of_leaf)

  -- what is kept of an entry
  record IsEntry (i : ℕ) (e : Kept) : Type 0 where
    live : get_or us i None ≡ Some e.leaf
    place : entry_place es i ≡ Some e.place
    number : e.number ≡ i

  entry_from : (i : ℕ) (u : Option Leaf) (q : Option Place) (e : Kept) → get_or us i None ≡ u → entry_place es i ≡ q
      → kept_leaf_of digest_of_leaf i u q ≡ Some e → IsEntry i e
  entry_from i None q e a b w = absurd (none-some e w)
  entry_from i (Some l) None e a b w = absurd (none-some e w)
  entry_from i (Some l) (Some p) e a b w =
      let z = same_Some _ e w in
      record {
        live = a ∙ ap (λ (x : Kept). Some x.leaf) z;
        place = b ∙ ap (λ (x : Kept). Some x.place) z;
        number =
            ap (λ (x : Kept). x.number) (sym z);
      }

  live_at : (i : ℕ) (e : Kept) → IsEntry i e → IsLiveAt H leaf_text us e.place e.leaf
  live_at i e is =
      let there : get_or es i None ≡ Some (digest_of_leaf e.leaf) = got_entry digest_of_leaf us i ∙ ap (option_map digest_of_leaf) is.live in
      let w = entry_found es i (digest_of_leaf e.leaf) there in
      let same : w.0 ≡ e.place = same_Some w.0 e.place (sym w.1 ∙ is.place) in
      record {
        number = i;
        live = got us i e.leaf is.live;
        stands =
            subst (λ (p : Place). tree_at es p.row p.off ≡ Some (leaf i (digest_of_leaf e.leaf))) same w.2;
      }

  right_of : (scripts : List (List ℕ)) (l : LevelState) (tip : Digest) (number : ℕ) (e : Kept) → length us < 2 ^ 40
      → IsCacheOf H scripts us l.kept l.held → l.chain.tip ≡ tip → kept_of_number l.kept number ≡ Some e
      → TicketRight H us tip (ticket_with l e)
  right_of scripts l tip number e few cache tip_is found =
      let from = found_from (kept_leaf H us) number (kept_numbers scripts us) e
      (ap (λ ks. kept_of_number ks number) (sym cache.of_kept) ∙ found) in
      let is = entry_from from.0 (get_or us from.0 None) (entry_place es from.0) e refl refl from.1 in
      let live = live_at from.0 e is in
      let same : number ≡ from.0 = sym (found_number l.kept number e found) ∙ is.number in
      let hashes : List Digest = beside_way (40 - e.place.row) l.held e.place.row e.place.off in
      let proof = proof_climbed H scripts us l.kept l.held number hashes few cache
      (ap (λ (x : Option Kept). option_map (λ (p : Place). beside_way (40 - p.row) l.held p.row p.off) (option_map (λ (k : Kept). k.place) x))
      found) in
      let at : proof.place ≡ e.place = same_Some proof.place e.place (sym proof.stands ∙ (ap (entry_place es) same ∙ is.place)) in
      let within : InForest (length us) e.place.row e.place.off =
      subst (λ n. InForest n e.place.row e.place.off) same_length (tree_at-forest es e.place.row e.place.off _ live.stands) in
      record {
        tip_is = tip_is;
        place = e.place;
        named = place_by-number FixedPosition (length us) e.place (omega (arith, few)) within;
        right = record {
          spends = (live, tt);
          shown = proof.right
              ∙ (ap (λ (q : Place). map (λ (p : Place). digest_at H es p.row p.off) (need (length es) (q ∷ []))) at
              ∙ (ap (λ n. map (λ (p : Place). digest_at H es p.row p.off) (need n (e.place ∷ []))) same_length
              ∙ ap (map (λ (p : Place). digest_at H es p.row p.off)) (sym (asked_all (length us) (e.place ∷ [])))));
        };
      }

pub kept_tickets_are_right : KeptTicketsAreRight
kept_tickets_are_right H t s number k is stands e = by (kept_of_number s.newest.kept number) refl e
  where
    few : length t.now.history < 2 ^ 40
    few =
        let a = is.newest.stump.few in
        let b = stands.newest.roots.leaves in
        let c = same_length H t.now.history in
        omega (arith, a, b, c)

    by : (x : Option Kept) → kept_of_number s.newest.kept number ≡ x → option_map (ticket_with s.newest) x ≡ Some k
        → TicketRight H t.now.history t.now.tip k
    by None found w = absurd (none-some k w)
    by (Some e) found w =
        subst (TicketRight H t.now.history t.now.tip) (same_Some (ticket_with s.newest e) k w)
        (right_of H t.now.history s.scripts s.newest t.now.tip number e few stands.newest.cache (ap (λ (c : Chain). c.tip) stands.newest.chain) found)

-- ---- by the names of the calls

pub low_so : (s : NodeState) (number : ℕ) (ks : List Kept) (x : Option (Bor Kept)) (b : Bor Kept) → IsNode s → ks ≡ s.newest.kept
    → option_map (λ e. e.now) x ≡ kept_of_number ks number → x ≡ Some b → IsLow b.now.place.row b.now.place.off
low_so s number ks x b is kept found at =
    kept_low s number b.now is (ap (λ z. kept_of_number z number) (sym kept) ∙ (sym found ∙ ap (option_map (λ (e : Bor Kept). e.now)) at))
