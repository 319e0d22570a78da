-- Where what is held goes: where neither a place nor its sibling is gone, it goes with the one above it.
use Rattle.std.proofs.Common.{◌≡◌, ℕ, zero, suc, ◌+◌, ◌-◌, ◌*◌, ◌/◌, ◌%◌, ◌^◌, ◌<◌, ◌≤◌, ◌⊎◌, inl, inr, Bool, true, false, not, List, [], ◌∷◌, ◌++◌}
use Rattle.std.proofs.Common.{length, get_or, All, Option, Some, None, is_some, refl, sym, ap, ap₂, ◌∙◌, subst, ⊎_elim, arith, add-one}
use Rattle.std.specs.Prelude.{IfSome}
use Rattle.std.specs.Bool.{OnTrue, OnFalse}
use Rattle.std.proofs.lemmas.Bool.{cases_eq, cases_Bool, true≢false, false_from_ne_true, OnFalse_from}
use Rattle.std.proofs.lemmas.List.{length-append, get_or_append_left, get_or_push, get_or_default}
use Rattle.uo_digest.specs.declared.digest.Digest.{Digest}
use Rattle.forest_place.specs.declared.place.Place.{Place}
use Rattle.forest_place.specs.Forest.{InForest, is_root, sibling_off}
use Rattle.forest_place.specs.Places.{has_place}
use Rattle.forest_place.specs.Position.{position}
use Rattle.forest_place.proofs.Listed.{place}
use Rattle.forest_place.proofs.Parts.{half_pow, row_below, InForest-up}
use Rattle.forest_place.proofs.Positions.{position_rises}
use Rattle.forest_place.proofs.Siblings.{sibling_cases, sibling_half, sibling_twice, sibling_within}
use Rattle.forest_model.specs.Cover.{cover, need, HasShape}
use Rattle.forest_model.specs.Deletion.{is_gone, moved, child_place}
use Rattle.forest_model.proofs.Covers.{uncovered_halves, needed_parts, none_from_test}
use Rattle.forest_model.proofs.Lists.{need_had}
use Rattle.forest_model.proofs.Moving.{moved-step, moved-root}
use Rattle.proof_shape.specs.Targeted.{NoneGonePast}
use Rattle.proof_shape.proofs.Ordered.{has_at}
use Rattle.proof_shape.proofs.Gone.{target_bare, up_in}
use Rattle.proof_shape.proofs.Needing.{covered_above}
use Rattle.proof_verify.proofs.Planned.{uncovered_stays}
use Rattle.cache_model.specs.Undo.{is_same_place}
use Rattle.cache_model.proofs.Undoing.{place_order}
use Rattle.cache_update.specs.DeletionGoals.{BothStay, IsStayingAbove, StandsBeneath, TellGoals}
use Rattle.cache_update.proofs.Moves.{up_within, goes_within}

-- neither half of a place with no target is gone
half_stays : (ts : List Place) (r h x : ℕ) → is_some (cover ts (suc r) h) ≡ false → (x ≡ 2 * h) ⊎ (x ≡ 2 * h + 1) → is_gone ts r x ≡ false
half_stays ts r h x free side =
    let halves = uncovered_halves ts r h (none_from_test (cover ts (suc r) h) free) in
    uncovered_stays ts r x
    (⊎_elim
    (λ l. ap (λ y. is_some (cover ts r y)) l ∙ ap is_some halves.0)
    (λ u. ap (λ y. is_some (cover ts r y)) u ∙ ap is_some halves.1)
    side)

-- neither a place nor its sibling is gone where no target stands at or beneath the one above them
pub free_both : (ts : List Place) (p : Place) → is_some (cover ts (suc p.row) (p.off / 2)) ≡ false → BothStay ts p
free_both ts p free = (
  half_stays ts p.row (p.off / 2) p.off free
      (⊎_elim (λ e. let z = e.0 in inl (omega (arith, z))) (λ e. let z = e.0 in inr (omega (arith, z))) (sibling_cases p.off)),
  half_stays ts p.row (p.off / 2) (sibling_off p.off) free
      (⊎_elim (λ e. let z = e.0 in let y = e.1 in inr (omega (arith, z, y))) (λ e. let z = e.0 in let y = e.1 in
      inl (omega (arith, z, y))) (sibling_cases p.off)),
)

pub on_free : (ts : List Place) (r o : ℕ) (b : Bool) (P : Type 0) → b ≡ is_some (cover ts (suc r) (o / 2))
    → (is_some (cover ts (suc r) (o / 2)) ≡ false → P) → OnFalse b P
on_free ts r o b P e f = OnFalse_from b P (λ no. f (sym e ∙ no))

pub stays_uncovered : (ts : List Place) (r o : ℕ) (b : Bool) → b ≡ is_some (cover ts r o) → OnTrue (not b) (is_gone ts r o ≡ false)
stays_uncovered ts r o true e = tt
stays_uncovered ts r o false e = uncovered_stays ts r o (sym e)

follows : (n : ℕ) (ts : List Place) (r o : ℕ) → InForest n r o → is_root n r o ≡ false → is_gone ts r o ≡ false → is_gone ts r (sibling_off o) ≡ false
    → moved n ts r o ≡ child_place false (o % 2) (moved n ts (suc r) (o / 2))
follows n ts r o h inner here beside = moved-step n ts r o h ∙ rw (here, inner, beside) refl

-- the position beside one is at most one less
beside_past : (n r o last : ℕ) → last + 1 < position n r o → last < position n r (sibling_off o)
beside_past n r o last lt = ⊎_elim (λ a. let z = a.1 in omega (arith, lt, z)) (λ a. let z = a.1 in omega (arith, lt, z)) (sibling_cases o)

-- what comes behind all that is gone goes with the place above it
goes_on : (n : ℕ) (ts : List Place) (last : ℕ) → NoneGonePast n ts last → (r o : ℕ) → InForest n r o → last + 1 < position n r o
    → is_root n r o ≡ false → moved n ts (suc r) (o / 2) ≡ Some (place (suc r) (o / 2)) → moved n ts r o ≡ Some (place r o)
goes_on n ts last none r o h lt inner above =
    let here = none r o h (omega (arith, lt)) in
    let beside = none r (sibling_off o) (sibling_within n r o h inner) (beside_past n r o last lt) in
    let down : suc r - 1 ≡ r = omega arith in
    let off : 2 * (o / 2) + o % 2 ≡ o = omega arith in
    follows n ts r o h inner here beside
    ∙ (ap (child_place false (o % 2)) above
    ∙ ap₂ (λ (x y : ℕ). let z : Option Place = Some (place x y) in z) down off)

-- and so stays where it is
pub settled : (n : ℕ) (ts : List Place) (last : ℕ) → NoneGonePast n ts last → (k r o : ℕ) → n ≤ r + k → InForest n r o → last + 1 < position n r o
    → moved n ts r o ≡ Some (place r o)
settled n ts last none zero r o few h lt = let low = row_below n r o h in absurd (omega (arith, low, few))
settled n ts last none (suc k) r o few h lt =
    ⊎_elim
    (λ top. moved-root n ts r o (none r o h (omega (arith, lt))) top)
    (λ inner.
    let up = InForest-up n r o h inner in
    let rise = position_rises n (place r o) (place (suc r) (o / 2)) h up (inl (omega arith)) in
    goes_on n ts last none r o h lt inner (settled n ts last none k (suc r) (o / 2) (omega (arith, few)) up (omega (arith, lt, rise))))
    (cases_Bool (is_root n r o))

-- what is covered and not gone: no place above it is gone either
abbrev IsHalf : List Place → ℕ → ℕ → Type 0
IsHalf ts r o = (is_gone ts r o ≡ false) × (is_some (cover ts r o) ≡ true)

module _ (n : ℕ) (ts : List Place) (shape : HasShape n ts) where
  half_up : (r o : ℕ) → IsHalf ts r o → IsHalf ts (suc r) (o / 2)
  half_up r o h = (
    false_from_ne_true _ (λ gone. true≢false (sym h.1 ∙ target_bare n ts shape r o (up_in n r o ts h.0 gone))),
    covered_above ts r o h.1,
  )

  half_above : (k r o : ℕ) → IsHalf ts r o → IsHalf ts (r + k) (o / 2 ^ k)
  half_above zero r o h = let a : r ≡ r + 0 = omega arith in let b : o ≡ o / 2 ^ 0 = omega arith in
      subst (λ x. IsHalf ts x (o / 2 ^ 0)) a (subst (IsHalf ts r) b h)
  half_above (suc k) r o h = let a : suc r + k ≡ r + suc k = omega arith in
      subst (λ x. IsHalf ts x (o / 2 ^ suc k)) a (subst (IsHalf ts (suc r + k)) (sym (half_pow o k)) (half_above k (suc r) (o / 2) (half_up r o h)))

  -- above a needed place nothing is gone
  needed_half : (r o : ℕ) → has_place (need n ts) r o ≡ true → IsHalf ts (suc r) (o / 2)
  needed_half r o h =
      let w = needed_parts n ts r o (need_had n ts r o h).1 in
      let beside : is_some (cover ts r (sibling_off o)) ≡ true = ap is_some w.2.1 in (
        false_from_ne_true _ (λ gone.
            true≢false (sym beside ∙ target_bare n ts shape r (sibling_off o)
            (ap (has_place ts (suc r)) (sibling_half o) ∙ up_in n r o ts (uncovered_stays ts r o (ap is_some w.1)) gone))),
        ap (λ x. is_some (cover ts (suc r) x)) (sym (sibling_half o)) ∙ covered_above ts r (sibling_off o) beside,
      )

  pub stays_above : (q p : Place) → has_place (need n ts) q.row q.off ≡ true → StandsBeneath q p → is_gone ts p.row p.off ≡ false
  stays_above q p h b =
      let low = b.low in
      let k : ℕ = p.row - q.row - 1 in
      let row : suc q.row + k ≡ p.row = omega (arith, low) in
      let up : suc k ≡ p.row - q.row = omega (arith, low) in
      let off : q.off / 2 / 2 ^ k ≡ p.off = sym (half_pow q.off k) ∙ (ap (λ x. q.off / 2 ^ x) up ∙ b.part) in
      subst (λ x. is_gone ts x p.off ≡ false) row
      (subst (λ x. is_gone ts (suc q.row + k) x ≡ false) off (half_above k (suc q.row) (q.off / 2) (needed_half q.row q.off h)).0)

  -- a needed place of the list
  pub stays_by : (needed : List Place) (at : ℕ) (p d : Place) → needed ≡ need n ts → at < length needed → StandsBeneath (get_or needed at d) p
      → is_gone ts p.row p.off ≡ false
  stays_by needed at p d e lt b = stays_above (get_or needed at d) p
      (subst (λ qs. has_place qs (get_or needed at d).row (get_or needed at d).off ≡ true) e (has_at needed at d lt)) b

module _ (n : ℕ) (ts : List Place) (p q : Place) (h : InForest n p.row p.off) (f : IsStayingAbove n ts p q) where
  above_row : q.row ≡ suc p.row
  above_row = f.row ∙ add-one p.row

  above_within : InForest n q.row q.off
  above_within = subst (λ o. InForest n q.row o) (sym f.off) (subst (λ r. InForest n r (p.off / 2)) (sym f.row) (up_within n p.row p.off h f.inner))

  pub goes_with : (goal : Option Place) → goal ≡ moved n ts q.row q.off → child_place false (p.off % 2) goal ≡ moved n ts p.row p.off
  goes_with goal e =
      ap (child_place false (p.off % 2)) (e ∙ ap₂ (moved n ts) above_row f.off)
      ∙ sym (follows n ts p.row p.off h f.inner f.both.0 f.both.1)

  pub goal_inner : (goal : Option Place) → goal ≡ moved n ts q.row q.off → IfSome goal (λ to. (0 < to.row) × InForest n to.row to.off)
  goal_inner None e = tt
  goal_inner (Some to) e =
      let at = goes_within n ts (n - q.row) q.row q.off to refl above_within (sym e) in
      let row = f.row in
      let low = at.0 in
      (omega (arith, row, low), at.1)

-- one more is told
pub told_more : (n : ℕ) (ts : List Place) (hs : List (Place × Digest)) (goals now : List (Option Place)) (i : ℕ) (x : Place × Digest)
    (goal : Option Place) → TellGoals n ts hs goals → goal ≡ moved n ts (get_or hs i x).0.row (get_or hs i x).0.off → i + length goals + 1 ≡ length hs
    → now ≡ goals ++ goal ∷ [] → TellGoals n ts hs now
told_more n ts hs goals now i x goal t g end m = subst (TellGoals n ts hs) (sym m) (λ j k y d lt at.
    let long = length-append goals (goal ∷ []) in
    ⊎_elim
    (λ same.
    let here : j ≡ i = omega (arith, at, end, same) in
    let w : i < length hs = omega (arith, end) in
    ap (λ b. get_or (goals ++ goal ∷ []) b d) same
    ∙ (get_or_push goals goal d (length goals) refl
    ∙ (g
    ∙ (ap (λ (z : Place × Digest). moved n ts z.0.row z.0.off) (get_or_default hs i x y w)
    ∙ ap (λ b. moved n ts (get_or hs b y).0.row (get_or hs b y).0.off) (sym here)))))
    (λ other.
    let under : k < length goals = omega (arith, lt, long, other) in
    get_or_append_left goals (goal ∷ []) d k under ∙ t j k y d under at)
    (cases_eq k (length goals)))

pub held_within : (n m : ℕ) (hs : List (Place × Digest)) (i : ℕ) (d : Place × Digest) → m ≡ n → All (λ x. InForest n x.0.row x.0.off) hs
    → i < length hs → InForest m (get_or hs i d).0.row (get_or hs i d).0.off
held_within n m hs i d e a lt = subst (λ k. InForest k (get_or hs i d).0.row (get_or hs i d).0.off) (sym e) (a i d lt)

-- the place above, where it is given
pub staying_is : (n : ℕ) (ts : List Place) (p : Place) (staying : Option Place) (q : Place) → staying ≡ Some q
    → IfSome staying (λ (above : Place). IsStayingAbove n ts p above) → IsStayingAbove n ts p q
staying_is n ts p staying q e h = subst (λ (x : Option Place). IfSome x (λ (above : Place). IsStayingAbove n ts p above)) e h

-- what is told for a place is told for its sibling
pub stays_beside : (n : ℕ) (ts : List Place) (p s last : Place) (staying : Option Place) → s.row ≡ p.row → s.off ≡ sibling_off p.off
    → is_same_place s last ≡ true → is_root n p.row p.off ≡ false → IfSome staying (λ (above : Place). IsStayingAbove n ts last above)
    → IfSome staying (λ (above : Place). IsStayingAbove n ts p above)
stays_beside n ts p s last None row off same inner h = tt
stays_beside n ts p s last (Some q) row off same inner h =
    let e : last ≡ s = sym (place_order.same s last same) in
    let r : last.row ≡ p.row = ap (λ (x : Place). x.row) e ∙ row in
    let o : last.off ≡ sibling_off p.off = ap (λ (x : Place). x.off) e ∙ off in
    record {
      inner = inner;
      row = h.row ∙ ap (λ k. k + 1) r;
      off = h.off ∙ (ap (λ k. k / 2) o ∙ sibling_half p.off);
      both = (sym (ap₂ (is_gone ts) r (ap sibling_off o ∙ sibling_twice p.off)) ∙ h.both.1, sym (ap₂ (is_gone ts) r o) ∙ h.both.0);
    }
