-- What is taken out or changed at the index that a search gives.
use Rattle.std.proofs.Common.{◌≡◌, ℕ, suc, ap₂, ◌<◌, ◌≤◌, true, false, List, [], ◌∷◌, ◌++◌, length, get_or, take, drop, Option}
use Rattle.std.proofs.Common.{Some, None, sym, ap, ◌∙◌, subst}
use Rattle.std.specs.Prelude.{option_map}
use Rattle.std.specs.List.{remove, cons_option}
use Rattle.std.proofs.lemmas.List.{drop_all, take_all, get_or_default}
use Rattle.std.proofs.lemmas.Option.{none-some, same_Some}
use Rattle.uo_digest.specs.declared.digest.Digest.{Digest}
use Rattle.forest_place.specs.declared.place.Place.{Place}
use Rattle.forest_place.specs.Places.{is_before_place}
use Rattle.cache_model.specs.declared.kept.Kept.{Kept}
use Rattle.cache_model.specs.Lists.{AscendByPlace, AscendByNumber, leaf_key}
use Rattle.cache_model.specs.Search.{IsSplit}
use Rattle.cache_model.specs.Undo.{change, held_key, is_same_place, is_same_number, is_before_number}
use Rattle.cache_model.proofs.Undoing.{place_order, number_order, change_ascends}
use Rattle.cache_model.proofs.Searching.{change_at, change_before, change_end}
use Rattle.cache_update.specs.Given.{at_place}
use Rattle.cache_update.proofs.Undone.{both_parts, removed}

module _ (hs : List (Place × Digest)) (p : Place) (i : ℕ) (s : IsSplit is_before_place held_key p hs i) where
  pub out_there : (d : Place × Digest) → i < length hs → is_same_place p (get_or hs i d).0 ≡ true
      → remove hs i ≡ change is_same_place is_before_place held_key p (λ now. None) hs
  out_there d lt t = removed hs i lt ∙ sym (change_at is_same_place is_before_place held_key place_order p (λ now. None) hs i d s lt t)

  pub out_other : (d : Place × Digest) → i < length hs → is_same_place p (get_or hs i d).0 ≡ false
      → hs ≡ change is_same_place is_before_place held_key p (λ now. None) hs
  out_other d lt t = sym (change_before is_same_place is_before_place held_key place_order p (λ now. None) hs i d s lt t ∙ both_parts hs i)

  pub out_end : length hs ≤ i → hs ≡ change is_same_place is_before_place held_key p (λ now. None) hs
  out_end ge = sym (change_end is_same_place is_before_place held_key place_order p (λ now. None) hs i s ge ∙ both_parts hs i)

pub out_ascends : (hs new : List (Place × Digest)) (p : Place) → AscendByPlace hs
    → new ≡ change is_same_place is_before_place held_key p (λ now. None) hs → AscendByPlace new
out_ascends hs new p a e = subst AscendByPlace (sym e)
    (change_ascends is_same_place is_before_place held_key place_order p (λ now. None) hs a (λ x v e. absurd (none-some v e)))

-- the same for kept entries
abbrev pub changed : ℕ → (Option Kept → Option Kept) → List Kept → List Kept
changed i f ks = change is_same_number is_before_number leaf_key i f ks

pub changed_ascends : (ks new : List Kept) (i : ℕ) (f : Option Kept → Option Kept) → AscendByNumber ks
    → ((x : Option Kept) (v : Kept) → f x ≡ Some v → v.number ≡ i) → new ≡ changed i f ks → AscendByNumber new
changed_ascends ks new i f a h e = subst AscendByNumber (sym e) (change_ascends is_same_number is_before_number leaf_key number_order i f ks a h)

pub none_keeps : (i : ℕ) (x : Option Kept) (v : Kept) → (let y : Option Kept = None in y) ≡ Some v → v.number ≡ i
none_keeps i x v e = absurd (none-some v e)

pub place_keeps : (i : ℕ) (p : Place) (x : Option Kept) (v : Kept) → option_map (at_place (i, p)) x ≡ Some v → v.number ≡ i
place_keeps i p None v e = absurd (none-some v e)
place_keeps i p (Some k) v e = ap leaf_key (sym (same_Some (at_place (i, p) k) v e))

pub entry_keeps : (k : Kept) (x : Option Kept) (v : Kept) → Some k ≡ Some v → v.number ≡ k.number
entry_keeps k x v e = ap leaf_key (sym (same_Some k v e))

module _ (ks : List Kept) (number : ℕ) (i : ℕ) (s : IsSplit is_before_number leaf_key number ks i) where
  pub gone_there : (d : Kept) → i < length ks → is_same_number number (get_or ks i d).number ≡ true → remove ks i ≡ changed number (λ now. None) ks
  gone_there d lt t = removed ks i lt ∙ sym (change_at is_same_number is_before_number leaf_key number_order number (λ now. None) ks i d s lt t)

  -- a change that makes nothing of nothing
  pub none_other : (f : Option Kept → Option Kept) (d : Kept) → f None ≡ None → i < length ks → is_same_number number (get_or ks i d).number ≡ false
      → ks ≡ changed number f ks
  none_other f d h lt t =
      sym (change_before is_same_number is_before_number leaf_key number_order number f ks i d s lt t
      ∙ (ap (λ y. take i ks ++ cons_option y (drop i ks)) h ∙ both_parts ks i))

  pub none_end : (f : Option Kept → Option Kept) → f None ≡ None → length ks ≤ i → ks ≡ changed number f ks
  none_end f h ge = sym (change_end is_same_number is_before_number leaf_key number_order number f ks i s ge
      ∙ (ap (λ y. take i ks ++ cons_option y (drop i ks)) h ∙ both_parts ks i))

  -- a change that gives an entry
  pub entry_there : (f : Option Kept → Option Kept) (d new : Kept) → i < length ks → is_same_number number (get_or ks i d).number ≡ true
      → f (Some (get_or ks i d)) ≡ Some new → changed number f ks ≡ take i ks ++ new ∷ drop (suc i) ks
  entry_there f d new lt t h = change_at is_same_number is_before_number leaf_key number_order number f ks i d s lt t
      ∙ ap (λ y. take i ks ++ cons_option y (drop (suc i) ks)) h

  pub entry_before : (new d : Kept) → i < length ks → is_same_number number (get_or ks i d).number ≡ false
      → changed number (λ now. Some new) ks ≡ take i ks ++ new ∷ drop i ks
  entry_before new d lt t = change_before is_same_number is_before_number leaf_key number_order number (λ now. Some new) ks i d s lt t

  pub entry_end : (new : Kept) → length ks ≤ i → changed number (λ now. Some new) ks ≡ ks ++ new ∷ []
  entry_end new ge =
      change_end is_same_number is_before_number leaf_key number_order number (λ now. Some new) ks i s ge
      ∙ (ap (λ ys. take i ks ++ new ∷ ys) (drop_all i ks ge) ∙ ap (λ ys. ys ++ new ∷ []) (take_all i ks ge))

-- the entry at the index, where its place is set
pub placed_there : (ks : List Kept) (i number : ℕ) (p : Place) (x y : Kept) → i < length ks → x ≡ get_or ks i x → y ≡ get_or ks i y
    → number ≡ x.number →
    option_map (at_place (number, p)) (Some (get_or ks i x)) ≡ Some (record { number = y.number; leaf = y.leaf; place = p; digest = y.digest })
placed_there ks i number p x y lt e f n =
    let same : get_or ks i x ≡ y = get_or_default ks i x y lt ∙ sym f in
    let is : number ≡ y.number = n ∙ ap leaf_key (e ∙ same) in
    ap₂ (λ (j : ℕ) (k : Kept). Some (at_place (j, p) k)) is same
