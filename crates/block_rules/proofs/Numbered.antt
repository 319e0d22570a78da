-- The first answer over a list, found from its front.
use Rattle.std.proofs.Common.{◌≡◌, ℕ, suc, ◌+◌, ◌≤◌, Bool, true, false, ◌||◌, List, [], ◌∷◌, drop, length, Option, Some, None, sym, ap}
use Rattle.std.proofs.Common.{◌∙◌, add-one}
use Rattle.std.specs.Prelude.{slice_get}
use Rattle.std.specs.List.{list_any}
use Rattle.std.specs.Option.{option_or}
use Rattle.std.proofs.lemmas.Option.{none-some, same_Some}
use Rattle.std.proofs.lemmas.List.{drop_all}
use Rattle.uo_base.proofs.Lists.{drop-got}
use Rattle.tx_codec.specs.Transaction.{Transaction}
use Rattle.block_rules.specs.Steps.{unless, first_from}
use Rattle.block_rules.specs.Rules.{is_coinbase, has_no_null, has_value, coinbase_fault}

module _ {X Y : Type 0} (f : ℕ → X → Option Y) where
  from-get : (xs : List X) (k : ℕ) (x : X) → slice_get xs k ≡ Some x
      → first_from k f (drop k xs) ≡ option_or (f k x) (first_from (suc k) f (drop (suc k) xs))
  from-get xs k x e = ap (first_from k f) (drop-got xs k x e)

  -- it is here
  pub stops-here : (xs : List X) (k : ℕ) (x : X) (y : Y) (whole : Option Y) → first_from k f (drop k xs) ≡ whole → slice_get xs k ≡ Some x
      → f k x ≡ Some y → whole ≡ Some y
  stops-here xs k x y whole h e g = sym h ∙ (from-get xs k x e ∙ ap (λ z. option_or z (first_from (suc k) f (drop (suc k) xs))) g)

  -- it is not here
  pub goes-on : (xs : List X) (k : ℕ) (x : X) (whole : Option Y) → first_from k f (drop k xs) ≡ whole → slice_get xs k ≡ Some x → f k x ≡ None
      → first_from (k + 1) f (drop (k + 1) xs) ≡ whole
  goes-on xs k x whole h e g = rw add-one (sym (from-get xs k x e ∙ ap (λ z. option_or z (first_from (suc k) f (drop (suc k) xs))) g) ∙ h)

  -- it is nowhere
  pub none-left : (xs : List X) (k : ℕ) (whole : Option Y) → first_from k f (drop k xs) ≡ whole → length xs ≤ k → whole ≡ None
  none-left xs k whole h l = sym h ∙ ap (first_from k f) (drop_all k xs l)

module _ {X : Type 0} (p : X → Bool) where
  any-get : (xs : List X) (k : ℕ) (x : X) (whole : Bool) → list_any p (drop k xs) ≡ whole → slice_get xs k ≡ Some x
      → whole ≡ (p x || list_any p (drop (suc k) xs))
  any-get xs k x whole h e = sym h ∙ ap (list_any p) (drop-got xs k x e)

  -- one is here
  pub any-here : (xs : List X) (k : ℕ) (x : X) (whole : Bool) → list_any p (drop k xs) ≡ whole → slice_get xs k ≡ Some x → p x ≡ true → whole ≡ true
  any-here xs k x whole h e is = any-get xs k x whole h e ∙ ap (λ b. b || list_any p (drop (suc k) xs)) is

  -- none is here
  pub any-on : (xs : List X) (k : ℕ) (x : X) (whole : Bool) → list_any p (drop k xs) ≡ whole → slice_get xs k ≡ Some x → p x ≡ false
      → list_any p (drop (k + 1) xs) ≡ whole
  any-on xs k x whole h e is = rw add-one (sym (any-get xs k x whole h e ∙ ap (λ b. b || list_any p (drop (suc k) xs)) is))

  -- none is anywhere
  pub any-none : (xs : List X) (k : ℕ) (whole : Bool) → list_any p (drop k xs) ≡ whole → length xs ≤ k → whole ≡ false
  any-none xs k whole h l = sym h ∙ ap (list_any p) (drop_all k xs l)

pub unless-true : {X : Type 0} (b : Bool) (x : X) → b ≡ true → unless b x ≡ None
unless-true b x e = ap (λ z. unless z x) e

pub unless-false : {X : Type 0} (b : Bool) (x : X) → b ≡ false → unless b x ≡ Some x
unless-false b x e = ap (λ z. unless z x) e

abbrev pub value_at : ℕ → Transaction → Option ℕ
value_at t tx = unless (has_value tx) t

abbrev pub null_fault : ℕ → Transaction → Option ℕ
null_fault t tx = unless (has_no_null tx) t

pub coinbase_fault-first : (txs : List Transaction) (tx : Transaction) → slice_get txs 0 ≡ Some tx
    → coinbase_fault txs ≡ option_or (unless (is_coinbase tx.inputs) 0) (first_from 1 null_fault (drop 1 txs))
coinbase_fault-first [] tx e = absurd (none-some tx e)
coinbase_fault-first (c ∷ txs) tx e = ap (λ (x : Transaction). option_or (unless (is_coinbase x.inputs) 0) (first_from 1 null_fault txs))
    (same_Some c tx e)
