-- Neighbours out of a list.
use Rattle.std.proofs.Common.{◌≡◌, ℕ, ◌+◌, ◌-◌, ◌<◌, ◌≤◌, List, length, take, drop, Some, sym, ◌∙◌, arith}
use Rattle.std.specs.Prelude.{slice_get}
use Rattle.std.proofs.lemmas.List.{get_or-take, get_or-drop, length-take, length-take-le, length-drop}
use Rattle.std.proofs.lemmas.Option.{slice_get_read, get_or_from_slice_get}

pub in_part : {X : Type 0} (xs : List X) (from k i : ℕ) (x : X) → from + k ≤ length xs → i < k → slice_get xs (from + i) ≡ Some x
    → slice_get (take k (drop from xs)) i ≡ Some x
in_part xs from k i x within lt got =
    slice_get_read (take k (drop from xs)) k i x
    (sym (length-take-le k (drop from xs) (omega (arith, length-drop from xs, within)))) lt
    (sym (get_or-take k (drop from xs) i x lt ∙ (get_or-drop from xs i x ∙ get_or_from_slice_get xs (from + i) x x got)))

pub below_part : {X : Type 0} (xs : List X) (from end i : ℕ) → i < length (take (end - from) (drop from xs)) → i < end - from
below_part xs from end i lt = omega (arith, lt, length-take (end - from) (drop from xs))
