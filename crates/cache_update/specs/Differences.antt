-- What differs between the lists of two caches.
use Rattle.std.specs.Prelude.{◌≡◌, ℕ, ◌<◌, ◌≤◌, not, Bool, true, false, List, length, get_or, Option, Some, None, is_some, bytes_eq, if◌then◌else◌}
use Rattle.uo_digest.specs.declared.digest.Digest.{Digest}
use Rattle.forest_place.specs.declared.place.Place.{Place}
use Rattle.forest_place.specs.Places.{is_before_place}
use Rattle.cache_model.specs.declared.kept.Kept.{Kept}
use Rattle.cache_model.specs.Cache.{look}
use Rattle.cache_model.specs.Climbed.{kept_place}
use Rattle.cache_model.specs.Undo.{is_same_place}

abbrev pub is_digest : Option Digest → Digest → Bool
is_digest None d = false
is_digest (Some x) d = bytes_eq x.0 d.0

-- a digest that was held, where the newer list does not have it at its place
abbrev pub lost : List (Place × Digest) → Place × Digest → Option (Place × Digest)
lost newer x = if is_digest (look newer x.0.row x.0.off) x.1 then None else Some x

-- a place at which the older list has nothing
abbrev pub gained : List (Place × Digest) → Place × Digest → Option Place
gained older x = if is_some (look older x.0.row x.0.off) then None else Some x.0

-- an entry's number, and where it stands
abbrev pub where_stood : Kept → ℕ × Place
where_stood k = (k.number, k.place)

abbrev pub is_elsewhere : Place → Option Place → Bool
is_elsewhere p None = false
is_elsewhere p (Some q) = not (is_same_place p q)

-- where an entry stood that is kept and stands elsewhere now
abbrev pub moved_since : List Kept → ℕ × Place → Option (ℕ × Place)
moved_since ks s = if is_elsewhere s.1 (kept_place ks s.0) then Some s else None

-- all that are held up to an index come before the place
pub record AreBefore (hs : List (Place × Digest)) (at : ℕ) (p : Place) : Type 0 where
  pub within : at ≤ length hs
  pub each : (j : ℕ) (d : Place × Digest) → j < at → is_before_place (get_or hs j d).0 p ≡ true
