-- What was read of a body, and what was found of it.
use Rattle.std.proofs.Common.{◌≡◌, ℕ, ◌^◌, ◌<◌, List, [], Result, Ok, Err, Some, sym, ap, ◌∙◌, subst}
use Rattle.std.specs.Prelude.{MatchResult}
use Rattle.std.specs.List.{AllByRecursion}
use Rattle.uo_base.specs.Reading.{IsBytes}
use Rattle.uo_base.proofs.Formats.{some_is, not_both}
use Rattle.uo_digest.specs.declared.digest.Digest.{Digest}
use Rattle.forest_place.specs.declared.naming.Naming.{Naming}
use Rattle.state_text.specs.declared.fault.StateFault.{StateFault}
use Rattle.state_text.specs.declared.fault.StateFault.TheVariants.{NotAState, Version, NoMemory}
use Rattle.state_text.specs.Stored.{StateValue, body_text}
use Rattle.state_text.specs.Fits.{IsSound, IsState, HasBody}
use Rattle.state_text.specs.Cached.{CachedState, state_in, IsFilled}
use Rattle.state_text.specs.Reading.{whole_at, claims}
use Rattle.state_text.proofs.Gathering.{Fails}
use Rattle.state_text.proofs.Judged.{Denies}
use Rattle.state_text.proofs.StateFormat.{whole_took, whole_again}

module _ (H : List ℕ → Digest) (by : Naming) (most : ℕ) (few : most < 2 ^ 40) (body : List ℕ) where
  again : (b : HasBody H by most body) → whole_at by most body ≡ Some (b.0, [])
  again b = ap (whole_at by most) b.2 ∙ whole_again by most few b.0 b.1.fits

  pub unread : (e : StateFault) → Fails e (whole_at by most body) → Denies e (HasBody H by most body)
  unread NotAState none = λ b. not_both (whole_at by most body) (b.0, []) none (again b)
  unread NoMemory none = tt
  unread (Version v) none = none

  module _ (v : StateValue) (read : whole_at by most body ≡ Some (v, [])) where
    unsound : (e : StateFault) → Denies e (IsSound H most v) → Denies e (HasBody H by most body)
    unsound NotAState denied = λ b. denied (subst (IsSound H most) (ap (λ p. p.0) (some_is (b.0, []) (v, []) (sym (again b) ∙ read))) b.1.sound)
    unsound NoMemory denied = tt
    unsound (Version n) denied = denied

    -- what was found of what was read
    pub judged : IsBytes body → (r : Result CachedState StateFault)
        → MatchResult r (λ s. IsSound H most v × (state_in s ≡ v) × AllByRecursion (IsFilled H) s.levels) (λ e. claims e (IsSound H most v → ⊥))
        → MatchResult r (λ s. IsState H most (state_in s) × (body ≡ body_text by (state_in s)) × AllByRecursion (IsFilled H) s.levels)
        (λ e. claims e (HasBody H by most body → ⊥))
    judged is_bytes (Ok s) m =
        let t = whole_took by most few body v [] is_bytes read in
        let state : IsState H most v = record { fits = t.fits; sound = m.0 } in
        (subst (IsState H most) (sym m.1) state, t.text ∙ ap (body_text by) (sym m.1), m.2)
    judged is_bytes (Err e) m = unsound e m
