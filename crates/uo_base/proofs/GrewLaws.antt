-- Lists that grew at their end, for writers that stop on the way.
use Rattle.std.proofs.Common.{◌≡◌, ℕ, List, [], ◌++◌, length, take, refl, sym, ◌∙◌, append_assoc, append-nil}
use Rattle.std.proofs.Math.Seq.{take-append_seam}
use Rattle.uo_base.specs.Moved.{Grew}

pub Grew-same : (old new : List ℕ) → new ≡ old → Grew old new
Grew-same old new e = record { more = []; is = e ∙ sym (append-nil old) }

-- a piece was appended, and then something more
pub Grew-after : (old piece mid new : List ℕ) → mid ≡ old ++ piece → Grew mid new → Grew old new
Grew-after old piece mid new e g = record { more = piece ++ g.more; is = g.is ∙ rw (e, append_assoc) refl }

-- cutting it off again
pub take-Grew : (old new : List ℕ) → Grew old new → take (length old) new ≡ old
take-Grew old new g = rw (g.is, take-append_seam) refl
