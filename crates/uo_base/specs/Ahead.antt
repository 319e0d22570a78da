-- Bytes that were read ahead.
use Rattle.std.specs.Prelude.{◌≡◌, ℕ, ◌<◌, List, [], ◌++◌, length, take, slice_range, Result, Ok, Err}
use Rattle.uo_base.specs.declared.window.Window.{Window}

-- the bytes that are held and were not given yet
abbrev pub ahead : Window → List ℕ
ahead w = slice_range w.bytes w.start w.end

-- A read with these bytes held before it and after it. Held bytes are the first that it gives. It gives none to a piece
-- with room only where none was held, and then none is. Where it fails the held bytes stay.
abbrev pub GivesAhead : {E : Type 0} → List ℕ → List ℕ → Result ℕ E → List ℕ → Type 0
GivesAhead old new (Ok n) into = (0 < length old → old ≡ take n into ++ new) × (n ≡ 0 → 0 < length into → (old ≡ []) × (new ≡ []))
GivesAhead old new (Err fault) into = new ≡ old
