-- What a stream has taken so far.
use Rattle.std.specs.Prelude.{ℕ, List}
use Rattle.sha2.specs.Hashers.{Holds256}
use Rattle.uo_digest.specs.declared.stream.Sha256dStream.{Sha256dStream}

-- the pieces so far make this text
abbrev pub Holds : Sha256dStream → List ℕ → Type 0
Holds s text = Holds256 s.hasher text
