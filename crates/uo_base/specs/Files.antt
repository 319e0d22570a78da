-- What sources and sinks of the system hold, and which file their calls go to.
use Rattle.std.specs.Prelude.{◌≡◌, List, [], ℕ, ◌<◌, length, IsSome, IsErr, string_bytes, ⊤, Option, Some, None, Result, Ok, Err}
use Rattle.std.specs.Io.KnownBytes.{prepend_known, ReadConsumes, WriteAppends}
use Rattle.uo_base.specs.declared.ports.Failed.{Failed}
use Rattle.uo_base.specs.declared.ports.SinkFault.{SinkFault}
use Rattle.uo_base.specs.declared.ports.SinkFault.TheVariants.{Failed as SinkFailed}
use Rattle.uo_base.specs.declared.system.FileSource.{FileSource}
use Rattle.uo_base.specs.declared.system.FileSink.{FileSink}
use Rattle.uo_base.specs.declared.system.StdSource.{StdSource}
use Rattle.uo_base.specs.Ahead.{ahead}

-- the name of the file that a source reads
abbrev pub file_name : {R F D : Type 0} → FileSource R F D → List ℕ
file_name s = string_bytes s.name

-- the file that it has opened, if any
abbrev pub file_of : {R F D : Type 0} → FileSource R F D → Option F
file_of s = s.file

-- its file was opened
abbrev pub IsOpen : {R F D : Type 0} → FileSource R F D → Type 0
IsOpen s = IsSome s.file

-- the name of the file that a sink writes
abbrev pub sink_name : {R F D : Type 0} → FileSink R F D → List ℕ
sink_name s = string_bytes s.name

-- the file that it has made, if any
abbrev pub sink_file : {R F D : Type 0} → FileSink R F D → Option F
sink_file s = s.file

-- what was read of a file and not given yet
abbrev pub file_ahead : {R F D : Type 0} → FileSource R F D → List ℕ
file_ahead s = ahead s.window

-- what was read of standard input and not given yet
abbrev pub std_ahead : {R I : Type 0} → StdSource R I → List ℕ
std_ahead s = ahead s.window

-- ---- which file a call goes to, where files tell what they have left and what they hold

-- Opening the file of this name to read it answered this, and making it answered this. The kit says nothing of either, so both are sealed: they are
-- shown of what `opened` and `made` answer, and of nothing else.
pub IsOpening : {F : Type 0} → List ℕ → Option F → Type 0
IsOpening name answer = ⊤

pub IsMaking : {F : Type 0} → List ℕ → Option F → Type 0
IsMaking name answer = ⊤

pub is_opening : {F : Type 0} (name : List ℕ) (answer : Option F) → IsOpening name answer
unfolding IsOpening
is_opening name answer = tt

pub is_making : {F : Type 0} (name : List ℕ) (answer : Option F) → IsMaking name answer
unfolding IsMaking
is_making name answer = tt

-- a read of this file, with these bytes of it held before and after, by which it stays open
abbrev pub ReadsOf : {F : Type 0} → (told : F → Option (List ℕ)) → (held held' : List ℕ) → F → Option F → Result ℕ Failed → List ℕ → Type 0
ReadsOf told held held' file None result into = ⊥
ReadsOf told held held' file (Some file') result into = ReadConsumes (prepend_known held (told file)) (prepend_known held' (told file')) result into

-- a read behind an opening: of the file as it was opened, and a fault where it was not
abbrev pub ReadsFirst : {F : Type 0} → (told : F → Option (List ℕ)) → (held held' : List ℕ) → (answer file' : Option F) → Result ℕ Failed → List ℕ
    → Type 0
ReadsFirst told held held' None file' result into = (file' ≡ None) × IsErr result
ReadsFirst told held held' (Some file) file' result into = ReadsOf told held held' file file' result into

-- a read goes on in the file that is open, and else begins in the one that it opens
abbrev pub ReadsFile : {F : Type 0} → (told : F → Option (List ℕ)) → (name held held' : List ℕ) → (file file' : Option F) → Result ℕ Failed → List ℕ
    → Type 0
ReadsFile told name held held' (Some file) file' result into = ReadsOf told held held' file file' result into
ReadsFile {F = F} told name held held' None file' result into =
    (answer : Option F) × IsOpening name answer × ReadsFirst told held held' answer file' result into

-- a write to this file, by which it stays open
abbrev pub WritesTo : {F : Type 0} → (told : F → Option (List ℕ)) → F → Option F → Result ℕ SinkFault → List ℕ → Type 0
WritesTo told file None result piece = ⊥
WritesTo told file (Some file') result piece = WriteAppends (told file) (told file') result piece

-- a write behind a making: to the file as it was made, and a fault where none was
abbrev pub WritesFirst : {F : Type 0} → (told : F → Option (List ℕ)) → (answer file' : Option F) → Result ℕ SinkFault → List ℕ → Type 0
WritesFirst told None file' result piece = (file' ≡ None) × (result ≡ Err SinkFailed)
WritesFirst told (Some file) file' result piece = WritesTo told file file' result piece

-- A write goes behind what the file has that was made, and else into the one that it makes. For an empty piece none is made.
abbrev pub WritesFile : {F : Type 0} → (told : F → Option (List ℕ)) → (name : List ℕ) → (file file' : Option F) → Result ℕ SinkFault → List ℕ → Type 0
WritesFile told name (Some file) file' result piece = WritesTo told file file' result piece
WritesFile {F = F} told name None file' result piece =
    (piece ≡ [] → (file' ≡ None) × (result ≡ Ok 0))
    × (0 < length piece → (answer : Option F) × IsMaking name answer × WritesFirst told answer file' result piece)
