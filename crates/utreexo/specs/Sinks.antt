-- The sink that the program stores to, by its kind.
use Rattle.std.specs.Prelude.{◌≡◌, Option, List, ℕ, ⊤, Some, None, Result, Ok, Err}
use Rattle.uo_base.specs.declared.quiet.QuietSink.{QuietSink}
use Rattle.uo_base.specs.declared.system.FileSink.{FileSink}
use Rattle.uo_base.specs.declared.ports.SinkFault.{SinkFault}
use Rattle.uo_base.specs.Files.{sink_name, sink_file, WritesFile}
use Rattle.utreexo.specs.declared.any_sink.AnySink.{AnySink}
use Rattle.utreexo.specs.declared.any_sink.AnySink.TheVariants.{File, Quiet}
use Rattle.command_words.specs.declared.words.WordFault.{WordFault}
use Rattle.command_words.specs.Words.{Asked}

-- what is said of the sink that is held
abbrev pub of_kind : {R F D A : Type 0} → (FileSink R F D → A) → (QuietSink → A) → AnySink R F D → A
of_kind file quiet (File s) = file s
of_kind file quiet (Quiet s) = quiet s

-- ---- what a write does

-- a write to this file, behind what it has
pub record IsFileWrite {R F D : Type 0} (told : F → Option (List ℕ)) (old new : FileSink R F D) (result : Result ℕ SinkFault) (piece : List ℕ) : Type
    0 where
  pub name : sink_name new ≡ sink_name old
  pub file : WritesFile told (sink_name old) (sink_file old) (sink_file new) result piece

-- a write to the sink that is held; of one in memory it is known what it holds
abbrev pub DoesWrite : {R F D : Type 0} → (told : F → Option (List ℕ)) → (old new : AnySink R F D) → Result ℕ SinkFault → List ℕ → Type 0
DoesWrite told (File s) (File s') result piece = IsFileWrite told s s' result piece
DoesWrite told (Quiet s) (Quiet s') result piece = ⊤
DoesWrite told old new result piece = ⊥

-- ---- which sink the words choose

-- the file that is named, or none
abbrev pub IsFileOrDropped : {R F D : Type 0} → Option (List ℕ) → AnySink R F D → Type 0
IsFileOrDropped (Some name) (File s) = sink_name s ≡ name
IsFileOrDropped None (Quiet s) = ⊤
IsFileOrDropped name sink = ⊥

-- what is stored goes to the file that the words name, and nowhere else
abbrev pub IsOutOf : {R F D : Type 0} → Result Asked WordFault → AnySink R F D → Type 0
IsOutOf (Ok asked) sink = IsFileOrDropped asked.given.to sink
IsOutOf (Err fault) sink = IsFileOrDropped None sink
