-- The watch list that the words may name.
use Rattle.std.specs.Prelude.{◌≡◌, ℕ, nat_lt, Bool, true, false, List, [], length, Some, None, Result, Ok, Err, if◌then◌else◌}
use Rattle.std.specs.declared.option.Option.{Option}
use Rattle.uo_base.specs.declared.event.Limits.{Limits}
use Rattle.uo_base.specs.declared.event.Net.{Net}
use Rattle.uo_base.specs.Told.{Tells}
use Rattle.leaf_cache.specs.Watched.{lines_of, first_bad, listed}
use Rattle.feed_frame.specs.Events.{events_of}
use Rattle.feed_run.specs.declared.status.Status.TheVariants as Status
use Rattle.report_lines.specs.declared.line.Line.TheVariants as Line
use Rattle.node_commands.specs.declared.bad_input.BadInput.{BadInput}

-- the scripts of a list, if none of its lines is bad
abbrev pub unless_bad : Option ℕ → List (List ℕ) → Result (Option (List (List ℕ))) BadInput
unless_bad None scripts = Ok (Some scripts)
unless_bad (Some number) scripts = Err (record { status = Status.WatchList; line = Line.Watch number })

-- the scripts that a text lists, or the number of its first bad line
abbrev pub scripts_in : List ℕ → Result (Option (List (List ℕ))) BadInput
scripts_in text = unless_bad (first_bad 1 (lines_of text)) (listed (lines_of text) [])

-- the list that is named, which may have no more bytes than the limit; none where none is named
unfoldable pub list_in : (named : Bool) → (limit : ℕ) → List ℕ → Result (Option (List (List ℕ))) BadInput
list_in false limit text = Ok None
list_in true limit text = if nat_lt limit (length text) then Err (record { status = Status.InputLimit; line = Line.LimitWatch limit }) else scripts_in
    text

-- this was made of the list that is told
pub record IsListOf (named : Bool) (limit : ℕ) (left : Option (List ℕ)) (list : Result (Option (List (List ℕ))) BadInput) : Type 0 where
  pub text : List ℕ
  pub told : Tells left text
  pub is : list ≡ list_in named limit text

-- the watch list can be used, if one is named, and the feed has no bad frame and no more bytes than may be read
pub record IsGood (named : Bool) (net : Net) (limits : Limits) (list feed : List ℕ) : Type 0 where
  pub scripts : Option (List (List ℕ))
  pub usable : list_in named limits.bytes list ≡ Ok scripts
  pub whole : (events_of net limits.bytes feed).ending ≡ None
