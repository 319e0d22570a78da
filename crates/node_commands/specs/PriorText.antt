-- The prior bytes, which are read whole: a state, a ticket or a script.
use Rattle.std.specs.Prelude.{◌≡◌, ℕ, ◌≤◌, ◌<◌, nat_lt, Bool, true, false, List, [], length, Result, Ok, Err, if◌then◌else◌}
use Rattle.std.specs.declared.option.Option.{Option}
use Rattle.std.specs.Global.{Vec}
use Rattle.uo_base.specs.Told.{Tells}
use Rattle.feed_run.specs.declared.status.Status.TheVariants as Status
use Rattle.report_lines.specs.declared.line.Line.TheVariants as Line
use Rattle.node_commands.specs.declared.bad_input.BadInput.{BadInput}

-- they are more than may be read
abbrev pub long_prior : (limit : ℕ) → BadInput
long_prior limit = record { status = Status.InputLimit; line = Line.LimitPrior limit }

-- the text that is named, which may have no more bytes than the limit; the empty one where none is named
unfoldable pub prior_text : (named : Bool) → (limit : ℕ) → List ℕ → Result (List ℕ) BadInput
prior_text false limit text = Ok []
prior_text true limit text = if nat_lt limit (length text) then Err (long_prior limit) else Ok text

-- what was read is this text, or that it has too many bytes
abbrev pub IsTextIn : (limit : ℕ) → List ℕ → Result (Vec ℕ) BadInput → Type 0
IsTextIn limit text (Ok read) = (read.items ≡ text) × (length text ≤ limit)
IsTextIn limit text (Err bad) = (bad ≡ long_prior limit) × (limit < length text)

-- and the source tells it
pub record IsPriorRead (limit : ℕ) (left : Option (List ℕ)) (read : Result (Vec ℕ) BadInput) : Type 0 where
  pub text : List ℕ
  pub told : Tells left text
  pub is : IsTextIn limit text read
