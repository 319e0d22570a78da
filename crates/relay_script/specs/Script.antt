-- The text of a script: that of each line, which texts are scripts, and where others go wrong.
use Rattle.std.specs.Prelude.{◌≡◌, ℕ, suc, ◌<◌, ◌^◌, List, [], ◌∷◌, ◌++◌, length, Result, Ok, Err, codes, decimal}
use Rattle.std.specs.List.{AllByRecursion}
use Rattle.relay_script.specs.declared.line.ScriptLine.{ScriptLine}
use Rattle.relay_script.specs.declared.line.ScriptLine.TheVariants.{Bridge, Ask, Serve, Deliver}
use Rattle.relay_script.specs.declared.script.ScriptFault.{ScriptFault}

-- a line without its end; 32 is a space
abbrev pub line_text : ScriptLine → List ℕ
line_text Bridge = codes "bridge"
line_text (Ask follower) = codes "ask " ++ decimal follower
line_text (Serve ask) = codes "serve " ++ decimal ask
line_text (Deliver follower reply) = codes "deliver " ++ decimal follower ++ 32 ∷ decimal reply

abbrev pub LineFits : ScriptLine → Type 0
LineFits Bridge = Unit {0}
LineFits (Ask follower) = follower < 2 ^ 32
LineFits (Serve ask) = ask < 2 ^ 64
LineFits (Deliver follower reply) = (follower < 2 ^ 32) × (reply < 2 ^ 64)

-- each line ended by the byte `0a`
unfoldable pub script_text : List ScriptLine → List ℕ
script_text [] = []
script_text (line ∷ lines) = line_text line ++ 10 ∷ script_text lines

-- a text is the script of these lines
pub record IsScriptOf (text : List ℕ) (lines : List ScriptLine) : Type 0 where
  pub fit : AllByRecursion LineFits lines
  pub spelled : text ≡ script_text lines

-- a text has so many lines less one, and behind them something that begins with no line
pub record FailsAt (text : List ℕ) (number : ℕ) : Type 0 where
  pub before : List ScriptLine
  pub rest : List ℕ
  pub fit : AllByRecursion LineFits before
  pub spelled : text ≡ script_text before ++ rest
  pub is : number ≡ suc (length before)
  pub some : 0 < length rest
  pub none : (line : ScriptLine) (more : List ℕ) → LineFits line → rest ≡ line_text line ++ 10 ∷ more → ⊥

-- what reading a text answers
abbrev pub IsReadAs : List ℕ → Result (List ScriptLine) ScriptFault → Type 0
IsReadAs text (Ok lines) = IsScriptOf text lines
IsReadAs text (Err fault) = FailsAt text fault.line
