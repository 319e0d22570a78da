-- Scripts, read by computation.
use Rattle.std.specs.Prelude.{◌≡◌, ℕ, suc, ◌-◌, ◌^◌, ◌==◌, List, [], ◌∷◌, ◌++◌, Option, Some, None, Result, Ok, Err, codes, bytes_eq, option_map}
use Rattle.std.specs.Prelude.{if◌then◌else◌}
use Rattle.std.specs.Borrow.{Bor}
use Rattle.uo_base.specs.Reading.{◌>>=◌}
use Rattle.command_words.specs.Numbers.{number_in}
use Rattle.relay_script.specs.declared.line.ScriptLine.{ScriptLine}
use Rattle.relay_script.specs.declared.line.ScriptLine.TheVariants.{Bridge, Ask, Serve, Deliver}
use Rattle.relay_script.specs.declared.script.ScriptFault.{ScriptFault}

-- ---- one line

abbrev pub put_byte : ℕ → Option (List ℕ × List ℕ) → Option (List ℕ × List ℕ)
put_byte b None = None
put_byte b (Some p) = Some (b ∷ p.0, p.1)

-- what stands before the first byte of this kind, and what behind it
unfoldable pub cut_at : (byte : ℕ) → List ℕ → Option (List ℕ × List ℕ)
cut_at byte [] = None
cut_at byte (b ∷ text) = if b == byte then Some ([], text) else put_byte b (cut_at byte text)

abbrev pub follower_in : List ℕ → Option ℕ
follower_in word = number_in (2 ^ 32 - 1) word

-- an ask or a reply
abbrev pub message_in : List ℕ → Option ℕ
message_in word = number_in (2 ^ 64 - 1) word

abbrev pub delivery_in : List ℕ → Option ScriptLine
delivery_in words = cut_at 32 words >>= λ p. follower_in p.0 >>= λ follower. option_map (Deliver follower) (message_in p.1)

-- by its first word, and the words behind it
abbrev pub act_in : List ℕ → List ℕ → Option ScriptLine
act_in name words =
    if bytes_eq name (codes "ask") then option_map Ask (follower_in words)
    else if bytes_eq name (codes "serve") then option_map Serve (message_in words)
    else if bytes_eq name (codes "deliver") then delivery_in words
    else None

-- the line that a text spells, without the byte that ends it
abbrev pub line_in : List ℕ → Option ScriptLine
line_in text = if bytes_eq text (codes "bridge") then Some Bridge else cut_at 32 text >>= λ p. act_in p.0 p.1

abbrev pub with_rest : List ℕ → Option ScriptLine → Option (ScriptLine × List ℕ)
with_rest rest None = None
with_rest rest (Some line) = Some (line, rest)

abbrev pub first_line : List ℕ → Option (ScriptLine × List ℕ)
first_line text = cut_at 10 text >>= λ p. with_rest p.1 (line_in p.0)

-- ---- all lines

abbrev pub joined : List ScriptLine → Result (List ScriptLine) ScriptFault → Result (List ScriptLine) ScriptFault
joined lines (Ok more) = Ok (lines ++ more)
joined lines (Err fault) = Err fault

abbrev pub bad_line : ℕ → Result (List ScriptLine) ScriptFault
bad_line number = Err (record { line = number })

abbrev pub put : Option ScriptLine → ℕ → Result (List ScriptLine) ScriptFault → Result (List ScriptLine) ScriptFault
put None number more = bad_line number
put (Some line) number more = joined (line ∷ []) more

-- a text has ended, behind some bytes of the line with this number
abbrev pub ended : ℕ → List ℕ → Result (List ScriptLine) ScriptFault
ended number [] = Ok []
ended number (b ∷ came) = bad_line number

-- the lines of a text from this number on, where some bytes of the first one came before
unfoldable pub script_from : (number : ℕ) → (came text : List ℕ) → Result (List ScriptLine) ScriptFault
script_from number came [] = ended number came
script_from number came (b ∷ text) = if b == 10 then put (line_in came) number (script_from (suc number) [] text) else script_from number
    (came ++ b ∷ []) text

abbrev pub script_in : List ℕ → Result (List ScriptLine) ScriptFault
script_in text = script_from 1 [] text

-- the lines themselves
abbrev pub lines_told : Result (List ScriptLine) ScriptFault → List ScriptLine
lines_told (Ok lines) = lines
lines_told (Err fault) = []

abbrev pub lines_in : List ℕ → List ScriptLine
lines_in text = lines_told (script_in text)

pub record IsScript (text : List ℕ) : Type 0 where
  pub is : script_in text ≡ Ok (lines_in text)

-- ---- as the program holds them

abbrev pub parts_in : Option (Bor (List ℕ) × Bor (List ℕ)) → Option (List ℕ × List ℕ)
parts_in None = None
parts_in (Some p) = Some (p.0.now, p.1.now)

abbrev pub line_and_rest : Option (ScriptLine × Bor (List ℕ)) → Option (ScriptLine × List ℕ)
line_and_rest None = None
line_and_rest (Some p) = Some (p.0, p.1.now)

-- a line is taken from the front, as long as there is one
abbrev pub IsTaken : List ScriptLine → Option ScriptLine → List ScriptLine → Type 0
IsTaken old None new = (old ≡ []) × (new ≡ [])
IsTaken old (Some line) new = old ≡ line ∷ new
