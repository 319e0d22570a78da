-- A script has as many lines as its text has ends of lines.
use Rattle.std.proofs.Common.{◌≡◌, ℕ, suc, ◌==◌, Bool, true, false, List, [], ◌∷◌, ◌++◌, length, Option, Some, None, Result, Ok, Err, cond, refl, sym}
use Rattle.std.proofs.Common.{ap, ◌∙◌, ◌+◌, arith}
use Rattle.std.specs.Prelude.{count_by}
use Rattle.std.proofs.lemmas.List.Sums.{sum_by-cons}
use Rattle.relay_script.specs.declared.line.ScriptLine.{ScriptLine}
use Rattle.relay_script.specs.declared.script.ScriptFault.{ScriptFault}
use Rattle.relay_script.specs.Reading.{line_in, put, ended, script_from, lines_in, IsScript}

abbrev is_end : ℕ → Bool
is_end byte = byte == 10

same_lines : (xs ys : List ScriptLine) → ◌≡◌ {A = Result (List ScriptLine) ScriptFault} (Ok xs) (Ok ys) → xs ≡ ys
same_lines xs ys e = cc

-- a text with one byte more
more_ends : (b : ℕ) (text : List ℕ) (t : Bool) → (b == 10) ≡ t → count_by is_end (b ∷ text) ≡ cond t 1 0 + count_by is_end text
more_ends b text t is = sum_by-cons (λ x. cond (is_end x) 1 0) b text ∙ ap (λ u. cond u 1 0 + count_by is_end text) is

behind : (text : List ℕ) (number : ℕ) (lines : List ScriptLine) (line : Option ScriptLine) (more : Result (List ScriptLine) ScriptFault)
    → ((rest : List ScriptLine) → more ≡ Ok rest → length rest ≡ count_by is_end text)
    → put line number more ≡ Ok lines → length lines ≡ suc (count_by is_end text)
behind text number lines None more h e = absurd cc
behind text number lines (Some line) (Err fault) h e = absurd cc
behind text number lines (Some line) (Ok rest) h e = ap length (sym (same_lines (line ∷ rest) lines e)) ∙ ap suc (h rest refl)

as_many : (text : List ℕ) (number : ℕ) (came : List ℕ) (lines : List ScriptLine) → script_from number came text ≡ Ok lines
    → length lines ≡ count_by is_end text
unfolding script_from
as_many [] number [] lines e = ap length (sym (same_lines [] lines e))
as_many [] number (b ∷ came) lines e = absurd cc
as_many (b ∷ text) number came lines e =
    by (b == 10) refl (λ rest f. as_many text (suc number) [] rest f) (λ f. as_many text number (came ++ b ∷ []) lines f) e
  where
    by : (t : Bool) → (b == 10) ≡ t → ((rest : List ScriptLine) → script_from (suc number) [] text ≡ Ok rest → length rest ≡ count_by is_end text)
        → (script_from number (came ++ b ∷ []) text ≡ Ok lines → length lines ≡ count_by is_end text)
        → cond t (put (line_in came) number (script_from (suc number) [] text)) (script_from number (came ++ b ∷ []) text) ≡ Ok lines
        → length lines ≡ count_by is_end (b ∷ text)
    by true is new same e = let more = more_ends b text true is in
        let here = behind text number lines (line_in came) (script_from (suc number) [] text) new e in omega (arith, more, here)
    by false is new same e = let more = more_ends b text false is in let here = same e in omega (arith, more, here)

pub lines_ended : (text : List ℕ) → IsScript text → length (lines_in text) ≡ count_by is_end text
lines_ended text is = as_many text 1 [] (lines_in text) is.is
