-- How a script is read, line by line.
use Rattle.std.proofs.Common.{◌≡◌, ℕ, suc, ◌+◌, ◌<◌, ◌≤◌, ◌^◌, ◌==◌, Bool, true, false, List, [], ◌∷◌, ◌++◌, length, decimal, Option, Some, None}
use Rattle.std.proofs.Common.{Result, Ok, Err, refl, sym, ap, subst, ◌∙◌, arith, if◌then◌else◌, append-nil, append_assoc, length-append}
use Rattle.std.specs.Str.{IsUtf8}
use Rattle.std.proofs.lemmas.Fmt.{IsAscii-decimal}
use Rattle.std.proofs.lemmas.Str.{IsUtf8-from_ascii}
use Rattle.uo_base.specs.Reading.{◌>>=◌}
use Rattle.command_words.specs.Numbers.{number_in}
use Rattle.command_words.proofs.NumberLaws.{number_is}
use Rattle.relay_script.specs.declared.line.ScriptLine.{ScriptLine}
use Rattle.relay_script.specs.declared.script.ScriptFault.{ScriptFault}
use Rattle.relay_script.specs.Reading.{cut_at, line_in, with_rest, first_line, joined, bad_line, put, ended, script_from, script_in, lines_told}
use Rattle.relay_script.specs.Reading.{lines_in, IsScript, IsTaken}
use Rattle.relay_script.proofs.Cutting.{one_cut, is_whole}

-- ---- numbers

-- what is no UTF-8 spells no number
pub not_spelled : (most : ℕ) (word : List ℕ) → most < 2 ^ 64 → (IsUtf8 word → ⊥) → None ≡ number_in most word
not_spelled most word small other = by (number_in most word) refl
  where
    by : (x : Option ℕ) → number_in most word ≡ x → None ≡ x
    by None e = refl
    by (Some n) e =
        let is = number_is most word n e in
        absurd (other (subst IsUtf8 (sym is.0) (IsUtf8-from_ascii (decimal n) (IsAscii-decimal n (omega (arith, is.1, small))))))

-- ---- a text by its first line

abbrev pub line_cut : Option (List ℕ × List ℕ) → Option (ScriptLine × List ℕ)
line_cut x = x >>= λ p. with_rest p.1 (line_in p.0)

pub pair_is : {A B : Type 0} (p q : A × B) → ◌≡◌ {A = Option (A × B)} (Some p) (Some q) → p ≡ q
pair_is p q e = cc

module _ (n : ℕ) where
  by_cut : (text front rest came : List ℕ) → cut_at 10 text ≡ Some (front, rest)
      → script_from n came text ≡ put (line_in (came ++ front)) n (script_from (suc n) [] rest)
  unfolding cut_at script_from
  by_cut [] front rest came e = absurd cc
  by_cut (b ∷ text) front rest came e = by (b == 10) (cut_at 10 text) refl e (λ p f. by_cut text p.0 p.1 (came ++ b ∷ []) f)
    where
      by : (t : Bool) (x : Option (List ℕ × List ℕ)) → cut_at 10 text ≡ x → one_cut t b text x ≡ Some (front, rest)
          → ((p : List ℕ × List ℕ) → cut_at 10 text ≡ Some p
          → script_from n (came ++ b ∷ []) text ≡ put (line_in ((came ++ b ∷ []) ++ p.0)) n (script_from (suc n) [] p.1))
          → (if t then put (line_in came) n (script_from (suc n) [] text) else script_from n (came ++ b ∷ []) text)
          ≡ put (line_in (came ++ front)) n (script_from (suc n) [] rest)
      by true x f e more =
          subst (λ (p : List ℕ × List ℕ). put (line_in came) n (script_from (suc n) [] text)
          ≡ put (line_in (came ++ p.0)) n (script_from (suc n) [] p.1)) (pair_is _ _ e)
          (ap (λ l. put (line_in l) n (script_from (suc n) [] text)) (sym (append-nil came)))
      by false None f e more = absurd cc
      by false (Some p) f e more =
          subst (λ (q : List ℕ × List ℕ). script_from n (came ++ b ∷ []) text ≡ put (line_in (came ++ q.0)) n (script_from (suc n) [] q.1))
          (pair_is _ _ e)
          (more p f ∙ ap (λ l. put (line_in l) n (script_from (suc n) [] p.1)) (append_assoc came (b ∷ []) p.0))

  uncut : (text came : List ℕ) → cut_at 10 text ≡ None → script_from n came text ≡ ended n (came ++ text)
  unfolding cut_at script_from
  uncut [] came e = ap (ended n) (sym (append-nil came))
  uncut (b ∷ text) came e = by (b == 10) (cut_at 10 text) refl e (uncut text (came ++ b ∷ []))
    where
      by : (t : Bool) (x : Option (List ℕ × List ℕ)) → cut_at 10 text ≡ x → one_cut t b text x ≡ None
          → (cut_at 10 text ≡ None → script_from n (came ++ b ∷ []) text ≡ ended n ((came ++ b ∷ []) ++ text))
          → (if t then put (line_in came) n (script_from (suc n) [] text) else script_from n (came ++ b ∷ []) text) ≡ ended n (came ++ b ∷ text)
      by true x f e more = absurd cc
      by false (Some p) f e more = absurd cc
      by false None f e more = more f ∙ ap (ended n) (append_assoc came (b ∷ []) text)

  -- a text that begins with a line
  pub reads_line : (text rest : List ℕ) (line : ScriptLine) → first_line text ≡ Some (line, rest)
      → script_from n [] text ≡ joined (line ∷ []) (script_from (suc n) [] rest)
  reads_line text rest line e = by (cut_at 10 text) refl e
    where
      by_line : (p : List ℕ × List ℕ) → cut_at 10 text ≡ Some p → (x : Option ScriptLine) → line_in p.0 ≡ x → with_rest p.1 x ≡ Some (line, rest)
          → script_from n [] text ≡ joined (line ∷ []) (script_from (suc n) [] rest)
      by_line p c None f e = absurd cc
      by_line p c (Some l) f e =
          subst (λ (q : ScriptLine × List ℕ). script_from n [] text ≡ joined (q.0 ∷ []) (script_from (suc n) [] q.1)) (pair_is _ _ e)
          (by_cut text p.0 p.1 [] c ∙ ap (λ x. put x n (script_from (suc n) [] p.1)) f)

      by : (x : Option (List ℕ × List ℕ)) → cut_at 10 text ≡ x → line_cut x ≡ Some (line, rest)
          → script_from n [] text ≡ joined (line ∷ []) (script_from (suc n) [] rest)
      by None c e = absurd cc
      by (Some p) c e = by_line p c (line_in p.0) refl e

  -- one that begins with none
  pub reads_none : (text : List ℕ) → 0 < length text → first_line text ≡ None → script_from n [] text ≡ bad_line n
  reads_none text some e = by (cut_at 10 text) refl e
    where
      by_line : (p : List ℕ × List ℕ) → cut_at 10 text ≡ Some p → (x : Option ScriptLine) → line_in p.0 ≡ x → with_rest p.1 x ≡ None
          → script_from n [] text ≡ bad_line n
      by_line p c None f e = by_cut text p.0 p.1 [] c ∙ ap (λ x. put x n (script_from (suc n) [] p.1)) f
      by_line p c (Some l) f e = absurd cc

      not_ended : (text : List ℕ) → 0 < length text → ended n text ≡ bad_line n
      not_ended [] some = absurd (omega (arith, some))
      not_ended (b ∷ text) some = refl

      by : (x : Option (List ℕ × List ℕ)) → cut_at 10 text ≡ x → line_cut x ≡ None → script_from n [] text ≡ bad_line n
      by None c e = uncut text [] c ∙ not_ended text some
      by (Some p) c e = by_line p c (line_in p.0) refl e

-- behind a line there is less
pub is_shorter : (text rest : List ℕ) (line : ScriptLine) → first_line text ≡ Some (line, rest) → length rest < length text
is_shorter text rest line e = by (cut_at 10 text) refl e
  where
    by_line : (p : List ℕ × List ℕ) → cut_at 10 text ≡ Some p → (x : Option ScriptLine) → with_rest p.1 x ≡ Some (line, rest)
        → length rest < length text
    by_line p c None e = absurd cc
    by_line p c (Some l) e =
        subst (λ (q : ScriptLine × List ℕ). length q.1 < length text) (pair_is _ _ e)
        (omega (arith, ap length (is_whole 10 text p.0 p.1 c), length-append p.0 (10 ∷ p.1)))

    by : (x : Option (List ℕ × List ℕ)) → cut_at 10 text ≡ x → line_cut x ≡ Some (line, rest) → length rest < length text
    by None c e = absurd cc
    by (Some p) c e = by_line p c (line_in p.0) e

-- ---- reading all lines

-- what is read so far, followed by what is still to be read, is all
pub record IsReading (text rest : List ℕ) (n : ℕ) : Type 0 where
  pub front : List ScriptLine
  pub is : script_in text ≡ joined front (script_from n [] rest)
  pub few : n + length rest ≤ length text + 1

joined-none : (r : Result (List ScriptLine) ScriptFault) → r ≡ joined [] r
joined-none (Ok lines) = refl
joined-none (Err fault) = refl

joined-both : (front back : List ScriptLine) (r : Result (List ScriptLine) ScriptFault) → joined front (joined back r) ≡ joined (front ++ back) r
joined-both front back (Ok lines) = ap Ok (sym (append_assoc front back lines))
joined-both front back (Err fault) = refl

pub begins : (text : List ℕ) → IsReading text text 1
begins text = record { front = []; is = joined-none (script_in text); few = omega arith }

pub goes_on : (text rest more : List ℕ) (n : ℕ) (line : ScriptLine) → IsReading text rest n → first_line rest ≡ Some (line, more)
    → IsReading text more (n + 1)
goes_on text rest more n line w e = record {
  front = w.front ++ line ∷ [];
  is = w.is ∙ ap (joined w.front) (reads_line n rest more line e) ∙ joined-both w.front (line ∷ []) (script_from (suc n) [] more)
      ∙ ap (λ k. joined (w.front ++ line ∷ []) (script_from k [] more)) next;
  few = omega (arith, w.few, is_shorter rest more line e);
}
  where
    next : suc n ≡ n + 1
    next = omega arith

pub goes_wrong : (text rest : List ℕ) (n : ℕ) → IsReading text rest n → 0 < length rest → first_line rest ≡ None → bad_line n ≡ script_in text
goes_wrong text rest n w some e = sym (w.is ∙ ap (joined w.front) (reads_none n rest some e))

pub script_of : (text : List ℕ) (lines : List ScriptLine) → script_in text ≡ Ok lines → IsScript text
script_of text lines e = record { is = e ∙ ap (λ r. Ok (lines_told r)) (sym e) }

pub is_read : (text rest : List ℕ) (n : ℕ) → IsReading text rest n → length rest ≡ 0 → IsScript text
unfolding script_from
is_read text [] n w none = script_of text (w.front ++ []) w.is
is_read text (b ∷ rest) n w none = absurd (omega (arith, none))

-- ---- taking a line

put_ok : (m n : ℕ) (x : Option ScriptLine) (r s : Result (List ScriptLine) ScriptFault) (lines : List ScriptLine)
    → ((k : List ScriptLine) → r ≡ Ok k → s ≡ Ok k) → put x m r ≡ Ok lines → put x n s ≡ Ok lines
put_ok m n None r s lines more e = absurd cc
put_ok m n (Some line) (Err fault) s lines more e = absurd cc
put_ok m n (Some line) (Ok k) s lines more e = ap (joined (line ∷ [])) (more k refl) ∙ e

-- lines are the same whatever their numbers
renumbered : (text came : List ℕ) (m n : ℕ) (lines : List ScriptLine) → script_from m came text ≡ Ok lines → script_from n came text ≡ Ok lines
unfolding script_from
renumbered [] [] m n lines e = e
renumbered [] (b ∷ came) m n lines e = absurd cc
renumbered (b ∷ text) came m n lines e = by (b == 10) e (λ k f. renumbered text [] (suc m) (suc n) k f) (renumbered text (came ++ b ∷ []) m n lines)
  where
    by : (t : Bool) → (if t then put (line_in came) m (script_from (suc m) [] text) else script_from m (came ++ b ∷ []) text) ≡ Ok lines
        → ((k : List ScriptLine) → script_from (suc m) [] text ≡ Ok k → script_from (suc n) [] text ≡ Ok k)
        → (script_from m (came ++ b ∷ []) text ≡ Ok lines → script_from n (came ++ b ∷ []) text ≡ Ok lines)
        → (if t then put (line_in came) n (script_from (suc n) [] text) else script_from n (came ++ b ∷ []) text) ≡ Ok lines
    by true e ended more = put_ok m n (line_in came) _ _ lines ended e
    by false e ended more = more e

same_lines : (a b : List ScriptLine) → ◌≡◌ {A = Result (List ScriptLine) ScriptFault} (Ok a) (Ok b) → a ≡ b
same_lines a b e = cc

pub taken : (text rest : List ℕ) (line : ScriptLine) → IsScript text → first_line text ≡ Some (line, rest) → (lines_in text ≡ line ∷ lines_in rest)
    × IsScript rest
taken text rest line w e = by (script_from 2 [] rest) refl (sym (reads_line 1 text rest line e) ∙ w.is)
  where
    by : (r : Result (List ScriptLine) ScriptFault) → script_from 2 [] rest ≡ r → joined (line ∷ []) r ≡ Ok (lines_in text)
        → (lines_in text ≡ line ∷ lines_in rest) × IsScript rest
    by (Err fault) f e = absurd cc
    by (Ok lines) f e =
        let is : script_in rest ≡ Ok lines = renumbered rest [] 2 1 lines f in
        (sym (same_lines _ _ e) ∙ ap (λ r. line ∷ lines_told r) (sym is), script_of rest lines is)

pub none_left : (text : List ℕ) → IsScript text → first_line text ≡ None → lines_in text ≡ []
unfolding script_from
none_left [] w e = refl
none_left (b ∷ text) w e = absurd (differ _ _ (sym (reads_none 1 (b ∷ text) (omega arith) e) ∙ w.is))
  where
    differ : (lines : List ScriptLine) (n : ℕ) → bad_line n ≡ Ok lines → ⊥
    differ lines n e = absurd cc

-- where no line is left the script stays as it is
pub is_taken_none : (lines : List ScriptLine) (result : Option ScriptLine) → result ≡ None → lines ≡ [] → IsTaken lines result lines
is_taken_none lines None e none = (none, none)
is_taken_none lines (Some line) e none = absurd cc
