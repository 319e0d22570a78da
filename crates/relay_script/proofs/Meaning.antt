-- What is read of a text is what it means.
use Rattle.std.proofs.Common.{◌≡◌, ℕ, zero, suc, ◌-◌, ◌<◌, ◌≤◌, ◌^◌, ◌==◌, Bool, true, false, List, [], ◌∷◌, ◌++◌, length, codes, decimal, bytes_eq}
use Rattle.std.proofs.Common.{Option, Some, None, option_map, Result, Ok, Err, refl, sym, ap, ap₂, subst, ◌∙◌, arith, if◌then◌else◌, append_assoc}
use Rattle.std.specs.Char.{digit_value}
use Rattle.std.specs.Str.Parse.{AllDigits}
use Rattle.std.specs.Cmp.Lexicographic.{same_text}
use Rattle.std.proofs.lemmas.Bool.{eq-eqb, eqb-true, cond-true, cond-false}
use Rattle.std.proofs.lemmas.Fmt.{decimal_is_IsNumeral}
use Rattle.uo_base.specs.Reading.{◌>>=◌}
use Rattle.command_words.proofs.NumberLaws.{number_is, number_again}
use Rattle.relay_script.specs.declared.line.ScriptLine.{ScriptLine}
use Rattle.relay_script.specs.declared.line.ScriptLine.TheVariants.{Bridge, Ask, Serve, Deliver}
use Rattle.relay_script.specs.declared.script.ScriptFault.{ScriptFault}
use Rattle.relay_script.specs.Script.{line_text, LineFits, script_text, IsScriptOf, FailsAt, IsReadAs}
use Rattle.relay_script.specs.Reading.{cut_at, put_byte, follower_in, message_in, delivery_in, act_in, line_in, with_rest, first_line, joined}
use Rattle.relay_script.specs.Reading.{bad_line, script_from, script_in}
use Rattle.relay_script.proofs.Cutting.{is_whole}
use Rattle.relay_script.proofs.Reading.{line_cut, pair_is, reads_line, reads_none, is_shorter}

-- ---- texts without a byte

IsWithout : ℕ → List ℕ → Type 0
IsWithout byte [] = Unit {0}
IsWithout byte (b ∷ text) = ((b == byte) ≡ false) × IsWithout byte text

cut_again : (byte : ℕ) (front rest : List ℕ) → IsWithout byte front → cut_at byte (front ++ byte ∷ rest) ≡ Some (front, rest)
unfolding cut_at IsWithout
cut_again byte [] rest w = cond-true _ _ _ (eq-eqb byte byte refl)
cut_again byte (b ∷ front) rest w = cond-false _ _ _ w.0 ∙ ap (put_byte b) (cut_again byte front rest w.1)

both_without : (byte : ℕ) (front back : List ℕ) → IsWithout byte front → IsWithout byte back → IsWithout byte (front ++ back)
unfolding IsWithout
both_without byte [] back w v = v
both_without byte (b ∷ front) back w v = (w.0, both_without byte front back w.1 v)

digits_without : (byte : ℕ) → (digit_value byte < 10 → ⊥) → (digits : List ℕ) → AllDigits 10 digits → IsWithout byte digits
unfolding IsWithout
digits_without byte other [] all = tt
digits_without byte other (d ∷ digits) all = (by (d == byte) refl, digits_without byte other digits all.1)
  where
    by : (t : Bool) → (d == byte) ≡ t → (d == byte) ≡ false
    by true t = absurd (other (subst (λ k. digit_value k < 10) (eqb-true d byte t) all.0))
    by false t = t

no_digit : (digit_value 10 < 10 → ⊥) × (digit_value 32 < 10 → ⊥)
no_digit = (λ h. omega (arith, h), λ h. omega (arith, h))

number_without : (n : ℕ) → n < 2 ^ 64 → IsWithout 10 (decimal n) × IsWithout 32 (decimal n)
number_without n small =
    let all = (decimal_is_IsNumeral n small).0.1 in
    (digits_without 10 no_digit.0 (decimal n) all, digits_without 32 no_digit.1 (decimal n) all)

-- ---- one line

-- the byte that ends a line stands in none
line_without : (line : ScriptLine) → LineFits line → IsWithout 10 (line_text line)
unfolding IsWithout
line_without Bridge fits = (refl, (refl, (refl, (refl, (refl, (refl, tt))))))
line_without (Ask follower) fits = (refl, (refl, (refl, (refl, (number_without follower (omega (arith, fits))).0))))
line_without (Serve ask) fits = (refl, (refl, (refl, (refl, (refl, (refl, (number_without ask fits).0))))))
line_without (Deliver follower reply) fits =
    let two = both_without 10 (decimal follower) (32 ∷ decimal reply) (number_without follower (omega (arith, fits.0))).0
    (refl, (number_without reply fits.1).0) in
    (refl, (refl, (refl, (refl, (refl, (refl, (refl, (refl, two))))))))

abbrev delivery_cut : Option (List ℕ × List ℕ) → Option ScriptLine
delivery_cut x = x >>= λ p. follower_in p.0 >>= λ follower. option_map (Deliver follower) (message_in p.1)

-- the text of a line is read as it
line_again : (line : ScriptLine) → LineFits line → line_in (line_text line) ≡ Some line
unfolding cut_at
line_again Bridge fits = refl
line_again (Ask follower) fits = ap (option_map Ask) (number_again (2 ^ 32 - 1) follower (omega (arith, fits)) (omega (arith, fits)))
line_again (Serve ask) fits = ap (option_map Serve) (number_again (2 ^ 64 - 1) ask (omega (arith, fits)) fits)
line_again (Deliver follower reply) fits =
    ap delivery_cut (cut_again 32 (decimal follower) (decimal reply) (number_without follower (omega (arith, fits.0))).1)
    ∙ ap (λ x. x >>= λ f. option_map (Deliver f) (message_in (decimal reply)))
    (number_again (2 ^ 32 - 1) follower (omega (arith, fits.0)) (omega (arith, fits.0)))
    ∙ ap (option_map (Deliver follower)) (number_again (2 ^ 64 - 1) reply (omega (arith, fits.1)) fits.1)

-- a text says a line
abbrev Says : List ℕ → ScriptLine → Type 0
Says text line = (text ≡ line_text line) × LineFits line

some_line : (a b : ScriptLine) → Some a ≡ Some b → a ≡ b
some_line a b e = cc

module _ (line : ScriptLine) where
  delivery_is : (words : List ℕ) → delivery_in words ≡ Some line → Says (codes "deliver" ++ 32 ∷ words) line
  delivery_is words e = by (cut_at 32 words) refl e
    where
      by_reply : (p : List ℕ × List ℕ) → words ≡ p.0 ++ 32 ∷ p.1 → (f : ℕ) → p.0 ≡ decimal f → f < 2 ^ 32 → (y : Option ℕ) → message_in p.1 ≡ y
          → option_map (Deliver f) y ≡ Some line → Says (codes "deliver" ++ 32 ∷ words) line
      by_reply p w f is small None r e = absurd cc
      by_reply p w f is small (Some reply) r e =
          let told = number_is (2 ^ 64 - 1) p.1 reply r in
          subst (Says (codes "deliver" ++ 32 ∷ words)) (some_line _ _ e)
          (ap (λ l. codes "deliver" ++ 32 ∷ l) (w ∙ ap₂ (λ a b. a ++ 32 ∷ b) is told.0), (small, omega (arith, told.1)))

      by_follower : (p : List ℕ × List ℕ) → words ≡ p.0 ++ 32 ∷ p.1 → (x : Option ℕ) → follower_in p.0 ≡ x
          → (x >>= λ f. option_map (Deliver f) (message_in p.1)) ≡ Some line → Says (codes "deliver" ++ 32 ∷ words) line
      by_follower p w None f e = absurd cc
      by_follower p w (Some follower) f e =
          let told = number_is (2 ^ 32 - 1) p.0 follower f in
          by_reply p w follower told.0 (omega (arith, told.1)) (message_in p.1) refl e

      by : (x : Option (List ℕ × List ℕ)) → cut_at 32 words ≡ x → delivery_cut x ≡ Some line → Says (codes "deliver" ++ 32 ∷ words) line
      by None c e = absurd cc
      by (Some p) c e = by_follower p (is_whole 32 words p.0 p.1 c) (follower_in p.0) refl e

  ask_is : (words : List ℕ) → option_map Ask (follower_in words) ≡ Some line → Says (codes "ask" ++ 32 ∷ words) line
  ask_is words e = by (follower_in words) refl e
    where
      by : (x : Option ℕ) → follower_in words ≡ x → option_map Ask x ≡ Some line → Says (codes "ask" ++ 32 ∷ words) line
      by None f e = absurd cc
      by (Some n) f e =
          let told = number_is (2 ^ 32 - 1) words n f in
          subst (Says (codes "ask" ++ 32 ∷ words)) (some_line _ _ e) (ap (λ w. codes "ask" ++ 32 ∷ w) told.0, omega (arith, told.1))

  serve_is : (words : List ℕ) → option_map Serve (message_in words) ≡ Some line → Says (codes "serve" ++ 32 ∷ words) line
  serve_is words e = by (message_in words) refl e
    where
      by : (x : Option ℕ) → message_in words ≡ x → option_map Serve x ≡ Some line → Says (codes "serve" ++ 32 ∷ words) line
      by None f e = absurd cc
      by (Some n) f e =
          let told = number_is (2 ^ 64 - 1) words n f in
          subst (Says (codes "serve" ++ 32 ∷ words)) (some_line _ _ e) (ap (λ w. codes "serve" ++ 32 ∷ w) told.0, omega (arith, told.1))

  by_name : (name word : List ℕ) (words : List ℕ) → bytes_eq name word ≡ true → Says (word ++ 32 ∷ words) line → Says (name ++ 32 ∷ words) line
  by_name name word words same says = subst (λ w. Says (w ++ 32 ∷ words) line) (sym (same_text _ _ (sym same))) says

  -- what is read behind a test
  by_test : (text : List ℕ) (b : Bool) (x y : Option ScriptLine) → (b ≡ true → x ≡ Some line → Says text line)
      → (b ≡ false → y ≡ Some line → Says text line) → (if b then x else y) ≡ Some line → Says text line
  by_test text true x y first second e = first refl e
  by_test text false x y first second e = second refl e

  no_line : (text : List ℕ) → ◌≡◌ {A = Option ScriptLine} None (Some line) → Says text line
  no_line text e = absurd cc

  act_is : (name words : List ℕ) → act_in name words ≡ Some line → Says (name ++ 32 ∷ words) line
  act_is name words =
      by_test _ (bytes_eq name (codes "ask")) _ _ (λ same e. by_name name (codes "ask") words same (ask_is words e))
      (λ no_ask. by_test _ (bytes_eq name (codes "serve")) _ _ (λ same e. by_name name (codes "serve") words same (serve_is words e))
      (λ no_serve. by_test _ (bytes_eq name (codes "deliver")) _ _ (λ same e. by_name name (codes "deliver") words same (delivery_is words e))
      (λ no_deliver. no_line (name ++ 32 ∷ words))))

  -- what is read as a line is its text
  line_is : (text : List ℕ) → line_in text ≡ Some line → Says text line
  line_is text = by_test _ (bytes_eq text (codes "bridge")) _ _ bridge (λ no_bridge. by (cut_at 32 text) refl)
    where
      bridge : bytes_eq text (codes "bridge") ≡ true → ◌≡◌ {A = Option ScriptLine} (Some Bridge) (Some line) → Says text line
      bridge same e = subst (Says text) (some_line _ _ e) (same_text _ _ (sym same), tt)

      by : (x : Option (List ℕ × List ℕ)) → cut_at 32 text ≡ x → (x >>= λ p. act_in p.0 p.1) ≡ Some line → Says text line
      by None c e = absurd cc
      by (Some p) c e = subst (λ t. Says t line) (sym (is_whole 32 text p.0 p.1 c)) (act_is p.0 p.1 e)

-- ---- the first line

first_is : (text rest : List ℕ) (line : ScriptLine) → first_line text ≡ Some (line, rest) → (text ≡ line_text line ++ 10 ∷ rest) × LineFits line
first_is text rest line e = by (cut_at 10 text) refl e
  where
    by_line : (p : List ℕ × List ℕ) → cut_at 10 text ≡ Some p → (x : Option ScriptLine) → line_in p.0 ≡ x → with_rest p.1 x ≡ Some (line, rest)
        → (text ≡ line_text line ++ 10 ∷ rest) × LineFits line
    by_line p c None f e = absurd cc
    by_line p c (Some l) f e =
        let says = line_is l p.0 f in
        subst (λ (q : ScriptLine × List ℕ). (text ≡ line_text q.0 ++ 10 ∷ q.1) × LineFits q.0) (pair_is _ _ e)
        (is_whole 10 text p.0 p.1 c ∙ ap (λ t. t ++ 10 ∷ p.1) says.0, says.1)

    by : (x : Option (List ℕ × List ℕ)) → cut_at 10 text ≡ x → line_cut x ≡ Some (line, rest) → (text ≡ line_text line ++ 10 ∷ rest) × LineFits line
    by None c e = absurd cc
    by (Some p) c e = by_line p c (line_in p.0) refl e

first_again : (line : ScriptLine) (rest : List ℕ) → LineFits line → first_line (line_text line ++ 10 ∷ rest) ≡ Some (line, rest)
first_again line rest fits = ap line_cut (cut_again 10 (line_text line) rest (line_without line fits)) ∙ ap (with_rest rest) (line_again line fits)

-- ---- all lines

-- the lines of a text are numbered from n on
record FailsFrom (n : ℕ) (text : List ℕ) (number : ℕ) : Type 0 where
  at : FailsAt text (suc (number - n))
  from : n ≤ number

Reads : ℕ → List ℕ → Result (List ScriptLine) ScriptFault → Type 0
Reads n text (Ok lines) = IsScriptOf text lines
Reads n text (Err fault) = FailsFrom n text fault.line

not_both : (x y : Option (ScriptLine × List ℕ)) (p : ScriptLine × List ℕ) → x ≡ None → x ≡ Some p → ⊥
not_both x y p none some = absurd cc

module _ (n : ℕ) (text : List ℕ) where
  fails_here : 0 < length text → first_line text ≡ None → Reads n text (bad_line n)
  unfolding Reads script_text
  fails_here some e = record {
    at = record {
      before = [];
      rest = text;
      fit = tt;
      spelled = refl;
      is = omega arith;
      some = some;
      none = λ line more fits is. not_both (first_line text) None (line, more) e (ap first_line is ∙ first_again line more fits);
    };
    from = omega arith;
  }

  one_line : (rest : List ℕ) (line : ScriptLine) → text ≡ line_text line ++ 10 ∷ rest → LineFits line → (r : Result (List ScriptLine) ScriptFault)
      → Reads (suc n) rest r → Reads n text (joined (line ∷ []) r)
  unfolding Reads script_text
  one_line rest line is fits (Ok lines) w = record { fit = (fits, w.fit); spelled = is ∙ ap (λ l. line_text line ++ 10 ∷ l) w.spelled }
  one_line rest line is fits (Err fault) w = record {
    at = record {
      before = line ∷ w.at.before;
      rest = w.at.rest;
      fit = (fits, w.at.fit);
      spelled = is ∙ ap (λ l. line_text line ++ 10 ∷ l) w.at.spelled ∙ sym (append_assoc (line_text line) (10 ∷ script_text w.at.before) w.at.rest);
      is = omega (arith, w.at.is, w.from);
      some = w.at.some;
      none = w.at.none;
    };
    from = omega (arith, w.from);
  }

reads : (most n : ℕ) (text : List ℕ) → length text ≤ most → Reads n text (script_from n [] text)
unfolding Reads script_from script_text
reads most n [] few = record { fit = tt; spelled = refl }
reads zero n (b ∷ text) few = absurd (omega (arith, few))
reads (suc most) n (b ∷ text) few = by (first_line (b ∷ text)) refl (λ rest short. reads most (suc n) rest short)
  where
    by : (x : Option (ScriptLine × List ℕ)) → first_line (b ∷ text) ≡ x
        → ((rest : List ℕ) → length rest ≤ most → Reads (suc n) rest (script_from (suc n) [] rest)) → Reads n (b ∷ text) (script_from n [] (b ∷ text))
    by None e more = subst (Reads n (b ∷ text)) (sym (reads_none n (b ∷ text) (omega arith) e)) (fails_here n (b ∷ text) (omega arith) e)
    by (Some p) e more =
        let is = first_is (b ∷ text) p.1 p.0 e in
        subst (Reads n (b ∷ text)) (sym (reads_line n (b ∷ text) p.1 p.0 e))
        (one_line n (b ∷ text) p.1 p.0 is.0 is.1 _ (more p.1 (omega (arith, few, is_shorter (b ∷ text) p.1 p.0 e))))

is_read_as : (text : List ℕ) (r : Result (List ScriptLine) ScriptFault) → Reads 1 text r → IsReadAs text r
unfolding Reads
is_read_as text (Ok lines) w = w
is_read_as text (Err fault) w = subst (FailsAt text) from_one w.at
  where
    from_one : suc (fault.line - 1) ≡ fault.line
    from_one = omega (arith, w.from)

pub read_as_meant : (text : List ℕ) → IsReadAs text (script_in text)
read_as_meant text = is_read_as text (script_in text) (reads (length text) 1 text (omega arith))
