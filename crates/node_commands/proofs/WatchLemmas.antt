-- A watch list that is read.
use Rattle.std.proofs.Common.{◌≡◌, ℕ, ◌≤◌, Bool, true, false, List, length, None, Result, Ok, Err, IfOk, sym, ap, ◌∙◌, if◌then◌else◌}
use Rattle.std.specs.declared.option.Option.{Option}
use Rattle.std.proofs.lemmas.Bool.{lt-ltb, le-ltb}
use Rattle.uo_base.specs.Told.{Tells, IsLonger}
use Rattle.uo_base.proofs.PortLemmas.{told_text, Tells-told_text}
use Rattle.feed_run.specs.declared.status.Status.TheVariants.{InputLimit}
use Rattle.report_lines.specs.declared.line.Line.TheVariants.{LimitWatch}
use Rattle.node_commands.specs.declared.bad_input.BadInput.{BadInput}
use Rattle.node_commands.specs.Watching.{scripts_in, list_in, IsListOf}

-- ---- what is read

pub list-none : (named : Bool) (limit : ℕ) (left : Option (List ℕ)) → named ≡ false → IsListOf named limit left (Ok None)
unfolding list_in
list-none named limit left e = record { text = told_text left; told = Tells-told_text left; is = sym (ap (λ b. list_in b limit (told_text left)) e) }

pub list-long : (named : Bool) (limit : ℕ) (left : Option (List ℕ)) → named ≡ true → IsLonger left limit
    → IsListOf named limit left (Err (record { status = InputLimit; line = LimitWatch limit }))
unfolding list_in
list-long named limit left e l =
    let long = lt-ltb limit (length l.text) l.longer in
    record {
      text = l.text;
      told = l.told_text;
      is = sym (ap (λ b. list_in b limit l.text) e
          ∙ ap (λ b. if b then Err (record { status = InputLimit; line = LimitWatch limit }) else scripts_in l.text) long);
    }

pub list-read : (named : Bool) (limit : ℕ) (left : Option (List ℕ)) (text : List ℕ) (list : Result (Option (List (List ℕ))) BadInput) → named ≡ true
    → Tells left text → length text ≤ limit
    → list ≡ scripts_in text → IsListOf named limit left list
unfolding list_in
list-read named limit left text list e told short is =
    let fits = le-ltb limit (length text) short in
    record {
      text = text;
      told = told;
      is = is ∙ sym (ap (λ b. list_in b limit text) e
          ∙ ap (λ b. if b then Err (record { status = InputLimit; line = LimitWatch limit }) else scripts_in text) fits);
    }

pub lists-read : {E : Type 0} (named : Bool) (limit : ℕ) (left : Option (List ℕ)) (text : List ℕ) → named ≡ true → Tells left text
    → length text ≤ limit
    → (r : Result (Result (Option (List (List ℕ))) BadInput) E) → IfOk r (λ list. list ≡ scripts_in text) → IfOk r (IsListOf named limit left)
lists-read named limit left text e told short (Ok list) is = list-read named limit left text list e told short is
lists-read named limit left text e told short (Err fault) is = tt

-- ---- what holds of each list

pub IfOk-any : {T E : Type 0} (P : T → Type 0) → ((x : T) → P x) → (r : Result T E) → IfOk r P
IfOk-any P p (Ok x) = p x
IfOk-any P p (Err e) = tt
