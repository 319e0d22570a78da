-- No word of an accepted list is empty.
use Rattle.std.proofs.Common.{◌≡◌, ℕ, ◌<◌, ◌^◌, true, List, [], ◌∷◌, length, codes, decimal, Result, Ok, Err, sym, subst, arith, ◌&&◌, not}
use Rattle.std.specs.Prelude.{All, IfOk}
use Rattle.std.specs.List.{list_any, list_all}
use Rattle.std.proofs.lemmas.Bool.{and_parts, false≢true}
use Rattle.std.proofs.lemmas.List.Elements.{All-nil, All-cons, All-append}
use Rattle.std.proofs.lemmas.Fmt.{decimal_nonempty}
use Rattle.command_words.specs.declared.options.OptionName.{OptionName}
use Rattle.command_words.specs.declared.options.OptionName.TheVariants as Name
use Rattle.command_words.specs.declared.options.FromRule.{FromRule}
use Rattle.command_words.specs.declared.words.Command.{Command}
use Rattle.command_words.specs.declared.words.WordFault.{WordFault}
use Rattle.command_words.specs.Hashes.{is_hash_word}
use Rattle.command_words.specs.Options.{word_of, takes, is_option, excludes, Given, are_given, words_of}
use Rattle.command_words.specs.Words.{Asked, Task, Following, Proving, Auditing, Generating, UpgradingFeed, UpgradingState, Ordering, Ticketing}
use Rattle.command_words.specs.Words.{Checking, Rechecking, Relaying, IsInRange, front_of, rule_of, options_of, Asks, Means, asked_in, read_as}

abbrev IsFilled : List ℕ → Type 0
IsFilled word = 0 < length word

hash_filled : (word : List ℕ) → is_hash_word word ≡ true → IsFilled word
hash_filled [] e = absurd (false≢true e)
hash_filled (code ∷ word) e = omega arith

some_front : (task : Task) → IsInRange task → All IsFilled (front_of task)
some_front Following r = All-cons IsFilled (codes "follow") [] (omega arith) (All-nil IsFilled)
some_front Proving r = All-cons IsFilled (codes "prove") [] (omega arith) (All-nil IsFilled)
some_front Auditing r = All-cons IsFilled (codes "audit") [] (omega arith) (All-nil IsFilled)
some_front (Generating number blocks) r =
    let few : blocks < 2 ^ 64 = omega (arith, r.1) in
    All-cons IsFilled (codes "gen") (decimal number ∷ decimal blocks ∷ []) (omega arith)
    (All-cons IsFilled (decimal number) (decimal blocks ∷ []) (decimal_nonempty number r.0)
    (All-cons IsFilled (decimal blocks) [] (decimal_nonempty blocks few) (All-nil IsFilled)))
some_front UpgradingFeed r = All-cons IsFilled (codes "upgrade") (codes "feed" ∷ []) (omega arith)
    (All-cons IsFilled (codes "feed") [] (omega arith) (All-nil IsFilled))
some_front UpgradingState r = All-cons IsFilled (codes "upgrade") (codes "state" ∷ []) (omega arith)
    (All-cons IsFilled (codes "state") [] (omega arith) (All-nil IsFilled))
some_front (Ordering tip) r = All-cons IsFilled (codes "order") (tip ∷ []) (omega arith)
    (All-cons IsFilled tip [] (hash_filled tip r) (All-nil IsFilled))
some_front (Ticketing number) r = All-cons IsFilled (codes "ticket") (decimal number ∷ []) (omega arith)
    (All-cons IsFilled (decimal number) [] (decimal_nonempty number r) (All-nil IsFilled))
some_front Checking r = All-cons IsFilled (codes "check") [] (omega arith) (All-nil IsFilled)
some_front Rechecking r = All-cons IsFilled (codes "recheck") [] (omega arith) (All-nil IsFilled)
some_front (Relaying followers) r =
    let few : followers < 2 ^ 64 = omega (arith, r.1) in
    All-cons IsFilled (codes "relay") (decimal followers ∷ []) (omega arith)
    (All-cons IsFilled (decimal followers) [] (decimal_nonempty followers few) (All-nil IsFilled))

some_word : (name : OptionName) → IsFilled (word_of name)
some_word Name.Net = omega arith
some_word Name.Feed = omega arith
some_word Name.From = omega arith
some_word Name.To = omega arith
some_word Name.Watch = omega arith

some_taken : (name : OptionName) (value : List ℕ) → takes name value ≡ true → IsFilled value
some_taken Name.Net [] e = absurd cc
some_taken Name.Net (code ∷ codes) e = omega arith
some_taken Name.Feed [] e = absurd cc
some_taken Name.Feed (code ∷ codes) e = omega arith
some_taken Name.From [] e = absurd cc
some_taken Name.From (code ∷ codes) e = omega arith
some_taken Name.To [] e = absurd cc
some_taken Name.To (code ∷ codes) e = omega arith
some_taken Name.Watch [] e = absurd cc
some_taken Name.Watch (code ∷ codes) e = omega arith

given_filled : (rule : FromRule) (options : List OptionName) (given : List Given) → are_given rule options given ≡ true
    → All IsFilled (words_of given)
given_filled rule options [] e = All-nil IsFilled
given_filled rule options (g ∷ given) e =
    let last = and_parts (list_any (is_option g.name) options && takes g.name g.value && list_all (λ h. not (excludes rule g.name h.name)) given)
    (are_given rule options given) e in
    let front = and_parts (list_any (is_option g.name) options && takes g.name g.value) _ last.0 in
    let taken = (and_parts (list_any (is_option g.name) options) (takes g.name g.value) front.0).1 in
    All-cons IsFilled (word_of g.name) (g.value ∷ words_of given) (some_word g.name)
    (All-cons IsFilled g.value (words_of given) (some_taken g.name g.value taken) (given_filled rule options given last.1))

filled : (words : List (List ℕ)) (asked : Asked) → Asks words asked → All IsFilled words
filled words asked a = subst (All IsFilled) (sym a.spelled) (All-append IsFilled (front_of a.task) (words_of a.given) (some_front a.task a.in_range)
    (given_filled (rule_of a.task) (options_of a.task) a.given a.fit))

pub command_filled : (words : List (List ℕ)) (r : Result Command WordFault) → Means words (read_as r) → IfOk r (λ command. All IsFilled words)
command_filled words (Ok command) m = filled words (asked_in command) m.0
command_filled words (Err fault) m = tt
