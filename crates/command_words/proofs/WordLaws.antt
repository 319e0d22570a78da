-- What is read out of words is what they mean.
use Rattle.std.proofs.Common.{◌≡◌, ℕ, suc, ◌+◌, ◌-◌, ◌<◌, ◌≤◌, ◌^◌, Bool, true, false, List, [], ◌∷◌, ◌++◌, length, take, take_all, replicate, Option}
use Rattle.std.proofs.Common.{Some, None, option_map, Result, Ok, Err, codes, decimal, bytes_eq, refl, sym, ap, subst, ◌∙◌, arith, if◌then◌else◌}
use Rattle.std.proofs.Common.{length-append, append-nil, append_assoc, map, get_or, drop, ap₂}
use Rattle.std.proofs.lemmas.Grind.{flat_map-append}
use Rattle.std.specs.Cmp.Lexicographic.{same_text}
use Rattle.command_words.specs.declared.words.WordFault.{WordFault}
use Rattle.command_words.specs.Hashes.{is_hash_word}
use Rattle.command_words.specs.Numbers.{number_in, positive_in}
use Rattle.command_words.specs.Options.{Given, are_given, words_of, word_of, Settings, settings_of, needs}
use Rattle.command_words.specs.Words.{Asked, Task, Following, Proving, Auditing, Generating, UpgradingFeed, UpgradingState, Ordering, Ticketing}
use Rattle.command_words.specs.Words.{Checking, Rechecking, Relaying, front_of, IsInRange, rule_of, options_of, is_enough, asked_by, Asks, Begins}
use Rattle.command_words.specs.Words.{Means, read_for, options_for, blocks_for, gen_for, upgrade_for, one_word_for, order_at, ticket_at, relay_at}
use Rattle.command_words.specs.Words.{command_of}
use Rattle.command_words.proofs.NumberLaws.{number_is, number_again, positive_is, positive_again}
use Rattle.command_words.proofs.OptionLaws.{Sound, sound, reads_all, from_named}

-- ---- fronts of lists

take-front : {A : Type 0} (front xs : List A) (k : ℕ) → take (length front + k) (front ++ xs) ≡ front ++ take k xs
take-front [] xs k = ap (λ n. take n xs) (let z : 0 + k ≡ k = omega arith in z)
take-front (x ∷ front) xs k =
    let z : length (x ∷ front) + k ≡ suc (length front + k) = omega arith in
    ap (λ n. take n (x ∷ front ++ xs)) z ∙ ap (λ l. x ∷ l) (take-front front xs k)

take-within : {A : Type 0} (front xs : List A) (j : ℕ) → length front ≤ j → take j (front ++ xs) ≡ front ++ take (j - length front) xs
take-within front xs j h =
    let z : j ≡ length front + (j - length front) = omega (arith, h) in
    ap (λ n. take n (front ++ xs)) z ∙ take-front front xs (j - length front)

take-whole : {A : Type 0} (front xs : List A) → take (length front) (front ++ xs) ≡ front
take-whole front xs =
    let z : length front ≡ length front + 0 = omega arith in
    ap (λ n. take n (front ++ xs)) z ∙ take-front front xs 0 ∙ append-nil front

-- ---- accepted lists are read

abbrev one_read : Option Task → List (List ℕ) → Result Asked WordFault
one_read task words = needs task 1 (λ task. options_for task 2 words)

-- behind the front of a command its options are read
front_read : (task : Task) → IsInRange task → (words : List (List ℕ))
    → command_of (front_of task ++ words) ≡ options_for task (length (front_of task)) words
unfolding command_of gen_for blocks_for upgrade_for one_word_for
front_read Following r words = refl
front_read Proving r words = refl
front_read Auditing r words = refl
front_read (Generating number blocks) r words =
    ap (λ x. needs x 1 (λ number. needs (number_in 100000 (decimal blocks)) 2 (λ blocks. options_for (Generating number blocks) 3 words)))
    (number_again (2 ^ 64 - 1) number (omega (arith, r.0)) r.0)
    ∙ ap (λ x. needs x 2 (λ blocks. options_for (Generating number blocks) 3 words)) (number_again 100000 blocks r.1 (omega (arith, r.1)))
front_read UpgradingFeed r words = refl
front_read UpgradingState r words = refl
front_read (Ordering tip) r words = ap (λ b. one_read (if b then Some (Ordering tip) else None) words) r
front_read (Ticketing number) r words = ap (λ x. one_read (option_map Ticketing x) words) (number_again (2 ^ 64 - 1) number (omega (arith, r)) r)
front_read Checking r words = refl
front_read Rechecking r words = refl
front_read (Relaying followers) r words = ap (λ x. one_read (option_map Relaying x) words) (positive_again 100 followers r.0 r.1 (omega (arith, r.1)))

chosen : {A : Type 0} (b : Bool) (x y : A) → b ≡ true → (if b then x else y) ≡ x
chosen b x y e = ap (λ c. if c then x else y) e

passed : {A : Type 0} (b : Bool) (x y : A) → b ≡ false → (if b then x else y) ≡ y
passed b x y e = ap (λ c. if c then x else y) e

accepts : (words : List (List ℕ)) (asked : Asked) → Asks words asked → command_of words ≡ Ok asked
accepts words asked a =
    let at = length (front_of a.task) in
    let end = at + length (words_of a.given) in
    ap command_of a.spelled
    ∙ front_read a.task a.in_range (words_of a.given)
    ∙ ap (read_for a.task end) (reads_all (rule_of a.task) (options_of a.task) a.given [] at a.fit)
    ∙ chosen _ (Ok (asked_by a.task (settings_of a.given))) (Err (record { at = end })) a.enough
    ∙ ap Ok (sym a.is)

-- ---- what is read

-- words that are refused: the first k begin an accepted list, and one more does not, whatever follows
record Stops (words : List (List ℕ)) (fault : WordFault) : Type 0 where
  within : fault.at ≤ length words
  begins : Begins (take fault.at words)
  fails : (j : ℕ) → fault.at < j → j ≤ length words → (rest : List (List ℕ)) → command_of (take j words ++ rest) ≡ Err fault

-- what is read is what the words ask for
Reads : List (List ℕ) → Result Asked WordFault → Type 0
Reads words (Ok asked) = Asks words asked
Reads words (Err fault) = Stops words fault

one_asked : (asked other : Asked) (r : Result Asked WordFault) → r ≡ Ok asked → r ≡ Ok other → other ≡ asked
one_asked asked other r e f = cc

not_both : (asked : Asked) (fault : WordFault) (r : Result Asked WordFault) → r ≡ Ok asked → r ≡ Err fault → ⊥
not_both asked fault r e f = absurd cc

means_by : (words : List (List ℕ)) (r : Result Asked WordFault) → command_of words ≡ r → Reads words r → Means words r
unfolding Reads
means_by words (Ok asked) e asks = (asks, λ other o. one_asked asked other _ e (accepts words other o))
means_by words (Err fault) e stops = (
  λ asked asks. not_both asked fault _ (accepts words asked asks) e,
  record {
    within = stops.within;
    begins = stops.begins;
    greatest = λ j above most b. not_both b.asked fault _ (accepts _ b.asked b.asks) (stops.fails j above most b.rest);
  },
)

-- ---- words that go wrong in front of the options

-- all words are the front of an accepted list, which has more
missing : (front : List (List ℕ)) → Begins front → Stops front (record { at = length front })
missing front b = record {
  within = omega arith;
  begins = subst Begins (sym (take_all (length front) front (omega arith))) b;
  fails = λ j above most rest. absurd (omega (arith, above, most));
}

-- the word behind such a front is bad
bad_word : (front : List (List ℕ)) (word : List ℕ) (rest : List (List ℕ)) → Begins front
    → ((more : List (List ℕ)) → command_of (front ++ word ∷ more) ≡ Err (record { at = length front }))
    → Stops (front ++ word ∷ rest) (record { at = length front })
bad_word front word rest b bad = record {
  within = omega (arith, length-append front (word ∷ rest));
  begins = subst Begins (sym (take-whole front (word ∷ rest))) b;
  fails = fails;
}
  where
    fails : (j : ℕ) → length front < j → j ≤ length (front ++ word ∷ rest) → (more : List (List ℕ))
        → command_of (take j (front ++ word ∷ rest) ++ more) ≡ Err (record { at = length front })
    fails j above most more =
        let k = j - length front - 1 in
        let one : j - length front ≡ suc k = omega (arith, above) in
        let cut : take j (front ++ word ∷ rest) ≡ front ++ word ∷ take k rest = take-within front (word ∷ rest) j (omega (arith, above))
        ∙ ap (λ n. front ++ take n (word ∷ rest)) one in
        ap (λ l. command_of (l ++ more)) cut ∙ ap command_of (append_assoc front (word ∷ take k rest) more) ∙ bad (take k rest ++ more)

-- ---- words that are read as options

-- with more options all is there that the command needs
record IsCompleted (task : Task) (given : List Given) : Type 0 where
  extra : List Given
  fit : are_given (rule_of task) (options_of task) (given ++ extra) ≡ true
  enough : is_enough task (settings_of (given ++ extra)) ≡ true

as_it_is : (task : Task) (given : List Given) → are_given (rule_of task) (options_of task) given ≡ true → ((s : Settings) → is_enough task s ≡ true)
    → IsCompleted task given
as_it_is task given e all = record {
  extra = [];
  fit = subst (λ l. are_given (rule_of task) (options_of task) l ≡ true) (sym (append-nil given)) e;
  enough = all (settings_of (given ++ []));
}

completed : (task : Task) (given : List Given) → are_given (rule_of task) (options_of task) given ≡ true → IsCompleted task given
completed Following given e = as_it_is Following given e (λ s. refl)
completed Proving given e = as_it_is Proving given e (λ s. refl)
completed Auditing given e = as_it_is Auditing given e (λ s. refl)
completed (Generating number blocks) given e = as_it_is (Generating number blocks) given e (λ s. refl)
completed UpgradingFeed given e = as_it_is UpgradingFeed given e (λ s. refl)
completed UpgradingState given e = let w = from_named (options_of UpgradingState) refl given e in
    record { extra = w.extra; fit = w.fit; enough = w.named }
completed (Ordering tip) given e = as_it_is (Ordering tip) given e (λ s. refl)
completed (Ticketing number) given e = let w = from_named (options_of (Ticketing number)) refl given e in
    record { extra = w.extra; fit = w.fit; enough = w.named }
completed Checking given e = let w = from_named (options_of Checking) refl given e in record { extra = w.extra; fit = w.fit; enough = w.named }
completed Rechecking given e = let w = from_named (options_of Rechecking) refl given e in record { extra = w.extra; fit = w.fit; enough = w.named }
completed (Relaying followers) given e = as_it_is (Relaying followers) given e (λ s. refl)

words_more : (given extra : List Given) → words_of (given ++ extra) ≡ words_of given ++ words_of extra
words_more given extra = flat_map-append (λ (g : Given). word_of g.name ∷ g.value ∷ []) given extra

module _ (task : Task) (in_range : IsInRange task) where
  abbrev at : ℕ
  at = length (front_of task)

  -- a front of the words, behind which options follow
  begins_by : (front more : List (List ℕ)) (given : List Given) → are_given (rule_of task) (options_of task) given ≡ true
      → front ++ more ≡ words_of given → Begins (front_of task ++ front)
  begins_by front more given fit spelled =
      let c = completed task given fit in
      let whole : (front_of task ++ front) ++ (more ++ words_of c.extra) ≡ front_of task ++ words_of (given ++ c.extra) =
      append_assoc (front_of task) front (more ++ words_of c.extra)
      ∙ ap (λ l. front_of task ++ l) (sym (append_assoc front more (words_of c.extra))
      ∙ (ap (λ l. l ++ words_of c.extra) spelled ∙ sym (words_more given c.extra))) in
      record {
        rest = more ++ words_of c.extra;
        asked = asked_by task (settings_of (given ++ c.extra));
        asks = record { task = task; in_range = in_range; given = given ++ c.extra; fit = c.fit; enough = c.enough; spelled = whole; is = refl };
      }

  reads_by : (words : List (List ℕ)) (r : Result Settings WordFault) → Sound (rule_of task) (options_of task) [] at words r
      → Reads (front_of task ++ words) (read_for task (at + length words) r)
  unfolding Reads
  reads_by words (Ok s) w = by (is_enough task s) refl
    where
      by : (b : Bool) → is_enough task s ≡ b → Reads (front_of task ++ words)
          (if b then Ok (asked_by task s) else Err (record { at = at + length words }))
      by true enough = record {
        task = task;
        in_range = in_range;
        given = w.given;
        fit = w.fit;
        enough = ap (is_enough task) (sym w.is) ∙ enough;
        spelled = ap (λ l. front_of task ++ l) w.spelled;
        is = ap (asked_by task) w.is;
      }
      by false few =
          let long : length (front_of task ++ words) ≡ at + length words = length-append (front_of task) words in
          let begins = begins_by words [] w.given w.fit (append-nil words ∙ w.spelled) in
          subst (λ k. Stops (front_of task ++ words) (record { at = k })) long (missing (front_of task ++ words) begins)
  reads_by words (Err fault) w = record {
    within = omega (arith, w.is, w.within, length-append (front_of task) words);
    begins = subst Begins (sym cut) (begins_by (take w.n words) w.more w.given w.fit w.spelled);
    fails = fails;
  }
    where
      cut : take fault.at (front_of task ++ words) ≡ front_of task ++ take w.n words
      cut = ap (λ k. take k (front_of task ++ words)) w.is ∙ take-front (front_of task) words w.n

      fails : (j : ℕ) → fault.at < j → j ≤ length (front_of task ++ words) → (rest : List (List ℕ))
          → command_of (take j (front_of task ++ words) ++ rest) ≡ Err fault
      fails j above most rest =
          let k = j - at in
          let long = length-append (front_of task) words in
          let shorter : take j (front_of task ++ words) ≡ front_of task ++ take k words =
          take-within (front_of task) words j (omega (arith, above, w.is)) in
          ap (λ l. command_of (l ++ rest)) shorter
          ∙ ap command_of (append_assoc (front_of task) (take k words) rest)
          ∙ front_read task in_range (take k words ++ rest)
          ∙ ap (read_for task _) (w.fails k (omega (arith, above, w.is)) (omega (arith, most, long)) rest)

  -- words behind such a front
  reads_options : (words : List (List ℕ)) → Reads (front_of task ++ words) (options_for task at words)
  reads_options words = reads_by words _ (sound (rule_of task) (options_of task) words [] at refl)

-- ---- the fronts of accepted lists

-- the front of a command
begins_with : (task : Task) → IsInRange task → Begins (front_of task)
begins_with task r = subst Begins (append-nil (front_of task)) (begins_by task r [] [] [] refl refl)

-- and what stands in front of its last words
begins_shorter : (front more : List (List ℕ)) → Begins (front ++ more) → Begins front
begins_shorter front more b = record {
  rest = more ++ b.rest;
  asked = b.asked;
  asks = subst (λ l. Asks l b.asked) (append_assoc front more b.rest) b.asks;
}

any_tip : List ℕ
any_tip = replicate 64 48

any_tip_fits : is_hash_word any_tip ≡ true
unfolding any_tip
any_tip_fits = refl

begins_none : Begins []
begins_none = begins_shorter [] (front_of Following) (begins_with Following tt)

begins_gen : Begins (codes "gen" ∷ [])
begins_gen = begins_shorter (codes "gen" ∷ []) (decimal 0 ∷ decimal 0 ∷ []) (begins_with (Generating 0 0) (omega arith, omega arith))

begins_number : (number : ℕ) → number < 2 ^ 64 → Begins (codes "gen" ∷ decimal number ∷ [])
begins_number number small = begins_shorter (codes "gen" ∷ decimal number ∷ []) (decimal 0 ∷ [])
    (begins_with (Generating number 0) (small, omega arith))

begins_upgrade : Begins (codes "upgrade" ∷ [])
begins_upgrade = begins_shorter (codes "upgrade" ∷ []) (codes "feed" ∷ []) (begins_with UpgradingFeed tt)

begins_order : Begins (codes "order" ∷ [])
begins_order = begins_shorter (codes "order" ∷ []) (any_tip ∷ []) (begins_with (Ordering any_tip) any_tip_fits)

begins_ticket : Begins (codes "ticket" ∷ [])
begins_ticket = begins_shorter (codes "ticket" ∷ []) (decimal 0 ∷ []) (begins_with (Ticketing 0) (omega arith))

begins_relay : Begins (codes "relay" ∷ [])
begins_relay = begins_shorter (codes "relay" ∷ []) (decimal 1 ∷ []) (begins_with (Relaying 1) (omega arith, omega arith))

-- ---- the words of a command's own

-- what is read behind a test
by_test : (words : List (List ℕ)) (b : Bool) (x y : Result Asked WordFault) → (b ≡ true → Reads words x) → (b ≡ false → Reads words y)
    → Reads words (if b then x else y)
by_test words true x y first second = first refl
by_test words false x y first second = second refl

-- behind the same word the same is read
renamed : (front : List (List ℕ)) (word name : List ℕ) (rest : List (List ℕ)) (r : Result Asked WordFault) → bytes_eq word name ≡ true
    → Reads (front ++ name ∷ rest) r → Reads (front ++ word ∷ rest) r
renamed front word name rest r same reads = subst (λ w. Reads (front ++ w ∷ rest) r) (sym (same_text _ _ (sym same))) reads

module _ (number : ℕ) (small : number < 2 ^ 64) where
  gen_number : (rest : List (List ℕ)) → command_of (codes "gen" ∷ decimal number ∷ rest) ≡ blocks_for number rest
  unfolding command_of gen_for
  gen_number rest = ap (λ x. needs x 1 (λ number. blocks_for number rest)) (number_again (2 ^ 64 - 1) number (omega (arith, small)) small)

  reads_blocks : (words : List (List ℕ)) → Reads (codes "gen" ∷ decimal number ∷ words) (blocks_for number words)
  unfolding blocks_for Reads
  reads_blocks [] = missing (codes "gen" ∷ decimal number ∷ []) (begins_number number small)
  reads_blocks (word ∷ rest) = by (number_in 100000 word) refl
    where
      by : (x : Option ℕ) → number_in 100000 word ≡ x
          → Reads (codes "gen" ∷ decimal number ∷ word ∷ rest) (needs x 2 (λ blocks. options_for (Generating number blocks) 3 rest))
      by None e =
          bad_word (codes "gen" ∷ decimal number ∷ []) word rest (begins_number number small)
          (λ more. gen_number (word ∷ more) ∙ ap (λ x. needs x 2 (λ blocks. options_for (Generating number blocks) 3 more)) e)
      by (Some blocks) e =
          let is = number_is 100000 word blocks e in
          subst (λ w. Reads (codes "gen" ∷ decimal number ∷ w ∷ rest) (options_for (Generating number blocks) 3 rest)) (sym is.0)
          (reads_options (Generating number blocks) (small, is.1) rest)

reads_gen : (words : List (List ℕ)) → Reads (codes "gen" ∷ words) (gen_for words)
unfolding command_of gen_for Reads
reads_gen [] = missing (codes "gen" ∷ []) begins_gen
reads_gen (word ∷ rest) = by (number_in (2 ^ 64 - 1) word) refl
  where
    by : (x : Option ℕ) → number_in (2 ^ 64 - 1) word ≡ x → Reads (codes "gen" ∷ word ∷ rest) (needs x 1 (λ number. blocks_for number rest))
    by None e = bad_word (codes "gen" ∷ []) word rest begins_gen (λ more. ap (λ x. needs x 1 (λ number. blocks_for number more)) e)
    by (Some number) e =
        let is = number_is (2 ^ 64 - 1) word number e in
        subst (λ w. Reads (codes "gen" ∷ w ∷ rest) (blocks_for number rest)) (sym is.0) (reads_blocks number (omega (arith, is.1)) rest)

reads_upgrade : (words : List (List ℕ)) → Reads (codes "upgrade" ∷ words) (upgrade_for words)
unfolding command_of upgrade_for Reads
reads_upgrade [] = missing (codes "upgrade" ∷ []) begins_upgrade
reads_upgrade (word ∷ rest) =
    by_test _ (bytes_eq word (codes "feed")) _ _
    (λ feed. renamed (codes "upgrade" ∷ []) word (codes "feed") rest _ feed (reads_options UpgradingFeed tt rest))
    (λ no_feed. by_test _ (bytes_eq word (codes "state")) _ _
    (λ state. renamed (codes "upgrade" ∷ []) word (codes "state") rest _ state (reads_options UpgradingState tt rest))
    (λ no_state. bad_word (codes "upgrade" ∷ []) word rest begins_upgrade (λ more. passed _ _ _ no_feed ∙ passed _ _ _ no_state)))

one_task : (a b : Task) → Some a ≡ Some b → a ≡ b
one_task a b e = cc

-- a command that has one word of its own
module _ (name : List ℕ) (task_at : List ℕ → Option Task) (read : (words : List (List ℕ)) → command_of (name ∷ words) ≡ one_word_for task_at words)
    (is : (word : List ℕ) (task : Task) → task_at word ≡ Some task → (front_of task ≡ name ∷ word ∷ []) × IsInRange task)
    (begins : Begins (name ∷ [])) where
  reads_one : (words : List (List ℕ)) → Reads (name ∷ words) (one_word_for task_at words)
  unfolding one_word_for Reads
  reads_one [] = missing (name ∷ []) begins
  reads_one (word ∷ rest) = by (task_at word) refl
    where
      by : (x : Option Task) → task_at word ≡ x → Reads (name ∷ word ∷ rest) (one_read x rest)
      by None e = bad_word (name ∷ []) word rest begins (λ more. read (word ∷ more) ∙ ap (λ x. one_read x more) e)
      by (Some task) e =
          let w = is word task e in
          subst (λ f. Reads (f ++ rest) (options_for task (length f) rest)) w.0 (reads_options task w.1 rest)

order_is : (word : List ℕ) (task : Task) → order_at word ≡ Some task → (front_of task ≡ codes "order" ∷ word ∷ []) × IsInRange task
order_is word task e = by (is_hash_word word) refl e
  where
    by : (b : Bool) → is_hash_word word ≡ b → (if b then Some (Ordering word) else None) ≡ Some task → (front_of task ≡ codes "order" ∷ word ∷ [])
        × IsInRange task
    by true hash e = subst (λ t. (front_of t ≡ codes "order" ∷ word ∷ []) × IsInRange t) (one_task _ _ e) (refl, hash)
    by false hash e = absurd cc

ticket_is : (word : List ℕ) (task : Task) → ticket_at word ≡ Some task → (front_of task ≡ codes "ticket" ∷ word ∷ []) × IsInRange task
ticket_is word task e = by (number_in (2 ^ 64 - 1) word) refl e
  where
    by : (x : Option ℕ) → number_in (2 ^ 64 - 1) word ≡ x → option_map Ticketing x ≡ Some task → (front_of task ≡ codes "ticket" ∷ word ∷ [])
        × IsInRange task
    by None number e = absurd cc
    by (Some n) number e =
        let is = number_is (2 ^ 64 - 1) word n number in
        subst (λ t. (front_of t ≡ codes "ticket" ∷ word ∷ []) × IsInRange t) (one_task _ _ e) (
          ap (λ w. codes "ticket" ∷ w ∷ []) (sym is.0),
          omega (arith, is.1),
        )

relay_is : (word : List ℕ) (task : Task) → relay_at word ≡ Some task → (front_of task ≡ codes "relay" ∷ word ∷ []) × IsInRange task
relay_is word task e = by (positive_in 100 word) refl e
  where
    by : (x : Option ℕ) → positive_in 100 word ≡ x → option_map Relaying x ≡ Some task → (front_of task ≡ codes "relay" ∷ word ∷ []) × IsInRange task
    by None number e = absurd cc
    by (Some n) number e =
        let is = positive_is 100 word n number in
        subst (λ t. (front_of t ≡ codes "relay" ∷ word ∷ []) × IsInRange t) (one_task _ _ e) (ap (λ w. codes "relay" ∷ w ∷ []) (sym is.0), is.1)

read_order : (words : List (List ℕ)) → command_of (codes "order" ∷ words) ≡ one_word_for order_at words
unfolding command_of
read_order words = refl

read_ticket : (words : List (List ℕ)) → command_of (codes "ticket" ∷ words) ≡ one_word_for ticket_at words
unfolding command_of
read_ticket words = refl

read_relay : (words : List (List ℕ)) → command_of (codes "relay" ∷ words) ≡ one_word_for relay_at words
unfolding command_of
read_relay words = refl

-- ---- all words

reads : (words : List (List ℕ)) → Reads words (command_of words)
unfolding command_of Reads
reads [] = missing [] begins_none
reads (name ∷ rest) =
    by_test _ (bytes_eq name (codes "follow")) _ _ (λ e. renamed [] name (codes "follow") rest _ e (reads_options Following tt rest))
    (λ no_follow. by_test _ (bytes_eq name (codes "prove")) _ _ (λ e. renamed [] name (codes "prove") rest _ e (reads_options Proving tt rest))
    (λ no_prove. by_test _ (bytes_eq name (codes "audit")) _ _ (λ e. renamed [] name (codes "audit") rest _ e (reads_options Auditing tt rest))
    (λ no_audit. by_test _ (bytes_eq name (codes "gen")) _ _ (λ e. renamed [] name (codes "gen") rest _ e (reads_gen rest))
    (λ no_gen. by_test _ (bytes_eq name (codes "upgrade")) _ _ (λ e. renamed [] name (codes "upgrade") rest _ e (reads_upgrade rest))
    (λ no_upgrade. by_test _ (bytes_eq name (codes "order")) _ _
    (λ e. renamed [] name (codes "order") rest _ e (reads_one (codes "order") order_at read_order order_is begins_order rest))
    (λ no_order. by_test _ (bytes_eq name (codes "ticket")) _ _ (λ e. renamed [] name (codes "ticket") rest _ e
    (reads_one (codes "ticket") ticket_at read_ticket ticket_is begins_ticket rest))
    (λ no_ticket. by_test _ (bytes_eq name (codes "check")) _ _ (λ e. renamed [] name (codes "check") rest _ e (reads_options Checking tt rest))
    (λ no_check. by_test _ (bytes_eq name (codes "recheck")) _ _ (λ e. renamed [] name (codes "recheck") rest _ e (reads_options Rechecking tt rest))
    (λ no_recheck. by_test _ (bytes_eq name (codes "relay")) _ _
    (λ e. renamed [] name (codes "relay") rest _ e (reads_one (codes "relay") relay_at read_relay relay_is begins_relay rest))
    (λ no_relay. bad_word [] name rest begins_none (λ more.
    passed _ _ _ no_follow ∙ passed _ _ _ no_prove ∙ passed _ _ _ no_audit ∙ passed _ _ _ no_gen ∙ passed _ _ _ no_upgrade ∙ passed _ _ _ no_order
    ∙ passed _ _ _ no_ticket ∙ passed _ _ _ no_check ∙ passed _ _ _ no_recheck ∙ passed _ _ _ no_relay)))))))))))

pub means : (words : List (List ℕ)) → Means words (command_of words)
means words = means_by words _ refl (reads words)

-- what a command takes is in range
pub in_range : (words : List (List ℕ)) (asked : Asked) → Means words (Ok asked) → IsInRange asked.task
in_range words asked m = subst IsInRange (sym (ap (λ a. a.task) m.0.is)) m.0.in_range

-- the first word alone decides what is read behind it
pub by_first : {A : Type 0} (f : A → List ℕ) (xs : List A) (d : A) (name : List ℕ) → 1 ≤ length xs → f (get_or xs 0 d) ≡ name
    → command_of (map f xs) ≡ command_of (name ∷ map f (take (length xs - 1) (drop 1 xs)))
by_first f [] d name long e = absurd (omega (arith, long))
by_first f (x ∷ xs) d name long e =
    let same : length (x ∷ xs) - 1 ≡ length xs = omega arith in
    ap₂ (λ word rest. command_of (word ∷ map f rest)) e (sym (ap (λ n. take n xs) same ∙ take_all (length xs) xs (omega arith)))
