use Rattle.std.proofs.Common.{◌≡◌, ℕ, List, map, inl, inr, refl, ap, ◌∙◌}
use Rattle.std.specs.String.{string_bytes}
use Rattle.std.specs.declared.option.Option.{Option}
use Rattle.feed_run.specs.declared.status.Status.{Status}
use Rattle.feed_run.specs.declared.status.Status.TheVariants.{NoMemory}
use Rattle.feed_run.specs.Status.{code_of}
use Rattle.utreexo.specs.declared.any_sink.AnySink.{AnySink}
use Rattle.utreexo.specs.declared.any_source.AnySource.{AnySource}
use Rattle.utreexo.specs.Program.{EndsBy, ExitsBy}
use Rattle.utreexo.proofs.run_given.Goals as goal
use Rattle.utreexo.proofs.run_given.Goals.{in-Ok, in-Err}

module _ {R F D I : Type 0} (left : AnySource R F D I → Option (List ℕ)) (held : AnySink R F D → Option (List ℕ)) (code : ℕ) (status run : Status)
    (is : code ≡ code_of status) (same : status ≡ run) where
  exits : (words : List (List ℕ)) → EndsBy left held words run → ExitsBy left held code
  exits words ended = record { status = run; code_is = is ∙ ap code_of same; ended = inr (words, ended) }

  no_words : run ≡ NoMemory → ExitsBy left held code
  no_words none = record { status = run; code_is = is ∙ ap code_of same; ended = inl none }

pub returns : goal.returns
returns g c = elim c.match-arguments.branch [
  | in-Ok w ↦ exits _ _ _ _ _ (c.from.ensures ∙ c.code.ensures) w.status-is (map string_bytes w.deref.result.now) w.run_once-status.ensures
  | in-Err w ↦ no_words _ _ _ _ _ (c.from.ensures ∙ c.code.ensures) w.status-is refl
]
