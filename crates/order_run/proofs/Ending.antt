-- What is answered at the end of a feed.
use Rattle.std.proofs.Common.{◌≡◌, ℕ, ◌-◌, List, length, Result, Ok, Err, OnOk, sym, ap, ap₂, ◌∙◌, subst}
use Rattle.uo_base.specs.declared.event.Net.{Net}
use Rattle.uo_digest.specs.declared.digest.Digest.{Digest}
use Rattle.chain_order.specs.declared.fault.PathFault.TheVariants.{NoTip, Missing, Loop}
use Rattle.chain_order.specs.Arrivals.{Arrival}
use Rattle.chain_order.specs.Walk.{path_of, AreNumbers, Answers}
use Rattle.feed_run.specs.Answer.{Answer}
use Rattle.feed_run.specs.declared.status.Status.TheVariants.{AllAccepted}
use Rattle.report_lines.specs.declared.line.Line.TheVariants as Line
use Rattle.report_lines.specs.Lines.{whole_line}
use Rattle.order_run.specs.Frames.{numbered_text}
use Rattle.order_run.specs.Machine.{OrderState, order_end, refused_by}
use Rattle.order_run.proofs.Numbers.{numbers_text, numbers_len}

pub ends_ordered : (net : Net) (blocks : ℕ) (arrivals : List Arrival) (tip : Digest) (numbers : List ℕ) (path : List Arrival)
    → AreNumbers arrivals numbers path → path_of arrivals tip ≡ Ok path
    → order_end net blocks (path_of arrivals tip) ≡ record {
      status = AllAccepted;
      report =
          whole_line (Line.Ordered (length numbers) (blocks - length numbers));
      out = numbered_text net arrivals numbers;
    }
unfolding order_end
ends_ordered net blocks arrivals tip numbers path are told =
    ap (λ r. order_end net blocks r) told
    ∙ ap₂ (λ k text. let a : Answer = record { status = AllAccepted; report = whole_line (Line.Ordered k (blocks - k)); out = text } in
    a) (sym (numbers_len arrivals numbers path are)) (sym (numbers_text net arrivals numbers path are))

module _ (net : Net) (blocks : ℕ) (arrivals : List Arrival) (tip : Digest) where
  pub ends_no_tip : path_of arrivals tip ≡ Err NoTip → order_end net blocks (path_of arrivals tip) ≡ refused_by Line.NoTip
  unfolding order_end
  ends_no_tip told = ap (λ r. order_end net blocks r) told

  pub ends_missing : (hash : Digest) → path_of arrivals tip ≡ Err (Missing hash)
      → order_end net blocks (path_of arrivals tip) ≡ refused_by (Line.Missing hash)
  unfolding order_end
  ends_missing hash told = ap (λ r. order_end net blocks r) told

  pub ends_loop : (hash : Digest) → path_of arrivals tip ≡ Err (Loop hash) → order_end net blocks (path_of arrivals tip) ≡ refused_by (Line.Loop hash)
  unfolding order_end
  ends_loop hash told = ap (λ r. order_end net blocks r) told

-- a value, where there is one, meets what holds in any case
pub OnOk-any : {T E P : Type 0} (r : Result T E) → P → OnOk r P
OnOk-any (Ok x) p = p
OnOk-any (Err e) p = tt

-- what was answered, said of the value as it is seen and of numbers that are the same
pub record AreTold (s : OrderState) (numbers : List ℕ) : Type 0 where
  pub path : List Arrival
  pub are : AreNumbers s.arrivals numbers path
  pub told : path_of s.arrivals s.tip ≡ Ok path

pub told_numbers : (s t : OrderState) → s ≡ t → (items numbers : List ℕ) → items ≡ numbers → Answers s.arrivals s.tip (Ok items) → AreTold t numbers
told_numbers s t e items numbers same a =
    subst (λ u. AreTold u numbers) e (subst (λ ns. AreTold s ns) same record { path = a.0; are = a.1; told = a.2 })
