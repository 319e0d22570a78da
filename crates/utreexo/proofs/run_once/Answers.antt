use Rattle.std.proofs.Common.{inr}
use Rattle.utreexo.proofs.run_once.Goals as goal

pub returns : goal.returns
returns g c = inr (
    record {
      feed = c.in-Ok.feed;
      prior = c.in-Ok-prior_of.prior;
      watch = c.in-Ok-watch_of.watch;
      out = c.in-Ok-out_of.out;
      out' = c.run_program.new.out;
      feed_is = (c.in-Ok.ensures.chosen, c.in-Ok.ensures.empty);
      prior_is = (c.in-Ok-prior_of.ensures.chosen, c.in-Ok-prior_of.ensures.empty);
      watch_is = (c.in-Ok-watch_of.ensures.chosen, c.in-Ok-watch_of.ensures.empty);
      out_is = (c.in-Ok-out_of.ensures.chosen, c.in-Ok-out_of.ensures.empty);
      feed' = c.run_program.new.feed;
      did = c.run_program.ensures.did;
    }
    )
