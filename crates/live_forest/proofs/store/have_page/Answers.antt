use Rattle.live_forest.proofs.Lengthening.{pages_more}
use Rattle.live_forest.proofs.store.have_page.Goals as goal

pub returns-clause-same : goal.returns-clause-same
returns-clause-same c =
    rw c.in_ok-push.ensures.items (pages_more c.args.pages.now.items c.in_ok-page.page c.in_ok-page.ensures.0 c.in_ok-page.ensures.1)
