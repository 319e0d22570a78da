use Rattle.std.proofs.Common.{ap, ◌∙◌}
use Rattle.output_index.specs.Entries.{entries_from}
use Rattle.output_index.specs.Pages.{row_of}
use Rattle.output_index.proofs.Paged.{page-more, pages-more}
use Rattle.output_index.proofs.entries.have_page.Goals as goal

pub pages-preserved : goal.pages-preserved
pages-preserved c = record {
  same = ap (λ pages. entries_from 0 (row_of pages)) c.in_ok-push.ensures.items
      ∙ (page-more c.pages.pages.items c.new.result c.new.ensures.none ∙ c.pages.invariant.same);
  pages = rw c.in_ok-push.ensures.items (pages-more c.pages.pages.items c.new.result c.pages.invariant.pages c.new.ensures.len);
}
