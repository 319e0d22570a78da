use Rattle.std.proofs.Common.{◌≡◌, ◌+◌, ◌-◌, length}
use Rattle.output_index.specs.Entries.{entries_from}
use Rattle.output_index.specs.Pages.{row_of, ArePages}
use Rattle.output_index.proofs.entries.have_page.Given as goal

abbrev pub invariant-pages : goal.invariant-pages
invariant-pages l = record {
  same : entries_from 0 (row_of l.pages.items) ≡ entries_from 0 (row_of l.fn.pages.items);
  pages : ArePages l.pages.items;
}

abbrev pub decreases-pages : goal.decreases-pages
decreases-pages l = l.at + 1 - length l.pages.items
