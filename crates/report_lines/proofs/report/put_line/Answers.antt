use Rattle.report_lines.proofs.report.put_line.Goals as goal

pub returns-clause-whole : goal.returns-clause-whole
returns-clause-whole g c = rw (← c.in_ok-text.ensures, ← c.as_bytes.ensures.value) c.in_ok-put_all.ensures.whole

pub returns-clause-part : goal.returns-clause-part
returns-clause-part g c = rw (← c.in_ok-text.ensures, ← c.as_bytes.ensures.value) c.put_all.ensures.part

pub returns-in_err-put_all-clause-part : goal.returns-in_err-put_all-clause-part
returns-in_err-put_all-clause-part g c = rw (← c.in_ok-text.ensures, ← c.as_bytes.ensures.value) c.put_all.ensures.part
