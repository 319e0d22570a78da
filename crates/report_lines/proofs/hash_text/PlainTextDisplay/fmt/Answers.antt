use Rattle.std.proofs.Common.{subst, sym}
use Rattle.std.specs.Str.{IsAscii}
use Rattle.hex.specs.Hex.{lower_digits}
use Rattle.hex.proofs.HexLemmas.{IsAscii-encode_with}
use Rattle.report_lines.proofs.Digits.{digits_are_ascii}
use Rattle.report_lines.proofs.hash_text.PlainTextDisplay.fmt.Goals as goal

pub ascii_text-requires : goal.ascii_text-requires
ascii_text-requires g c = subst IsAscii (sym c.plain_digits-digits.ensures) (IsAscii-encode_with lower_digits _ digits_are_ascii)
