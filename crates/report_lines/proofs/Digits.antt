-- The digits that bytes are printed with.
use Rattle.std.proofs.Common.{lit<}
use Rattle.std.specs.Str.{IsAscii}
use Rattle.std.proofs.ByRecursion.{IsAscii-from_all}
use Rattle.hex.specs.Hex.{lower_digits}

pub digits_are_ascii : IsAscii lower_digits
digits_are_ascii = IsAscii-from_all lower_digits (
  lit< tt,
  (
    lit< tt,
    (
      lit< tt,
      (
        lit< tt,
        (
          lit< tt,
          (
            lit< tt,
            (
              lit< tt,
              (lit< tt, (lit< tt, (lit< tt, (lit< tt, (lit< tt, (lit< tt, (lit< tt, (lit< tt, (lit< tt, tt))))))))),
            ),
          ),
        ),
      ),
    ),
  ),
)
