-- The digits of a reference by a number.
use Rattle.std.specs.Prelude.{ℕ, Bool}
use Rattle.xs_xml_laws.specs.Tables.{is_digit, is_hex}
use Rattle.xs_form.specs.declared.references.Base.{Base}
use Rattle.xs_form.specs.declared.references.Base.TheVariants.{Decimal, Hexadecimal}

abbrev pub radix_of : Base → ℕ
radix_of Decimal = 10
radix_of Hexadecimal = 16

abbrev pub is_digit_of : Base → ℕ → Bool
is_digit_of Decimal = is_digit
is_digit_of Hexadecimal = is_hex
