-- The numbers of the marks, which lie above all characters.
use Rattle.std.specs.Prelude.{ℕ, ◌+◌, ◌*◌}

-- ends an attribute's value
abbrev pub attr_end : ℕ
attr_end = 1114112

-- stands for the marks of a name that the sheet does not have
abbrev pub strange : ℕ
strange = 1114113

-- the marks of name k
abbrev pub opening_mark : ℕ → ℕ
opening_mark k = 1114114 + 3 * k

abbrev pub attribute_mark : ℕ → ℕ
attribute_mark k = 1114115 + 3 * k

abbrev pub closing_mark : ℕ → ℕ
closing_mark k = 1114116 + 3 * k
