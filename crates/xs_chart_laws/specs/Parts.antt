-- Parts of a derivation, one list after another.
use Rattle.xs_gram.specs.Derivations.{Parts, done, fixed, leaf, skip, sub}

-- the parts, and then more parts
abbrev pub parts_then : Parts → Parts → Parts
parts_then done rs = rs
parts_then (fixed u ps) rs = fixed u (parts_then ps rs)
parts_then (leaf u ps) rs = leaf u (parts_then ps rs)
parts_then (skip u ps) rs = skip u (parts_then ps rs)
parts_then (sub q qs ps) rs = sub q qs (parts_then ps rs)
