-- A hashed set of lists, when one is inserted.
use Rattle.std.proofs.Common.{◌≡◌, ◌∙◌, Bool, true, false, if◌then◌else◌, List, [], ◌∷◌, ◌++◌, sym, ap}
use Rattle.std.proofs.lemmas.List.{append-nil, map-append}
use Rattle.std.specs.Global.{Vec}
use Rattle.xs_atoms.specs.Interned.{lists_of}
use Rattle.xs_parse_table.specs.Rows.{AreLonger}

-- it stays where the list was there, and else the list stands last
pub lists_longer : {A : Type 0} (found : Bool) (old new : List (Vec A)) (v : Vec A) → new ≡ (if found then old else old ++ v ∷ []) → AreLonger (lists_of old) (lists_of new)
lists_longer true old new v stays = ([], ap lists_of stays ∙ sym (append-nil (lists_of old)))
lists_longer {A} false old new v more = (v.items ∷ [], ap lists_of more ∙ map-append (λ (w : Vec A). w.items) old (v ∷ []))
