use Rattle.std.proofs.Common.{◌∙◌, eqb, refl, sym}
use Rattle.std.proofs.lemmas.Bool.Decides.{Decides-eqb}
use Rattle.std.proofs.lemmas.Slice.Eq.{slice_eq-Decides}
use Rattle.xs_atoms.proofs.Interning.{list_there, list_found}
use Rattle.xs_parse_table.proofs.Growing.{lists_longer}
use Rattle.xs_parse_table.proofs.sets.Sets.number.Goals as goal

pub returns-in-Some-clause-there : goal.returns-in-Some-clause-there
returns-in-Some-clause-there c =
    rw (← c.self.view_is)
    (list_found _ c.args.set.now (λ v t. (slice_eq-Decides {E = eqb} Decides-eqb c.args.set.now v.items _ refl).0 t) c.self.inside.lists.keys c.in-Some.number (sym c.in-Some.is ∙ c.get_index_of.ensures.index))

pub returns-clause-longer : goal.returns-clause-longer
returns-clause-longer c = rw (← c.self.view_is) (lists_longer _ c.self.inside.lists.keys c.insert_full.new.self.keys c.in_ok-list.list c.in_ok-number.ensures.keys)

pub returns-clause-there : goal.returns-clause-there
returns-clause-there c =
    let stored = c.in_ok-number.ensures.stored in
    list_there _ c.args.set.now (λ v t. sym c.in_ok-list.ensures.items ∙ (slice_eq-Decides {E = eqb} Decides-eqb c.in_ok-list.list.items v.items _ refl).0 t) c.insert_full.new.self.keys c.in_ok-number.number stored.0 stored.1 stored.2
