use Rattle.std.proofs.Common.{◌∙◌, refl, sym}
use Rattle.xs_class.proofs.Ranges.{same_ranges}
use Rattle.xs_atoms.proofs.Interning.{list_there, list_found}
use Rattle.xs_atoms.proofs.distinct.place_of.Goals as goal

pub returns-in-Some-clause-there : goal.returns-in-Some-clause-there
returns-in-Some-clause-there c =
    list_found _ c.args.list.now (λ v t. same_ranges c.args.list.now v.items _ refl t) c.args.set.now.keys c.in-Some.place (sym c.in-Some.is ∙ c.get_index_of.ensures.index)

pub returns-in_ok-place-in-None-clause-there : goal.returns-in_ok-place-in-None-clause-there
returns-in_ok-place-in-None-clause-there c =
    let stored = c.in_ok-place-in-None.ensures.stored in
    list_there _ c.args.list.now (λ v t. sym c.in_ok-owned-in-None.ensures.items ∙ same_ranges c.in_ok-owned-in-None.owned.items v.items _ refl t) c.insert_full.new.self.keys c.in_ok-place-in-None.place stored.0 stored.1 stored.2
