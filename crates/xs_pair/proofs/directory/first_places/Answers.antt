use Rattle.std.proofs.Common.{◌≡◌, ◌∙◌, ◌-◌, ◌+◌, ◌<◌, sym, subst, refl, ap, arith, length, Some, None, ℕ}
use Rattle.std.proofs.Math.ListN.{set, length-set}
use Rattle.xs_class.specs.Ordered.{place_of}
use Rattle.xs_pair.proofs.FirstPlaces.{put_step, none_step, are_first}
use Rattle.xs_pair.proofs.directory.first_places.Goals as goal
use Rattle.xs_pair.proofs.directory.first_places.Goals.{in-Some, in_default}

pub texts-preserved : goal.texts-preserved
texts-preserved c =
    let list = c.args.list.now in
    let names = c.args.names.now in
    let n = c.index-list-at.result in
    let p : ℕ = length list - c.texts.done in
    let q : ℕ = length list - 1 - c.texts.done in
    let m : ℕ = length list - (c.texts.done + 1) in
    let lt : c.texts.done < length list = c.texts-test.true in
    elim c.match-place.branch [
      | in-Some w ↦
          let new : c.match-place.places.items ≡ set c.texts.places.items w.in-Some.k q = rw w.places-is refl in
          let found : place_of names n ≡ Some w.in-Some.k = subst (λ s. place_of names s ≡ Some w.in-Some.k) c.as_str.ensures.read (sym c.place.ensures.value ∙ w.in-Some.is) in
          record {
            long = ap length new ∙ length-set c.texts.places.items w.in-Some.k q ∙ c.texts.invariant.long;
            from = put_step list names p q m w.in-Some.k n c.texts.places.items c.match-place.places.items (omega arith) (omega arith) c.requires.same.ordered c.texts.invariant.long (omega arith) c.index-list-at.is found new c.texts.invariant.from;
          }
      | in_default w ↦
          let old : c.match-place.places.items ≡ c.texts.places.items = rw w.places-is refl in
          let none : place_of names n ≡ None = subst (λ s. place_of names s ≡ None) c.as_str.ensures.read (sym c.place.ensures.value ∙ w.in_default.is) in
          record {
            long = ap length old ∙ c.texts.invariant.long;
            from = none_step list names p q m n c.texts.places.items c.match-place.places.items (omega arith) (omega arith) (omega arith) c.index-list-at.is none old c.texts.invariant.from;
          }
    ]

pub returns : goal.returns
returns c = are_first c.args.list.now c.args.names.now c.texts.places.items (length c.args.list.now - c.texts.done) (omega arith) c.requires.few c.requires.same c.texts.invariant.long c.texts.invariant.from
