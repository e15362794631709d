-- The links of automata that are put together.
use Rattle.std.proofs.Common.{◌≡◌, ◌⊎◌, ◌∙◌, ℕ, ◌+◌, Bool, List, length, refl, ap, inl, inr, arith, length-append}
use Rattle.std.specs.List.{Contains}
use Rattle.xs_regex.specs.declared.position.Position.{Position}
use Rattle.xs_regex.specs.Automaton.{Leads, IsWellFormed}
use Rattle.xs_regex.specs.Parts.{bare, of_class, optional, IsThen, IsEither, IsRound}
use Rattle.xs_regex.specs.Links.{Shape, bare_of, place, turn, choice, once_or_more, at_most_once, Follows, HasLinks}
use Rattle.xs_regex.proofs.Built.{no_lead}
use Rattle.xs_regex.proofs.Choice.{either_leads, either_left, either_right}
use Rattle.xs_regex.proofs.Sequence.{then_leads, then_left, then_right, across}

pub bare_links : (b : Bool) → HasLinks (bare_of b) (bare b)
bare_links b = record {
  count = refl;
  nullable = refl;
  first = refl;
  last = refl;
  follow = λ j k. (λ l. absurd l, λ g. absurd g);
}

pub class_links : (class : List (ℕ × ℕ)) → HasLinks place (of_class class)
class_links class = record {
  count = refl;
  nullable = refl;
  first = refl;
  last = refl;
  follow = λ j k. (λ l. absurd (no_lead class j k l), λ g. absurd g);
}

pub then_links : {s t : Shape} {p q r : Position} → IsWellFormed p → HasLinks s p → HasLinks t q → IsThen p q r → HasLinks (turn s t) r
then_links {s} {t} {p} {q} {r} f a b h = record {
  count = ap (λ (x : List (List (ℕ × ℕ))). length x) h.classes ∙ length-append p.classes q.classes ∙ omega (arith, a.count, b.count);
  nullable = rw (h.nullable, a.nullable, b.nullable) refl;
  first = rw (h.first, a.first, b.first, a.nullable, a.count) refl;
  last = rw (h.last, a.last, b.last, b.nullable, a.count) refl;
  follow = λ j k. (λ l. to j k (then_leads f h j k l), λ g. back j k g);
}
  where
    to : (j k : ℕ) → Leads p j k ⊎ (Contains p.last j × ((m : ℕ) × (k ≡ length p.classes + m) × Contains q.first m)) ⊎ ((i : ℕ) × (m : ℕ) × (j ≡ length p.classes + i) × (k ≡ length p.classes + m) × Leads q i m) → Follows (turn s t) j k
    to j k (inl l) = inl ((a.follow j k).0 l)
    to j k (inr (inl c)) = inr (inl (rw a.last at c.0, (c.1.0, omega (arith, c.1.1, a.count), rw b.first at c.1.2)))
    to j k (inr (inr c)) = inr (inr (c.0, omega (arith, c.2, a.count), (c.1, omega (arith, c.3, a.count), (b.follow c.0 c.1).0 c.4)))

    back : (j k : ℕ) → Follows (turn s t) j k → Leads r j k
    back j k (inl g) = (then_left h).leads j k ((a.follow j k).1 g)
    back j k (inr (inl g)) =
        let from : Contains p.last j = rw a.last g.0 in
        let target : Contains q.first g.1.0 = rw b.first g.1.2 in
        let e : k ≡ length p.classes + g.1.0 = omega (arith, g.1.1, a.count) in
        rw e (across f h j from g.1.0 target)
    back j k (inr (inr g)) =
        let e : j ≡ length p.classes + g.0 = omega (arith, g.1, a.count) in
        let d : k ≡ length p.classes + g.2.0 = omega (arith, g.2.1, a.count) in
        rw (e, d) ((then_right f h).leads g.0 g.2.0 ((b.follow g.0 g.2.0).1 g.2.2))

pub either_links : {s t : Shape} {p q r : Position} → IsWellFormed p → HasLinks s p → HasLinks t q → IsEither p q r → HasLinks (choice s t) r
either_links {s} {t} {p} {q} {r} f a b h = record {
  count = ap (λ (x : List (List (ℕ × ℕ))). length x) h.classes ∙ length-append p.classes q.classes ∙ omega (arith, a.count, b.count);
  nullable = rw (h.nullable, a.nullable, b.nullable) refl;
  first = rw (h.first, a.first, b.first, a.count) refl;
  last = rw (h.last, a.last, b.last, a.count) refl;
  follow = λ j k. (λ l. to j k (either_leads f h j k l), λ g. back j k g);
}
  where
    to : (j k : ℕ) → Leads p j k ⊎ ((i : ℕ) × (m : ℕ) × (j ≡ length p.classes + i) × (k ≡ length p.classes + m) × Leads q i m) → Follows (choice s t) j k
    to j k (inl l) = inl ((a.follow j k).0 l)
    to j k (inr c) = inr (c.0, omega (arith, c.2, a.count), (c.1, omega (arith, c.3, a.count), (b.follow c.0 c.1).0 c.4))

    back : (j k : ℕ) → Follows (choice s t) j k → Leads r j k
    back j k (inl g) = (either_left h).leads j k ((a.follow j k).1 g)
    back j k (inr g) =
        let e : j ≡ length p.classes + g.0 = omega (arith, g.1, a.count) in
        let d : k ≡ length p.classes + g.2.0 = omega (arith, g.2.1, a.count) in
        rw (e, d) ((either_right f h).leads g.0 g.2.0 ((b.follow g.0 g.2.0).1 g.2.2))

pub round_links : {s : Shape} {p r : Position} → IsWellFormed p → HasLinks s p → IsRound p r → HasLinks (once_or_more s) r
round_links {s} {p} {r} f a h = record {
  count = ap (λ (x : List (List (ℕ × ℕ))). length x) h.classes ∙ a.count;
  nullable = h.nullable ∙ a.nullable;
  first = h.first ∙ a.first;
  last = h.last ∙ a.last;
  follow = λ j k. (λ l. to j k (h.linked.only j k l), λ g. back j k g);
}
  where
    to : (j k : ℕ) → Leads p j k ⊎ (Contains p.last j × Contains p.first k) → Follows (once_or_more s) j k
    to j k (inl l) = inl ((a.follow j k).0 l)
    to j k (inr c) = inr (rw a.last at c.0, rw a.first at c.1)

    back : (j k : ℕ) → Follows (once_or_more s) j k → Leads r j k
    back j k (inl g) = h.linked.kept j k ((a.follow j k).1 g)
    back j k (inr g) =
        let from : Contains p.last j = rw a.last g.0 in
        let target : Contains p.first k = rw a.first g.1 in
        h.linked.linked j k (rw f.rows (f.last_in j from)) from target

pub optional_links : {s : Shape} {p : Position} → HasLinks s p → HasLinks (at_most_once s) (optional p)
optional_links a = record { count = a.count; nullable = refl; first = a.first; last = a.last; follow = a.follow }
