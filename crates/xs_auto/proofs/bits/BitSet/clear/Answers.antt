use Rattle.std.proofs.Common.{◌≡◌, ℕ, ◌∙◌, sym, ap, inl, inr, arith, length, get_or, replicate, false}
use Rattle.std.proofs.lemmas.Bool.{cases_lt}
use Rattle.xs_auto.proofs.BitLemmas.{blank_bits, length_bits}
use Rattle.xs_auto.proofs.bits.BitSet.clear.Goals as goal

pub returns : goal.returns
returns c =
    let words = c.places.self-inside.words.items in
    let known = c.places.invariant in
    let zeros : (k : ℕ) → get_or words k 0 ≡ 0 = λ k. elim (cases_lt k c.places.place) [
      | inl l ↦ known.zeros k l
      | inr l ↦ known.holds.unused k (omega (arith, known.used, c.places-test.false))
    ] in
    blank_bits c.places.self-inside.bound words zeros ∙ ap (λ n. replicate n false) (known.bound ∙ sym (length_bits c.self.inside.bound c.self.inside.words.items) ∙ ap length c.self.view_is)
