-- One more rule or item that lowers nothing.
use Rattle.std.proofs.Common.{◌≡◌, inl, inr, ℕ, ◌+◌, ◌<◌, Bool, false, ◌||◌, List, sym, subst, ◌∙◌, arith}
use Rattle.std.proofs.lemmas.Bool.{cases_lt, or_parts}
use Rattle.std.proofs.lemmas.Option.{same_Some}
use Rattle.xs_gram.specs.declared.parts.GItem.{GItem}
use Rattle.xs_gram.specs.Grammar.{Grammar, ItemAt}
use Rattle.xs_cover.specs.declared.prices.Prices.{Prices}
use Rattle.xs_cover.specs.declared.contexts.Passing.{Passing}
use Rattle.xs_cover.specs.Steps.{IsPassed, IsPassedItem}
use Rattle.xs_cover.specs.Tables.{IsLowered}

-- what holds of all numbers below n, and of n, holds of all up to it
pub up_to : (P : ℕ → Type 0) (n : ℕ) → ((k : ℕ) → k < n → P k) → P n → (k : ℕ) → k < n + 1 → P k
up_to P n before here k below = elim (cases_lt k n) [
  | inl earlier ↦ before k earlier
  | inr later ↦ (let is : n ≡ k = omega arith in subst P is here)
]

pub passed_more : (g h : Grammar) (p : Prices) (now new : List ℕ) (rule : ℕ) (lowered less : Bool) → IsLowered less now new → (lowered ≡ false → (k : ℕ) → k < rule → IsPassed g h p now k) → (less ≡ false → IsPassed g h p now rule) → (lowered || less) ≡ false → (k : ℕ) → k < rule + 1 → IsPassed g h p new k
passed_more g h p now new rule lowered less done before here none k below =
    let each = or_parts lowered less none in
    subst (λ a. IsPassed g h p a k) (sym (done.kept each.1)) (up_to (IsPassed g h p now) rule (before each.0) (here each.1) k below)

pub items_more : (g : Grammar) (p : Prices) (old now : List ℕ) (f : Passing) (place : ℕ) (item : GItem) (lowered less : Bool) → IsLowered lowered old now → ItemAt g f.rule place item → (lowered ≡ false → (n : ℕ) (i : GItem) → n < place → ItemAt g f.rule n i → IsPassedItem p old f i) → (less ≡ false → IsPassedItem p now f item) → (lowered || less) ≡ false → (n : ℕ) (i : GItem) → n < place + 1 → ItemAt g f.rule n i → IsPassedItem p old f i
items_more g p old now f place item lowered less known at_place before here none n i below at_n =
    let each = or_parts lowered less none in
    let item_here : (j : GItem) → ItemAt g f.rule place j → IsPassedItem p old f j = λ j at_j.
    let is : item ≡ j = same_Some item j (sym at_place ∙ at_j) in
    subst (λ (k : GItem). IsPassedItem p old f k) is (subst (λ a. IsPassedItem p a f item) (known.kept each.0) (here each.1))
    in
    up_to (λ k. (j : GItem) → ItemAt g f.rule k j → IsPassedItem p old f j) place (λ k lt j. before each.0 k j lt) item_here n below i at_n
