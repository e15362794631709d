-- Laws of frames that stand in a list, the innermost last.
use Rattle.std.proofs.Common.{◌≡◌, ◌∙◌, sym, ap, subst, ℕ, ◌-◌, ◌<◌, min, List, [], ◌∷◌, ◌++◌, length, get_or, set, reverse, arith}
use Rattle.std.proofs.lemmas.List.{reverse-append, reverse-reverse, length_push, get_or_at, set_at}
use Rattle.xs_graph.specs.declared.frame.Frame.{Frame}
use Rattle.xs_graph.specs.States.{lower, lower_first}

pub reverse_push : {X : Type 0} (xs : List X) (x : X) → reverse (xs ++ x ∷ []) ≡ x ∷ reverse xs
reverse_push xs x = reverse-append xs (x ∷ [])

-- the last frame, where it is known that the others are reversed
lower_reversed : (others : List Frame) (f g : Frame) (n least : ℕ) → length others ≡ n → g ≡ get_or (others ++ f ∷ []) n g → reverse (set (others ++ f ∷ []) n (lower least g)) ≡ lower_first least (reverse (others ++ f ∷ []))
lower_reversed others f g n least size e =
    let same : g ≡ f = e ∙ get_or_at others f [] g n size in
    ap reverse (set_at others f [] (lower least g) n size) ∙ reverse_push others (lower least g) ∙ ap (λ (x : Frame). lower least x ∷ reverse others) same ∙ sym (ap (lower_first least) (reverse_push others f))

lower_by : (back items : List Frame) (g : Frame) (least : ℕ) → reverse back ≡ items → 0 < length items → g ≡ get_or items (length items - 1) g → reverse (set items (length items - 1) (lower least g)) ≡ lower_first least (reverse items)
lower_by [] items g least e l same = absurd (omega (arith, l, ap length e))
lower_by (f ∷ back) items g least e l same =
    let is : reverse back ++ f ∷ [] ≡ items = sym (reverse-append (f ∷ []) back) ∙ e in
    let size : length (reverse back) ≡ length items - 1 = omega (arith, ap length is, length_push (reverse back) f) in
    let there : g ≡ get_or (reverse back ++ f ∷ []) (length items - 1) g = same ∙ sym (ap (λ (x : List Frame). get_or x (length items - 1) g) is) in
    subst (λ (x : List Frame). reverse (set x (length items - 1) (lower least g)) ≡ lower_first least (reverse x)) is (lower_reversed (reverse back) f g (length items - 1) least size there)

lower_last : (items : List Frame) (g : Frame) (least : ℕ) → 0 < length items → g ≡ get_or items (length items - 1) g → reverse (set items (length items - 1) (lower least g)) ≡ lower_first least (reverse items)
lower_last items g least l same = lower_by (reverse items) items g least (reverse-reverse items) l same

-- the last of some frames is lowered: the innermost one is
pub lower_at : (items : List Frame) (g : Frame) (least n low : ℕ) → n ≡ length items → 0 < n → low ≡ min g.least least → g ≡ get_or items (n - 1) g → reverse (set items (n - 1) (record { node = g.node; place = g.place; least = low; next = g.next })) ≡ lower_first least (reverse items)
lower_at items g least n low size l is same =
    let put : ℕ → Frame = λ (x : ℕ). record { node = g.node; place = g.place; least = x; next = g.next } in
    ap (λ (x : ℕ). reverse (set items (n - 1) (put x))) is ∙ subst (λ (x : ℕ). g ≡ get_or items (x - 1) g → reverse (set items (x - 1) (lower least g)) ≡ lower_first least (reverse items)) (sym size) (lower_last items g least (omega (arith, size))) same
