-- One item more, and one line more.
use Rattle.std.proofs.Common.{◌≡◌, ◌∙◌, ℕ, suc, List, [], ◌∷◌, ◌++◌, ap, append_assoc}
use Rattle.xs_leiden.specs.Made.{item, more_items, after_items, line, lines, after_lines}

pub item_more : (t0 t t1 t2 : List ℕ) (n x s : ℕ) → t ≡ t0 ++ more_items n x → s ≡ after_items n x → t1 ≡ t ++ 32 ∷ [] → t2 ≡ t1 ++ item s → t2 ≡ t0 ++ more_items (suc n) x
item_more t0 t t1 t2 n x s et es e1 e2 =
    let space : List ℕ = 32 ∷ [] in
    e2 ∙ ap (λ (l : List ℕ). l ++ item s) e1 ∙ ap (λ (l : List ℕ). l ++ space ++ item s) et ∙ ap (λ z. t0 ++ more_items n x ++ space ++ item z) es
    ∙ ap (λ (l : List ℕ). l ++ item (after_items n x)) (append_assoc t0 (more_items n x) space) ∙ append_assoc t0 (more_items n x ++ space) (item (after_items n x))

pub line_more : (t0 t t1 t2 : List ℕ) (n x s : ℕ) → t ≡ t0 ++ lines n x → s ≡ after_lines n x → t1 ≡ t ++ line (suc n) s → t2 ≡ t1 ++ 10 ∷ [] → t2 ≡ t0 ++ lines (suc n) x
line_more t0 t t1 t2 n x s et es e1 e2 =
    let end : List ℕ = 10 ∷ [] in
    e2 ∙ ap (λ (l : List ℕ). l ++ end) e1 ∙ ap (λ (l : List ℕ). l ++ line (suc n) s ++ end) et ∙ ap (λ z. t0 ++ lines n x ++ line (suc n) z ++ end) es
    ∙ ap (λ (l : List ℕ). l ++ end) (append_assoc t0 (lines n x) (line (suc n) (after_lines n x))) ∙ append_assoc t0 (lines n x ++ line (suc n) (after_lines n x)) end
