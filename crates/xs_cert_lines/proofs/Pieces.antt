-- Pieces that follow one another, and lines made of them.
use Rattle.std.proofs.Common.{◌≡◌, ℕ, ◌+◌, ◌-◌, ◌≤◌, List, [], ◌∷◌, ◌++◌, length, length-append, length-drop, drop, sym, ap, ◌∙◌, arith, append_assoc, append-nil}
use Rattle.std.proofs.lemmas.List.{drop-drop, drop_all}
use Rattle.std.proofs.Math.Seq.{drop-append_seam}
use Rattle.std.specs.Option.{MatchOption}
use Rattle.std.proofs.Common.{Bor, Option, Some, None, ◌≢◌}
use Rattle.xs_cert_lines.specs.Lines.{ended, written, Lines}
use Rattle.xs_cert_lines.specs.Runs.{GoesOn, IsFrom}

pub append_cancel : (p x y : List ℕ) → p ++ x ≡ p ++ y → x ≡ y
append_cancel [] x y e = e
append_cancel (c ∷ cs) x y e = append_cancel cs x y (rest e)
  where
    rest : c ∷ (cs ++ x) ≡ c ∷ (cs ++ y) → cs ++ x ≡ cs ++ y
    rest h = cc

-- whether a piece stands there, and what follows it
pub piece_is : (bytes p : List ℕ) (r : Option (Bor (List ℕ))) → MatchOption r ((rest : List ℕ) → bytes ≢ p ++ rest) (λ x. bytes ≡ p ++ x.now) → MatchOption r (GoesOn bytes p → ⊥) (λ x. bytes ≡ p ++ x.now)
piece_is bytes p None none = λ goes. none goes.rest goes.is
piece_is bytes p (Some x) is = is

-- no more than a first piece stands there
pub no_second : (bytes p q x : List ℕ) → bytes ≡ p ++ x → (GoesOn x q → ⊥) → GoesOn bytes (p ++ q) → ⊥
no_second bytes p q x is none goes = none (record { rest = goes.rest; is = append_cancel p x (q ++ goes.rest) (sym is ∙ goes.is ∙ append_assoc p q goes.rest) })

-- not even a first piece
pub no_first : (bytes p q : List ℕ) → (GoesOn bytes p → ⊥) → GoesOn bytes (p ++ q) → ⊥
no_first bytes p q none goes = none (record { rest = q ++ goes.rest; is = goes.is ∙ append_assoc p q goes.rest })

-- two pieces
pub both : (bytes p x q y : List ℕ) → bytes ≡ p ++ x → x ≡ q ++ y → bytes ≡ (p ++ q) ++ y
both bytes p x q y first second = first ∙ ap (λ z. p ++ z) second ∙ sym (append_assoc p q y)

-- a second piece after a first, or not
pub piece_after : (bytes p x q : List ℕ) (r : Option (Bor (List ℕ))) → bytes ≡ p ++ x → MatchOption r (GoesOn x q → ⊥) (λ y. x ≡ q ++ y.now) → MatchOption r (GoesOn bytes (p ++ q) → ⊥) (λ y. bytes ≡ (p ++ q) ++ y.now)
piece_after bytes p x q None first none = no_second bytes p q x first none
piece_after bytes p x q (Some y) first is = both bytes p x q y.now first is

drop_after : (n : ℕ) (p x : List ℕ) (bytes : List ℕ) → drop n bytes ≡ p ++ x → drop (n + length p) bytes ≡ x
drop_after n p x bytes e = sym (drop-drop (length p) n bytes) ∙ ap (drop (length p)) e ∙ drop-append_seam p x

-- lines that stand from a byte on, up to where the rest begins
pub stands : (bytes : List ℕ) (start : ℕ) (ls : Lines) (rest : List ℕ) → start ≤ length bytes → drop start bytes ≡ written ls ++ rest → IsFrom bytes start (length bytes - length rest) ls
stands bytes start ls rest within is =
    let long : length bytes - start ≡ length (written ls) + length rest = sym (length-drop start bytes) ∙ ap length is ∙ length-append (written ls) rest in
    let end : start + length (written ls) ≡ length bytes - length rest = omega (arith, long, within) in
    record {
      order = omega (arith, long, within);
      within = omega arith;
      is = is ∙ ap (λ z. written ls ++ z) (sym (ap (λ n. drop n bytes) (sym end) ∙ drop_after start (written ls) rest bytes is));
    }

-- one line
pub one_stands : (bytes : List ℕ) (start : ℕ) (line end rest : List ℕ) → start ≤ length bytes → drop start bytes ≡ line ++ end → end ≡ 10 ∷ rest → IsFrom bytes start (length bytes - length rest) (line ∷ [])
one_stands bytes start line end rest within first second =
    stands bytes start (line ∷ []) rest within
    (both (drop start bytes) line end (10 ∷ []) rest first second ∙ ap (λ z. z ++ rest) (sym (append-nil (ended line))))

-- the same of what begins there
pub line_stands : (bytes : List ℕ) (start : ℕ) (front line end rest : List ℕ) → start ≤ length bytes → front ≡ drop start bytes → front ≡ line ++ end → end ≡ 10 ∷ rest → IsFrom bytes start (length bytes - length rest) (line ∷ [])
line_stands bytes start front line end rest within is first second = one_stands bytes start line end rest within (sym is ∙ first) second

pub no_line : (bytes : List ℕ) (start : ℕ) (front line end : List ℕ) → front ≡ drop start bytes → front ≡ line ++ end → (GoesOn end (10 ∷ []) → ⊥) → GoesOn (drop start bytes) (ended line) → ⊥
no_line bytes start front line end is first none = no_second (drop start bytes) line (10 ∷ []) end (sym is ∙ first) none

-- a line stands alone where its end is that of the bytes
pub stands_last : (bytes : List ℕ) (start end n : ℕ) (line : List ℕ) → n ≡ length bytes → IsFrom bytes start end (line ∷ []) → ((end ≡ n) → drop start bytes ≡ ended line) × (drop start bytes ≡ ended line → end ≡ n)
stands_last bytes start end n line is f =
    let alone : written (line ∷ []) ≡ ended line = append-nil (ended line) in
    let long : length (drop start bytes) ≡ length (written (line ∷ [])) + length (drop end bytes) = ap length f.is ∙ length-append (written (line ∷ [])) (drop end bytes) in (
      λ same. f.is ∙ ap (λ z. written (line ∷ []) ++ z) (drop_all end bytes (omega (arith, same, is))) ∙ append-nil (written (line ∷ [])) ∙ alone,
      λ same. omega (arith, ap length same, ap length alone, long, is, length-drop start bytes, length-drop end bytes, f.order, f.within),
    )
