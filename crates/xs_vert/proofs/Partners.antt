-- The first partner of the first rule that has one is the first vertical suspect.
use Rattle.std.proofs.Common.{ℕ, ◌≤◌, length, sym, subst, arith}
use Rattle.xs_gram.specs.Grammar.{Grammar}
use Rattle.xs_check_laws.specs.Freedom.{HasNoVertical}
use Rattle.xs_check_laws.specs.Acceptance.{ShowsVertical}
use Rattle.xs_searches.specs.First.{HasNoneInRow, HasNoneInRows}
use Rattle.xs_searches.proofs.First.{none_before}
use Rattle.xs_vert.specs.declared.search.Vert.{Vert}
use Rattle.xs_vert.specs.Partners.{ArePartners, HasNoPartner, IsFirstPartner}

pub first_shows : (g : Grammar) (p : ℕ) (v : Vert) → HasNoneInRows (ArePartners g) p → IsFirstPartner g p v → ShowsVertical g v.rule v.rule2 v.word
first_shows g p v rows first =
    let before : HasNoneInRows (ArePartners g) v.rule = subst (λ (k : ℕ). HasNoneInRows (ArePartners g) k) (sym first.rule) rows in
    (record { word = v.word; is = first.is; none_before = λ r s w h b. none_before (ArePartners g) v.rule v.rule2 before first.none_before r s (w, h) b }, first.is)

pub none_in_all : (g : Grammar) (n : ℕ) → length g.rules ≤ n → HasNoneInRows (ArePartners g) n → HasNoVertical g
none_in_all g n all rows p q w h = rows p (omega (arith, h.first.0)) q (w, h)

pub none_in_row : (g : Grammar) (p n : ℕ) → length g.rules ≤ n → HasNoneInRow (ArePartners g) p n → HasNoPartner g p
none_in_row g p n all row q h = row q (omega (arith, h.1.second.0)) h
