-- Rules that share a loose word.
use Rattle.std.specs.Prelude.{◌≡◌, ℕ, List}
use Rattle.xs_gram.specs.Grammar.{Grammar}
use Rattle.xs_gram.specs.Suspects.{IsVertical}
use Rattle.xs_searches.specs.First.{HasNoneInRow}
use Rattle.xs_vert.specs.declared.search.Vert.{Vert}

-- a word is loose for the two rules of one nonterminal, the first of which is the smaller
abbrev pub ArePartners : Grammar → ℕ → ℕ → Type 0
ArePartners g p q = (w : List ℕ) × IsVertical g p q w

-- no rule after p is its partner
abbrev pub HasNoPartner : Grammar → ℕ → Type 0
HasNoPartner g p = (q : ℕ) → ArePartners g p q → ⊥

-- rule p and the first of its partners, with a word that shows it
pub record IsFirstPartner (g : Grammar) (p : ℕ) (v : Vert) : Type 0 where
  pub rule : v.rule ≡ p
  pub is : IsVertical g v.rule v.rule2 v.word
  pub none_before : HasNoneInRow (ArePartners g) v.rule v.rule2
