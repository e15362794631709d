-- In a sound grammar each item has a part, and what an automaton has begun can be ended.
use Rattle.std.proofs.Common.{◌≡◌, ℕ, zero, suc, List, [], ◌∷◌, ◌++◌, length, refl, sym, arith, ap, subst, None, Some, inl, inr}
use Rattle.std.specs.declared.option.Option.{Option}
use Rattle.xs_regex.specs.declared.regex.Regex.{Regex}
use Rattle.xs_regex.specs.declared.regex.Regex.TheVariants.{Empty, Set, Then', Or', Star', Times'}
use Rattle.xs_regex.specs.declared.position.Position.{Position}
use Rattle.xs_regex.specs.Matches.{Matches, joined, Each, AtMost, Repeats}
use Rattle.xs_regex.specs.Size.{IsInOrder, IsBounded, HasMembers}
use Rattle.xs_regex.specs.Automaton.{Runs, Accepts, EachEnds}
use Rattle.xs_regex.proofs.Runs.{run_on, run_within}
use Rattle.xs_gram.specs.declared.parts.GItem.{GItem}
use Rattle.xs_gram.specs.declared.parts.GItem.TheVariants.{Fixed, Term, Non, Skip}
use Rattle.xs_gram.specs.Grammar.{Grammar, term_of, skip_of, ItemAt}
use Rattle.xs_gram.specs.Derivations.{Parts, done, fixed, leaf, skip, sub, FitsItems}
use Rattle.xs_gram.specs.Sound.{IsSound}
use Rattle.xs_gram.specs.Chart.{IsAutomatonOf}
use Rattle.xs_chart_laws.proofs.Spelling.{term_agrees, skip_agrees}

-- a word, that many times over
repeated : (P : List ℕ → Type 0) (u : List ℕ) → P u → (n : ℕ) → (us : List (List ℕ)) × Each P us × (length us ≡ n)
repeated P u p zero = ([], tt, refl)
repeated P u p (suc n) = let r = repeated P u p n in (u ∷ r.0, (p, r.1), ap (λ k. suc k) r.2)

at_most : (least : ℕ) (most : Option ℕ) → IsInOrder least most → AtMost least most
at_most least None h = tt
at_most least (Some n) h = h

repeats : (P : List ℕ → Type 0) (u : List ℕ) → P u → (least : ℕ) (most : Option ℕ) → IsInOrder least most → (w : List ℕ) × Repeats P least most w
repeats P u p least most ordered =
    let r = repeated P u p least in
    (joined r.0, (r.0, refl, r.1, omega (arith, r.2), subst (λ (n : ℕ). AtMost n most) (sym r.2) (at_most least most ordered)))

-- a regex that has no empty class, and no counts out of order, matches a word
pub some_word : (r : Regex) → IsBounded r → HasMembers r → (w : List ℕ) × Matches r w
some_word Empty b m = ([], refl)
some_word (Set class) b m = (m.0 ∷ [], (m.0, m.1, refl))
some_word (Then' p x q y) b m = let u = some_word x b.0 m.0 in let v = some_word y b.1 m.1 in (u.0 ++ v.0, (u.0, v.0, refl, u.1, v.1))
some_word (Or' p x q y) b m = let u = some_word x b.0 m.0 in (u.0, inl u.1)
some_word (Star' p x) b m = ([], ([], refl, tt))
some_word (Times' p x least most) b m = let u = some_word x b.1 m in repeats (λ v. Matches x v) u.0 u.1 least most b.0

-- what an automaton has begun is ended
run_ends : (a : Position) (u : List ℕ) (k : ℕ) → EachEnds a → Runs a u k → (v : List ℕ) × Accepts a (u ++ v)
run_ends a u k ends run = let e = ends k (run_within run) in (e.0, inr (e.1, run_on run e.2, e.3))

module _ (g : Grammar) (sound : IsSound g) where
  -- each item of a rule has a part
  pub filled : (p n : ℕ) (item : GItem) → ItemAt g p n item → (rs : Parts) × FitsItems g (item ∷ []) rs
  filled p n (Fixed f) at = (fixed f done, (refl, tt))
  filled p n (Term t s) at =
      let in_range = sound.built.range.terms p n t s at in
      let w = some_word (term_of g t).regex (sound.built.automata.terms_bounded t in_range).1 (sound.term_members t in_range) in
      (leaf w.0 done, (w.1, tt))
  filled p n (Skip k) at =
      let in_range = sound.built.range.skips p n k at in
      let w = some_word (skip_of g k).regex (sound.built.automata.skips_bounded k in_range).1 (sound.skip_members k in_range) in
      (skip w.0 done, (w.1, tt))
  filled p n (Non m s) at =
      let d = sound.productive m (sound.built.range.nons p n m s at) in
      (sub d.0.rule d.0.parts done, (d.1.0, d.1.1, tt))

  -- what the automaton of an item has begun is ended
  pub ended : (p n : ℕ) (item : GItem) (a : Position) (u : List ℕ) (k : ℕ) → ItemAt g p n item → IsAutomatonOf g item a → Runs a u k → (v : List ℕ) × Accepts a (u ++ v)
  ended p n (Term t s) a u k at lex run =
      run_ends a u k (subst EachEnds (sym lex) ((term_agrees g sound.built p n t s at).ends (sound.term_members t (sound.built.range.terms p n t s at)))) run
  ended p n (Skip j) a u k at lex run =
      run_ends a u k (subst EachEnds (sym lex) ((skip_agrees g sound.built p n j at).ends (sound.skip_members j (sound.built.range.skips p n j at)))) run
  ended p n (Fixed f) a u k at lex run = absurd lex
  ended p n (Non m s) a u k at lex run = absurd lex
