-- A script is answered the same by each pair of grammars of a sheet.
use Rattle.std.proofs.Common.{◌≡◌, ◌∙◌, ℕ, List, [], ◌∷◌, ◌++◌, take, inl, inr, ap, refl}
use Rattle.std.specs.Prelude.{codes, slice_index_or, encode_utf8_all}
use Rattle.xs_gram.specs.declared.parts.GItem.{GItem}
use Rattle.xs_gram.specs.declared.parts.GItem.TheVariants.{Fixed, Term, Non, Skip}
use Rattle.xs_gram.specs.declared.parts.RulePart.{RulePart}
use Rattle.xs_gram.specs.Grammar.{no_rule, items}
use Rattle.xs_gram.specs.Derivations.{Parts, fixed, leaf, skip, sub, Derivation}
use Rattle.xs_gram.specs.Languages.{IsFront}
use Rattle.xs_sheet_laws.specs.Pairs as P
use Rattle.xs_pair.specs.Grammars.{Pair}
use Rattle.xs_talk.specs.Words.{quoted}
use Rattle.xs_talk.specs.Derivations.{slot_begin, node_text, parts_text, derivation_line}
use Rattle.xs_script.specs.declared.request.Request.{Request}
use Rattle.xs_script.specs.declared.request.Request.TheVariants.{Put, Tree, Next}
use Rattle.xs_script.specs.Playing.{next_line, IsTreeAnswer, IsNextAnswer, Answers, Plays, IsPlayed}

module _ (p q : Pair) (alike : P.AreAlike p q) where
  begin_same : (r s : ℕ) → slot_begin p r s ≡ slot_begin q r s
  begin_same r s = ap (λ (ss : List (List (List ℕ))). codes " " ++ encode_utf8_all (slice_index_or (slice_index_or ss r []) s []) ++ codes ":") alike.slots

  items_same : (r : ℕ) → items p.text r ≡ items q.text r
  items_same r = ap (λ (rs : List RulePart). (slice_index_or rs r no_rule).items) alike.text.rules

  parts_same : (rule : ℕ) (is : List GItem) (ps : Parts) → parts_text p rule is ps ≡ parts_text q rule is ps
  parts_same rule (Fixed f ∷ is) (fixed u ps) = parts_same rule is ps
  parts_same rule (Term t s ∷ is) (leaf u ps) =
      ap (λ (b : List ℕ). b ++ quoted p.names u ++ parts_text p rule is ps) (begin_same rule s) ∙ ap (λ (ns : List (List ℕ)). slot_begin q rule s ++ quoted ns u ++ parts_text p rule is ps) alike.names ∙ ap (λ (t : List ℕ). slot_begin q rule s ++ quoted q.names u ++ t) (parts_same rule is ps)
  parts_same rule (Skip k ∷ is) (skip u ps) =
      ap (λ (ns : List (List ℕ)). codes " ~" ++ quoted ns u ++ parts_text p rule is ps) alike.names ∙ ap (λ (t : List ℕ). codes " ~" ++ quoted q.names u ++ t) (parts_same rule is ps)
  parts_same rule (Non n s ∷ is) (sub r rs ps) =
      ap (λ (b : List ℕ). b ++ node_text r (parts_text p r (items p.text r) rs) ++ parts_text p rule is ps) (begin_same rule s)
      ∙ ap (λ (js : List GItem). slot_begin q rule s ++ node_text r (parts_text p r js rs) ++ parts_text p rule is ps) (items_same r)
      ∙ ap (λ (t : List ℕ). slot_begin q rule s ++ node_text r t ++ parts_text p rule is ps) (parts_same r (items q.text r) rs)
      ∙ ap (λ (t : List ℕ). slot_begin q rule s ++ node_text r (parts_text q r (items q.text r) rs) ++ t) (parts_same rule is ps)
  parts_same rule is ps = refl

  line_same : (d : Derivation) → derivation_line p d ≡ derivation_line q d
  line_same d =
      ap (λ (js : List GItem). node_text d.rule (parts_text p d.rule js d.parts) ++ codes "\n") (items_same d.rule) ∙ ap (λ (t : List ℕ). node_text d.rule t ++ codes "\n") (parts_same d.rule (items q.text d.rule) d.parts)

  module _ (same : P.MeanTheSame p q) where
    front_kept : (u : List ℕ) → IsFront p.text u → IsFront q.text u
    front_kept u (v, is) = (v, (same.text.words.in_lang (u ++ v)).0 is)

    front_back : (u : List ℕ) → IsFront q.text u → IsFront p.text u
    front_back u (v, is) = (v, (same.text.words.in_lang (u ++ v)).1 is)

    tree_kept : (doc line : List ℕ) → IsTreeAnswer p doc line → IsTreeAnswer q doc line
    tree_kept doc line (inl (d, derives, is)) = inl (d, (same.text.derivations.derives doc d).0 derives, is ∙ line_same d)
    tree_kept doc line (inr (none, k, viable, is)) = inr (λ h. none ((same.text.words.in_lang doc).1 h), k, (same.text.words.viable doc k).0 viable, is)

    next_kept : (doc : List ℕ) (at : ℕ) (line : List ℕ) → IsNextAnswer p doc at line → IsNextAnswer q doc at line
    next_kept doc at line (inl (k, viable, within, class, is_class, has, is)) =
        inl (k, (same.text.words.viable doc k).0 viable, within, class, is_class, λ s. (λ h. front_kept (take at doc ++ s ∷ []) ((has s).0 h), λ f. (has s).1 (front_back (take at doc ++ s ∷ []) f)), is ∙ ap (λ (ns : List (List ℕ)). next_line ns class) alike.names)
    next_kept doc at line (inr (k, viable, beyond, is)) = inr (k, (same.text.words.viable doc k).0 viable, beyond, is)

    answers_kept : (doc : List ℕ) (r : Request) (line new : List ℕ) → Answers p doc r line new → Answers q doc r line new
    answers_kept doc (Put at cut put) line new is = is
    answers_kept doc Tree line new is = (tree_kept doc line is.0, is.1)
    answers_kept doc (Next at) line new is = (next_kept doc at line is.0, is.1)

    plays_kept : (doc : List ℕ) (rs : List Request) (lines new : List ℕ) → Plays p doc rs lines new → Plays q doc rs lines new
    plays_kept doc [] lines new is = is
    plays_kept doc (r ∷ rs) lines new (line, next, more, first, rest, is) = (line, next, more, answers_kept doc r line next first, plays_kept next rs more new rest, is)

    pub played_kept : (script answer : List ℕ) → IsPlayed p script answer → IsPlayed q script answer
    played_kept script answer is = record { requests = is.requests; spelt = is.spelt; document = is.document; plays = plays_kept [] is.requests answer is.document is.plays }
