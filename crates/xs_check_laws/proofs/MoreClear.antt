-- Without a horizontal suspect there is none where there are more fences: two pairs of words that
-- overlap there are, with words of the items round them, two ways to spell one word of a rule.
use Rattle.std.proofs.Common.{◌≡◌, ◌<◌, ℕ, suc, List, [], ◌∷◌, ◌++◌, length, refl, sym, ap, subst, ◌∙◌, append_assoc, append-nil, arith, length-append, slice_get, Some}
use Rattle.std.specs.List.{concat}
use Rattle.std.proofs.lemmas.List.{append_cancel_left, append_cancel_right}
use Rattle.std.proofs.lemmas.List.Folds.{concat-append}
use Rattle.xs_gram.specs.declared.parts.GItem.{GItem}
use Rattle.xs_gram.specs.declared.parts.GItem.TheVariants.{Fixed}
use Rattle.xs_gram.specs.declared.parts.RulePart.{RulePart}
use Rattle.xs_gram.specs.declared.parts.Terminal.{Terminal}
use Rattle.xs_gram.specs.declared.parts.Ignorable.{Ignorable}
use Rattle.xs_gram.specs.Grammar.{Grammar, items}
use Rattle.xs_gram.specs.Derivations.{Parts, FitsItems}
use Rattle.xs_gram.specs.Sound.{IsBuilt}
use Rattle.xs_gram.specs.Fences.{spread, IsFence, IsCut, cut_here, cut_inside}
use Rattle.xs_gram.specs.Loose.{LooseItem, AreOne, IsLoose, loose_none}
use Rattle.xs_gram.specs.Suspects.{IsVertical, Overlaps}
use Rattle.xs_check_laws.specs.Words.{split_words}
use Rattle.xs_check_laws.specs.Freedom.{HasNoHorizontal}
use Rattle.xs_check_laws.specs.MoreFences.{IsMoreFenced, EachItemDerives, GainsFences, MoreFencesPartComponents, MoreFencesMakeFewerLoose, MoreFencesMakeFewerVertical, MoreFencesMakeNoHorizontal, MoreFencesMakeNoSuspect, AcceptedStaysAccepted}
use Rattle.xs_check_laws.proofs.Words.{Words, no_words, word_then, halves, spread_ok, spread_concat, spread_same}
use Rattle.xs_check_laws.proofs.Walks.{words_of}
use Rattle.xs_check_laws.proofs.Unique.{same_words, clear_rule}
use Rattle.xs_check_laws.proofs.Unspread.{unspread}
use Rattle.xs_check_laws.proofs.MoreFences.{with_fences, words_append, after_same, one_fewer, words_fewer, rule_fewer}

-- where the front and the rest of a cut stand
record Stands (is front rest : List GItem) : Type 0 where
  before : List GItem
  after : List GItem
  split : is ≡ before ++ ((front ++ rest) ++ after)

cut_stands : {fs : List (ℕ × ℕ)} {is front rest : List GItem} {c : ℕ} → IsCut fs is c front rest → Stands is front rest
cut_stands {front = front} {rest = rest} (cut_here a b e h) = record { before = []; after = []; split = e ∙ sym (append-nil (front ++ rest)) }
cut_stands {front = front} {rest = rest} (cut_inside {before = before} {inside = inside} {l = l} {r = r} after a f k e h) =
    let s = cut_stands k in
    let stretch : List GItem = front ++ rest in
    let back : List GItem = Fixed (r ∷ []) ∷ after in
    let inner : inside ++ back ≡ s.before ++ (stretch ++ (s.after ++ back)) = ap (λ (x : List GItem). x ++ back) s.split ∙ append_assoc s.before (stretch ++ s.after) back ∙ ap (λ (x : List GItem). s.before ++ x) (append_assoc stretch s.after back) in
    record {
      before = before ++ Fixed (l ∷ []) ∷ s.before;
      after = s.after ++ back;
      split = e ∙ ap (λ (x : List GItem). before ++ Fixed (l ∷ []) ∷ x) inner ∙ sym (append_assoc before (Fixed (l ∷ []) ∷ s.before) (stretch ++ (s.after ++ back)));
    }

words_long : {g : Grammar} {is : List GItem} {ws : List (List ℕ)} → Words g is ws → length ws ≡ length is
words_long no_words = refl
words_long (word_then h t) = ap suc (words_long t)

first_word : {g : Grammar} {i : GItem} {is : List GItem} {ws : List (List ℕ)} → Words g (i ∷ is) ws → (w : List ℕ) × LooseItem g i w
first_word (word_then {w = w} h t) = (w, h)

-- items that each derive a word have words
each_word : (g : Grammar) → IsBuilt g → (is : List GItem) → ((n : ℕ) (i : GItem) → slice_get is n ≡ Some i → (parts : Parts) × FitsItems g (i ∷ []) parts) → (ws : List (List ℕ)) × Words g is ws
each_word g built [] derives = ([], no_words)
each_word g built (i ∷ is) derives =
    let d = derives 0 i refl in
    let w = first_word (words_of g built (i ∷ []) d.0 d.1) in
    let t = each_word g built is (λ n j at. derives (suc n) j at) in
    (w.0 ∷ t.0, word_then w.1 t.1)

concat_round : (us vs ws xs : List (List ℕ)) → concat (us ++ ((vs ++ ws) ++ xs)) ≡ concat us ++ ((concat vs ++ concat ws) ++ concat xs)
concat_round us vs ws xs = concat-append us ((vs ++ ws) ++ xs) ∙ ap (λ (x : List ℕ). concat us ++ x) (concat-append (vs ++ ws) xs ∙ ap (λ (x : List ℕ). x ++ concat xs) (concat-append vs ws))

same_round : (p q r s x u y : List ℕ) → p ≡ x → q ≡ u ++ y → r ≡ x ++ u → s ≡ y → p ++ q ≡ r ++ s
same_round p q r s x u y e f h k = rw (e, f, h, k) (sym (append_assoc x u y))

not_longer : (x a : List ℕ) → x ≡ x ++ a → length a ≡ 0
not_longer x a e = omega (arith, ap length e, length-append x a)

module _ (g : Grammar) (fs : List (ℕ × ℕ)) (built : IsBuilt g) (built_more : IsBuilt (with_fences g fs)) (more : (l r : ℕ) → IsFence g.fences l r → IsFence fs l r) where
  pub vertical_fewer : (p q : ℕ) (w : List ℕ) → IsVertical (with_fences g fs) p q w → IsVertical g p q w
  vertical_fewer p q w v = record {
    non = v.non;
    first = v.first;
    second = v.second;
    less = v.less;
    loose_first = rule_fewer g fs built built_more more p v.loose_first;
    loose_second = rule_fewer g fs built built_more more q v.loose_second;
  }

  -- without horizontal suspects words of a rule's spread items are fixed by what they spell
  words_once : HasNoHorizontal g → (p : ℕ) → p < length g.rules → {ws vs : List (List ℕ)} → Words g (spread (with_fences g fs) p) ws → Words g (spread (with_fences g fs) p) vs → concat ws ≡ concat vs → ws ≡ vs
  words_once none p lt w v e =
      let k = unspread fs (items g p) w in
      let q = unspread fs (items g p) v in
      let spelt : concat (split_words g.fences (items g p) k.0) ≡ concat (split_words g.fences (items g p) q.0) = spread_concat g.fences k.1 ∙ sym (spread_concat fs k.1) ∙ ap concat (sym k.2) ∙ e ∙ ap concat q.2 ∙ spread_concat fs q.1 ∙ sym (spread_concat g.fences q.1) in
      let split = same_words (built.proper.level p) (spread_ok g.fences k.1) (spread_ok g.fences q.1) spelt [] [] loose_none (clear_rule g none p lt) in
      k.2 ∙ ap (λ (x : List (List ℕ)). split_words fs (items g p) x) (spread_same g.fences k.1 q.1 split) ∙ sym q.2

  -- so no words overlap at a cut
  no_overlap : {front rest before after : List GItem} {x a y : List ℕ} → HasNoHorizontal g → (p : ℕ) → p < length g.rules → spread (with_fences g fs) p ≡ before ++ ((front ++ rest) ++ after) → (bs ds : List (List ℕ)) → Words g before bs → Words g after ds → Overlaps (with_fences g fs) front rest x a y → ⊥
  no_overlap {front} {rest} {before} {after} {x} {a} {y} none p lt split bs ds wb wa o =
      let one = words_fewer g fs built built_more more o.short_front in
      let two = words_fewer g fs built built_more more o.long_front in
      let three = words_fewer g fs built built_more more o.short_rest in
      let four = words_fewer g fs built built_more more o.long_rest in
      let us : List (List ℕ) = bs ++ ((one.0 ++ four.0) ++ ds) in
      let vs : List (List ℕ) = bs ++ ((two.0 ++ three.0) ++ ds) in
      let wu : Words g (spread (with_fences g fs) p) us = subst (λ (i : List GItem). Words g i us) (sym split) (words_append wb (words_append (words_append one.1 four.1) wa)) in
      let wv : Words g (spread (with_fences g fs) p) vs = subst (λ (i : List GItem). Words g i vs) (sym split) (words_append wb (words_append (words_append two.1 three.1) wa)) in
      let spelt : concat us ≡ concat vs = concat_round bs one.0 four.0 ds ∙ ap (λ (w : List ℕ). concat bs ++ (w ++ concat ds)) (same_round (concat one.0) (concat four.0) (concat two.0) (concat three.0) x a y one.2 four.2 two.2 three.2) ∙ sym (concat_round bs two.0 three.0 ds) in
      let same = words_once none p lt wu wv spelt in
      let inner : one.0 ++ four.0 ≡ two.0 ++ three.0 = append_cancel_right (one.0 ++ four.0) (two.0 ++ three.0) ds (append_cancel_left bs ((one.0 ++ four.0) ++ ds) ((two.0 ++ three.0) ++ ds) same) in
      let fronts = after_same one.0 four.0 two.0 three.0 inner (words_long one.1 ∙ sym (words_long two.1)) in
      omega (arith, o.some, not_longer x a (sym one.2 ∙ ap concat fronts.0 ∙ two.2))

  pub no_horizontal : EachItemDerives g → HasNoHorizontal g → HasNoHorizontal (with_fences g fs)
  no_horizontal derives none p c x a y h =
      let s = cut_stands h.cut in
      let all = each_word g built (items g p) (derives p) in
      let round = halves s.before (subst (λ (i : List GItem). Words g i (split_words fs (items g p) all.0)) s.split (spread_ok fs all.1)) in
      let later = halves (h.front ++ h.rest) round.of_back in
      no_overlap none p h.rule s.split round.front later.back round.of_front later.of_back h.overlap

-- a grammar with more fences is the first with the fences of the second
is_with_fences : (g h : Grammar) → IsMoreFenced g h → with_fences g h.fences ≡ h
is_with_fences g h m = same m.start m.nons m.rules m.terms m.skips
  where
    same : {start start' nons nons' : ℕ} {rules rules' : List RulePart} {terms terms' : List Terminal} {skips skips' : List Ignorable} {fences : List (ℕ × ℕ)} → start ≡ start' → nons ≡ nons' → rules ≡ rules' → terms ≡ terms' → skips ≡ skips'
        → ◌≡◌ {A = Grammar} (record { start = start; nons = nons; rules = rules; terms = terms; skips = skips; fences = fences }) (record { start = start'; nons = nons'; rules = rules'; terms = terms'; skips = skips'; fences = fences })
    same e f k q r = cc

built_with : (g h : Grammar) → GainsFences g h → IsBuilt (with_fences g h.fences)
built_with g h gains = subst IsBuilt (sym (is_with_fences g h gains.more)) gains.built_more

pub part_components : MoreFencesPartComponents
part_components g h gains m n = subst (λ (z : Grammar). AreOne z m n → AreOne g m n) (is_with_fences g h gains.more) (λ o. one_fewer g h.fences gains.built (built_with g h gains) gains.more.fences m n o)

pub make_fewer_loose : MoreFencesMakeFewerLoose
make_fewer_loose g h gains p w = subst (λ (z : Grammar). IsLoose z (spread z p) w → IsLoose g (spread g p) w) (is_with_fences g h gains.more) (λ l. rule_fewer g h.fences gains.built (built_with g h gains) gains.more.fences p l)

pub make_fewer_vertical : MoreFencesMakeFewerVertical
make_fewer_vertical g h gains p q w = subst (λ (z : Grammar). IsVertical z p q w → IsVertical g p q w) (is_with_fences g h gains.more) (λ v. vertical_fewer g h.fences gains.built (built_with g h gains) gains.more.fences p q w v)

pub make_no_horizontal : MoreFencesMakeNoHorizontal
make_no_horizontal g h gains derives none = subst HasNoHorizontal (is_with_fences g h gains.more) (no_horizontal g h.fences gains.built (built_with g h gains) gains.more.fences derives none)

pub make_no_suspect : MoreFencesMakeNoSuspect
make_no_suspect g h gains derives none = (λ p q w v. none.0 p q w (make_fewer_vertical g h gains p q w v), make_no_horizontal g h gains derives none.1)

pub stays_accepted : AcceptedStaysAccepted
stays_accepted text xml text' xml' gains gains' derives derives' a light light' = record {
  light_text = light;
  light_xml = light';
  clear_text = make_no_suspect text text' gains derives a.clear_text;
  clear_xml = make_no_suspect xml xml' gains' derives' a.clear_xml;
}
