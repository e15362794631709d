-- What derivations spell is loose: their walks, through rules, groups and inner derivations.
use Rattle.std.proofs.Common.{◌≡◌, ℕ, suc, ◌+◌, ◌-◌, List, [], ◌∷◌, ◌++◌, length, refl, sym, ap, subst, ◌∙◌, append_assoc, append-nil, arith, length-append}
use Rattle.std.specs.List.{concat}
use Rattle.xs_gram.specs.declared.parts.GItem.{GItem}
use Rattle.xs_gram.specs.declared.parts.GItem.TheVariants.{Fixed, Term, Non, Skip}
use Rattle.xs_gram.specs.Grammar.{Grammar, items, IsRuleOf}
use Rattle.xs_gram.specs.Derivations.{Parts, done, fixed, leaf, skip, sub, FitsItems}
use Rattle.xs_gram.specs.Sound.{IsBuilt}
use Rattle.xs_gram.specs.Fences.{spread, IsLevel, level_none, level_then, level_group, grouped, OuterAt, OuterGroupAt}
use Rattle.xs_gram.specs.Loose.{Spot, entry, exit, at}
use Rattle.xs_gram.specs.Loose.{Reaches, here, onward, AreOne, IsMember, LooseItem, loose_fixed, loose_term, loose_skip, loose_non, Step, begins, passes, encloses, calls, ends, returns, Walk, stays, goes}
use Rattle.xs_gram.proofs.Levels.{level_append, group_more, group_split, length_grouped}
use Rattle.xs_check_laws.specs.Words.{part_words}
use Rattle.xs_check_laws.specs.Words.{split_words}
use Rattle.xs_check_laws.specs.Laws.{YieldsAreLoose, WordsAreTheYield}
use Rattle.xs_check_laws.proofs.Words.{part_words_join}
use Rattle.xs_check_laws.proofs.Words.{Words, no_words, word_then, words_drop, words_take, in_group, group_word, level_loose, spread_ok, spread_concat}
use Rattle.xs_check_laws.proofs.Components.{components_decided}

pub reaches_on : {g : Grammar} {m n k : ℕ} → Reaches g m n → Reaches g n k → Reaches g m k
reaches_on here r = r
reaches_on (onward u t) r = onward u (reaches_on t r)

pub one_same : {g : Grammar} {m : ℕ} → AreOne g m m
one_same = (here, here)

pub one_on : {g : Grammar} {m n k : ℕ} → AreOne g m n → AreOne g n k → AreOne g m k
one_on a b = (reaches_on a.0 b.0, reaches_on b.1 a.1)

pub one_back : {g : Grammar} {m n : ℕ} → AreOne g m n → AreOne g n m
one_back a = (a.1, a.0)

pub member_moved : {g : Grammar} {c m : ℕ} (i : GItem) → AreOne g c m → IsMember g c i → IsMember g m i
member_moved (Fixed f) o h = h
member_moved (Term t s) o h = h
member_moved (Non n s) o h = one_on (one_back o) h
member_moved (Skip k) o h = h

-- a walk goes through a component, by whichever member that is named
step_moved : {g : Grammar} {c d : ℕ} {x y : Spot} {w : List ℕ} → Step g d x w y → AreOne g c d → Step g c x w y
step_moved (begins {p = p} {m = m} of a) o = begins of (one_on o a)
step_moved (passes {m = m} {i = i} of a there apart l) o = passes {m = m} {i = i} of (one_on o a) there (λ h. apart (member_moved i o h)) l
step_moved (encloses {m = m} of a there l e) o = encloses {m = m} of (one_on o a) there l e
step_moved (calls {m = m} {n = n} {s = s} of a there b) o = calls {m = m} {n = n} {s = s} of (one_on o a) there (one_on o b)
step_moved (ends {m = m} of a e) o = ends of (one_on o a) e
step_moved (returns {m = m} {n = n} {s = s} of a there b) o = returns {m = m} {n = n} {s = s} of (one_on o a) there (one_on o b)

pub walk_moved : {g : Grammar} {c d : ℕ} {x y : Spot} {w : List ℕ} → Walk g d x w y → AreOne g c d → Walk g c x w y
walk_moved stays o = stays
walk_moved (goes s t e) o = goes (step_moved s o) (walk_moved t o) e

pub joined : {g : Grammar} {c : ℕ} {x y z : Spot} {u v : List ℕ} → Walk g c x u y → Walk g c y v z → Walk g c x (u ++ v) z
joined stays w = w
joined {v = v} (goes {u = a} {v = b} s t e) w = goes s (joined t w) (ap (λ (l : List ℕ). l ++ v) e ∙ append_assoc a b v)

pub stepped : {g : Grammar} {c : ℕ} {x y : Spot} {u : List ℕ} → Step g c x u y → Walk g c x u y
stepped {u = u} s = goes s stays (sym (append-nil u))

module _ (g : Grammar) (built : IsBuilt g) where
  -- past one outer item
  walk_item : {i : GItem} {u : List ℕ} → LooseItem g i u → (c m p k : ℕ) → IsRuleOf g m p → AreOne g c m → OuterAt g.fences (spread g p) k i → Walk g c (at p k) u (at p (suc k))
  walk_item loose_fixed c m p k of one there = stepped (passes {m = m} of one there (λ h. h) loose_fixed)
  walk_item (loose_term t) c m p k of one there = stepped (passes {m = m} of one there (λ h. h) (loose_term t))
  walk_item (loose_skip t) c m p k of one there = stepped (passes {m = m} of one there (λ h. h) (loose_skip t))
  walk_item (loose_non {m = n} {s = s} {w = w} walk) c m p k of one there =
      elim (components_decided g built c n) [
        | yes h ↦ goes (calls {m = m} {s = s} of one there h) (joined (walk_moved walk h) (stepped (returns {m = m} {s = s} of one there h))) (sym (append-nil w))
        | no h ↦ stepped (passes {m = m} of one there h (loose_non walk))
      ]

  -- through a stretch of a rule
  pub walk_level : {is : List GItem} {ws : List (List ℕ)} → IsLevel g.fences is → Words g is ws → (c m p : ℕ) (before rest : List GItem) → IsRuleOf g m p → AreOne g c m → spread g p ≡ before ++ (is ++ rest) → IsLevel g.fences before → Walk g c (at p (length before)) (concat ws) (at p (length (before ++ is)))
  walk_level level_none no_words c m p before rest of one split level =
      let e : length before ≡ length (before ++ []) = ap length (sym (append-nil before)) in
      subst (λ (n : ℕ). Walk g c (at p (length before)) [] (at p n)) e stays
  walk_level (level_then {i = i} {is = js} plain l) (word_then {ws = ws} h t) c m p before rest of one split level =
      let there : OuterAt g.fences (spread g p) (length before) i = record { before = before; after = js ++ rest; split = split; level = level; plain = plain; place = refl } in
      let on = walk_level l t c m p (before ++ i ∷ []) rest of one (split ∙ sym (append_assoc before (i ∷ []) (js ++ rest))) (level_append level (level_then plain level_none)) in
      let e : length (before ++ i ∷ []) ≡ suc (length before) = omega (arith, length-append before (i ∷ [])) in
      let end : length ((before ++ i ∷ []) ++ js) ≡ length (before ++ i ∷ js) = ap length (append_assoc before (i ∷ []) js) in
      let past : Walk g c (at p (suc (length before))) (concat ws) (at p (length ((before ++ i ∷ []) ++ js))) = subst (λ (n : ℕ). Walk g c (at p n) (concat ws) (at p (length ((before ++ i ∷ []) ++ js)))) e on in
      joined (walk_item h c m p (length before) of one there) (subst (λ (n : ℕ). Walk g c (at p (suc (length before))) (concat ws) (at p n)) end past)
  walk_level {is = is} {ws = ws} (level_group {l = l} {r = r} {inside = inside} {after = after} f i t e) w c m p before rest of one split level =
      let k = in_group (subst (λ (x : List GItem). Words g x ws) e w) in
      let n : ℕ = suc (length before + length inside) in
      let front : List GItem = before ++ grouped l inside r [] in
      let opened : spread g p ≡ before ++ grouped l inside r (after ++ rest) = split ∙ ap (λ (x : List GItem). before ++ (x ++ rest)) e ∙ ap (λ (x : List GItem). before ++ x) (group_more l inside r after rest) in
      let there : OuterGroupAt g.fences (spread g p) (length before) n l inside r = record { group = record { before = before; after = after ++ rest; split = opened; fence = f; within = i; place = refl; partner = refl }; level = level } in
      let on = walk_level t k.of_back c m p front rest of one (opened ∙ group_split before l inside r (after ++ rest)) (level_append level (level_group f i level_none refl)) in
      let end : length (front ++ after) ≡ length (before ++ is) = ap length (sym (group_split before l inside r after)) ∙ ap (λ (x : List GItem). length (before ++ x)) (sym e) in
      let past : Walk g c (at p (suc n)) (concat k.back) (at p (length (front ++ after))) = subst (λ (x : ℕ). Walk g c (at p x) (concat k.back) (at p (length (front ++ after)))) (length_grouped before l inside r) on in
      let step : Step g c (at p (length before)) (l ∷ (concat k.middle ++ r ∷ [])) (at p (suc n)) = encloses {m = m} of one there (level_loose i k.of_middle) refl in
      let spelt = ap concat k.split ∙ group_word l k.middle r k.back ∙ ap (λ (x : List ℕ). l ∷ x) (sym (append_assoc (concat k.middle) (r ∷ []) (concat k.back))) in
      goes step (subst (λ (x : ℕ). Walk g c (at p (suc n)) (concat k.back) (at p x)) end past) spelt

  -- from the entry of a nonterminal through a rule of it to its exit
  whole_walk : (n p : ℕ) (ws : List (List ℕ)) → IsRuleOf g n p → Words g (spread g p) ws → Walk g n (entry n) (concat ws) (exit n)
  whole_walk n p ws of w =
      let through = walk_level (built.proper.level p) w n n p [] [] of (one_same {m = n}) (sym (append-nil (spread g p))) level_none in
      goes (begins of (one_same {m = n})) (joined through (stepped (ends of (one_same {m = n}) refl))) (sym (append-nil (concat ws)))

  pub words_of : (is : List GItem) (ps : Parts) → FitsItems g is ps → Words g is (part_words ps)
  words_of [] done fit = no_words
  words_of (Fixed f ∷ is) (fixed u ps) fit = word_then (subst (λ (w : List ℕ). LooseItem g (Fixed f) w) (sym fit.0) loose_fixed) (words_of is ps fit.1)
  words_of (Term t s ∷ is) (leaf u ps) fit = word_then (loose_term fit.0) (words_of is ps fit.1)
  words_of (Skip k ∷ is) (skip u ps) fit = word_then (loose_skip fit.0) (words_of is ps fit.1)
  words_of (Non n s ∷ is) (sub q qs ps) fit =
      let ws = words_of (items g q) qs fit.1 in
      let inner : Walk g n (entry n) (concat (split_words g.fences (items g q) (part_words qs))) (exit n) = whole_walk n q (split_words g.fences (items g q) (part_words qs)) fit.0 (spread_ok g.fences ws) in
      word_then (loose_non (subst (λ (w : List ℕ). Walk g n (entry n) w (exit n)) (spread_concat g.fences ws ∙ part_words_join qs) inner)) (words_of is ps fit.2)
  words_of is ps fit = absurd fit

pub words_are_the_yield : WordsAreTheYield
words_are_the_yield g built non d fit = spread_concat g.fences (words_of g built (items g d.rule) d.parts fit.1) ∙ part_words_join d.parts

pub yields_are_loose : YieldsAreLoose
yields_are_loose g built non d fit start end level = level_loose level (words_take (end - start) (words_drop start (spread_ok g.fences (words_of g built (items g d.rule) d.parts fit.1))))
