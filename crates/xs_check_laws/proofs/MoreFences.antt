-- What is loose where there are more fences is loose where there are fewer: a walk through a rule
-- whose groups are called and returned from exactly is a walk where fewer of them are.
use Rattle.std.proofs.Common.{◌≡◌, ℕ, suc, ◌+◌, List, [], ◌∷◌, ◌++◌, length, refl, sym, ap, subst, ◌∙◌, append_assoc, append-nil, arith, length-append}
use Rattle.std.specs.List.{concat}
use Rattle.std.proofs.lemmas.List.Folds.{concat-append}
use Rattle.xs_class.proofs.Lists.{cons_parts, cons_same}
use Rattle.xs_gram.specs.declared.parts.GItem.{GItem}
use Rattle.xs_gram.specs.declared.parts.GItem.TheVariants.{Fixed, Non}
use Rattle.xs_gram.specs.Grammar.{Grammar, items, IsRuleOf}
use Rattle.xs_gram.specs.Sound.{IsBuilt}
use Rattle.xs_gram.specs.Fences.{spread, spread_items, IsFence, IsLevel, level_none, level_then, grouped, OuterAt}
use Rattle.xs_gram.specs.Loose.{Spot, entry, exit, at}
use Rattle.xs_gram.specs.Loose.{Uses, Reaches, here, onward, AreOne, LooseItem, loose_fixed, loose_term, loose_skip, loose_non, IsLoose, loose_none, loose_then, loose_group, begins, passes, encloses, calls, ends, returns, Walk, stays, goes}
use Rattle.xs_gram.proofs.Levels.{level_append, level_rest, group_more}
use Rattle.xs_check_laws.specs.Words.{split_words}
use Rattle.xs_check_laws.proofs.Words.{Words, no_words, word_then, group_word, level_loose, spread_ok, spread_concat}
use Rattle.xs_check_laws.proofs.Walks.{joined, walk_level}
use Rattle.xs_check_laws.proofs.Fewer.{level_fewer}
use Rattle.xs_check_laws.proofs.Unspread.{spread_append, non_found, unspread}

-- the grammar with these fences in place of its own
abbrev pub with_fences : Grammar → List (ℕ × ℕ) → Grammar
with_fences g fences = record { start = g.start; nons = g.nons; rules = g.rules; terms = g.terms; skips = g.skips; fences = fences }

pub words_append : {g : Grammar} {is js : List GItem} {us vs : List (List ℕ)} → Words g is us → Words g js vs → Words g (is ++ js) (us ++ vs)
words_append no_words w = w
words_append (word_then h t) w = word_then h (words_append t w)

concat_both : (us vs : List (List ℕ)) (w : List ℕ) → concat (us ++ vs) ++ w ≡ concat us ++ (concat vs ++ w)
concat_both us vs w = ap (λ (x : List ℕ). x ++ w) (concat-append us vs) ∙ append_assoc (concat us) (concat vs) w

concat_more : (us : List (List ℕ)) (v w : List ℕ) → concat (us ++ v ∷ []) ++ w ≡ concat us ++ (v ++ w)
concat_more us v w = concat_both us (v ∷ []) w ∙ ap (λ (x : List ℕ). concat us ++ (x ++ w)) (append-nil v)

-- lists that are joined are the same, where the first ones are as long
pub after_same : {A : Type 0} (front back before after : List A) → front ++ back ≡ before ++ after → length front ≡ length before → (front ≡ before) × (back ≡ after)
after_same [] back [] after e h = (refl, e)
after_same [] back (x ∷ before) after e h = absurd (omega (arith, h))
after_same (x ∷ front) back [] after e h = absurd (omega (arith, h))
after_same (x ∷ front) back (y ∷ before) after e h =
    let c = cons_parts e in
    let k = after_same front back before after c.1 (omega (arith, h)) in
    (cons_same c.0 k.0, k.1)

module _ (g : Grammar) (fs : List (ℕ × ℕ)) (built : IsBuilt g) (built_more : IsBuilt (with_fences g fs)) (more : (l r : ℕ) → IsFence g.fences l r → IsFence fs l r) where
  level_of : (is : List GItem) → IsLevel fs (spread_items fs is) → IsLevel g.fences (spread_items g.fences is)
  level_of is l = level_fewer g.fences fs built_more.proper.once more is l

  -- an outer nonterminal is one of the rule's items, and an outer one with fewer fences
  record NonAt (p k n s : ℕ) : Type 0 where
    before : List GItem
    after : List GItem
    split : items g p ≡ before ++ Non n s ∷ after
    level : IsLevel g.fences (spread_items g.fences before)
    place : k ≡ length (spread_items fs before)

  non_at : (p k n s : ℕ) → OuterAt fs (spread (with_fences g fs) p) k (Non n s) → NonAt p k n s
  non_at p k n s o =
      let f = non_found fs (items g p) o.before o.split in
      record {
        before = f.before;
        after = f.after;
        split = f.split;
        level = level_of f.before (subst (λ (x : List GItem). IsLevel fs x) (sym f.of_before) o.level);
        place = o.place ∙ ap length (sym f.of_before);
      }

  outer_fewer : (p n s : ℕ) (before after : List GItem) → items g p ≡ before ++ Non n s ∷ after → IsLevel g.fences (spread_items g.fences before) → OuterAt g.fences (spread g p) (length (spread_items g.fences before)) (Non n s)
  outer_fewer p n s before after split level = record {
    before = spread_items g.fences before;
    after = spread_items g.fences after;
    split = ap (λ (x : List GItem). spread_items g.fences x) split ∙ spread_append g.fences before (Non n s ∷ after);
    level = level;
    plain = tt;
    place = refl;
  }

  -- components
  uses_fewer : {m n : ℕ} → Uses (with_fences g fs) m n → Uses g m n
  uses_fewer {m} {n} u =
      let a = non_at u.rule u.dot n u.slot u.item in
      record { rule = u.rule; dot = length (spread_items g.fences a.before); slot = u.slot; of = u.of; item = outer_fewer u.rule n u.slot a.before a.after a.split a.level }

  reaches_fewer : {m n : ℕ} → Reaches (with_fences g fs) m n → Reaches g m n
  reaches_fewer here = here
  reaches_fewer (onward {n = n} u r) = onward {n = n} (uses_fewer u) (reaches_fewer r)

  pub one_fewer : (m n : ℕ) → AreOne (with_fences g fs) m n → AreOne g m n
  one_fewer m n o = (reaches_fewer o.0, reaches_fewer o.1)

  -- What a walk to the exit of m is with fewer fences. Where it sets out inside a rule, that place
  -- may stand inside a fixed word with fewer fences: so the walk there begins at an earlier place,
  -- before an item of the rule, and first spells words of the spread items between, which are
  -- `front`.
  abbrev Goes : ℕ → ℕ → Spot → List ℕ → Type 0
  Goes c m (entry n) w = Walk g c (entry n) w (exit m)
  Goes c m (exit n) w = Walk g c (exit n) w (exit m)
  Goes c m (at p k) w =
      (before rest front back : List GItem) (us : List (List ℕ)) → items g p ≡ before ++ rest → IsLevel g.fences (spread_items g.fences before)
      → spread_items fs rest ≡ front ++ back → k ≡ length (spread_items fs before) + length front → Words g front us
      → Walk g c (at p (length (spread_items g.fences before))) (concat us ++ w) (exit m)

  -- what stands before and after item k
  spread_here : (p k : ℕ) (before rest front back first last : List GItem) → items g p ≡ before ++ rest → spread_items fs rest ≡ front ++ back → k ≡ length (spread_items fs before) + length front → spread (with_fences g fs) p ≡ first ++ last → k ≡ length first
      → (spread_items fs before ++ front ≡ first) × (back ≡ last)
  spread_here p k before rest front back first last split cut place whole stands =
      let e : (spread_items fs before ++ front) ++ back ≡ first ++ last = append_assoc (spread_items fs before) front back ∙ ap (λ (x : List GItem). spread_items fs before ++ x) (sym cut) ∙ sym (spread_append fs before rest) ∙ ap (λ (x : List GItem). spread_items fs x) (sym split) ∙ whole in
      after_same (spread_items fs before ++ front) back first last e (omega (arith, length-append (spread_items fs before) front, place, stands))

  -- with fewer fences too those items are walked through, where they end with an item of the rule
  walk_front : (c m p : ℕ) (before ra rb front : List GItem) (us : List (List ℕ)) → IsRuleOf g m p → AreOne g c m → items g p ≡ before ++ (ra ++ rb) → IsLevel g.fences (spread_items g.fences before) → IsLevel g.fences (spread_items g.fences ra)
      → spread_items fs ra ≡ front → Words g front us → Walk g c (at p (length (spread_items g.fences before))) (concat us) (at p (length (spread_items g.fences (before ++ ra))))
  walk_front c m p before ra rb front us of one split level inner e ws =
      let k = unspread fs ra (subst (λ (x : List GItem). Words g x us) (sym e) ws) in
      let spelt : concat (split_words g.fences ra k.0) ≡ concat us = spread_concat g.fences k.1 ∙ sym (spread_concat fs k.1) ∙ ap concat (sym k.2) in
      let whole : spread g p ≡ spread_items g.fences before ++ (spread_items g.fences ra ++ spread_items g.fences rb) = ap (λ (x : List GItem). spread_items g.fences x) split ∙ spread_append g.fences before (ra ++ rb) ∙ ap (λ (x : List GItem). spread_items g.fences before ++ x) (spread_append g.fences ra rb) in
      let walk = walk_level g built inner (spread_ok g.fences k.1) c m p (spread_items g.fences before) (spread_items g.fences rb) of one whole level in
      let end : length (spread_items g.fences before ++ spread_items g.fences ra) ≡ length (spread_items g.fences (before ++ ra)) = ap length (sym (spread_append g.fences before ra)) in
      subst (λ (n : ℕ). Walk g c (at p (length (spread_items g.fences before))) (concat us) (at p n)) end (subst (λ (w : List ℕ). Walk g c (at p (length (spread_items g.fences before))) w (at p (length (spread_items g.fences before ++ spread_items g.fences ra)))) spelt walk)

  mutual
    item_fewer : {i : GItem} {w : List ℕ} → LooseItem (with_fences g fs) i w → LooseItem g i w
    item_fewer loose_fixed = loose_fixed
    item_fewer (loose_term h) = loose_term h
    item_fewer (loose_skip h) = loose_skip h
    item_fewer (loose_non h) = loose_non (walk_fewer h refl)

    pub words_fewer : {is : List GItem} {w : List ℕ} → IsLoose (with_fences g fs) is w → (ws : List (List ℕ)) × Words g is ws × (concat ws ≡ w)
    words_fewer loose_none = ([], no_words, refl)
    words_fewer (loose_then {u = u} p h t e) = let k = words_fewer t in (u ∷ k.0, word_then (item_fewer h) k.1, ap (λ (x : List ℕ). u ++ x) k.2 ∙ sym e)
    words_fewer (loose_group {l = l} {r = r} {u = u} f i t e h) =
        let a = words_fewer i in
        let b = words_fewer t in
        let ws : List (List ℕ) = (l ∷ []) ∷ (a.0 ++ (r ∷ []) ∷ b.0) in
        let words = word_then (loose_fixed {f = l ∷ []}) (words_append a.1 (word_then (loose_fixed {f = r ∷ []}) b.1)) in
        (ws, subst (λ (x : List GItem). Words g x ws) (sym e) words, group_word l a.0 r b.0 ∙ ap (λ (x : List ℕ). l ∷ (x ++ r ∷ concat b.0)) a.2 ∙ ap (λ (x : List ℕ). l ∷ (u ++ r ∷ x)) b.2 ∙ sym h)

    walk_fewer : {c m : ℕ} {x y : Spot} {w : List ℕ} → Walk (with_fences g fs) c x w y → y ≡ exit m → Goes c m x w
    walk_fewer {c} {m} stays e = subst (λ (x : Spot). Goes c m x []) (sym e) stays
    walk_fewer {c} {m} (goes (begins {p = p} {m = n} of a) t h) e =
        goes (begins of (one_fewer c n a)) (walk_fewer t e [] (items g p) [] (spread_items fs (items g p)) [] refl level_none refl refl no_words) h
    walk_fewer {c} {m} (goes {v = v} (passes {p = p} {k = k} {i = i} {w = u} of a there other l) t h) e =
        λ before rest front back us split level cut place ws.
        let s = spread_here p k before rest front back there.before (i ∷ there.after) split cut place there.split there.place in
        let longer = cut ∙ ap (λ (x : List GItem). front ++ x) s.1 ∙ sym (append_assoc front (i ∷ []) there.after) in
        let on = walk_fewer t e before rest (front ++ i ∷ []) there.after (us ++ u ∷ []) split level longer (omega (arith, place, length-append front (i ∷ []))) (words_append ws (word_then (item_fewer l) no_words)) in
        subst (λ (x : List ℕ). Walk g c (at p (length (spread_items g.fences before))) x (exit m)) (concat_more us u v ∙ ap (λ (x : List ℕ). concat us ++ x) (sym h)) on
    walk_fewer {c} {m} (goes {v = v} (encloses {p = p} {k = k} {l = l} {r = r} {inside = inside} {u = u} {w = w} of a there i spells) t h) e =
        λ before rest front back us split level cut place ws.
        let s = spread_here p k before rest front back there.group.before (grouped l inside r there.group.after) split cut place there.group.split there.group.place in
        let group : List GItem = grouped l inside r [] in
        let longer = cut ∙ ap (λ (x : List GItem). front ++ x) (s.1 ∙ sym (group_more l inside r [] there.group.after)) ∙ sym (append_assoc front group there.group.after) in
        let inner = words_fewer i in
        let vs : List (List ℕ) = (l ∷ []) ∷ (inner.0 ++ (r ∷ []) ∷ []) in
        let words : Words g group vs = word_then loose_fixed (words_append inner.1 (word_then loose_fixed no_words)) in
        let spelt : concat vs ≡ w = group_word l inner.0 r [] ∙ ap (λ (x : List ℕ). l ∷ (x ++ r ∷ [])) inner.2 ∙ sym spells in
        let on = walk_fewer t e before rest (front ++ group) there.group.after (us ++ vs) split level longer (omega (arith, place, there.group.partner, length-append front group, length-append inside (Fixed (r ∷ []) ∷ []))) (words_append ws words) in
        subst (λ (x : List ℕ). Walk g c (at p (length (spread_items g.fences before))) x (exit m)) (concat_both us vs v ∙ ap (λ (x : List ℕ). concat us ++ (x ++ v)) spelt ∙ ap (λ (x : List ℕ). concat us ++ x) (sym h)) on
    walk_fewer {c} {m} (goes {v = v} (calls {p = p} {k = k} {m = a} {n = n} {s = s} of o there b) t h) e =
        λ before rest front back us split level cut place ws.
        let q = spread_here p k before rest front back there.before (Non n s ∷ there.after) split cut place there.split there.place in
        let f = non_found fs rest front (cut ∙ ap (λ (x : List GItem). front ++ x) q.1) in
        let opened : items g p ≡ before ++ (f.before ++ Non n s ∷ f.after) = split ∙ ap (λ (x : List GItem). before ++ x) f.split in
        let spelt : spread_items fs (before ++ f.before) ≡ there.before = spread_append fs before f.before ∙ ap (λ (x : List GItem). spread_items fs before ++ x) f.of_before ∙ q.0 in
        let both : IsLevel g.fences (spread_items g.fences (before ++ f.before)) = level_of (before ++ f.before) (subst (λ (x : List GItem). IsLevel fs x) (sym spelt) there.level) in
        let inner = level_rest g.fences built.proper.once (spread_items g.fences f.before) level (subst (λ (x : List GItem). IsLevel g.fences x) (spread_append g.fences before f.before) both) in
        let one = one_fewer c a o in
        let front_walk = walk_front c a p before f.before (Non n s ∷ f.after) front us of one opened level inner f.of_before ws in
        let outer = outer_fewer p n s (before ++ f.before) f.after (opened ∙ sym (append_assoc before f.before (Non n s ∷ f.after))) both in
        joined front_walk (goes (calls {m = a} {s = s} of one outer (one_fewer c n b)) (walk_fewer t e) h)
    walk_fewer {c} {m} (goes {v = v} (ends {p = p} {k = k} {m = a} of o last) t h) e =
        λ before rest front back us split level cut place ws.
        let q = spread_here p k before rest front back (spread (with_fences g fs) p) [] split cut place (sym (append-nil (spread (with_fences g fs) p))) last in
        let all : spread_items fs rest ≡ front = cut ∙ ap (λ (x : List GItem). front ++ x) q.1 ∙ append-nil front in
        let opened : items g p ≡ before ++ (rest ++ []) = split ∙ ap (λ (x : List GItem). before ++ x) (sym (append-nil rest)) in
        let whole = subst (λ (x : List GItem). IsLevel g.fences x) (ap (λ (x : List GItem). spread_items g.fences x) split ∙ spread_append g.fences before rest) (built.proper.level p) in
        let inner = level_rest g.fences built.proper.once (spread_items g.fences rest) level whole in
        let one = one_fewer c a o in
        let front_walk = walk_front c a p before rest [] front us of one opened level inner all ws in
        let end : length (spread_items g.fences (before ++ rest)) ≡ length (spread g p) = ap (λ (x : List GItem). length (spread_items g.fences x)) (sym split) in
        joined front_walk (goes (ends of one end) (walk_fewer t e) h)
    walk_fewer {c} {m} (goes {v = v} (returns {p = p} {k = k} {m = a} {n = n} {s = s} of o there b) t h) e =
        let q = non_at p k n s there in
        let before : List GItem = q.before ++ Non n s ∷ [] in
        let level : IsLevel g.fences (spread_items g.fences before) = subst (λ (x : List GItem). IsLevel g.fences x) (sym (spread_append g.fences q.before (Non n s ∷ []))) (level_append q.level (level_then tt level_none)) in
        let far : suc k ≡ length (spread_items fs before) + 0 = omega (arith, q.place, ap length (spread_append fs q.before (Non n s ∷ [])), length-append (spread_items fs q.before) (Non n s ∷ [])) in
        let on = walk_fewer t e before q.after [] (spread_items fs q.after) [] (q.split ∙ sym (append_assoc q.before (Non n s ∷ []) q.after)) level refl far no_words in
        let near : length (spread_items g.fences before) ≡ suc (length (spread_items g.fences q.before)) = omega (arith, ap length (spread_append g.fences q.before (Non n s ∷ [])), length-append (spread_items g.fences q.before) (Non n s ∷ [])) in
        let outer = outer_fewer p n s q.before q.after q.split q.level in
        goes (returns {m = a} {n = n} {s = s} of (one_fewer c a o) outer (one_fewer c n b)) (subst (λ (j : ℕ). Walk g c (at p j) v (exit m)) near on) h

  pub rule_fewer : (p : ℕ) {w : List ℕ} → IsLoose (with_fences g fs) (spread (with_fences g fs) p) w → IsLoose g (spread g p) w
  rule_fewer p {w} l =
      let k = words_fewer l in
      let u = unspread fs (items g p) k.1 in
      let spelt : concat (split_words g.fences (items g p) u.0) ≡ w = spread_concat g.fences u.1 ∙ sym (spread_concat fs u.1) ∙ ap concat (sym u.2) ∙ k.2 in
      subst (λ (x : List ℕ). IsLoose g (spread g p) x) spelt (level_loose (built.proper.level p) (spread_ok g.fences u.1))
