-- Loose words of spread items, one for each.
use Rattle.std.proofs.Common.{◌≡◌, ℕ, zero, suc, List, [], ◌∷◌, ◌++◌, take, drop, refl, sym, ap, subst, ◌∙◌, append_assoc, true, false}
use Rattle.std.specs.List.{concat}
use Rattle.std.proofs.lemmas.List.Folds.{concat-append}
use Rattle.xs_class.proofs.Lists.{cons_parts}
use Rattle.xs_gram.specs.declared.parts.GItem.{GItem}
use Rattle.xs_gram.specs.declared.parts.GItem.TheVariants.{Fixed, Term, Non, Skip}
use Rattle.xs_gram.specs.Grammar.{Grammar}
use Rattle.xs_gram.specs.Derivations.{Parts, done, fixed, leaf, skip, sub, parts_yield}
use Rattle.xs_gram.specs.Fences.{IsLevel, level_none, level_then, level_group, grouped, is_fence, after_word, split_word, spread_items}
use Rattle.xs_gram.specs.Loose.{LooseItem, loose_fixed, loose_term, loose_skip, loose_non, IsLoose, loose_none, loose_then, loose_group}
use Rattle.xs_gram.proofs.Levels.{group_more}
use Rattle.xs_check_laws.specs.Words.{part_words, after_own, split_own, split_words}

pub data Words (g : Grammar) : List GItem → List (List ℕ) → Type 0 where
  no_words : Words g [] []
  word_then : {i : GItem} {is : List GItem} {w : List ℕ} {ws : List (List ℕ)} → LooseItem g i w → Words g is ws → Words g (i ∷ is) (w ∷ ws)

pub words_drop : {g : Grammar} (k : ℕ) {is : List GItem} {ws : List (List ℕ)} → Words g is ws → Words g (drop k is) (drop k ws)
words_drop zero w = w
words_drop (suc k) no_words = no_words
words_drop (suc k) (word_then h t) = words_drop k t

pub words_take : {g : Grammar} (k : ℕ) {is : List GItem} {ws : List (List ℕ)} → Words g is ws → Words g (take k is) (take k ws)
words_take zero w = no_words
words_take (suc k) no_words = no_words
words_take (suc k) (word_then h t) = word_then h (words_take k t)

-- the words of two stretches
pub record Halves (g : Grammar) (is js : List GItem) (ws : List (List ℕ)) : Type 0 where
  pub front : List (List ℕ)
  pub back : List (List ℕ)
  pub split : ws ≡ front ++ back
  pub of_front : Words g is front
  pub of_back : Words g js back

pub halves : {g : Grammar} (is : List GItem) {js : List GItem} {ws : List (List ℕ)} → Words g (is ++ js) ws → Halves g is js ws
halves [] {ws = ws} w = record { front = []; back = ws; split = refl; of_front = no_words; of_back = w }
halves (i ∷ is) (word_then {w = u} h t) =
    let k = halves is t in
    record { front = u ∷ k.front; back = k.back; split = ap (λ (x : List (List ℕ)). u ∷ x) k.split; of_front = word_then h k.of_front; of_back = k.of_back }

-- the words of a group and of what stands after it
pub record Inner (g : Grammar) (l : ℕ) (inside : List GItem) (r : ℕ) (after : List GItem) (ws : List (List ℕ)) : Type 0 where
  pub middle : List (List ℕ)
  pub back : List (List ℕ)
  pub split : ws ≡ (l ∷ []) ∷ (middle ++ (r ∷ []) ∷ back)
  pub of_middle : Words g inside middle
  pub of_back : Words g after back

right_word : {g : Grammar} {r l : ℕ} {inside after : List GItem} {ws : List (List ℕ)} (front back : List (List ℕ)) → ws ≡ (l ∷ []) ∷ (front ++ back) → Words g inside front → Words g (Fixed (r ∷ []) ∷ after) back → Inner g l inside r after ws
right_word front back e f (word_then {ws = ws} loose_fixed t) = record { middle = front; back = ws; split = e; of_middle = f; of_back = t }

pub in_group : {g : Grammar} {l r : ℕ} {inside after : List GItem} {ws : List (List ℕ)} → Words g (grouped l inside r after) ws → Inner g l inside r after ws
in_group {inside = inside} (word_then {w = u} {ws = ws} loose_fixed t) =
    let k = halves inside t in
    right_word k.front k.back (ap (λ (x : List (List ℕ)). u ∷ x) k.split) k.of_front k.of_back

pub group_word : (l : ℕ) (ms : List (List ℕ)) (r : ℕ) (bs : List (List ℕ)) → concat ((l ∷ []) ∷ (ms ++ (r ∷ []) ∷ bs)) ≡ l ∷ (concat ms ++ r ∷ concat bs)
group_word l ms r bs = ap (λ (x : List ℕ). l ∷ x) (concat-append ms ((r ∷ []) ∷ bs))

-- what the items of a level stretch spell is loose
pub level_loose : {g : Grammar} {is : List GItem} {ws : List (List ℕ)} → IsLevel g.fences is → Words g is ws → IsLoose g is (concat ws)
level_loose level_none no_words = loose_none
level_loose (level_then p l) (word_then h t) = loose_then p h (level_loose l t) refl
level_loose {g} {ws = ws} (level_group {l = l} {r = r} f i t e) w =
    let k = in_group (subst (λ (x : List GItem). Words g x ws) e w) in
    loose_group f (level_loose i k.of_middle) (level_loose t k.of_back) e (ap concat k.split ∙ group_word l k.middle r k.back)

pub loose_level : {g : Grammar} {is : List GItem} {w : List ℕ} → IsLoose g is w → IsLevel g.fences is
loose_level loose_none = level_none
loose_level (loose_then p h t e) = level_then p (loose_level t)
loose_level (loose_group f i t e h) = level_group f (loose_level i) (loose_level t) e

pub loose_append : {g : Grammar} {is js : List GItem} {u v : List ℕ} → IsLoose g is u → IsLoose g js v → IsLoose g (is ++ js) (u ++ v)
loose_append loose_none m = m
loose_append {v = v} (loose_then {u = a} {v = b} p h t e) m = loose_then p h (loose_append t m) (ap (λ (w : List ℕ). w ++ v) e ∙ append_assoc a b v)
loose_append {js = js} {v = v} (loose_group {l = l} {r = r} {inside = inside} {after = after} {u = a} {v = b} f i t e h) m =
    loose_group f i (loose_append t m) (ap (λ (x : List GItem). x ++ js) e ∙ group_more l inside r after js) (ap (λ (w : List ℕ). w ++ v) h ∙ ap (λ (w : List ℕ). l ∷ w) (append_assoc a (r ∷ b) v))

-- words split at fence symbols
after_ok : {g : Grammar} (before : List ℕ) {is : List GItem} {ws : List (List ℕ)} → Words g is ws → Words g (after_word before is) (after_own before ws)
after_ok [] w = w
after_ok (s ∷ before) w = word_then loose_fixed w

split_ok : {g : Grammar} (fs : List (ℕ × ℕ)) (before w : List ℕ) {is : List GItem} {ws : List (List ℕ)} → Words g is ws → Words g (split_word fs before w is) (split_own fs before w ws)
split_ok fs before [] h = after_ok before h
split_ok {g} fs before (s ∷ w) {is} {ws} h =
    let t = after_ok before (word_then (loose_fixed {f = s ∷ []}) (split_ok fs [] w h)) in
    let f = split_ok fs (before ++ s ∷ []) w h in
    elim (is_fence fs s) as (λ b. Words g (elim b [ true ↦ after_word before (Fixed (s ∷ []) ∷ split_word fs [] w is) | false ↦ split_word fs (before ++ s ∷ []) w is ]) (elim b [ true ↦ after_own before ((s ∷ []) ∷ split_own fs [] w ws) | false ↦ split_own fs (before ++ s ∷ []) w ws ])) [ true ↦ t | false ↦ f ]

after_concat : (before : List ℕ) (ws : List (List ℕ)) → concat (after_own before ws) ≡ before ++ concat ws
after_concat [] ws = refl
after_concat (s ∷ before) ws = refl

split_concat : (fs : List (ℕ × ℕ)) (before w : List ℕ) (ws : List (List ℕ)) → concat (split_own fs before w ws) ≡ before ++ (w ++ concat ws)
split_concat fs before [] ws = after_concat before ws
split_concat fs before (s ∷ w) ws =
    let t : concat (after_own before ((s ∷ []) ∷ split_own fs [] w ws)) ≡ before ++ (s ∷ (w ++ concat ws)) = after_concat before ((s ∷ []) ∷ split_own fs [] w ws) ∙ ap (λ (x : List ℕ). before ++ (s ∷ x)) (split_concat fs [] w ws) in
    let f : concat (split_own fs (before ++ s ∷ []) w ws) ≡ before ++ (s ∷ (w ++ concat ws)) = split_concat fs (before ++ s ∷ []) w ws ∙ append_assoc before (s ∷ []) (w ++ concat ws) in
    elim (is_fence fs s) as (λ b. concat (elim b [ true ↦ after_own before ((s ∷ []) ∷ split_own fs [] w ws) | false ↦ split_own fs (before ++ s ∷ []) w ws ]) ≡ before ++ (s ∷ (w ++ concat ws))) [ true ↦ t | false ↦ f ]

after_same : (before : List ℕ) (ws vs : List (List ℕ)) → after_own before ws ≡ after_own before vs → ws ≡ vs
after_same [] ws vs e = e
after_same (s ∷ before) ws vs e = (cons_parts e).1

split_same : (fs : List (ℕ × ℕ)) (before w : List ℕ) (ws vs : List (List ℕ)) → split_own fs before w ws ≡ split_own fs before w vs → ws ≡ vs
split_same fs before [] ws vs = λ e. after_same before ws vs e
split_same fs before (s ∷ w) ws vs =
    let t : after_own before ((s ∷ []) ∷ split_own fs [] w ws) ≡ after_own before ((s ∷ []) ∷ split_own fs [] w vs) → ws ≡ vs = λ e. split_same fs [] w ws vs (cons_parts (after_same before ((s ∷ []) ∷ split_own fs [] w ws) ((s ∷ []) ∷ split_own fs [] w vs) e)).1 in
    let f : split_own fs (before ++ s ∷ []) w ws ≡ split_own fs (before ++ s ∷ []) w vs → ws ≡ vs = λ e. split_same fs (before ++ s ∷ []) w ws vs e in
    elim (is_fence fs s) as (λ b. ◌≡◌ {A = List (List ℕ)} (elim b [ true ↦ after_own before ((s ∷ []) ∷ split_own fs [] w ws) | false ↦ split_own fs (before ++ s ∷ []) w ws ]) (elim b [ true ↦ after_own before ((s ∷ []) ∷ split_own fs [] w vs) | false ↦ split_own fs (before ++ s ∷ []) w vs ]) → ws ≡ vs) [ true ↦ t | false ↦ f ]

pub spread_ok : {g : Grammar} (fs : List (ℕ × ℕ)) {is : List GItem} {ws : List (List ℕ)} → Words g is ws → Words g (spread_items fs is) (split_words fs is ws)
spread_ok fs no_words = no_words
spread_ok fs (word_then {i = Fixed w} h t) = split_ok fs [] w (spread_ok fs t)
spread_ok fs (word_then {i = Term t s} h k) = word_then h (spread_ok fs k)
spread_ok fs (word_then {i = Non m s} h k) = word_then h (spread_ok fs k)
spread_ok fs (word_then {i = Skip n} h k) = word_then h (spread_ok fs k)

pub spread_concat : {g : Grammar} (fs : List (ℕ × ℕ)) {is : List GItem} {ws : List (List ℕ)} → Words g is ws → concat (split_words fs is ws) ≡ concat ws
spread_concat fs no_words = refl
spread_concat fs (word_then {is = is} {w = w} {ws = ws} loose_fixed t) = split_concat fs [] w (split_words fs is ws) ∙ ap (λ (x : List ℕ). w ++ x) (spread_concat fs t)
spread_concat fs (word_then {w = w} (loose_term h) t) = ap (λ (x : List ℕ). w ++ x) (spread_concat fs t)
spread_concat fs (word_then {w = w} (loose_skip h) t) = ap (λ (x : List ℕ). w ++ x) (spread_concat fs t)
spread_concat fs (word_then {w = w} (loose_non h) t) = ap (λ (x : List ℕ). w ++ x) (spread_concat fs t)

words_same : {u v : List ℕ} {us vs : List (List ℕ)} → u ≡ v → us ≡ vs → u ∷ us ≡ v ∷ vs
words_same e h = cc

-- the words of the items are fixed by those of the spread items
pub spread_same : {g : Grammar} (fs : List (ℕ × ℕ)) {is : List GItem} {ws vs : List (List ℕ)} → Words g is ws → Words g is vs → split_words fs is ws ≡ split_words fs is vs → ws ≡ vs
spread_same fs no_words no_words e = refl
spread_same fs (word_then {is = is} {w = w} {ws = ws} loose_fixed t) (word_then {ws = vs} loose_fixed k) e = ap (λ (x : List (List ℕ)). w ∷ x) (spread_same fs t k (split_same fs [] w (split_words fs is ws) (split_words fs is vs) e))
spread_same fs (word_then (loose_term h) t) (word_then (loose_term h') k) e = let p = cons_parts e in words_same p.0 (spread_same fs t k p.1)
spread_same fs (word_then (loose_skip h) t) (word_then (loose_skip h') k) e = let p = cons_parts e in words_same p.0 (spread_same fs t k p.1)
spread_same fs (word_then (loose_non h) t) (word_then (loose_non h') k) e = let p = cons_parts e in words_same p.0 (spread_same fs t k p.1)

-- the words of a derivation's parts, joined, are its yield
pub part_words_join : (ps : Parts) → concat (part_words ps) ≡ parts_yield ps
part_words_join done = refl
part_words_join (fixed u ps) = ap (λ (w : List ℕ). u ++ w) (part_words_join ps)
part_words_join (leaf u ps) = ap (λ (w : List ℕ). u ++ w) (part_words_join ps)
part_words_join (skip u ps) = ap (λ (w : List ℕ). u ++ w) (part_words_join ps)
part_words_join (sub q qs ps) = ap (λ (w : List ℕ). parts_yield qs ++ w) (part_words_join ps)
