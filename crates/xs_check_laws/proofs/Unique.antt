-- Without suspects two derivations that spell one word are equal: by induction on derivations, and
-- inside a rule on the nesting of its groups.
use Rattle.std.proofs.Common.{◌≡◌, ℕ, suc, ◌+◌, ◌<◌, List, [], ◌∷◌, ◌++◌, length, refl, sym, ap, subst, ◌∙◌, append_assoc, append-nil, ◌⊎◌, inl, inr, arith, length-append}
use Rattle.std.specs.List.{concat}
use Rattle.std.proofs.lemmas.Bool.{cases_lt}
use Rattle.std.proofs.lemmas.List.{append_cancel_left, append_cancel_right}
use Rattle.xs_class.proofs.Lists.{cons_parts, cons_same}
use Rattle.xs_gram.specs.declared.parts.GItem.{GItem}
use Rattle.xs_gram.specs.declared.parts.GItem.TheVariants.{Fixed, Term, Non, Skip}
use Rattle.xs_gram.specs.Grammar.{Grammar, items, IsRuleOf}
use Rattle.xs_gram.specs.Derivations.{Parts, done, fixed, leaf, skip, sub, Derivation, FitsItems, parts_yield}
use Rattle.xs_gram.specs.Sound.{IsBuilt}
use Rattle.xs_gram.specs.Fences.{spread, IsLevel, level_none, level_then, level_group, grouped, IsCut, cut_here, cut_inside}
use Rattle.xs_gram.specs.Loose.{IsLoose, loose_none, loose_then, loose_group}
use Rattle.xs_gram.specs.Suspects.{Overlaps}
use Rattle.xs_gram.proofs.Inversion.{done_parts, fixed_parts, leaf_parts, skip_parts, sub_parts}
use Rattle.xs_gram.proofs.Levels.{level_append, group_split}
use Rattle.xs_check_laws.specs.Words.{part_words}
use Rattle.xs_check_laws.specs.Words.{split_words}
use Rattle.xs_check_laws.specs.Freedom.{HasNoVertical, HasNoHorizontal}
use Rattle.xs_check_laws.specs.Laws.{NoSuspectIsUniqueAt, NoSuspectIsUnique, AcceptedIsUnique}
use Rattle.xs_check_laws.proofs.Words.{part_words_join}
use Rattle.xs_check_laws.proofs.Words.{Words, no_words, word_then, Inner, in_group, group_word, level_loose, loose_level, loose_append, spread_ok, spread_concat, spread_same}
use Rattle.xs_check_laws.proofs.Walks.{words_of}

-- of two ways to cut one list, the one cut lies before the other, and the list between is common
two_cuts : {A : Type 0} (u v x y : List A) → u ++ v ≡ x ++ y → ((a : List A) × (x ≡ u ++ a) × (v ≡ a ++ y)) ⊎ ((a : List A) × (u ≡ x ++ a) × (y ≡ a ++ v))
two_cuts [] v x y e = inl (x, refl, e)
two_cuts (s ∷ u) v [] y e = inr (s ∷ u, refl, sym e)
two_cuts (s ∷ u) v (t ∷ x) y e =
    let h = cons_parts e in
    elim (two_cuts u v x y h.1) [ inl c ↦ inl (c.0, cons_same (sym h.0) c.1, c.2) | inr c ↦ inr (c.0, cons_same h.0 c.1, c.2) ]

-- no loose words of front and rest overlap, where neither is empty
abbrev IsUncut : Grammar → List GItem → List GItem → Type 0
IsUncut g front rest = 0 < length front → 0 < length rest → (x a y : List ℕ) → Overlaps g front rest x a y → ⊥

-- so it is at each cut of the stretch
abbrev pub IsClear : Grammar → List GItem → Type 0
IsClear g is = (c : ℕ) (front rest : List GItem) → IsCut g.fences is c front rest → IsUncut g front rest

loose_empty : {g : Grammar} {w : List ℕ} → IsLoose g [] w → w ≡ []
loose_empty loose_none = refl
loose_empty (loose_group f i t e h) = absurd cc

between : {g : Grammar} {front rest : List GItem} {u v x y : List ℕ} → 0 < length front → 0 < length rest → IsLoose g front u → IsLoose g front x → IsLoose g rest v → IsLoose g rest y → IsUncut g front rest → (a : List ℕ) → x ≡ u ++ a → v ≡ a ++ y → u ≡ x
between {u = u} lf lr lu lx lv ly none [] p q = sym (p ∙ append-nil u)
between {g} {front} {rest} {u = u} {y = y} lf lr lu lx lv ly none (s ∷ a) p q =
    absurd (none lf lr u (s ∷ a) y record { some = omega arith; short_front = lu; long_front = subst (λ (w : List ℕ). IsLoose g front w) p lx; short_rest = ly; long_rest = subst (λ (w : List ℕ). IsLoose g rest w) q lv })

-- two pairs of loose words that spell the same are cut at one place
cut : {g : Grammar} {front rest : List GItem} {u v x y : List ℕ} → 0 < length front → IsLoose g front u → IsLoose g front x → IsLoose g rest v → IsLoose g rest y → IsUncut g front rest → u ++ v ≡ x ++ y → u ≡ x
cut {rest = []} {u = u} {v = v} {x = x} {y = y} lf lu lx lv ly none e =
    let p = loose_empty lv in
    let q = loose_empty ly in
    sym (append-nil u) ∙ (cc (e, p, q)) ∙ append-nil x
cut {rest = i ∷ is} {u = u} {v = v} {x = x} {y = y} lf lu lx lv ly none e =
    elim (two_cuts u v x y e) [
      | inl c ↦ between lf (omega arith) lu lx lv ly none c.0 c.1 c.2
      | inr c ↦ sym (between lf (omega arith) lx lu ly lv none c.0 c.1 c.2)
    ]

-- after a front whose word is known the next stretch has one word
next_same : {g : Grammar} {before stretch rest : List GItem} {u a b v y : List ℕ} → 0 < length stretch → IsLoose g before u → IsLoose g stretch a → IsLoose g stretch b → IsLoose g rest v → IsLoose g rest y → IsLevel g.fences stretch → IsClear g (before ++ (stretch ++ rest)) → a ++ v ≡ b ++ y → a ≡ b
next_same {before = before} {stretch = stretch} {rest = rest} {u = u} {a = a} {b = b} {v = v} {y = y} long lu la lb lv ly level clear e =
    let longer : 0 < length (before ++ stretch) = omega (arith, length-append before stretch) in
    let uncut = clear (length (before ++ stretch)) (before ++ stretch) rest (cut_here (level_append (loose_level lu) level) (loose_level lv) (sym (append_assoc before stretch rest)) refl) in
    let whole : (u ++ a) ++ v ≡ (u ++ b) ++ y = append_assoc u a v ∙ ap (λ (w : List ℕ). u ++ w) e ∙ sym (append_assoc u b y) in
    append_cancel_left u a b (cut longer (loose_append lu la) (loose_append lu lb) lv ly uncut whole)

cancel_same : {a b v y : List ℕ} → a ≡ b → a ++ v ≡ b ++ y → v ≡ y
cancel_same {a} {b} {v} {y} e h = append_cancel_left b v y (subst (λ (w : List ℕ). w ++ v ≡ b ++ y) e h)

group_same : (l r : ℕ) (a b : List ℕ) → l ∷ (a ++ r ∷ []) ≡ l ∷ (b ++ r ∷ []) → a ≡ b
group_same l r a b e = append_cancel_right a b (r ∷ []) (cons_parts e).1

group_concat : {g : Grammar} {l r : ℕ} {inside after : List GItem} {ws : List (List ℕ)} (p : Inner g l inside r after ws) → concat ws ≡ (l ∷ (concat p.middle ++ r ∷ [])) ++ concat p.back
group_concat {l = l} {r = r} p = ap concat p.split ∙ group_word l p.middle r p.back ∙ ap (λ (x : List ℕ). l ∷ x) (sym (append_assoc (concat p.middle) (r ∷ []) (concat p.back)))

group_parts : (l r : ℕ) {ms ns bs cs : List (List ℕ)} → ms ≡ ns → bs ≡ cs → (l ∷ []) ∷ (ms ++ (r ∷ []) ∷ bs) ≡ (l ∷ []) ∷ (ns ++ (r ∷ []) ∷ cs)
group_parts l r p q = cc

-- the words of a level stretch are fixed by what they spell, after a front whose word is known
pub same_words : {g : Grammar} {is : List GItem} → IsLevel g.fences is → {ws vs : List (List ℕ)} → Words g is ws → Words g is vs → concat ws ≡ concat vs → (before : List GItem) (u : List ℕ) → IsLoose g before u → IsClear g (before ++ is) → ws ≡ vs
same_words level_none no_words no_words e before u lu clear = refl
same_words {g} (level_then {i = i} {is = js} plain l) (word_then {w = a} {ws = ws} h t) (word_then {w = b} {ws = vs} k q) e before u lu clear =
    let la : IsLoose g (i ∷ []) a = loose_then plain h loose_none (sym (append-nil a)) in
    let lb : IsLoose g (i ∷ []) b = loose_then plain k loose_none (sym (append-nil b)) in
    let head : a ≡ b = next_same {before = before} {stretch = i ∷ []} {rest = js} (omega arith) lu la lb (level_loose l t) (level_loose l q) (level_then plain level_none) clear e in
    let on : IsClear g ((before ++ i ∷ []) ++ js) = subst (IsClear g) (sym (append_assoc before (i ∷ []) js)) clear in
    let tail : ws ≡ vs = same_words l t q (cancel_same head e) (before ++ i ∷ []) (u ++ a) (loose_append lu la) on in
    cons_same head tail
same_words {g} (level_group {l = left} {r = right} {inside = inside} {after = js} f i l split) {ws} {vs} w v e before u lu clear =
    let p : Inner g left inside right js ws = in_group (subst (λ (x : List GItem). Words g x ws) split w) in
    let q : Inner g left inside right js vs = in_group (subst (λ (x : List GItem). Words g x vs) split v) in
    let a : List ℕ = left ∷ (concat p.middle ++ right ∷ []) in
    let b : List ℕ = left ∷ (concat q.middle ++ right ∷ []) in
    let group : List GItem = grouped left inside right [] in
    let la : IsLoose g group a = loose_group f (level_loose i p.of_middle) loose_none refl refl in
    let lb : IsLoose g group b = loose_group f (level_loose i q.of_middle) loose_none refl refl in
    let opened : IsClear g (before ++ grouped left inside right js) = subst (λ (x : List GItem). IsClear g (before ++ x)) split clear in
    let clear_on : IsClear g ((before ++ group) ++ js) = subst (IsClear g) (group_split before left inside right js) opened in
    let clear_next : IsClear g (before ++ (group ++ js)) = subst (IsClear g) (append_assoc before group js) clear_on in
    let level : IsLevel g.fences group = level_group f i level_none refl in
    let h : a ++ concat p.back ≡ b ++ concat q.back = sym (group_concat p) ∙ e ∙ group_concat q in
    let one : a ≡ b = next_same {before = before} {stretch = grouped left inside right []} {rest = js} (omega arith) lu la lb (level_loose l p.of_back) (level_loose l q.of_back) level clear_next h in
    let clear_in : IsClear g inside = λ c front rest k. opened (length before + suc c) front rest (cut_inside js (loose_level lu) f k refl refl) in
    let mid : p.middle ≡ q.middle = same_words i p.of_middle q.of_middle (group_same left right (concat p.middle) (concat q.middle) one) [] [] loose_none clear_in in
    let back : p.back ≡ q.back = same_words l p.of_back q.of_back (cancel_same one h) (before ++ group) (u ++ a) (loose_append lu la) clear_on in
    p.split ∙ group_parts left right mid back ∙ sym q.split

-- a cut lies above 0 where something comes before it, and below the length where something follows
cut_low : {fs : List (ℕ × ℕ)} {is front rest : List GItem} {c : ℕ} → IsCut fs is c front rest → 0 < length front → 0 < c
cut_low (cut_here a b e h) l = omega (arith, h)
cut_low (cut_inside after a f k e h) l = omega (arith, h)

cut_high : {fs : List (ℕ × ℕ)} {is front rest : List GItem} {c : ℕ} → IsCut fs is c front rest → 0 < length rest → c < length is
cut_high {front = front} {rest = rest} (cut_here a b e h) l = omega (arith, h, ap length e, length-append front rest)
cut_high (cut_inside {before = before} {inside = inside} {l = left} {r = right} after a f k e h) l =
    let low = cut_high k l in
    omega (arith, low, h, ap length e, length-append before (grouped left inside right after), length-append inside (Fixed (right ∷ []) ∷ after))

fixed_same : {u f : List ℕ} {ps qs : Parts} → u ≡ f → ps ≡ qs → fixed u ps ≡ fixed f qs
fixed_same e h = cc

leaf_same : {u f : List ℕ} {ps qs : Parts} → u ≡ f → ps ≡ qs → leaf u ps ≡ leaf f qs
leaf_same e h = cc

skip_same : {u f : List ℕ} {ps qs : Parts} → u ≡ f → ps ≡ qs → skip u ps ≡ skip f qs
skip_same e h = cc

sub_same : {q p : ℕ} {qs rs ps ts : Parts} → q ≡ p → qs ≡ rs → ps ≡ ts → sub q qs ps ≡ sub p rs ts
sub_same e h k = cc

pub clear_rule : (g : Grammar) → HasNoHorizontal g → (p : ℕ) → p < length g.rules → IsClear g (spread g p)
clear_rule g none p lt c front rest k lf lr x a y o = none p c x a y record { rule = lt; low = cut_low k lf; high = cut_high k lr; front = front; rest = rest; cut = k; overlap = o }

module _ (g : Grammar) (built : IsBuilt g) (apart : HasNoVertical g) (none : HasNoHorizontal g) where
  same_rule : (n p q : ℕ) (w : List ℕ) → IsRuleOf g n p → IsRuleOf g n q → IsLoose g (spread g p) w → IsLoose g (spread g q) w → p ≡ q
  same_rule n p q w of of' l l' =
      elim (cases_lt p q) [
        | inl less ↦ absurd (apart p q w record { non = n; first = of; second = of'; less = less; loose_first = l; loose_second = l' })
        | inr le ↦ elim (cases_lt q p) [
          | inl less ↦ absurd (apart q p w record { non = n; first = of'; second = of; less = less; loose_first = l'; loose_second = l })
          | inr ge ↦ omega arith
        ]
      ]

  -- the words of a rule's parts, split, are loose and spell the yield
  split_loose : (q : ℕ) (qs : Parts) → FitsItems g (items g q) qs → Words g (spread g q) (split_words g.fences (items g q) (part_words qs))
  split_loose q qs fit = spread_ok g.fences (words_of g built (items g q) qs fit)

  split_yield : (q : ℕ) (qs : Parts) → FitsItems g (items g q) qs → concat (split_words g.fences (items g q) (part_words qs)) ≡ parts_yield qs
  split_yield q qs fit = spread_concat g.fences (words_of g built (items g q) qs fit) ∙ part_words_join qs

  -- two derivations of n that spell one word are of one rule and have the same parts, where parts with the same words
  -- are the same
  same_node : (n q : ℕ) (qs : Parts) (p : ℕ) (rs : Parts) → IsRuleOf g n q → IsRuleOf g n p → FitsItems g (items g q) qs → FitsItems g (items g p) rs → parts_yield qs ≡ parts_yield rs
      → ((ts : Parts) → FitsItems g (items g q) ts → part_words qs ≡ part_words ts → qs ≡ ts) → (q ≡ p) × (qs ≡ rs)
  same_node n q qs p rs of of' fit fit' e inner =
      let lw : IsLoose g (spread g q) (parts_yield qs) = subst (λ (u : List ℕ). IsLoose g (spread g q) u) (split_yield q qs fit) (level_loose (built.proper.level q) (split_loose q qs fit)) in
      let lv : IsLoose g (spread g p) (parts_yield qs) = subst (λ (u : List ℕ). IsLoose g (spread g p) u) (split_yield p rs fit' ∙ sym e) (level_loose (built.proper.level p) (split_loose p rs fit')) in
      let one : q ≡ p = same_rule n q p (parts_yield qs) of of' lw lv in
      let here : FitsItems g (items g q) rs = subst (λ (r : ℕ). FitsItems g (items g r) rs) (sym one) fit' in
      let both : concat (split_words g.fences (items g q) (part_words qs)) ≡ concat (split_words g.fences (items g q) (part_words rs)) = split_yield q qs fit ∙ e ∙ sym (split_yield q rs here) in
      let split = same_words (built.proper.level q) (split_loose q qs fit) (split_loose q rs here) both [] [] loose_none (clear_rule g none q of.0) in
      let words : part_words qs ≡ part_words rs = spread_same g.fences (words_of g built (items g q) qs fit) (words_of g built (items g q) rs here) split in
      (one, inner rs here words)

  -- parts that fit the same items and have the same words are the same
  same_parts : (is : List GItem) (ps qs : Parts) → FitsItems g is ps → FitsItems g is qs → part_words ps ≡ part_words qs → ps ≡ qs
  same_parts [] done qs fit fit' e = sym (done_parts g qs fit')
  same_parts (Fixed f ∷ is) (fixed u ps) qs fit fit' e =
      let k = fixed_parts g f is qs fit' in
      let h = cons_parts (e ∙ ap part_words k.1) in
      fixed_same h.0 (same_parts is ps k.0 fit.1 k.2 h.1) ∙ sym k.1
  same_parts (Term t s ∷ is) (leaf u ps) qs fit fit' e =
      let k = leaf_parts g t s is qs fit' in
      let h = cons_parts (e ∙ ap part_words k.2) in
      leaf_same h.0 (same_parts is ps k.1 fit.1 k.4 h.1) ∙ sym k.2
  same_parts (Skip n ∷ is) (skip u ps) qs fit fit' e =
      let k = skip_parts g n is qs fit' in
      let h = cons_parts (e ∙ ap part_words k.2) in
      skip_same h.0 (same_parts is ps k.1 fit.1 k.4 h.1) ∙ sym k.2
  same_parts (Non n s ∷ is) (sub q qs ps) rs fit fit' e =
      let k = sub_parts g n s is rs fit' in
      let h = cons_parts (e ∙ ap part_words k.3) in
      let one = same_node n q qs k.0 k.1 fit.0 k.4 fit.1 k.5 h.0 (λ (ts : Parts) f x. same_parts (items g q) qs ts fit.1 f x) in
      sub_same one.0 one.1 (same_parts is ps k.2 fit.2 k.6 h.1) ∙ sym k.3
  same_parts is ps qs fit fit' e = absurd fit

derivation_same : {q p : ℕ} {qs rs : Parts} → q ≡ p → qs ≡ rs → ◌≡◌ {A = Derivation} (record { rule = q; parts = qs }) (record { rule = p; parts = rs })
derivation_same e h = cc

pub no_suspect_is_unique_at : NoSuspectIsUniqueAt
no_suspect_is_unique_at g built apart none non d e fit fit' same =
    let one = same_node g built apart none non d.rule d.parts e.rule e.parts fit.0 fit'.0 fit.1 fit'.1 same (λ (ts : Parts) f x. same_parts g built apart none (items g d.rule) d.parts ts fit.1 f x) in
    derivation_same one.0 one.1

pub no_suspect_is_unique : NoSuspectIsUnique
no_suspect_is_unique g built apart none w d e a b = no_suspect_is_unique_at g built apart none g.start d e a.0 b.0 (a.1 ∙ sym b.1)

pub accepted_is_unique : AcceptedIsUnique
accepted_is_unique text xml built built' a =
    (no_suspect_is_unique text built a.clear_text.0 a.clear_text.1, no_suspect_is_unique xml built' a.clear_xml.0 a.clear_xml.1)
