-- The number of a place: where its rule begins, where its item begins in the rule, and the position inside.
use Rattle.std.proofs.Common.{◌≡◌, ◌⊎◌, inl, inr, ℕ, suc, zero, ◌+◌, ◌<◌, ◌≤◌, List, [], ◌∷◌, ◌++◌, length, refl, sym, ◌∙◌, ap, subst, arith, Some, None, slice_get, slice_index_or}
use Rattle.std.specs.declared.option.Option.{Option}
use Rattle.std.proofs.lemmas.Option.{same_Some}
use Rattle.xs_class.proofs.Lists.{get_left}
use Rattle.xs_gram.specs.declared.parts.GItem.{GItem}
use Rattle.xs_gram.specs.declared.parts.RulePart.{RulePart}
use Rattle.xs_gram.specs.declared.places.Place.{Place}
use Rattle.xs_gram.specs.Grammar.{Grammar, no_rule, items}
use Rattle.xs_gram.specs.Places.{at_dot, at_inside, positions_of, insides, rule_places, places_from, all_places, IsPlace}

-- where item d begins, counted from the beginning of its rule
abbrev pub offset : Grammar → List GItem → ℕ → ℕ
offset g is zero = 0
offset g [] (suc d) = 0
offset g (i ∷ is) (suc d) = suc (positions_of g i + offset g is d)

-- how far after its item's beginning a place is
abbrev pub inner : Option ℕ → ℕ
inner None = 0
inner (Some k) = suc k

-- where rule q begins
abbrev pub base : Grammar → ℕ → List RulePart → ℕ → ℕ
base g p rs zero = 0
base g p [] (suc q) = 0
base g p (r ∷ rs) (suc q) = length (rule_places g p 0 r.items) + base g (p + 1) rs q

-- an element of two lists joined is of the first or of the second
get_split : {A : Type 0} (xs ys : List A) (k : ℕ) (c : A) → slice_get (xs ++ ys) k ≡ Some c → ((k < length xs) × (slice_get xs k ≡ Some c)) ⊎ ((m : ℕ) × (k ≡ length xs + m) × (slice_get ys m ≡ Some c))
get_split [] ys k c is = inr (k, omega arith, is)
get_split (x ∷ xs) ys zero c is = inl (omega arith, is)
get_split (x ∷ xs) ys (suc k) c is = next (get_split xs ys k c is)
  where
    next : ((k < length xs) × (slice_get xs k ≡ Some c)) ⊎ ((m : ℕ) × (k ≡ length xs + m) × (slice_get ys m ≡ Some c)) → ((suc k < length (x ∷ xs)) × (slice_get (x ∷ xs) (suc k) ≡ Some c)) ⊎ ((m : ℕ) × (suc k ≡ length (x ∷ xs) + m) × (slice_get ys m ≡ Some c))
    next (inl (lt, there)) = inl (omega arith, there)
    next (inr (m, e, there)) = inr (m, omega (arith, e), there)

get_right : {A : Type 0} (xs ys : List A) (k m : ℕ) (c : A) → m ≡ length xs + k → slice_get ys k ≡ Some c → slice_get (xs ++ ys) m ≡ Some c
get_right [] ys k m c e is = subst (λ n. slice_get ys n ≡ Some c) (omega (arith, e)) is
get_right (x ∷ xs) ys k zero c e is = absurd (omega (arith, e))
get_right (x ∷ xs) ys k (suc m) c e is = get_right xs ys k m c (omega (arith, e)) is

pub length-insides : (p n k count : ℕ) → length (insides p n k count) ≡ count
length-insides p n k zero = refl
length-insides p n k (suc count) = ap suc (length-insides p n (k + 1) count)

insides_at : (p n k count j : ℕ) (c : Place) → slice_get (insides p n k count) j ≡ Some c → (c ≡ at_inside p n (k + j)) × (j < count)
insides_at p n k zero zero c is = absurd (none is)
  where
    none : None ≡ Some c → ⊥
    none e = cc
insides_at p n k zero (suc j) c is = absurd (none is)
  where
    none : None ≡ Some c → ⊥
    none e = cc
insides_at p n k (suc count) zero c is = (sym (same_Some _ _ is) ∙ ap (λ m. at_inside p n m) (omega arith), omega arith)
insides_at p n k (suc count) (suc j) c is =
    let rest = insides_at p n (k + 1) count j c is in
    (rest.0 ∙ ap (λ m. at_inside p n m) (omega arith), omega (arith, rest.1))

insides_get : (p n k count j : ℕ) → j < count → slice_get (insides p n k count) j ≡ Some (at_inside p n (k + j))
insides_get p n k zero j lt = absurd (omega arith)
insides_get p n k (suc count) zero lt = ap (λ m. Some (at_inside p n m)) (omega arith)
insides_get p n k (suc count) (suc j) lt = insides_get p n (k + 1) count j (omega arith) ∙ ap (λ m. Some (at_inside p n m)) (omega arith)

-- a place of a rule whose items from n on these are
pub record IsLocated (g : Grammar) (p n : ℕ) (is : List GItem) (c : Place) (j : ℕ) : Type 0 where
  pub steps : ℕ
  pub rule_is : c.rule ≡ p
  pub dot_is : c.dot ≡ n + steps
  pub within : steps ≤ length is
  pub at : j ≡ offset g is steps + inner c.inside
  pub inside : (k : ℕ) → c.inside ≡ Some k → (item : GItem) × (slice_get is steps ≡ Some item) × (k < positions_of g item)

located : (g : Grammar) (p n : ℕ) (is : List GItem) (c : Place) (j : ℕ) → slice_get (rule_places g p n is) j ≡ Some c → IsLocated g p n is c j
located g p n [] c zero is_c = subst (λ x. IsLocated g p n [] x zero) (same_Some _ _ is_c) (record { steps = 0; rule_is = refl; dot_is = omega arith; within = omega arith; at = refl; inside = λ k e. absurd (none k e) })
  where
    none : (k : ℕ) → None ≡ Some k → ⊥
    none k e = cc
located g p n [] c (suc j) is_c = absurd (none j is_c)
  where
    none : (j : ℕ) → slice_get [] j ≡ Some c → ⊥
    none zero e = cc
    none (suc j) e = cc
located g p n (i ∷ is) c zero is_c = subst (λ x. IsLocated g p n (i ∷ is) x zero) (same_Some _ _ is_c) (record { steps = 0; rule_is = refl; dot_is = omega arith; within = omega arith; at = refl; inside = λ k e. absurd (none k e) })
  where
    none : (k : ℕ) → None ≡ Some k → ⊥
    none k e = cc
located g p n (i ∷ is) c (suc j) is_c = either (λ m there. located g p (n + 1) is c m there) (get_split (insides p n 0 (positions_of g i)) (rule_places g p (n + 1) is) j c is_c)
  where
    inside_here : (c ≡ at_inside p n (0 + j)) → (j < positions_of g i) → IsLocated g p n (i ∷ is) c (suc j)
    inside_here e lt = subst (λ x. IsLocated g p n (i ∷ is) x (suc j)) (sym e) (record { steps = 0; rule_is = refl; dot_is = omega arith; within = omega arith; at = omega arith; inside = λ k e'. (i, refl, omega (arith, same_Some _ _ e', lt)) })

    further : (m : ℕ) → j ≡ length (insides p n 0 (positions_of g i)) + m → IsLocated g p (n + 1) is c m → IsLocated g p n (i ∷ is) c (suc j)
    further m e r = record {
      steps = suc r.steps;
      rule_is = r.rule_is;
      dot_is = omega (arith, r.dot_is);
      within = omega (arith, r.within);
      at = omega (arith, e, length-insides p n 0 (positions_of g i), r.at);
      inside = r.inside;
    }

    either : ((m : ℕ) → slice_get (rule_places g p (n + 1) is) m ≡ Some c → IsLocated g p (n + 1) is c m) → ((j < length (insides p n 0 (positions_of g i))) × (slice_get (insides p n 0 (positions_of g i)) j ≡ Some c)) ⊎ ((m : ℕ) × (j ≡ length (insides p n 0 (positions_of g i)) + m) × (slice_get (rule_places g p (n + 1) is) m ≡ Some c)) → IsLocated g p n (i ∷ is) c (suc j)
    either rest (inl (lt, there)) = let at = insides_at p n 0 (positions_of g i) j c there in inside_here at.0 at.1
    either rest (inr (m, e, there)) = further m e (rest m there)

-- a place of the rules from p on
pub record IsFound (g : Grammar) (p : ℕ) (rs : List RulePart) (c : Place) (k : ℕ) : Type 0 where
  pub steps : ℕ
  pub j : ℕ
  pub rule_is : c.rule ≡ p + steps
  pub within : steps < length rs
  pub in_rule : IsLocated g (p + steps) 0 (slice_index_or rs steps no_rule).items c j
  pub at : k ≡ base g p rs steps + j

located_from : (g : Grammar) (p : ℕ) (rs : List RulePart) (c : Place) (k : ℕ) → slice_get (places_from g p rs) k ≡ Some c → IsFound g p rs c k
located_from g p [] c k is_c = absurd (none k is_c)
  where
    none : (k : ℕ) → slice_get [] k ≡ Some c → ⊥
    none zero e = cc
    none (suc k) e = cc
located_from g p (r ∷ rs) c k is_c = either (λ m there. located_from g (p + 1) rs c m there) (get_split (rule_places g p 0 r.items) (places_from g (p + 1) rs) k c is_c)
  where
    first : IsLocated g p 0 r.items c k → IsFound g p (r ∷ rs) c k
    first l = record { steps = 0; j = k; rule_is = omega (arith, l.rule_is); within = omega arith; in_rule = subst (λ q. IsLocated g q 0 r.items c k) (omega arith) l; at = omega arith }

    further : (m : ℕ) → k ≡ length (rule_places g p 0 r.items) + m → IsFound g (p + 1) rs c m → IsFound g p (r ∷ rs) c k
    further m e f = record {
      steps = suc f.steps;
      j = f.j;
      rule_is = omega (arith, f.rule_is);
      within = omega (arith, f.within);
      in_rule = subst (λ q. IsLocated g q 0 (slice_index_or rs f.steps no_rule).items c f.j) (omega arith) f.in_rule;
      at = omega (arith, e, f.at);
    }

    either : ((m : ℕ) → slice_get (places_from g (p + 1) rs) m ≡ Some c → IsFound g (p + 1) rs c m) → ((k < length (rule_places g p 0 r.items)) × (slice_get (rule_places g p 0 r.items) k ≡ Some c)) ⊎ ((m : ℕ) × (k ≡ length (rule_places g p 0 r.items) + m) × (slice_get (places_from g (p + 1) rs) m ≡ Some c)) → IsFound g p (r ∷ rs) c k
    either rest (inl (lt, there)) = first (located g p 0 r.items c k there)
    either rest (inr (m, e, there)) = further m e (rest m there)

-- the number by the place alone
number_of : Grammar → Place → ℕ
number_of g c = base g 0 g.rules c.rule + (offset g (items g c.rule) c.dot + inner c.inside)

numbered : (g : Grammar) (c : Place) (k : ℕ) → slice_get (all_places g) k ≡ Some c → k ≡ number_of g c
unfolding number_of
numbered g c k is =
    let f = located_from g 0 g.rules c k is in
    let rule : f.steps ≡ c.rule = omega (arith, f.rule_is) in
    let dot : f.in_rule.steps ≡ c.dot = omega (arith, f.in_rule.dot_is) in
    f.at ∙ ap (λ j. base g 0 g.rules f.steps + j) (f.in_rule.at ∙ ap (λ d. offset g (slice_index_or g.rules f.steps no_rule).items d + inner c.inside) dot) ∙ ap (λ q. base g 0 g.rules q + (offset g (slice_index_or g.rules q no_rule).items c.dot + inner c.inside)) rule

-- each place stands at one number
pub place_once : (g : Grammar) (c : Place) (k l : ℕ) → slice_get (all_places g) k ≡ Some c → slice_get (all_places g) l ≡ Some c → k ≡ l
place_once g c k l is_k is_l = numbered g c k is_k ∙ sym (numbered g c l is_l)

-- what is listed is a place
pub listed_is_place : (g : Grammar) (c : Place) (k : ℕ) → slice_get (all_places g) k ≡ Some c → IsPlace g c
listed_is_place g c k is =
    let f = located_from g 0 g.rules c k is in
    let rule : f.steps ≡ c.rule = omega (arith, f.rule_is) in
    let dot : f.in_rule.steps ≡ c.dot = omega (arith, f.in_rule.dot_is) in
    record {
      rule = omega (arith, f.within, rule);
      dot = subst (λ q. c.dot ≤ length (slice_index_or g.rules q no_rule).items) rule (omega (arith, f.in_rule.within, dot));
      inside = λ k e. subst (λ q. (item : GItem) × (slice_get (slice_index_or g.rules q no_rule).items c.dot ≡ Some item) × (k < positions_of g item)) rule
          (subst (λ d. (item : GItem) × (slice_get (slice_index_or g.rules f.steps no_rule).items d ≡ Some item) × (k < positions_of g item)) dot (f.in_rule.inside k e));
    }

dot_get : (g : Grammar) (p n : ℕ) (is : List GItem) (d : ℕ) → d ≤ length is → slice_get (rule_places g p n is) (offset g is d) ≡ Some (at_dot p (n + d))
dot_get g p n [] zero le = ap (λ m. Some (at_dot p m)) (omega arith)
dot_get g p n [] (suc d) le = absurd (omega arith)
dot_get g p n (i ∷ is) zero le = ap (λ m. Some (at_dot p m)) (omega arith)
dot_get g p n (i ∷ is) (suc d) le =
    get_right (insides p n 0 (positions_of g i)) (rule_places g p (n + 1) is) (offset g is d) (positions_of g i + offset g is d) (at_dot p (n + suc d)) (omega (arith, length-insides p n 0 (positions_of g i)))
    (dot_get g p (n + 1) is d (omega arith) ∙ ap (λ m. Some (at_dot p m)) (omega arith))

inside_get : (g : Grammar) (p n : ℕ) (is : List GItem) (d k : ℕ) (item : GItem) → slice_get is d ≡ Some item → k < positions_of g item → slice_get (rule_places g p n is) (offset g is d + suc k) ≡ Some (at_inside p (n + d) k)
inside_get g p n [] zero k item is_item lt = absurd (none is_item)
  where
    none : None ≡ Some item → ⊥
    none e = cc
inside_get g p n [] (suc d) k item is_item lt = absurd (none is_item)
  where
    none : None ≡ Some item → ⊥
    none e = cc
inside_get g p n (i ∷ is) zero k item is_item lt =
    let below : k < positions_of g i = subst (λ x. k < positions_of g x) (sym (same_Some _ _ is_item)) lt in
    let there : slice_get (insides p n 0 (positions_of g i)) k ≡ Some (at_inside p n (0 + k)) = insides_get p n 0 (positions_of g i) k below in
    let whole : slice_get (rule_places g p n (i ∷ is)) (suc k) ≡ Some (at_inside p n (0 + k)) = get_left (insides p n 0 (positions_of g i)) (rule_places g p (n + 1) is) k (at_inside p n (0 + k)) there in
    let here : 0 + suc k ≡ suc k = omega arith in
    ap (λ m. slice_get (rule_places g p n (i ∷ is)) m) here ∙ whole ∙ ap (λ x. Some x) (same (0 + k) k n (n + 0) (omega arith) (omega arith))
  where
    same : (a b c d : ℕ) → a ≡ b → c ≡ d → at_inside p c a ≡ at_inside p d b
    same a b c d e f = rw (e, f) refl
inside_get g p n (i ∷ is) (suc d) k item is_item lt =
    let there : slice_get (rule_places g p (n + 1) is) (offset g is d + suc k) ≡ Some (at_inside p (n + suc d) k) = inside_get g p (n + 1) is d k item is_item lt ∙ ap (λ m. Some (at_inside p m k)) (omega arith) in
    let whole : slice_get (rule_places g p n (i ∷ is)) (suc (positions_of g i + (offset g is d + suc k))) ≡ Some (at_inside p (n + suc d) k) = get_right (insides p n 0 (positions_of g i)) (rule_places g p (n + 1) is) (offset g is d + suc k) (positions_of g i + (offset g is d + suc k)) (at_inside p (n + suc d) k) (omega (arith, length-insides p n 0 (positions_of g i))) there in
    let here : offset g (i ∷ is) (suc d) + suc k ≡ suc (positions_of g i + (offset g is d + suc k)) = omega arith in
    ap (λ m. slice_get (rule_places g p n (i ∷ is)) m) here ∙ whole

rule_get : (g : Grammar) (p : ℕ) (rs : List RulePart) (q j : ℕ) (c : Place) → q < length rs → slice_get (rule_places g (p + q) 0 (slice_index_or rs q no_rule).items) j ≡ Some c → slice_get (places_from g p rs) (base g p rs q + j) ≡ Some c
rule_get g p [] q j c lt is = absurd (omega arith)
rule_get g p (r ∷ rs) zero j c lt is =
    let there : slice_get (rule_places g p 0 r.items) j ≡ Some c = subst (λ m. slice_get (rule_places g m 0 r.items) j ≡ Some c) (omega arith) is in
    let here : 0 + j ≡ j = omega arith in
    ap (λ m. slice_get (places_from g p (r ∷ rs)) m) here ∙ get_left (rule_places g p 0 r.items) (places_from g (p + 1) rs) j c there
rule_get g p (r ∷ rs) (suc q) j c lt is =
    let there : slice_get (places_from g (p + 1) rs) (base g (p + 1) rs q + j) ≡ Some c = rule_get g (p + 1) rs q j c (omega arith) (subst (λ m. slice_get (rule_places g m 0 (slice_index_or rs q no_rule).items) j ≡ Some c) (omega arith) is) in
    get_right (rule_places g p 0 r.items) (places_from g (p + 1) rs) (base g (p + 1) rs q + j) (base g p (r ∷ rs) (suc q) + j) c (omega arith) there

-- the place before item n of rule p, and the positions after it
pub dot_there : (g : Grammar) (p n : ℕ) → p < length g.rules → n ≤ length (items g p) → slice_get (all_places g) (base g 0 g.rules p + offset g (items g p) n) ≡ Some (at_dot p n)
dot_there g p n lt le = rule_get g 0 g.rules p (offset g (items g p) n) (at_dot p n) lt (same (0 + p) p (0 + n) n (omega arith) (omega arith) (dot_get g (0 + p) 0 (items g p) n le))
  where
    same : (a b c d : ℕ) → a ≡ b → c ≡ d → slice_get (rule_places g a 0 (items g p)) (offset g (items g p) n) ≡ Some (at_dot a c) → slice_get (rule_places g a 0 (items g p)) (offset g (items g p) n) ≡ Some (at_dot b d)
    same a b c d e f is = is ∙ rw (e, f) refl

pub inside_there : (g : Grammar) (p n k start : ℕ) (item : GItem) → p < length g.rules → slice_get (items g p) n ≡ Some item → n ≤ length (items g p) → k < positions_of g item → slice_get (all_places g) start ≡ Some (at_dot p n) → slice_get (all_places g) (start + 1 + k) ≡ Some (at_inside p n k)
inside_there g p n k start item lt is_item le below is_start =
    let first : start ≡ base g 0 g.rules p + offset g (items g p) n = place_once g (at_dot p n) start (base g 0 g.rules p + offset g (items g p) n) is_start (dot_there g p n lt le) in
    let there : slice_get (all_places g) (base g 0 g.rules p + (offset g (items g p) n + suc k)) ≡ Some (at_inside p n k) = rule_get g 0 g.rules p (offset g (items g p) n + suc k) (at_inside p n k) lt (same (0 + p) p (0 + n) n (omega arith) (omega arith) (inside_get g (0 + p) 0 (items g p) n k item is_item below)) in
    let here : start + 1 + k ≡ base g 0 g.rules p + (offset g (items g p) n + suc k) = omega (arith, first) in
    ap (λ m. slice_get (all_places g) m) here ∙ there
  where
    same : (a b c d : ℕ) → a ≡ b → c ≡ d → slice_get (rule_places g a 0 (items g p)) (offset g (items g p) n + suc k) ≡ Some (at_inside a c k) → slice_get (rule_places g a 0 (items g p)) (offset g (items g p) n + suc k) ≡ Some (at_inside b d k)
    same a b c d e f is = is ∙ rw (e, f) refl

-- a place by what is inside it
pub as_dot : (c : Place) → c.inside ≡ None → at_dot c.rule c.dot ≡ c
as_dot c e = ap (λ (o : Option ℕ). same o) (sym e)
  where
    same : Option ℕ → Place
    same o = record { rule = c.rule; dot = c.dot; inside = o }

pub as_inside : (c : Place) (k : ℕ) → c.inside ≡ Some k → at_inside c.rule c.dot k ≡ c
as_inside c k e = ap (λ (o : Option ℕ). same o) (sym e)
  where
    same : Option ℕ → Place
    same o = record { rule = c.rule; dot = c.dot; inside = o }

-- the number of a place inside an item, after that of the place before the item
pub number_inside : (g : Grammar) (c : Place) (k start : ℕ) → IsPlace g c → c.inside ≡ Some k → slice_get (all_places g) start ≡ Some (at_dot c.rule c.dot) → slice_get (all_places g) (start + 1 + k) ≡ Some c
number_inside g c k start place is is_start =
    let there = place.inside k is in
    inside_there g c.rule c.dot k start there.0 place.rule there.1 place.dot there.2 is_start ∙ ap (λ x. Some x) (as_inside c k is)

pub number_dot : (g : Grammar) (c : Place) (start : ℕ) → c.inside ≡ None → slice_get (all_places g) start ≡ Some (at_dot c.rule c.dot) → slice_get (all_places g) start ≡ Some c
number_dot g c start is is_start = is_start ∙ ap (λ x. Some x) (as_dot c is)
