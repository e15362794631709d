-- Rows of moves, as they are appended.
use Rattle.std.proofs.Common.{◌≡◌, ◌≢◌, ◌∙◌, ◌⊎◌, ℕ, zero, suc, ◌+◌, ◌-◌, ◌*◌, ◌<◌, ◌≤◌, Bool, List, [], ◌∷◌, ◌++◌, length, get_or, Some, None, refl, sym, ap, subst, inl, inr, arith, append_assoc, length-append}
use Rattle.std.proofs.Math.ListN.{get_or-append}
use Rattle.std.proofs.Math.Nat.{mul-le-mul_left}
use Rattle.std.proofs.Math.Seq.{get_or-append_seam}
use Rattle.std.proofs.lemmas.Option.{get_or_from_slice_get, slice_get_within}
use Rattle.std.proofs.lemmas.List.Elements.{Contains-append_cases}
use Rattle.std.specs.Prelude.{slice_get, Contains, IsTrue, IfSome, Option}
use Rattle.xs_regex.specs.declared.position.Position.{Position}
use Rattle.xs_regex.specs.Automaton.{Leads}
use Rattle.xs_regex.specs.Marked.{Marked}
use Rattle.xs_atoms.specs.declared.atoms.Atoms.{Atoms}
use Rattle.xs_atoms.specs.Alphabet.{class_has}
use Rattle.xs_parse_table.specs.Moves.{stand, MayCome, MayEnd, cell_at, IsMove, AreMoves}
use Rattle.xs_parse_table.specs.Rows.{AreClassesOf, AreLonger, IsChoice, AreChoices, IsRow}
use Rattle.xs_parse_table.proofs.Moving.{moves_stay}

pub longer_again : {A : Type 0} (xs ys zs : List A) → AreLonger xs ys → AreLonger ys zs → AreLonger xs zs
longer_again xs ys zs (a, e) (b, f) = (a ++ b, f ∙ ap (λ (u : List _). u ++ b) e ∙ append_assoc xs a b)

longer_length : {A : Type 0} (xs ys : List A) → AreLonger xs ys → length xs ≤ length ys
longer_length xs ys (a, e) = omega (arith, ap (λ (u : List _). length u) e, length-append xs a)

longer_at : {A : Type 0} (xs ys : List A) (d : A) (k : ℕ) → AreLonger xs ys → k < length xs → get_or ys k d ≡ get_or xs k d
longer_at xs ys d k (a, e) h = ap (λ (u : List _). get_or u k d) e ∙ get_or-append xs a d k h

-- a row stands for the same set when there are more sets
stand_stays : (sets new : List (List ℕ)) (i : ℕ) → AreLonger sets new → i ≤ length sets → stand new i ≡ stand sets i
stand_stays sets new zero l h = refl
stand_stays sets new (suc i) l h = ap (λ (s : List ℕ). Some s) (longer_at sets new [] i l (omega arith))

choice_stays : (a : Atoms) (classes may : List ℕ) (start : ℕ) (sets new : List (List ℕ)) (x cell : ℕ) → AreLonger sets new → IsChoice a classes may start sets x cell → IsChoice a classes may start new x cell
choice_stays a classes may start sets new x cell l c = record {
  to = c.to;
  below = omega (arith, c.below, longer_length sets new l);
  leads = c.leads;
  chosen = subst (λ (s : List ℕ). (k : ℕ) → Contains s k → Contains may k × IsTrue (class_has a (get_or classes k 0) x)) (sym (longer_at sets new [] c.to l c.below)) c.chosen;
}

at_or : (y x : ℕ) → y < x + 1 → (y < x) ⊎ (y ≡ x)
at_or zero zero h = inr refl
at_or (suc y) zero h = absurd (omega arith)
at_or zero (suc x) h = inl (omega arith)
at_or (suc y) (suc x) h = elim (at_or y x (omega arith)) [ inl a ↦ inl (omega arith) | inr b ↦ inr (omega arith) ]

-- one more cell of a row
pub choices_more : (a : Atoms) (classes may : List ℕ) (start : ℕ) (sets new : List (List ℕ)) (cells more : List ℕ) (first x number cell : ℕ) (set : List ℕ) → AreChoices a classes may start sets cells first x → AreLonger sets new → length cells ≡ first + x → slice_get new number ≡ Some set → cell ≡ start + suc number * suc a.count → ((k : ℕ) → Contains set k → Contains may k × IsTrue (class_has a (get_or classes k 0) x)) → more ≡ cells ++ cell ∷ [] → AreChoices a classes may start new more first (x + 1)
choices_more a classes may start sets new cells more first x number cell set old l len there leads chosen e y h = elim (at_or y x (omega arith)) [
  | inl below ↦
      let same : cell_at more (first + y) ≡ cell_at cells (first + y) = ap (λ (u : List ℕ). get_or u (first + y) 0) e ∙ get_or-append cells (cell ∷ []) 0 (first + y) (omega arith) in
      subst (λ k. IsChoice a classes may start new y k) (sym same) (choice_stays a classes may start sets new y (cell_at cells (first + y)) l (old y below))
  | inr last ↦
      let here : cell_at more (first + y) ≡ cell =
      ap (λ k. cell_at more k) (omega arith) ∙ ap (λ (u : List ℕ). get_or u (length cells) 0) e ∙ get_or-append_seam cells cell [] 0 in
      subst (λ k. IsChoice a classes may start new k (cell_at more (first + y))) (sym last) (subst (λ k. IsChoice a classes may start new x k) (sym here) (record {
        to = number;
        below = slice_get_within new number set there;
        leads = leads;
        chosen = subst (λ (s : List ℕ). (k : ℕ) → Contains s k → Contains may k × IsTrue (class_has a (get_or classes k 0) x)) (sym (get_or_from_slice_get new number set [] there)) chosen;
      }))
]

-- a whole row
pub row_of : (p : Position) (a : Atoms) (classes may : List ℕ) (start row : ℕ) (old sets : List (List ℕ)) (cells all : List ℕ) (first flag : ℕ) (ends : Bool) → AreClassesOf p a classes → ((k : ℕ) → Contains may k → MayCome p (stand old row) k) → ((k : ℕ) → Contains may k → k < length p.classes) → AreLonger old sets → row ≤ length old → AreChoices a classes may start sets cells first a.count → length cells ≡ first + a.count → all ≡ cells ++ flag ∷ [] → (flag ≡ 1 → IsTrue ends) → (IsTrue ends → MayEnd p (stand sets row)) → IsRow p a sets start row all first
row_of p a classes may start row old sets cells all first flag ends are come within l r choices len e f m = record {
  moves = λ x h.
      let c = choices x h in
      let same : cell_at all (first + x) ≡ cell_at cells (first + x) = ap (λ (u : List ℕ). get_or u (first + x) 0) e ∙ get_or-append cells (flag ∷ []) 0 (first + x) (omega arith) in
      subst (λ k. IsMove p a sets start row x k) (sym same) (record {
        to = c.to;
        below = c.below;
        leads = c.leads;
        step = λ k h.
            let t = c.chosen k h in
            (subst (λ (o : Option (List ℕ)). MayCome p o k) (sym (stand_stays old sets row l r)) (come k t.0), λ s atom. are k s (within k t.0) (subst (λ y. IsTrue (class_has a (get_or classes k 0) y)) (sym atom) t.1));
      });
  ends = λ one. m (f (sym last ∙ one));
}
  where
    last : cell_at all (first + a.count) ≡ flag
    last = ap (λ k. cell_at all k) (sym len) ∙ ap (λ (u : List ℕ). get_or u (length cells) 0) e ∙ get_or-append_seam cells flag [] 0

pub row_stays : (p : Position) (a : Atoms) (sets new : List (List ℕ)) (start i : ℕ) (cells more : List ℕ) (first : ℕ) → AreLonger sets new → AreLonger cells more → i ≤ length sets → first + suc a.count ≤ length cells → IsRow p a sets start i cells first → IsRow p a new start i more first
row_stays p a sets new start i cells more first l m h w row = record {
  moves = λ x b.
      let old = row.moves x b in
      subst (λ k. IsMove p a new start i x k) (sym (longer_at cells more 0 (first + x) m (omega arith))) (record {
        to = old.to;
        below = omega (arith, old.below, longer_length sets new l);
        leads = old.leads;
        step = λ k c.
            let t = old.step k (subst (λ (s : List ℕ). Contains s k) (longer_at sets new [] old.to l old.below) c) in
            (subst (λ (o : Option (List ℕ)). MayCome p o k) (sym (stand_stays sets new i l h)) t.0, t.1);
      });
  ends = λ one. subst (λ (o : Option (List ℕ)). MayEnd p o) (sym (stand_stays sets new i l h)) (row.ends (sym (longer_at cells more 0 (first + a.count) m (omega arith)) ∙ one));
}

-- the rows so far
pub record AreRows (p : Position) (a : Atoms) (old : List ℕ) (start : ℕ) (sets : List (List ℕ)) (cells : List ℕ) (count : ℕ) : Type 0 where
  pub begins : start ≡ length old
  pub longer : AreLonger old cells
  pub long : length cells ≡ start + count * suc a.count
  pub few : count ≤ suc (length sets)
  pub rows : (i : ℕ) → i < count → IsRow p a sets start i cells (start + i * suc a.count)

pub rows_more : (p : Position) (a : Atoms) (old : List ℕ) (start : ℕ) (sets new : List (List ℕ)) (cells more : List ℕ) (count : ℕ) → AreRows p a old start sets cells count → count ≤ length sets → AreLonger sets new → AreLonger cells more → length more ≡ length cells + suc a.count → IsRow p a new start count more (length cells) → AreRows p a old start new more (count + 1)
rows_more p a old start sets new cells more count r h l m len row = record {
  begins = r.begins;
  longer = longer_again old cells more r.longer m;
  long = omega (arith, len, r.long);
  few = omega (arith, h, longer_length sets new l);
  rows = λ i b. elim (at_or i count b) [
    | inl below ↦ row_stays p a sets new start i cells more (start + i * suc a.count) l m (omega arith) (inside i below) (r.rows i below)
    | inr last ↦ subst (λ k. IsRow p a new start k more (start + k * suc a.count)) (sym last) (subst (λ k. IsRow p a new start count more k) r.long row)
  ];
}
  where
    inside : (i : ℕ) → i < count → start + i * suc a.count + suc a.count ≤ length cells
    inside i b = let up : suc a.count * suc i ≤ suc a.count * count = mul-le-mul_left {m = suc i} {n = count} (suc a.count) (omega arith) in omega (arith, r.long, up)

pub rows_begun : (p : Position) (a : Atoms) (old : List ℕ) (start : ℕ) → start ≡ length old → AreRows p a old start [] old 0
rows_begun p a old start e = record {
  begins = e;
  longer = ([], sym (no_more old));
  long = omega (arith, e);
  few = omega arith;
  rows = λ i b. absurd (omega arith);
}
  where
    no_more : (xs : List ℕ) → xs ++ [] ≡ xs
    no_more [] = refl
    no_more (x ∷ xs) = ap (λ (u : List ℕ). x ∷ u) (no_more xs)

pub rows_done : (p : Position) (a : Atoms) (old : List ℕ) (start : ℕ) (sets : List (List ℕ)) (cells : List ℕ) (count : ℕ) → AreRows p a old start sets cells count → length sets < count → AreMoves p a cells start
rows_done p a old start sets cells count r h = record {
  sets = sets;
  within = let e : count ≡ suc (length sets) = omega (arith, r.few) in omega (arith, r.long, ap (λ n. n * suc a.count) e);
  moves = λ i x b c. (r.rows i (omega arith)).moves x c;
  ends = λ i b. (r.rows i (omega arith)).ends;
}

-- a list with one number more
pub number_pushed : (P : ℕ → Type 0) (old new : List ℕ) (x : ℕ) → new ≡ old ++ x ∷ [] → P x → ((k : ℕ) → Contains old k → P k) → (k : ℕ) → Contains new k → P k
number_pushed P old new x e here before k c = elim (Contains-append_cases old (x ∷ []) k (subst (λ (u : List ℕ). Contains u k) e c)) [
  | inl a ↦ before k a
  | inr b ↦ subst (λ y. P y) (one_is x k b.0 b.1 b.2) here
]
  where
    one_is : (x k i : ℕ) → i < length (x ∷ []) → get_or (x ∷ []) i k ≡ k → x ≡ k
    one_is x k zero l e = e
    one_is x k (suc i) l e = absurd (omega arith)

pub come_first : (p : Position) (sets : List (List ℕ)) (row k : ℕ) → row ≡ 0 → Contains p.first k → MayCome p (stand sets row) k
come_first p sets row k e c = subst (λ r. MayCome p (stand sets r) k) (sym e) c

any_default : (xs : List (List ℕ)) (i : ℕ) (a b : List ℕ) → i < length xs → get_or xs i a ≡ get_or xs i b
any_default [] i a b h = absurd (omega arith)
any_default (x ∷ xs) zero a b h = refl
any_default (x ∷ xs) (suc i) a b h = any_default xs i a b (omega arith)

pub come_next : (p : Position) (sets : List (List ℕ)) (row k : ℕ) (set : List ℕ) → row ≢ 0 → row ≤ length sets → set ≡ get_or sets (row - 1) set → (j : ℕ) × Contains set j × Leads p j k → MayCome p (stand sets row) k
come_next p sets zero k set n l e h = absurd (n refl)
come_next p sets (suc i) k set n l e h =
    let one : suc i - 1 ≡ i = omega arith in
    let same : set ≡ get_or sets i [] = e ∙ ap (λ j. get_or sets j set) one ∙ any_default sets i set [] (omega arith) in
    (h.0, subst (λ (s : List ℕ). Contains s h.0) same h.1, h.2)

pub longer_moves : (p : Position) (a : Atoms) (cells new : List ℕ) (start : ℕ) → AreLonger cells new → AreMoves p a cells start → AreMoves p a new start
longer_moves p a cells new start l m = subst (λ (c : List ℕ). AreMoves p a c start) (sym l.1) (moves_stay p a cells l.0 start m)

get_before : (xs : List (Option ℕ)) (x : Option ℕ) (t : ℕ) → t < length xs → slice_get (xs ++ x ∷ []) t ≡ slice_get xs t
get_before [] x t h = absurd (omega arith)
get_before (y ∷ xs) x zero h = refl
get_before (y ∷ xs) x (suc t) h = get_before xs x t (omega arith)

get_end : (xs : List (Option ℕ)) (x : Option ℕ) → slice_get (xs ++ x ∷ []) (length xs) ≡ Some x
get_end [] x = refl
get_end (y ∷ xs) x = get_end xs x

-- the starts with one more
pub starts_more : (p : ℕ → Position) (a : Atoms) (cells new : List ℕ) (starts more : List (Option ℕ)) (n : ℕ) (start : Option ℕ) → length starts ≡ n → more ≡ starts ++ start ∷ [] → AreLonger cells new → ((t s : ℕ) → t < n → slice_get starts t ≡ Some (Some s) → AreMoves (p t) a cells s) → IfSome start (AreMoves (p n) a new) → (t s : ℕ) → t < n + 1 → slice_get more t ≡ Some (Some s) → AreMoves (p t) a new s
starts_more p a cells new starts more n start len e l before here t s h at = elim (at_or t n h) [
  | inl below ↦
      longer_moves (p t) a cells new s l (before t s below (sym (ap (λ (u : List (Option ℕ)). slice_get u t) e ∙ get_before starts start t (omega arith)) ∙ at))
  | inr last ↦
      let found : Some start ≡ Some (Some s) = sym (get_end starts start) ∙ ap (λ k. slice_get (starts ++ start ∷ []) k) (len ∙ sym last) ∙ sym (ap (λ (u : List (Option ℕ)). slice_get u t) e) ∙ at in
      subst (λ k. AreMoves (p k) a new s) (sym last) (has start (of_some start (Some s) found) here)
]
  where
    of_some : (x y : Option ℕ) → Some x ≡ Some y → x ≡ y
    of_some x y e = cc

    has : (o : Option ℕ) → o ≡ Some s → IfSome o (AreMoves (p n) a new) → AreMoves (p n) a new s
    has None e h = cc
    has (Some k) e h = let is : k ≡ s = of_some_number k s e in subst (λ x. AreMoves (p n) a new x) is h
      where
        of_some_number : (x y : ℕ) → Some x ≡ Some y → x ≡ y
        of_some_number x y e = cc

pub marked_within : (flags : List Bool) (k : ℕ) → Marked flags k → k < length flags
marked_within [] k m = cc
marked_within (b ∷ flags) zero m = omega arith
marked_within (b ∷ flags) (suc k) m = omega (arith, marked_within flags k m)
