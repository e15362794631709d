-- What pairs need, one after another.
use Rattle.std.proofs.Common.{◌≡◌, ℕ, ◌+◌, ◌<◌, ◌≤◌, ◌⊎◌, List, [], ◌∷◌, ◌++◌, length, get_or, take, Option, Some, None, sym, ap, ◌∙◌, inl, inr, arith}
use Rattle.std.proofs.lemmas.List.{take_more, take_all}
use Rattle.std.proofs.lemmas.List.Elements.{Contains-append_left, Contains-push, Contains-push_cases, Contains-get_or}
use Rattle.xs_class.specs.Classes.{Has}
use Rattle.xs_auto.specs.declared.call.Call.{Call}
use Rattle.xs_auto.specs.Edges.{Edge}
use Rattle.xs_auto.specs.Nets.{Graph, edges_of, calls_of}
use Rattle.xs_closed.specs.Rows.{Grid}
use Rattle.xs_closed.specs.Search.{OneOf, IsPair, Meets, Joins}
use Rattle.xs_closed.specs.Testing.{StridesBy, Raises, Lacks, IsNeed}

-- no pair needs nothing
pub raises_none : (z : Grid) {T : ℕ → ℕ → Type 0} (old : ℕ) → ((c d : ℕ) → T c d → ⊥) → Raises z T old old
raises_none z old none = record {
  there = λ c d t. absurd (none c d t);
  order = omega arith;
  within = λ c d t. absurd (none c d t);
  least = λ x o k. o;
}

-- what two kinds of pairs need together
pub raises_then : (z : Grid) {T U V : ℕ → ℕ → Type 0} (old mid new : ℕ) → ((c d : ℕ) → V c d → T c d ⊎ U c d) → ((c d : ℕ) → T c d → V c d) → ((c d : ℕ) → U c d → V c d) → Raises z T old mid → Raises z U mid new → Raises z V old new
raises_then z old mid new split left right h g = record {
  there = λ c d v. elim (split c d v) [ inl t ↦ h.there c d t | inr u ↦ g.there c d u ];
  order = omega (arith, h.order, g.order);
  within = λ c d v. elim (split c d v) [ inl t ↦ omega (arith, h.within c d t, g.order) | inr u ↦ g.within c d u ];
  least = λ x o k. g.least x (h.least x o (λ c d t. k c d (left c d t))) (λ c d u. k c d (right c d u));
}

pub raises_as : (z : Grid) {T U : ℕ → ℕ → Type 0} (old new : ℕ) → ((c d : ℕ) → T c d → U c d) → ((c d : ℕ) → U c d → T c d) → Raises z T old new → Raises z U old new
raises_as z old new to back h = record {
  there = λ c d u. h.there c d (back c d u);
  order = h.order;
  within = λ c d u. h.within c d (back c d u);
  least = λ x o k. h.least x o (λ c d t. k c d (to c d t));
}

pub lacks_as : (z : Grid) {T U : ℕ → ℕ → Type 0} → ((c d : ℕ) → T c d → U c d) → Lacks z T → Lacks z U
lacks_as z to h k = h (λ c d t. k c d (to c d t))

pub one_read : (z : Grid) {X : Type 0} (F : X → ℕ → ℕ → Type 0) (xs : List X) (i : ℕ) (x d : X) (old mid new : ℕ) → i < length xs → x ≡ get_or xs i d → Raises z (OneOf (take i xs) F) old mid → Raises z (F x) mid new → Raises z (OneOf (take (i + 1) xs) F) old new
one_read z {X} F xs i x d old mid new l e h g = raises_then z old mid new split left right h g
  where
    more : take (i + 1) xs ≡ take i xs ++ x ∷ []
    more = take_more xs i d l ∙ ap (λ y. take i xs ++ y ∷ []) (sym e)

    split : (c d : ℕ) → OneOf (take (i + 1) xs) F c d → OneOf (take i xs) F c d ⊎ F x c d
    split c d t = elim (Contains-push_cases (take i xs) x t.item (rw more at t.has)) [
      | inl k ↦ inl (record { item = t.item; has = k; leads = t.leads })
      | inr k ↦ inr (rw k t.leads)
    ]

    left : (c d : ℕ) → OneOf (take i xs) F c d → OneOf (take (i + 1) xs) F c d
    left c d t = record { item = t.item; has = rw more (Contains-append_left (take i xs) (x ∷ []) t.item t.has); leads = t.leads }

    right : (c d : ℕ) → F x c d → OneOf (take (i + 1) xs) F c d
    right c d u = record { item = x; has = rw more (Contains-push (take i xs) x); leads = u }

pub one_all : (z : Grid) {X : Type 0} (F : X → ℕ → ℕ → Type 0) (xs : List X) (i old new : ℕ) → length xs ≤ i → Raises z (OneOf (take i xs) F) old new → Raises z (OneOf xs F) old new
one_all z F xs i old new l h = rw take_all at h

pub one_lacks : (z : Grid) {X : Type 0} (F : X → ℕ → ℕ → Type 0) (xs : List X) (i : ℕ) (x d : X) → i < length xs → x ≡ get_or xs i d → Lacks z (F x) → Lacks z (OneOf xs F)
one_lacks z F xs i x d l e h = lacks_as z (λ a b t. record { item = x; has = rw e (Contains-get_or xs i d l); leads = t }) h

-- a call by which lists of calls are read
abbrev pub no_call : Call
no_call = record { group = 0; to = 0 }

pub meets_need : (z : Grid) (e f : Edge) (s old : ℕ) (result : Option ℕ) → Has e.class s → Has f.class s → IsNeed z (IsPair e.to f.to) old result → IsNeed z (Meets e f) old result
meets_need z e f s old None h k need = lacks_as z (λ c d t. record { symbol = s; takes_first = h; takes_second = k; to_first = sym t.first; to_second = sym t.second }) need
meets_need z e f s old (Some new) h k need = raises_as z old new (λ c d t. record { symbol = s; takes_first = h; takes_second = k; to_first = sym t.first; to_second = sym t.second }) (λ c d t. record { first = sym t.to_first; second = sym t.to_second }) need

pub joins_need : (z : Grid) (R : ℕ → ℕ → Type 0) (h k : Call) (old : ℕ) (result : Option ℕ) → R h.group k.group → IsNeed z (IsPair h.to k.to) old result → IsNeed z (Joins R h k) old result
joins_need z R h k old None r need = lacks_as z (λ c d t. record { related = r; to_first = sym t.first; to_second = sym t.second }) need
joins_need z R h k old (Some new) r need = raises_as z old new (λ c d t. record { related = r; to_first = sym t.first; to_second = sym t.second }) (λ c d t. record { first = sym t.to_first; second = sym t.to_second }) need

-- what leads from edges and then from calls
stride_split : (R : ℕ → ℕ → Type 0) (n : Graph) (b : ℕ) (es fs : List Edge) (hs ks : List Call) → fs ≡ edges_of n b → ks ≡ calls_of n b → (c d : ℕ) → StridesBy R es hs n b c d → OneOf es (λ e. OneOf fs (Meets e)) c d ⊎ OneOf hs (λ h. OneOf ks (Joins R h)) c d
stride_split R n b es fs hs ks r r' c d (inl t) = inl (record { item = t.item; has = t.has; leads = record { item = t.leads.item; has = rw r t.leads.has; leads = t.leads.leads } })
stride_split R n b es fs hs ks r r' c d (inr t) = inr (record { item = t.item; has = t.has; leads = record { item = t.leads.item; has = rw r' t.leads.has; leads = t.leads.leads } })

stride_left : (R : ℕ → ℕ → Type 0) (n : Graph) (b : ℕ) (es fs : List Edge) (hs : List Call) → fs ≡ edges_of n b → (c d : ℕ) → OneOf es (λ e. OneOf fs (Meets e)) c d → StridesBy R es hs n b c d
stride_left R n b es fs hs r c d t = inl (record { item = t.item; has = t.has; leads = record { item = t.leads.item; has = rw (← r) t.leads.has; leads = t.leads.leads } })

stride_right : (R : ℕ → ℕ → Type 0) (n : Graph) (b : ℕ) (es : List Edge) (hs ks : List Call) → ks ≡ calls_of n b → (c d : ℕ) → OneOf hs (λ h. OneOf ks (Joins R h)) c d → StridesBy R es hs n b c d
stride_right R n b es hs ks r c d t = inr (record { item = t.item; has = t.has; leads = record { item = t.leads.item; has = rw (← r) t.leads.has; leads = t.leads.leads } })

pub stride_first : (z : Grid) (R : ℕ → ℕ → Type 0) (n : Graph) (b : ℕ) (es fs : List Edge) (hs : List Call) → fs ≡ edges_of n b → Lacks z (OneOf es (λ e. OneOf fs (Meets e))) → Lacks z (StridesBy R es hs n b)
stride_first z R n b es fs hs r = lacks_as z (stride_left R n b es fs hs r)

pub stride_then : (z : Grid) (R : ℕ → ℕ → Type 0) (n : Graph) (b : ℕ) (es fs : List Edge) (hs ks : List Call) (old mid : ℕ) (result : Option ℕ) → fs ≡ edges_of n b → ks ≡ calls_of n b → Raises z (OneOf es (λ e. OneOf fs (Meets e))) old mid → IsNeed z (OneOf hs (λ h. OneOf ks (Joins R h))) mid result → IsNeed z (StridesBy R es hs n b) old result
stride_then z R n b es fs hs ks old mid None r r' h g = lacks_as z (stride_right R n b es hs ks r') g
stride_then z R n b es fs hs ks old mid (Some new) r r' h g = raises_then z old mid new (stride_split R n b es fs hs ks r r') (stride_left R n b es fs hs r) (stride_right R n b es hs ks r') h g
