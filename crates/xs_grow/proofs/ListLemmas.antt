-- Lists by their places, and lists that have exactly what a fact holds of.
use Rattle.std.proofs.Common.{◌≡◌, ◌⊎◌, ℕ, zero, suc, ◌+◌, List, [], ◌∷◌, ◌++◌, length, slice_get, Some, refl, sym, ap, ◌∙◌, subst, arith, inl, inr, append-nil, append_assoc}
use Rattle.std.specs.Prelude.{Contains}
use Rattle.std.proofs.lemmas.Option.{none-some, same_Some}
use Rattle.std.proofs.lemmas.List.Elements.{Contains-append_left, Contains-append_right, Contains-append_cases}
use Rattle.xs_class.proofs.Lists.{get_of, contains_of}
use Rattle.xs_grow.specs.Lists.{AreOnce, HasAllOf, Appends}

module _ {X : Type 0} where
  pub none_contained : (x : X) → Contains [] x → ⊥
  none_contained x h = absurd (omega (arith, h.1))

  pub one_contained : (y x : X) → Contains (y ∷ []) x → y ≡ x
  one_contained y x h = go (get_of (y ∷ []) x h)
    where
      go : (k : ℕ) × (slice_get (y ∷ []) k ≡ Some x) → y ≡ x
      go (zero, e) = same_Some y x e
      go (suc k, e) = absurd (none-some x e)

  pub contains_one : (y : X) → Contains (y ∷ []) y
  contains_one y = contains_of (y ∷ []) zero y refl

  pub get_append_cases : (xs ys : List X) (k : ℕ) (x : X) → slice_get (xs ++ ys) k ≡ Some x → (slice_get xs k ≡ Some x) ⊎ ((n : ℕ) × (k ≡ length xs + n) × (slice_get ys n ≡ Some x))
  get_append_cases [] ys k x e = inr (k, omega arith, e)
  get_append_cases (y ∷ xs) ys zero x e = inl e
  get_append_cases (y ∷ xs) ys (suc k) x e = elim (get_append_cases xs ys k x e) [
    | inl h ↦ inl h
    | inr h ↦ let is : k ≡ length xs + h.0 = h.1 in inr (h.0, omega arith, h.2)
  ]

  pub once_none : AreOnce {X = X} []
  once_none k l x e f = absurd (none-some x e)

  pub once_append : (xs ys : List X) → AreOnce xs → AreOnce ys → ((x : X) → Contains xs x → Contains ys x → ⊥) → AreOnce (xs ++ ys)
  once_append xs ys a b apart k l x e f = go (get_append_cases xs ys k x e) (get_append_cases xs ys l x f)
    where
      go : (slice_get xs k ≡ Some x) ⊎ ((n : ℕ) × (k ≡ length xs + n) × (slice_get ys n ≡ Some x)) → (slice_get xs l ≡ Some x) ⊎ ((n : ℕ) × (l ≡ length xs + n) × (slice_get ys n ≡ Some x)) → k ≡ l
      go (inl h) (inl i) = a k l x h i
      go (inl h) (inr i) = absurd (apart x (contains_of xs k x h) (contains_of ys i.0 x i.2))
      go (inr h) (inl i) = absurd (apart x (contains_of xs l x i) (contains_of ys h.0 x h.2))
      go (inr h) (inr i) = h.1 ∙ (ap (λ n. length xs + n) (b h.0 i.0 x h.2 i.2) ∙ sym i.1)

  pub once_one : (y : X) → AreOnce (y ∷ [])
  once_one y zero zero x e f = refl
  once_one y zero (suc l) x e f = absurd (none-some x f)
  once_one y (suc k) l x e f = absurd (none-some x e)

module _ {X : Type 0} where
  pub all_none : (P : X → Type 0) → ((x : X) → P x → ⊥) → HasAllOf P []
  all_none P never = record { sound = λ x h. absurd (none_contained x h); complete = λ x p. absurd (never x p); once = once_none }

  pub all_one : (P : X → Type 0) (y : X) → P y → ((x : X) → P x → y ≡ x) → HasAllOf P (y ∷ [])
  all_one P y p only = record {
    sound = λ x h. subst P (one_contained y x h) p;
    complete = λ x q. subst (λ z. Contains (y ∷ []) z) (only x q) (contains_one y);
    once = once_one y;
  }

  pub all_same : (P Q : X → Type 0) (xs : List X) → ((x : X) → P x → Q x) → ((x : X) → Q x → P x) → HasAllOf P xs → HasAllOf Q xs
  all_same P Q xs to from h = record { sound = λ x i. to x (h.sound x i); complete = λ x q. h.complete x (from x q); once = h.once }

  pub all_append : (P Q R : X → Type 0) (xs ys : List X) → HasAllOf P xs → HasAllOf Q ys → ((x : X) → P x → Q x → ⊥) → ((x : X) → P x → R x) → ((x : X) → Q x → R x) → ((x : X) → R x → P x ⊎ Q x) → HasAllOf R (xs ++ ys)
  all_append P Q R xs ys a b apart left right split = record {
    sound = λ x h. elim (Contains-append_cases xs ys x h) [ inl i ↦ left x (a.sound x i) | inr i ↦ right x (b.sound x i) ];
    complete = λ x r. elim (split x r) [ inl p ↦ Contains-append_left xs ys x (a.complete x p) | inr q ↦ Contains-append_right xs ys x (b.complete x q) ];
    once = once_append xs ys a.once b.once (λ x h i. apart x (a.sound x h) (b.sound x i));
  }

  -- one more
  pub all_push : (P R : X → Type 0) (xs : List X) (y : X) → HasAllOf P xs → (P y → ⊥) → R y → ((x : X) → P x → R x) → ((x : X) → R x → P x ⊎ (y ≡ x)) → HasAllOf R (xs ++ y ∷ [])
  all_push P R xs y a new r keep split =
      all_append P (λ x. y ≡ x) R xs (y ∷ []) a (all_one (λ x. y ≡ x) y refl (λ x e. e)) (λ x p e. new (subst P (sym e) p)) keep (λ x e. subst R e r) split

  pub appends_none : (P : X → Type 0) (xs : List X) → ((x : X) → P x → ⊥) → Appends P xs xs
  appends_none P xs never = record { added = []; is = sym (append-nil xs); all = all_none P never }

  pub appends_one : (P : X → Type 0) (old new : List X) (y : X) → new ≡ old ++ y ∷ [] → P y → ((x : X) → P x → y ≡ x) → Appends P old new
  appends_one P old new y e p only = record { added = y ∷ []; is = e; all = all_one P y p only }

  pub appends_more : (P Q R : X → Type 0) (a b c : List X) → Appends P a b → Appends Q b c → ((x : X) → P x → Q x → ⊥) → ((x : X) → P x → R x) → ((x : X) → Q x → R x) → ((x : X) → R x → P x ⊎ Q x) → Appends R a c
  appends_more P Q R a b c one two apart left right split = record {
    added = one.added ++ two.added;
    is = two.is ∙ (ap (λ z. z ++ two.added) one.is ∙ append_assoc a one.added two.added);
    all = all_append P Q R one.added two.added one.all two.all apart left right split;
  }

  pub appends_same : (P Q : X → Type 0) (a b : List X) → ((x : X) → P x → Q x) → ((x : X) → Q x → P x) → Appends P a b → Appends Q a b
  appends_same P Q a b to from h = record { added = h.added; is = h.is; all = all_same P Q h.added to from h.all }

  -- after nothing stands all
  pub appends_all : (P : X → Type 0) (xs : List X) → Appends P [] xs → HasAllOf P xs
  appends_all P xs h = subst (λ z. HasAllOf P z) (sym h.is) h.all
