-- Items whose fixed words are split at fence symbols: where a nonterminal stands among them, and
-- what words of them are words of the items.
use Rattle.std.proofs.Common.{◌≡◌, ℕ, List, [], ◌∷◌, ◌++◌, refl, sym, ap, subst, ◌∙◌, true, false}
use Rattle.xs_class.proofs.Lists.{cons_parts, cons_same}
use Rattle.xs_gram.specs.declared.parts.GItem.{GItem}
use Rattle.xs_gram.specs.declared.parts.GItem.TheVariants.{Fixed, Term, Non, Skip}
use Rattle.xs_gram.specs.Grammar.{Grammar}
use Rattle.xs_gram.specs.Fences.{is_fence, after_word, split_word, spread_items}
use Rattle.xs_gram.specs.Loose.{loose_fixed}
use Rattle.xs_gram.proofs.Spreading.{after_longer}
use Rattle.xs_check_laws.specs.Words.{after_own, split_own, split_words}
use Rattle.xs_check_laws.proofs.Words.{Words, no_words, word_then}

split_append : (fs : List (ℕ × ℕ)) (before w : List ℕ) (is js : List GItem) → split_word fs before w (is ++ js) ≡ split_word fs before w is ++ js
split_append fs before [] is js = after_longer before is js
split_append fs before (s ∷ w) is js =
    let t : after_word before (Fixed (s ∷ []) ∷ split_word fs [] w (is ++ js)) ≡ after_word before (Fixed (s ∷ []) ∷ split_word fs [] w is) ++ js = ap (λ (x : List GItem). after_word before (Fixed (s ∷ []) ∷ x)) (split_append fs [] w is js) ∙ after_longer before (Fixed (s ∷ []) ∷ split_word fs [] w is) js in
    let f : split_word fs (before ++ s ∷ []) w (is ++ js) ≡ split_word fs (before ++ s ∷ []) w is ++ js = split_append fs (before ++ s ∷ []) w is js in
    elim (is_fence fs s) as (λ b. ◌≡◌ {A = List GItem} (elim b [ true ↦ after_word before (Fixed (s ∷ []) ∷ split_word fs [] w (is ++ js)) | false ↦ split_word fs (before ++ s ∷ []) w (is ++ js) ]) (elim b [ true ↦ after_word before (Fixed (s ∷ []) ∷ split_word fs [] w is) | false ↦ split_word fs (before ++ s ∷ []) w is ] ++ js)) [ true ↦ t | false ↦ f ]

-- items one after the other are spread one after the other
pub spread_append : (fs : List (ℕ × ℕ)) (is js : List GItem) → spread_items fs (is ++ js) ≡ spread_items fs is ++ spread_items fs js
spread_append fs [] js = refl
spread_append fs (Fixed w ∷ is) js = ap (λ (x : List GItem). split_word fs [] w x) (spread_append fs is js) ∙ split_append fs [] w (spread_items fs is) (spread_items fs js)
spread_append fs (Term t s ∷ is) js = ap (λ (x : List GItem). Term t s ∷ x) (spread_append fs is js)
spread_append fs (Non n s ∷ is) js = ap (λ (x : List GItem). Non n s ∷ x) (spread_append fs is js)
spread_append fs (Skip k ∷ is) js = ap (λ (x : List GItem). Skip k ∷ x) (spread_append fs is js)

-- a nonterminal among the spread items is one of the items
pub record Found (fs : List (ℕ × ℕ)) (is front : List GItem) (n s : ℕ) (back : List GItem) : Type 0 where
  pub before : List GItem
  pub after : List GItem
  pub split : is ≡ before ++ Non n s ∷ after
  pub of_before : spread_items fs before ≡ front
  pub of_after : spread_items fs after ≡ back

-- the item is a fixed word
abbrev IsWord : GItem → Type 0
IsWord (Fixed f) = Unit {0}
IsWord (Term t s) = ⊥
IsWord (Non n s) = ⊥
IsWord (Skip k) = ⊥

-- the rest of a stretch after fixed words has what no fixed word is
past_word : {n s : ℕ} {is front back : List GItem} {i : GItem} → IsWord i → i ∷ is ≡ front ++ Non n s ∷ back → (later : List GItem) × (front ≡ i ∷ later) × (is ≡ later ++ Non n s ∷ back)
past_word {front = []} {i = i} word e = absurd (subst IsWord (cons_parts e).0 word)
past_word {front = x ∷ front} word e = let c = cons_parts e in (front, cons_same (sym c.0) refl, c.1)

-- what is found after a word that is split is found after what it is split into
past_own : {n s : ℕ} {is front back : List GItem} (before : List ℕ) → after_word before is ≡ front ++ Non n s ∷ back → (later : List GItem) × (front ≡ after_word before later) × (is ≡ later ++ Non n s ∷ back)
past_own {front = front} [] e = (front, refl, e)
past_own (t ∷ before) e = past_word {i = Fixed (t ∷ before)} tt e

past_fence : {n s : ℕ} {is front back : List GItem} (fs : List (ℕ × ℕ)) (before : List ℕ) (t : ℕ) (w : List ℕ) → ((front : List GItem) → split_word fs [] w is ≡ front ++ Non n s ∷ back → (later : List GItem) × (front ≡ split_word fs [] w later) × (is ≡ later ++ Non n s ∷ back)) → after_word before (Fixed (t ∷ []) ∷ split_word fs [] w is) ≡ front ++ Non n s ∷ back
    → (later : List GItem) × (front ≡ after_word before (Fixed (t ∷ []) ∷ split_word fs [] w later)) × (is ≡ later ++ Non n s ∷ back)
past_fence fs before t w on e =
    let k = past_own before e in
    let h = past_word {i = Fixed (t ∷ [])} tt k.2 in
    let p = on h.0 h.2 in
    (p.0, k.1 ∙ ap (λ (x : List GItem). after_word before x) (h.1 ∙ ap (λ (x : List GItem). Fixed (t ∷ []) ∷ x) p.1), p.2)

past_split : {n s : ℕ} {is back : List GItem} (fs : List (ℕ × ℕ)) (before w : List ℕ) (front : List GItem) → split_word fs before w is ≡ front ++ Non n s ∷ back → (later : List GItem) × (front ≡ split_word fs before w later) × (is ≡ later ++ Non n s ∷ back)
past_split fs before [] front = λ e. past_own before e
past_split {n} {s} {is} {back} fs before (t ∷ w) front =
    let one : after_word before (Fixed (t ∷ []) ∷ split_word fs [] w is) ≡ front ++ Non n s ∷ back → (later : List GItem) × (front ≡ after_word before (Fixed (t ∷ []) ∷ split_word fs [] w later)) × (is ≡ later ++ Non n s ∷ back) =
    λ e. past_fence fs before t w (λ x h. past_split fs [] w x h) e in
    let two : split_word fs (before ++ t ∷ []) w is ≡ front ++ Non n s ∷ back → (later : List GItem) × (front ≡ split_word fs (before ++ t ∷ []) w later) × (is ≡ later ++ Non n s ∷ back) = λ e. past_split fs (before ++ t ∷ []) w front e in
    elim (is_fence fs t) as (λ b. ◌≡◌ {A = List GItem} (elim b [ true ↦ after_word before (Fixed (t ∷ []) ∷ split_word fs [] w is) | false ↦ split_word fs (before ++ t ∷ []) w is ]) (front ++ Non n s ∷ back) → (later : List GItem) × (front ≡ (elim b [ true ↦ after_word before (Fixed (t ∷ []) ∷ split_word fs [] w later) | false ↦ split_word fs (before ++ t ∷ []) w later ])) × (is ≡ later ++ Non n s ∷ back)) [ true ↦ one | false ↦ two ]

-- an item before the one that is found
found_later : {fs : List (ℕ × ℕ)} {is front back : List GItem} {n s : ℕ} (i : GItem) → ((js : List GItem) → spread_items fs (i ∷ js) ≡ i ∷ spread_items fs js) → Found fs is front n s back → Found fs (i ∷ is) (i ∷ front) n s back
found_later i alone f = record { before = i ∷ f.before; after = f.after; split = ap (λ (x : List GItem). i ∷ x) f.split; of_before = alone f.before ∙ ap (λ (x : List GItem). i ∷ x) f.of_before; of_after = f.of_after }

pub non_found : {n s : ℕ} {back : List GItem} (fs : List (ℕ × ℕ)) (is front : List GItem) → spread_items fs is ≡ front ++ Non n s ∷ back → Found fs is front n s back
non_found fs [] [] e = absurd cc
non_found fs [] (x ∷ front) e = absurd cc
non_found {n} {s} {back} fs (Fixed w ∷ is) front e =
    let p = past_split fs [] w front e in
    let f = non_found fs is p.0 p.2 in
    record { before = Fixed w ∷ f.before; after = f.after; split = ap (λ (x : List GItem). Fixed w ∷ x) f.split; of_before = ap (λ (x : List GItem). split_word fs [] w x) f.of_before ∙ sym p.1; of_after = f.of_after }
non_found fs (Term t k ∷ is) [] e = absurd cc
non_found {n} {s} {back} fs (Term t k ∷ is) (x ∷ front) e =
    let c = cons_parts e in
    let f = found_later (Term t k) (λ js. refl) (non_found fs is front c.1) in
    subst (λ (y : GItem). Found fs (Term t k ∷ is) (y ∷ front) n s back) c.0 f
non_found fs (Skip k ∷ is) [] e = absurd cc
non_found {n} {s} {back} fs (Skip k ∷ is) (x ∷ front) e =
    let c = cons_parts e in
    let f = found_later (Skip k) (λ js. refl) (non_found fs is front c.1) in
    subst (λ (y : GItem). Found fs (Skip k ∷ is) (y ∷ front) n s back) c.0 f
non_found {n} {s} {back} fs (Non m k ∷ is) [] e =
    let c = cons_parts e in
    record { before = []; after = is; split = ap (λ (x : GItem). x ∷ is) c.0; of_before = refl; of_after = c.1 }
non_found {n} {s} {back} fs (Non m k ∷ is) (x ∷ front) e =
    let c = cons_parts e in
    let f = found_later (Non m k) (λ js. refl) (non_found fs is front c.1) in
    subst (λ (y : GItem). Found fs (Non m k ∷ is) (y ∷ front) n s back) c.0 f

-- words of the spread items are those of the items, split
unafter : {g : Grammar} {is : List GItem} {ws : List (List ℕ)} (before : List ℕ) → Words g (after_word before is) ws → (us : List (List ℕ)) × Words g is us × (ws ≡ after_own before us)
unafter {ws = ws} [] w = (ws, w, refl)
unafter (s ∷ before) (word_then {ws = ws} loose_fixed t) = (ws, t, refl)

unfixed : {g : Grammar} {is : List GItem} {ws : List (List ℕ)} {f : List ℕ} → Words g (Fixed f ∷ is) ws → (us : List (List ℕ)) × Words g is us × (ws ≡ f ∷ us)
unfixed (word_then {ws = ws} loose_fixed t) = (ws, t, refl)

unsplit : {g : Grammar} {is : List GItem} (fs : List (ℕ × ℕ)) (before w : List ℕ) (ws : List (List ℕ)) → Words g (split_word fs before w is) ws → (us : List (List ℕ)) × Words g is us × (ws ≡ split_own fs before w us)
unsplit fs before [] ws = λ h. unafter before h
unsplit {g} {is} fs before (s ∷ w) ws =
    let t : Words g (after_word before (Fixed (s ∷ []) ∷ split_word fs [] w is)) ws → (us : List (List ℕ)) × Words g is us × (ws ≡ after_own before ((s ∷ []) ∷ split_own fs [] w us)) = λ h. let k = unafter before h in let q = unfixed k.1 in let p = unsplit fs [] w q.0 q.1 in (p.0, p.1, k.2 ∙ ap (λ (x : List (List ℕ)). after_own before x) (q.2 ∙ ap (λ (x : List (List ℕ)). (s ∷ []) ∷ x) p.2)) in
    let f : Words g (split_word fs (before ++ s ∷ []) w is) ws → (us : List (List ℕ)) × Words g is us × (ws ≡ split_own fs (before ++ s ∷ []) w us) = λ h. unsplit fs (before ++ s ∷ []) w ws h in
    elim (is_fence fs s) as (λ b. Words g (elim b [ true ↦ after_word before (Fixed (s ∷ []) ∷ split_word fs [] w is) | false ↦ split_word fs (before ++ s ∷ []) w is ]) ws → (us : List (List ℕ)) × Words g is us × (ws ≡ (elim b [ true ↦ after_own before ((s ∷ []) ∷ split_own fs [] w us) | false ↦ split_own fs (before ++ s ∷ []) w us ]))) [ true ↦ t | false ↦ f ]

pub unspread : {g : Grammar} (fs : List (ℕ × ℕ)) (is : List GItem) {ws : List (List ℕ)} → Words g (spread_items fs is) ws → (us : List (List ℕ)) × Words g is us × (ws ≡ split_words fs is us)
unspread fs [] no_words = ([], no_words, refl)
unspread fs (Fixed w ∷ is) {ws} h =
    let k = unsplit fs [] w ws h in
    let p = unspread fs is k.1 in
    (w ∷ p.0, word_then loose_fixed p.1, k.2 ∙ ap (λ (x : List (List ℕ)). split_own fs [] w x) p.2)
unspread fs (Term t s ∷ is) (word_then {w = u} h k) = let p = unspread fs is k in (u ∷ p.0, word_then h p.1, ap (λ (x : List (List ℕ)). u ∷ x) p.2)
unspread fs (Non n s ∷ is) (word_then {w = u} h t) = let p = unspread fs is t in (u ∷ p.0, word_then h p.1, ap (λ (x : List (List ℕ)). u ∷ x) p.2)
unspread fs (Skip k ∷ is) (word_then {w = u} h t) = let p = unspread fs is t in (u ∷ p.0, word_then h p.1, ap (λ (x : List (List ℕ)). u ∷ x) p.2)
