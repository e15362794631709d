-- A run over a prefix of a document: after an edit, as it reads on, and where it stops.
use Rattle.std.proofs.Common.{◌≡◌, ℕ, zero, suc, ◌+◌, ◌<◌, ◌≤◌, List, [], ◌∷◌, ◌++◌, length, take, drop, Some, refl, sym, ◌∙◌, ap, subst, arith, ◌↔◌, append_assoc}
use Rattle.std.specs.Prelude.{slice_get}
use Rattle.std.proofs.lemmas.List.{take_all, length-take-le, take-append-le}
use Rattle.xs_class.specs.Classes.{Has}
use Rattle.xs_gram.specs.Grammar.{Grammar}
use Rattle.xs_gram.specs.Languages.{InLang, IsFront, IsViable}
use Rattle.xs_pair.specs.Grammars.{Pair}
use Rattle.xs_chart_laws.proofs.Words.{get_take, get_lt}
use Rattle.xs_earley.specs.Running.{Running, IsRunOf}
use Rattle.xs_earley.proofs.Steppings.{viable_stop, viable_whole}
use Rattle.xs_edit.specs.Edits.{edited}
use Rattle.xs_edit.specs.Sessions.{HasRead, IsFollowing, IsKept, IsNext}

-- what is taken of a part that is taken
pub taken : {A : Type 0} (a b : ℕ) (u : List A) → a ≤ b → take a (take b u) ≡ take a u
taken zero b u le = refl
taken (suc a) zero u le = absurd (omega (arith, le))
taken (suc a) (suc b) [] le = refl
taken {A} (suc a) (suc b) (y ∷ u) le = ap (λ (l : List A). y ∷ l) (taken a b u (omega (arith, le)))

-- an edit changes nothing before its place
before_edit : (doc put : List ℕ) (at cut n : ℕ) → n ≤ at → at ≤ length doc → take n (edited doc at cut put) ≡ take n doc
before_edit doc put at cut n le inside = ap (λ (l : List ℕ). take n l) (append_assoc (take at doc) put (drop (at + cut) doc)) ∙ take-append-le n (take at doc) (put ++ drop (at + cut) doc) (let long = length-take-le at doc inside in omega (arith, long, le)) ∙ taken n at doc le

-- so a run that went back to it, or further, is one over a prefix of the new document
pub back_read : (g : Grammar) (doc put : List ℕ) (at cut n : ℕ) (old new : Running) → HasRead g doc old → IsRunOf g new → new.word ≡ take n old.word → n ≤ at → n ≤ length old.word → at + cut ≤ length doc → HasRead g (edited doc at cut put) new
back_read g doc put at cut n old new read run word le within inside = record { of = run; word = is }
  where
    long : length new.word ≡ n
    long = ap (λ (u : List ℕ). length u) word ∙ length-take-le n old.word within

    same : take n old.word ≡ take n doc
    same = ap (λ (u : List ℕ). take n u) read.word ∙ taken n (length old.word) doc within

    is : new.word ≡ take (length new.word) (edited doc at cut put)
    is = word ∙ same ∙ sym (before_edit doc put at cut n le (omega (arith, inside))) ∙ ap (λ m. take m (edited doc at cut put)) (sym long)

-- nothing is read of the empty document
pub nothing_kept : (p : Pair) (run : Running) → IsRunOf p.text run → run.word ≡ [] → IsKept p [] run
nothing_kept p run is none = record { following = record { read = record { of = is; word = word }; viable = viable }; short = omega arith }
  where
    no_length : length run.word ≡ 0
    no_length = ap (λ (u : List ℕ). length u) none

    word : run.word ≡ take (length run.word) []
    word = none ∙ ap (λ n. take n []) (sym no_length)

    viable : IsViable p.text [] (length run.word)
    viable = subst (λ n. IsViable p.text [] n) (sym no_length) (omega arith, subst (λ (u : List ℕ). IsFront p.text u) none is.front, λ m le h. le)

-- reading one symbol more
pub read_on : (doc old new : List ℕ) (k s : ℕ) → old ≡ take k doc → slice_get doc k ≡ Some s → new ≡ old ++ s ∷ [] → new ≡ take (k + 1) doc
read_on doc old new k s word at is = is ∙ ap (λ (u : List ℕ). u ++ s ∷ []) word ∙ sym (get_take doc k s at) ∙ ap (λ n. take n doc) more
  where
    more : suc k ≡ k + 1
    more = omega arith

-- where no word of the language begins with one symbol more, the run has read the longest viable prefix
pub stopped : (g : Grammar) (doc : List ℕ) (was now : Running) (k s : ℕ) → IsRunOf g was → was.word ≡ take k doc → now ≡ was → slice_get doc k ≡ Some s → (IsFront g (was.word ++ s ∷ []) → ⊥) → IsFollowing g doc now
stopped g doc was now k s run word same at never = subst (λ (r : Running). IsFollowing g doc r) (sym same) (record { read = record { of = run; word = word ∙ ap (λ n. take n doc) (sym long) }; viable = viable })
  where
    long : length was.word ≡ k
    long = let lt = get_lt doc k s at in ap (λ (u : List ℕ). length u) word ∙ length-take-le k doc (omega (arith, lt))

    stop : (InLang g doc → ⊥) × IsViable g doc k
    stop = viable_stop g doc k s at (subst (λ (u : List ℕ). IsFront g u) word run.front) (λ h. never (subst (λ (u : List ℕ). IsFront g (u ++ s ∷ [])) (sym word) h))

    viable : IsViable g doc (length was.word)
    viable = subst (λ n. IsViable g doc n) (sym long) stop.1

-- and so it has where it read all of the document
pub finished : (g : Grammar) (doc : List ℕ) (run : Running) (k : ℕ) → IsRunOf g run → run.word ≡ take k doc → length doc ≤ k → IsFollowing g doc run
finished g doc run k is word le = record { read = record { of = is; word = all ∙ sym (take_all (length run.word) doc (omega (arith, long))) }; viable = viable }
  where
    all : run.word ≡ doc
    all = word ∙ take_all k doc le

    long : length run.word ≡ length doc
    long = ap (λ (u : List ℕ). length u) all

    viable : IsViable g doc (length run.word)
    viable = subst (λ n. IsViable g doc n) (sym long) (viable_whole g doc (subst (λ (u : List ℕ). IsFront g u) all is.front))

-- a document is of the language exactly where all of it is read, and what was read is
pub not_all : (g : Grammar) (doc : List ℕ) (k : ℕ) → IsViable g doc k → k < length doc → InLang g doc → ⊥
not_all g doc k viable lt h =
    let most = viable.2 (length doc) (omega arith) ([], subst (λ (u : List ℕ). InLang g u) (sym (nothing_more (take (length doc) doc) ∙ take_all (length doc) doc (omega arith))) h) in
    omega (arith, most, lt)
  where
    nothing_more : (u : List ℕ) → u ++ [] ≡ u
    nothing_more [] = refl
    nothing_more (x ∷ u) = ap (λ (l : List ℕ). x ∷ l) (nothing_more u)

pub all_read : (g : Grammar) (doc : List ℕ) (run : Running) → HasRead g doc run → length doc ≤ length run.word → run.word ≡ doc
all_read g doc run read le = read.word ∙ take_all (length run.word) doc le

-- what comes next after a prefix of what was read
pub next_is : (g : Grammar) (doc : List ℕ) (run : Running) (at : ℕ) (class : List (ℕ × ℕ)) → IsFollowing g doc run → at ≤ length run.word → ((s : ℕ) → Has class s ↔ IsFront g (take at run.word ++ s ∷ [])) → IsNext g doc at (Some class)
next_is g doc run at class following le exact = (length run.word, following.viable, le, subst (λ (u : List ℕ). (s : ℕ) → Has class s ↔ IsFront g (u ++ s ∷ [])) same exact)
  where
    same : take at run.word ≡ take at doc
    same = ap (λ (u : List ℕ). take at u) following.read.word ∙ taken at (length run.word) doc le
