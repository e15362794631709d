-- What the functions that lay items need and give.
use Rattle.std.proofs.Common.{◌≡◌, ℕ, suc, ◌+◌, ◌<◌, ◌≤◌, List, [], ◌∷◌, ◌++◌, length, slice_get, refl, sym, ap, subst, ◌∙◌, arith, Some, Option}
use Rattle.std.specs.declared.result.Result.{Result}
use Rattle.std.specs.declared.result.Result.TheVariants.{Ok, Err}
use Rattle.std.specs.Result.{IfOk}
use Rattle.xs_auto.specs.Nets.{Graph, states}
use Rattle.xs_regex.specs.declared.position.Position.{Position}
use Rattle.xs_gram.specs.declared.parts.GItem.{GItem}
use Rattle.xs_gram.specs.declared.parts.GItem.TheVariants.{Fixed, Term, Non, Skip}
use Rattle.xs_gram.specs.Grammar.{Grammar, term_of, skip_of}
use Rattle.xs_gram.specs.Building.{NamesAreThere}
use Rattle.xs_gram.specs.Fences.{IsPlain}
use Rattle.xs_gram.specs.Loose.{AreOne}
use Rattle.xs_gram.specs.Sound.{IsBuilt}
use Rattle.xs_check_laws.specs.Weights.{Members}
use Rattle.xs_check_laws.proofs.Weights.{members_moved}
use Rattle.xs_loose.specs.declared.site.Home.{Home}
use Rattle.xs_loose.specs.declared.site.Spot.{Spot}
use Rattle.xs_loose.specs.declared.site.Task.{Task}
use Rattle.xs_loose.specs.Arcs.{Arc, pass, word_arcs, after_word, automaton_arcs, after_automaton}
use Rattle.xs_loose.specs.Growth.{NetGrows}
use Rattle.xs_loose.specs.Laying.{entry_state, exit_state, LaysItem, lays_fixed, lays_term, lays_skip, LaysBody}
use Rattle.xs_loose.specs.Tables.{AreRanks}
use Rattle.xs_loose.specs.Walking.{AreNamed, Lays, IsHome, HasItemRoom, HasRoom, IsItemLaid, IsOnward}
use Rattle.xs_loose.proofs.Gaining.{done_grows}
use Rattle.xs_loose.proofs.Growing.{grows_then}
use Rattle.xs_loose.proofs.Inverting.{IsOwn, item_off, member_off}
use Rattle.xs_loose.proofs.Once.{item_once}
use Rattle.xs_loose.proofs.Pushing.{element_is}
use Rattle.xs_loose.proofs.Spans.{item_rises, rank_less, after_low, lays_rises}

-- what holds where there is a value
pub on_ok : {T E : Type 0} {Q : T → Type 0} (r : Result T E) → ((t : T) → r ≡ Ok t → Q t) → IfOk r Q
on_ok (Ok t) h = h t refl
on_ok (Err e) h = tt

-- two arcs, one after the other
pub grows_two : {x y z : Arc} {l m n : Graph} → NetGrows (x ∷ []) l m → NetGrows (y ∷ []) m n → y ≡ z → NetGrows (x ∷ z ∷ []) l n
grows_two {x} {y} {l = l} {n = n} first second e = subst (λ (a : Arc). NetGrows (x ∷ a ∷ []) l n) e (grows_then first second)

pub pass_to : {a b c : ℕ} → b ≡ c → pass a b ≡ pass a c
pass_to e = cc

pub pass_from : {a b c : ℕ} → a ≡ b → pass a c ≡ pass b c
pass_from e = cc

pub rank_in : (g : Grammar) (ranks : List ℕ) (c n rank : ℕ) → AreRanks g g.nons ranks → n < g.nons → slice_get ranks n ≡ Some rank → AreOne g c n → Members g c n rank
rank_in g ranks c n rank are there e one = members_moved (subst (λ (k : ℕ). Members g n n k) (sym (element_is ranks n rank 0 e)) (are.each n there)) one

pub home_wider : (g : Grammar) (low high : ℕ) (h : Home) → low ≤ high → IsHome g low (Some h) → IsHome g high (Some h)
home_wider g low high h le home = (home.0, home.1, home.2, omega (arith, home.3, le))

-- the states of a member are there
pub member_room : (g : Grammar) → IsBuilt g → (bound : ℕ) (h : Home) (n rank : ℕ) → IsHome g bound (Some h) → n < g.nons → AreOne g h.non n → Members g h.non n rank → exit_state h.first rank < bound
member_room g built bound h n rank home there one members = omega (arith, rank_less g built home.2 members one there, home.3)

pub fixed_room : {g : Grammar} {bound : ℕ} {f : List ℕ} {s : Spot} → HasItemRoom g bound (Fixed f) s → s.at + length f ≤ bound
fixed_room {g} {bound} {f} {s} room = by_lays room.lays room.within
  where
    by_lays : {t m : ℕ} {xs : List Arc} → LaysItem g (Fixed f) s.before s.at xs t m → m ≤ bound → s.at + length f ≤ bound
    by_lays (lays_fixed e p q) within = omega (arith, q, within)

pub term_room : {g : Grammar} {bound t k : ℕ} {s : Spot} → HasItemRoom g bound (Term t k) s → after_automaton (term_of g t).automaton s.at < bound
term_room {g} {bound} {t} {k} {s} room = by_lays room.lays room.within
  where
    by_lays : {u m : ℕ} {xs : List Arc} → LaysItem g (Term t k) s.before s.at xs u m → m ≤ bound → after_automaton (term_of g t).automaton s.at < bound
    by_lays (lays_term e p q) within = omega (arith, p, q, within)

pub skip_room : {g : Grammar} {bound k : ℕ} {s : Spot} → HasItemRoom g bound (Skip k) s → after_automaton (skip_of g k).automaton s.at < bound
skip_room {g} {bound} {k} {s} room = by_lays room.lays room.within
  where
    by_lays : {u m : ℕ} {xs : List Arc} → LaysItem g (Skip k) s.before s.at xs u m → m ≤ bound → after_automaton (skip_of g k).automaton s.at < bound
    by_lays (lays_skip e p q) within = omega (arith, p, q, within)

module _ (g : Grammar) (built : IsBuilt g) (weights : List ℕ) where
  -- arcs that were laid at once
  pub laid_by : {i : GItem} {arcs : List Arc} {s t : Spot} {old new : Graph} (ts : List Task) → LaysItem g i s.before s.at arcs t.before t.at → NamesAreThere g i → s.before < states old → t.at ≤ states old → NetGrows arcs old new → IsItemLaid g weights i s old ts new ts t
  laid_by {arcs = arcs} {old = old} ts lays there low room grows = record {
    arcs = arcs;
    lays = lays;
    low = after_low g built (states old) lays there low room;
    done = done_grows g weights ts (item_rises g built lays there) grows;
  }

  -- an item that was laid whole, before others that are laid
  pub item_onward : (home : Option Home) (i : GItem) (s t : Spot) (old new : Graph) (ts us : List Task) → IsPlain g.fences i → (IsOwn g home i → ⊥) → IsItemLaid g weights i s old ts new us t → (p k : ℕ) (later : List GItem) (all : List Arc) (after end : ℕ) → Lays g home p k (i ∷ later) s all after end → IsOnward g weights home p later s all after end old ts new us (suc k) t
  item_onward home i s t old new ts us plain out laid p k later all after end lays =
      let off = item_off g home p k i later s all after end lays plain out in
      let same = item_once g built.proper.once off.item laid.lays in
      record {
        own = laid.arcs;
        rest = off.rest;
        split = off.split ∙ ap (λ (xs : List Arc). xs ++ off.rest) same.arcs;
        lays = subst (λ (x : ℕ). Lays g home p (suc k) later (record { before = t.before; at = x }) off.rest after end) same.next (subst (λ (x : ℕ). Lays g home p (suc k) later (record { before = x; at = off.next.at }) off.rest after end) same.after off.later);
        done = laid.done;
      }

  pub item_has_room : (home : Option Home) (bound : ℕ) (i : GItem) (s : Spot) (p k : ℕ) (later : List GItem) → AreNamed g later → IsPlain g.fences i → (IsOwn g home i → ⊥) → HasRoom g bound home p k (i ∷ later) s → HasItemRoom g bound i s
  item_has_room home bound i s p k later named plain out room =
      let off = item_off g home p k i later s room.arcs room.after room.next room.lays plain out in
      record { arcs = off.own; after = off.next.before; next = off.next.at; lays = off.item; within = omega (arith, lays_rises g built home p (suc k) later off.next off.rest room.after room.next off.later named, room.within) }

  pub fixed_laid : (i : GItem) (f w : List ℕ) (s t : Spot) (old new : Graph) (ts : List Task) → i ≡ Fixed f → w ≡ f → NamesAreThere g i → s.before < states old → HasItemRoom g (states old) i s → t.before ≡ after_word w s.before s.at → t.at ≡ s.at + length w → NetGrows (word_arcs w s.before s.at) old new → IsItemLaid g weights i s old ts new ts t
  fixed_laid i f w s t old new ts e same there low room before at grows =
      let fits = fixed_room (subst (λ (x : GItem). HasItemRoom g (states old) x s) e room) in
      let is : i ≡ Fixed w = e ∙ ap (λ (x : List ℕ). Fixed x) (sym same) in
      let lays : LaysItem g i s.before s.at (word_arcs w s.before s.at) t.before t.at = subst (λ (x : GItem). LaysItem g x s.before s.at (word_arcs w s.before s.at) t.before t.at) (sym is) (lays_fixed refl before at) in
      laid_by ts lays there low (omega (arith, at, fits, ap (λ (x : List ℕ). length x) same)) grows

  pub term_laid : (i : GItem) (k slot : ℕ) (a : Position) (s t : Spot) (old new : Graph) (ts : List Task) → i ≡ Term k slot → a ≡ (term_of g k).automaton → NamesAreThere g i → s.before < states old → HasItemRoom g (states old) i s → t.before ≡ after_automaton a s.at → t.at ≡ suc t.before → NetGrows (automaton_arcs a s.before s.at) old new → IsItemLaid g weights i s old ts new ts t
  term_laid i k slot a s t old new ts e same there low room before at grows =
      let fits = term_room (subst (λ (x : GItem). HasItemRoom g (states old) x s) e room) in
      let after : t.before ≡ after_automaton (term_of g k).automaton s.at = before ∙ ap (λ (x : Position). after_automaton x s.at) same in
      let lays : LaysItem g i s.before s.at (automaton_arcs a s.before s.at) t.before t.at = subst (λ (x : GItem). LaysItem g x s.before s.at (automaton_arcs a s.before s.at) t.before t.at) (sym e) (lays_term {t = k} {s = slot} (ap (λ (x : Position). automaton_arcs x s.before s.at) same) after at) in
      laid_by ts lays there low (omega (arith, at, after, fits)) grows

  pub skip_laid : (i : GItem) (k : ℕ) (a : Position) (s t : Spot) (old new : Graph) (ts : List Task) → i ≡ Skip k → a ≡ (skip_of g k).automaton → NamesAreThere g i → s.before < states old → HasItemRoom g (states old) i s → t.before ≡ after_automaton a s.at → t.at ≡ suc t.before → NetGrows (automaton_arcs a s.before s.at) old new → IsItemLaid g weights i s old ts new ts t
  skip_laid i k a s t old new ts e same there low room before at grows =
      let fits = skip_room (subst (λ (x : GItem). HasItemRoom g (states old) x s) e room) in
      let after : t.before ≡ after_automaton (skip_of g k).automaton s.at = before ∙ ap (λ (x : Position). after_automaton x s.at) same in
      let lays : LaysItem g i s.before s.at (automaton_arcs a s.before s.at) t.before t.at = subst (λ (x : GItem). LaysItem g x s.before s.at (automaton_arcs a s.before s.at) t.before t.at) (sym e) (lays_skip {k = k} (ap (λ (x : Position). automaton_arcs x s.before s.at) same) after at) in
      laid_by ts lays there low (omega (arith, at, after, fits)) grows

pub member_grows : (first entry j : ℕ) (s : Spot) (l n : Graph) → entry ≡ entry_state first j → NetGrows (pass s.before entry ∷ pass (suc entry) s.at ∷ []) l n → NetGrows (pass s.before (entry_state first j) ∷ pass (exit_state first j) s.at ∷ []) l n
member_grows first entry j s l n e grows = subst (λ (x : ℕ). NetGrows (pass s.before x ∷ pass (suc x) s.at ∷ []) l n) e grows

module _ (g : Grammar) (built : IsBuilt g) (weights : List ℕ) where
  -- a member was laid, before others that are laid
  pub member_onward : (h : Home) (i : GItem) (m slot : ℕ) (s t : Spot) (old new : Graph) (ts : List Task) → i ≡ Non m slot → AreOne g h.non m → t.before ≡ s.at → t.at ≡ suc s.at → ((j : ℕ) → Members g h.non m j → NetGrows (pass s.before (entry_state h.first j) ∷ pass (exit_state h.first j) s.at ∷ []) old new) → (p k : ℕ) (later : List GItem) (all : List Arc) (after end : ℕ) → LaysBody g h.non h.first p k (i ∷ later) s.before s.at all after end → IsOnward g weights (Some h) p later s all after end old ts new ts (suc k) t
  member_onward h i m slot s t old new ts e one before at grows p k later all after end lays =
      let off = member_off g h p k m slot later s all after end (subst (λ (x : GItem). LaysBody g h.non h.first p k (x ∷ later) s.before s.at all after end) e lays) one in
      record {
        own = pass s.before (entry_state h.first off.rank) ∷ pass (exit_state h.first off.rank) s.at ∷ [];
        rest = off.rest;
        split = off.split;
        lays = rw (before, at) off.later;
        done = done_grows g weights ts (omega (arith, at)) (grows off.rank off.members);
      }

  -- the state of a member is there
  pub member_at : (h : Home) (bound p k m slot : ℕ) (i : GItem) (later : List GItem) (s : Spot) → i ≡ Non m slot → AreOne g h.non m → AreNamed g later → HasRoom g bound (Some h) p k (i ∷ later) s → s.at < bound
  member_at h bound p k m slot i later s e one named room =
      let off = member_off g h p k m slot later s room.arcs room.after room.next (subst (λ (x : GItem). LaysBody g h.non h.first p k (x ∷ later) s.before s.at room.arcs room.after room.next) e room.lays) one in
      omega (arith, lays_rises g built (Some h) p (suc k) later (record { before = s.at; at = suc s.at }) off.rest room.after room.next off.later named, room.within)
