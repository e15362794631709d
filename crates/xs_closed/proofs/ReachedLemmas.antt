-- Pairs that are reached show words that lead to them.
use Rattle.std.proofs.Common.{◌≡◌, ℕ, ◌<◌, List, [], ◌∷◌, ◌++◌, length, refl, sym, subst, inl, inr, arith, append_assoc, append-nil, length-append}
use Rattle.std.specs.declared.option.Option.TheVariants.{Some}
use Rattle.xs_class.proofs.Lists.{some_same}
use Rattle.xs_auto.specs.Nets.{Graph}
use Rattle.xs_auto.specs.Nests.{Group, Crossing, stands, drifts, takes, enters, IsGroup, AcceptsNested, AreShared}
use Rattle.xs_meet.specs.Closed.{Marked, Drifts, Strides, Leads}
use Rattle.xs_meet.proofs.WalkLemmas.{crosses_on}
use Rattle.xs_closed.specs.Least.{AreStarts, IsPastFront, IsStride, IsPastMiddle, Meeting, Fronts, Pauses, Middles, Rests}
use Rattle.xs_closed.specs.Laws.{ReachedIsShared, ReachedIsOverlap}
use Rattle.xs_closed.proofs.LeastLemmas.{reach_within}

-- each two related groups share a word
abbrev pub AllShared : List Group → (ℕ → ℕ → Type 0) → Type 0
AllShared nest R = (h k : ℕ) → R h k → AreShared nest h k

-- one word leads both nets from the pair of a and b to that of c and d
pub record Spans (nest : List Group) (m n : Graph) (a b c d : ℕ) : Type 0 where
  pub word : List ℕ
  pub first : Crossing nest m a word c
  pub second : Crossing nest n b word d

-- and it is not empty
pub record SpansSome (nest : List Group) (m n : Graph) (a b c d : ℕ) : Type 0 where
  pub spans : Spans nest m n a b c d
  pub some : 0 < length spans.word

-- empty moves lead on by the empty word
drift_first : (nest : List Group) (m n : Graph) (a b c d : ℕ) → Drifts m n a b c d → Crossing nest m a [] c
drift_first nest m n a b c d (inl x) = drifts x.move stands
drift_first nest m n a b c d (inr y) = subst (λ (k : ℕ). Crossing nest m a [] k) (sym y.still) stands

drift_second : (nest : List Group) (m n : Graph) (a b c d : ℕ) → Drifts m n a b c d → Crossing nest n b [] d
drift_second nest m n a b c d (inl x) = subst (λ (k : ℕ). Crossing nest n b [] k) (sym x.still) stands
drift_second nest m n a b c d (inr y) = drifts y.move stands

-- the word of a call, inside its fence
abbrev fenced : Group → List ℕ → List ℕ
fenced group u = group.left ∷ (u ++ group.right ∷ [])

fence_same : (g h : Group) (u : List ℕ) → g.left ≡ h.left → g.right ≡ h.right → fenced g u ≡ fenced h u
fence_same g h u e f = cc

-- edges and calls lead on by a word that is not empty
stride_spans : (nest : List Group) (R : ℕ → ℕ → Type 0) (m n : Graph) (a b c d : ℕ) → AllShared nest R → Strides R m n a b c d → SpansSome nest m n a b c d
stride_spans nest R m n a b c d shared (inl x) =
    let y = x.1 in
    record {
      spans = record {
        word = x.0 ∷ [];
        first = subst (λ (k : ℕ). Crossing nest m a (x.0 ∷ []) k) y.to_first (takes y.first y.of_first y.takes_first stands);
        second = subst (λ (k : ℕ). Crossing nest n b (x.0 ∷ []) k) y.to_second (takes y.second y.of_second y.takes_second stands);
      };
      some = omega arith;
    }
stride_spans nest R m n a b c d shared (inr x) =
    let y = x.2 in
    let has = shared x.0 x.1 y.related in
    let u = has.0 in
    let s = has.1 in
    let word = fenced s.first u in
    record {
      spans = record {
        word = word;
        first = subst (λ (k : ℕ). Crossing nest m a word k) y.to_first (enters y.first s.first y.of_first (subst (λ (g : ℕ). IsGroup nest g s.first) (sym y.over_first) s.is_first) s.accepts_first.starts s.accepts_first.crosses s.accepts_first.final stands refl);
        second = subst (λ (k : ℕ). Crossing nest n b word k) y.to_second (enters y.second s.second y.of_second (subst (λ (g : ℕ). IsGroup nest g s.second) (sym y.over_second) s.is_second) s.accepts_second.starts s.accepts_second.crosses s.accepts_second.final stands (fence_same s.first s.second u s.fence.left s.fence.right));
      };
      some = omega arith;
    }

lead_spans : (nest : List Group) (R : ℕ → ℕ → Type 0) (m n : Graph) (a b c d : ℕ) → AllShared nest R → Leads R m n a b c d → Spans nest m n a b c d
lead_spans nest R m n a b c d shared (inl x) = record { word = []; first = drift_first nest m n a b c d x; second = drift_second nest m n a b c d x }
lead_spans nest R m n a b c d shared (inr x) = (stride_spans nest R m n a b c d shared x).spans

-- from the two starts one word leads to the pair
pub record IsMet (nest : List Group) (m n : Graph) (a b : ℕ) : Type 0 where
  pub word : List ℕ
  pub start : ℕ
  pub other : ℕ
  pub starts : m.start ≡ Some start
  pub starts_other : n.start ≡ Some other
  pub first : Crossing nest m start word a
  pub second : Crossing nest n other word b

met : (nest : List Group) (R : ℕ → ℕ → Type 0) (m n : Graph) → AllShared nest R → (a b : ℕ) → Meeting R m n a b → IsMet nest m n a b
met nest R m n shared a b = reach_within (IsMet nest m n) seeds closed
  where
    seeds : (a b : ℕ) → AreStarts m n a b → IsMet nest m n a b
    seeds a b s = record { word = []; start = a; other = b; starts = s.first; starts_other = s.second; first = stands; second = stands }

    closed : (a b c d : ℕ) → IsMet nest m n a b → Leads R m n a b c d → IsMet nest m n c d
    closed a b c d p l =
        let s = lead_spans nest R m n a b c d shared l in
        record { word = p.word ++ s.word; start = p.start; other = p.other; starts = p.starts; starts_other = p.starts_other; first = crosses_on p.first s.first; second = crosses_on p.second s.second }

pub reached_is_shared : ReachedIsShared
reached_is_shared nest related shared m n a b reach final_a final_b =
    let p = met nest (Marked related) m n shared a b reach in (
      p.word,
      record {
        first = record { first = p.start; last = a; starts = p.starts; crosses = p.first; final = final_a };
        second = record { first = p.other; last = b; starts = p.starts_other; crosses = p.second; final = final_b };
      },
    )

-- the front accepts a word, which leads it to the state b too, and r is reached from the start of the rest by
-- the empty word
pub record IsPaused (nest : List Group) (front rest : Graph) (b r : ℕ) : Type 0 where
  pub short : List ℕ
  pub start : ℕ
  pub begin : ℕ
  pub starts : front.start ≡ Some start
  pub begins : rest.start ≡ Some begin
  pub accepts : AcceptsNested nest front short
  pub first : Crossing nest front start short b
  pub second : Crossing nest rest begin [] r

paused : (nest : List Group) (R : ℕ → ℕ → Type 0) (front rest : Graph) → AllShared nest R → (b r : ℕ) → Pauses R front rest b r → IsPaused nest front rest b r
paused nest R front rest shared b r = reach_within (IsPaused nest front rest) seeds closed
  where
    seeds : (b r : ℕ) → IsPastFront front rest (Fronts R front) b r → IsPaused nest front rest b r
    seeds b r s =
        let p = met nest R front front shared s.state b s.within in
        record {
          short = p.word;
          start = p.other;
          begin = r;
          starts = p.starts_other;
          begins = s.starts;
          accepts = record { first = p.start; last = s.state; starts = p.starts; crosses = p.first; final = s.final };
          first = p.second;
          second = stands;
        }

    closed : (b r c d : ℕ) → IsPaused nest front rest b r → Drifts front rest b r c d → IsPaused nest front rest c d
    closed b r c d p x = record {
      short = p.short;
      start = p.start;
      begin = p.begin;
      starts = p.starts;
      begins = p.begins;
      accepts = p.accepts;
      first = subst (λ (w : List ℕ). Crossing nest front p.start w c) (append-nil p.short) (crosses_on p.first (drift_first nest front rest b r c d x));
      second = crosses_on p.second (drift_second nest front rest b r c d x);
    }

-- the front accepts a word, which followed by one that is not empty leads it to the state c, and the latter
-- leads the rest to d
pub record IsAmid (nest : List Group) (front rest : Graph) (c d : ℕ) : Type 0 where
  pub short : List ℕ
  pub middle : List ℕ
  pub start : ℕ
  pub begin : ℕ
  pub some : 0 < length middle
  pub starts : front.start ≡ Some start
  pub begins : rest.start ≡ Some begin
  pub accepts : AcceptsNested nest front short
  pub first : Crossing nest front start (short ++ middle) c
  pub second : Crossing nest rest begin middle d

longer : (u v : List ℕ) → 0 < length u → 0 < length (u ++ v)
longer u v l = omega (arith, l, length-append u v)

amid : (nest : List Group) (R : ℕ → ℕ → Type 0) (front rest : Graph) → AllShared nest R → (c d : ℕ) → Middles R front rest c d → IsAmid nest front rest c d
amid nest R front rest shared c d = reach_within (IsAmid nest front rest) seeds closed
  where
    seeds : (c d : ℕ) → IsStride R front rest (Pauses R front rest) c d → IsAmid nest front rest c d
    seeds c d s =
        let p = paused nest R front rest shared s.front_state s.rest_state s.within in
        let t = stride_spans nest R front rest s.front_state s.rest_state c d shared s.stride in
        record {
          short = p.short;
          middle = t.spans.word;
          start = p.start;
          begin = p.begin;
          some = t.some;
          starts = p.starts;
          begins = p.begins;
          accepts = p.accepts;
          first = crosses_on p.first t.spans.first;
          second = crosses_on p.second t.spans.second;
        }

    closed : (a b c d : ℕ) → IsAmid nest front rest a b → Leads R front rest a b c d → IsAmid nest front rest c d
    closed a b c d p l =
        let s = lead_spans nest R front rest a b c d shared l in
        record {
          short = p.short;
          middle = p.middle ++ s.word;
          start = p.start;
          begin = p.begin;
          some = longer p.middle s.word p.some;
          starts = p.starts;
          begins = p.begins;
          accepts = p.accepts;
          first = subst (λ (w : List ℕ). Crossing nest front p.start w c) (append_assoc p.short p.middle s.word) (crosses_on p.first s.first);
          second = crosses_on p.second s.second;
        }

-- the front accepts a word and a longer one, by a middle word; the rest is led to s by a word, and to r by the
-- middle word and this one
pub record IsAfter (nest : List Group) (front rest : Graph) (s r : ℕ) : Type 0 where
  pub short : List ℕ
  pub middle : List ℕ
  pub tail : List ℕ
  pub begin : ℕ
  pub some : 0 < length middle
  pub begins : rest.start ≡ Some begin
  pub accepts : AcceptsNested nest front short
  pub accepts_long : AcceptsNested nest front (short ++ middle)
  pub first : Crossing nest rest begin tail s
  pub second : Crossing nest rest begin (middle ++ tail) r

after : (nest : List Group) (R : ℕ → ℕ → Type 0) (front rest : Graph) → AllShared nest R → (s r : ℕ) → Rests R front rest s r → IsAfter nest front rest s r
after nest R front rest shared s r = reach_within (IsAfter nest front rest) seeds closed
  where
    seeds : (s r : ℕ) → IsPastMiddle front rest (Middles R front rest) s r → IsAfter nest front rest s r
    seeds s r t =
        let p = amid nest R front rest shared t.state r t.within in
        let same : p.begin ≡ s = some_same _ _ _ p.begins t.starts in
        record {
          short = p.short;
          middle = p.middle;
          tail = [];
          begin = s;
          some = p.some;
          begins = t.starts;
          accepts = p.accepts;
          accepts_long = record { first = p.start; last = t.state; starts = p.starts; crosses = p.first; final = t.final };
          first = stands;
          second = subst (λ (w : List ℕ). Crossing nest rest s w r) (sym (append-nil p.middle)) (subst (λ (k : ℕ). Crossing nest rest k p.middle r) same p.second);
        }

    closed : (a b c d : ℕ) → IsAfter nest front rest a b → Leads R rest rest a b c d → IsAfter nest front rest c d
    closed a b c d p l =
        let s = lead_spans nest R rest rest a b c d shared l in
        record {
          short = p.short;
          middle = p.middle;
          tail = p.tail ++ s.word;
          begin = p.begin;
          some = p.some;
          begins = p.begins;
          accepts = p.accepts;
          accepts_long = p.accepts_long;
          first = crosses_on p.first s.first;
          second = subst (λ (w : List ℕ). Crossing nest rest p.begin w d) (append_assoc p.middle p.tail s.word) (crosses_on p.second s.second);
        }

pub reached_is_overlap : ReachedIsOverlap
reached_is_overlap nest related shared front rest a b reach final_a final_b =
    let p = after nest (Marked related) front rest shared a b reach in (
      p.short,
      p.middle,
      p.tail,
      record {
        some = p.some;
        short_front = p.accepts;
        long_front = p.accepts_long;
        short_rest = record { first = p.begin; last = a; starts = p.begins; crosses = p.first; final = final_a };
        long_rest = record { first = p.begin; last = b; starts = p.begins; crosses = p.second; final = final_b };
      },
    )
