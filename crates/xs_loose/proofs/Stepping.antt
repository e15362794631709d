-- Weights of stretches and of rules' bodies, from an outer item or a group to the next one.
use Rattle.std.proofs.Common.{◌≡◌, ℕ, ◌+◌, ◌<◌, ◌≤◌, List, [], ◌∷◌, ◌++◌, length, drop, get_or, refl, sym, ap, subst, ◌∙◌, inl, inr, arith, append_assoc, append-nil, length-append, drop_at}
use Rattle.xs_gram.specs.declared.parts.GItem.{GItem}
use Rattle.xs_gram.specs.Grammar.{Grammar}
use Rattle.xs_gram.specs.Fences.{spread, IsPlain, IsLevel, level_none, level_then, level_group, grouped, OuterAt, IsPartner, IsLeftFence}
use Rattle.xs_gram.specs.Sound.{IsProper}
use Rattle.xs_gram.proofs.Levels.{group_more, length_grouped, level_append}
use Rattle.xs_check_laws.specs.Weights.{capped, ItemWeighs, BodyWeighs, no_body, member_then, other_then, group_then, PartWeighs, no_part, part_then, part_group}
use Rattle.xs_check_laws.proofs.Weights.{body_append, part_append}
use Rattle.xs_loose.specs.Components.{IsNonOf}
use Rattle.xs_loose.specs.Steps.{StandsAt, StandsLast, IsPiece, PartStep, BodyStep}
use Rattle.xs_loose.specs.Weighing.{Counts}
use Rattle.xs_loose.specs.Parts.{IsStretch}
use Rattle.xs_loose.proofs.Stretches.{stretch_rest, nothing_left}
use Rattle.xs_loose.proofs.Opening.{GroupFirst, ItemFirst, group_first, item_first}

-- a group, and a plain item, as pieces
pub group_piece : (g : Grammar) (k m : ℕ) (rest : List GItem) (f : GroupFirst g.fences rest k m) → IsPiece g k rest (m + 1) (grouped f.left f.inside f.right []) f.later
group_piece g k m rest f = record {
  split = f.split ∙ sym (group_more f.left f.inside f.right [] f.later);
  place = omega (arith, f.partner, length_grouped [] f.left f.inside f.right);
  some = omega arith;
  level = level_group f.fence f.within level_none refl;
  level_after = f.level;
}

pub item_piece : (g : Grammar) (k : ℕ) (rest : List GItem) (i : GItem) (f : ItemFirst g.fences rest i) → IsPiece g k rest (k + 1) (i ∷ []) f.later
item_piece g k rest i f = record {
  split = f.split;
  place = refl;
  some = omega arith;
  level = level_then f.plain level_none;
  level_after = f.level;
}

pub part_group_step : (g : Grammar) (p k m : ℕ) (rest : List GItem) → IsProper g → IsPartner g.fences (spread g p) k m → StandsAt g p k rest → PartStep g k rest (m + 1) 2
part_group_step g p k m rest proper partner at =
    let f = group_first g.fences proper.once (spread g p) rest at.post k m partner at.split at.level at.some in record {
      piece = grouped f.left f.inside f.right [];
      later = f.later;
      is = group_piece g k m rest f;
      weighs = part_group f.fence f.within no_part refl refl;
    }

pub part_item_step : (g : Grammar) (p k count : ℕ) (rest : List GItem) (i : GItem) → k < length (spread g p) → i ≡ get_or (spread g p) k i → (IsLeftFence g.fences (spread g p) k → ⊥) → ItemWeighs g i count → StandsAt g p k rest → PartStep g k rest (k + 1) count
part_item_step g p k count rest i low is other weighs at =
    let f = item_first g.fences (spread g p) rest at.post k i low is other at.split at.level at.some in record {
      piece = i ∷ [];
      later = f.later;
      is = item_piece g k rest i f;
      weighs = part_then f.plain weighs no_part (omega arith);
    }

-- what stands last in a rule stands in it, and its first item is outer where it is plain
pub last_stands : {g : Grammar} {p k : ℕ} {rest : List GItem} → StandsLast g p k rest → StandsAt g p k rest
last_stands {g} {p} {k} {rest} at = record {
  post = [];
  split = ap (λ (xs : List GItem). drop k xs) at.split ∙ drop_at at.front rest k (sym at.place) ∙ sym (append-nil rest);
  level = at.level;
  some = at.some;
}

pub last_outer : (g : Grammar) (p k : ℕ) (rest : List GItem) (i : GItem) → StandsLast g p k rest → ItemFirst g.fences rest i → OuterAt g.fences (spread g p) k i
last_outer g p k rest i at f = record {
  before = at.front;
  after = f.later;
  split = at.split ∙ ap (λ (xs : List GItem). at.front ++ xs) f.split;
  level = at.level_front;
  plain = f.plain;
  place = at.place;
}

pub last_first : (g : Grammar) (p k : ℕ) (rest : List GItem) (i : GItem) → k < length (spread g p) → i ≡ get_or (spread g p) k i → (IsLeftFence g.fences (spread g p) k → ⊥) → StandsLast g p k rest → ItemFirst g.fences rest i
last_first g p k rest i low is other last =
    let at = last_stands last in
    item_first g.fences (spread g p) rest at.post k i low is other at.split at.level at.some

pub body_group_step : (g : Grammar) (comps : List ℕ) (component p k m : ℕ) (rest : List GItem) → IsProper g → IsPartner g.fences (spread g p) k m → StandsLast g p k rest → BodyStep g comps component k rest (m + 1) 2
body_group_step g comps component p k m rest proper partner last =
    let at = last_stands last in
    let f = group_first g.fences proper.once (spread g p) rest at.post k m partner at.split at.level at.some in record {
      piece = grouped f.left f.inside f.right [];
      later = f.later;
      is = group_piece g k m rest f;
      weighs = λ c of. group_then f.fence f.within no_body refl refl;
    }

single : {g : Grammar} {c w : ℕ} {i : GItem} → IsPlain g.fences i → Counts g c i w → BodyWeighs g c (i ∷ []) (capped w)
single {i = i} plain (inl m) = member_then {i = i} m.0 no_body (ap capped m.1)
single {w = w} {i = i} plain (inr o) = other_then {i = i} plain o.0 o.1 no_body (omega arith)

pub body_item_step : (g : Grammar) (comps : List ℕ) (component p k count : ℕ) (rest : List GItem) (i : GItem) → k < length (spread g p) → i ≡ get_or (spread g p) k i → (IsLeftFence g.fences (spread g p) k → ⊥) → ((c : ℕ) → IsNonOf g comps component c → Counts g c i count) → StandsLast g p k rest → BodyStep g comps component k rest (k + 1) count
body_item_step g comps component p k count rest i low is other counts last =
    let f = last_first g p k rest i low is other last in record {
      piece = i ∷ [];
      later = f.later;
      is = item_piece g k rest i f;
      weighs = λ c of. single f.plain (counts c of);
    }

-- what the items of a stretch before item `next` weigh
pub record PartSummed (g : Grammar) (start : ℕ) (is : List GItem) (next sum : ℕ) : Type 0 where
  pub front : List GItem
  pub rest : List GItem
  pub split : is ≡ front ++ rest
  pub place : next ≡ start + length front
  pub level : IsLevel g.fences rest
  pub weighs : PartWeighs g front sum

pub part_none : (g : Grammar) (start : ℕ) (is : List GItem) → IsLevel g.fences is → PartSummed g start is start 0
part_none g start is level = record { front = []; rest = is; split = refl; place = omega arith; level = level; weighs = no_part }

pub part_more : (g : Grammar) (start : ℕ) (is : List GItem) (k next sum count new : ℕ) (s : PartSummed g start is k sum) → PartStep g k s.rest next count → new ≡ capped (count + sum) → PartSummed g start is next new
part_more g start is k next sum count new s step e = record {
  front = s.front ++ step.piece;
  rest = step.later;
  split = s.split ∙ ap (λ (xs : List GItem). s.front ++ xs) step.is.split ∙ sym (append_assoc s.front step.piece step.later);
  place = omega (arith, s.place, step.is.place, length-append s.front step.piece);
  level = step.is.level_after;
  weighs = part_append s.weighs step.weighs (omega arith);
}

-- what the items of a rule before item `next` weigh in its component
pub record BodySummed (g : Grammar) (comps : List ℕ) (component : ℕ) (is : List GItem) (next sum : ℕ) : Type 0 where
  pub front : List GItem
  pub rest : List GItem
  pub split : is ≡ front ++ rest
  pub place : next ≡ length front
  pub level_front : IsLevel g.fences front
  pub level : IsLevel g.fences rest
  pub weighs : (c : ℕ) → IsNonOf g comps component c → BodyWeighs g c front sum

pub body_none : (g : Grammar) (comps : List ℕ) (component : ℕ) (is : List GItem) → IsLevel g.fences is → BodySummed g comps component is 0 0
body_none g comps component is level = record { front = []; rest = is; split = refl; place = refl; level_front = level_none; level = level; weighs = λ c of. no_body }

pub body_more : (g : Grammar) (comps : List ℕ) (component : ℕ) (is : List GItem) (k next sum count new : ℕ) (s : BodySummed g comps component is k sum) → BodyStep g comps component k s.rest next count → new ≡ capped (count + sum) → BodySummed g comps component is next new
body_more g comps component is k next sum count new s step e = record {
  front = s.front ++ step.piece;
  rest = step.later;
  split = s.split ∙ ap (λ (xs : List GItem). s.front ++ xs) step.is.split ∙ sym (append_assoc s.front step.piece step.later);
  place = omega (arith, s.place, step.is.place, length-append s.front step.piece);
  level_front = level_append s.level_front step.is.level;
  level = step.is.level_after;
  weighs = λ c of. body_append (s.weighs c of) (step.weighs c of) (omega arith);
}

pub summed_last : {g : Grammar} {comps : List ℕ} {component p k sum : ℕ} (s : BodySummed g comps component (spread g p) k sum) → k < length (spread g p) → StandsLast g p k s.rest
summed_last s low = record {
  front = s.front;
  split = s.split;
  place = s.place;
  level_front = s.level_front;
  level = s.level;
  some = omega (arith, ap length s.split, length-append s.front s.rest, s.place);
}

-- the items of a stretch are gone through, one outer item or group at a time, to its end
pub part_stepped : (g : Grammar) (p start place after sum count new : ℕ) (is : List GItem) → IsStretch g p start is → PartSummed g start is place sum → place < start + length is → ((rest : List GItem) → StandsAt g p place rest → PartStep g place rest after count) → new ≡ capped (count + sum) → PartSummed g start is after new × (place < after) × (after ≤ start + length is)
part_stepped g p start place after sum count new is stretch s low step is_new =
    let long : length is ≡ length s.front + length s.rest = ap length s.split ∙ length-append s.front s.rest in
    let own : PartStep g place s.rest after count = step s.rest (stretch_rest g p start place is s.front s.rest stretch s.split s.place s.level (omega (arith, long, s.place))) in
    let rest : length s.rest ≡ length own.piece + length own.later = ap length own.is.split ∙ length-append own.piece own.later in
    (part_more g start is place after sum count new s own is_new, omega (arith, own.is.place, own.is.some), omega (arith, own.is.place, rest, long, s.place))

pub part_done : (g : Grammar) (start next sum : ℕ) (is : List GItem) → PartSummed g start is next sum → start + length is ≤ next → PartWeighs g is sum
part_done g start next sum is s end =
    let long : length is ≡ length s.front + length s.rest = ap length s.split ∙ length-append s.front s.rest in
    subst (λ (xs : List GItem). PartWeighs g xs sum) (sym (nothing_left is s.front s.rest s.split (omega (arith, long, s.place)))) s.weighs

pub body_stepped : (g : Grammar) (comps : List ℕ) (component p place next after sum count new : ℕ) → place ≡ next → BodySummed g comps component (spread g p) next sum → place < length (spread g p) → ((rest : List GItem) → StandsLast g p place rest → BodyStep g comps component place rest after count) → new ≡ capped (count + sum) → BodySummed g comps component (spread g p) after new × (place < after) × (after ≤ length (spread g p))
body_stepped g comps component p place next after sum count new e before low step is_new =
    let is = spread g p in
    let s : BodySummed g comps component is place sum = subst (λ (n : ℕ). BodySummed g comps component is n sum) (sym e) before in
    let long : length is ≡ length s.front + length s.rest = ap length s.split ∙ length-append s.front s.rest in
    let own : BodyStep g comps component place s.rest after count = step s.rest (summed_last s low) in
    let rest : length s.rest ≡ length own.piece + length own.later = ap length own.is.split ∙ length-append own.piece own.later in
    (body_more g comps component is place after sum count new s own is_new, omega (arith, own.is.place, own.is.some), omega (arith, own.is.place, rest, long, s.place))

pub body_done : (g : Grammar) (comps : List ℕ) (component next sum c : ℕ) (is : List GItem) → BodySummed g comps component is next sum → length is ≤ next → IsNonOf g comps component c → BodyWeighs g c is sum
body_done g comps component next sum c is s end of =
    let long : length is ≡ length s.front + length s.rest = ap length s.split ∙ length-append s.front s.rest in
    subst (λ (xs : List GItem). BodyWeighs g c xs sum) (sym (nothing_left is s.front s.rest s.split (omega (arith, long, s.place)))) (s.weighs c of)

-- something stands last from where a body was summed up to
pub body_stands : (g : Grammar) (comps : List ℕ) (component p place next sum : ℕ) → place ≡ next → BodySummed g comps component (spread g p) next sum → place < length (spread g p) → (rest : List GItem) × StandsLast g p place rest
body_stands g comps component p place next sum e before low =
    let s : BodySummed g comps component (spread g p) place sum = subst (λ (n : ℕ). BodySummed g comps component (spread g p) n sum) (sym e) before in
    (s.rest, summed_last s low)

-- an item that was read in a rule's spread items stands there
pub read_there : (xs read : List GItem) (k : ℕ) (i : GItem) → read ≡ xs → i ≡ get_or read k i → i ≡ get_or xs k i
read_there xs read k i e is = is ∙ ap (λ (ys : List GItem). get_or ys k i) e
