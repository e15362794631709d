-- Nets by themselves: over a nest without groups.
use Rattle.std.proofs.Common.{◌≡◌, ℕ, ◌*◌, false, List, [], replicate, refl}
use Rattle.std.specs.declared.option.Option.{Option}
use Rattle.std.specs.declared.option.Option.TheVariants.{Some, None}
use Rattle.std.specs.Option.{IsSome, IfSome, IfNone}
use Rattle.std.specs.declared.result.Result.{Result}
use Rattle.std.specs.declared.result.Result.TheVariants.{Ok, Err}
use Rattle.std.specs.Result.{IfOk}
use Rattle.xs_auto.specs.Nets.{Graph}
use Rattle.xs_auto.specs.Nests.{Group, IsTame, IsFenced}
use Rattle.xs_meet.specs.Shared.{IsShared, AreOverlap, IsSharedOver, AreOverlapOver}
use Rattle.xs_meet.specs.Sharing.{Sharing, IsSharedOf}
use Rattle.xs_meet.proofs.SharingLemmas.{shared_blank}
use Rattle.xs_meet.proofs.WalkLemmas.{accepts_over, accepts_alone}

pub tame_alone : (nest : List Group) (n : Graph) → nest ≡ [] → IsSome n.start → IsTame nest n
tame_alone nest n e start = rw e (record { start = start; plain = λ a s edge has takes h group is. cc })

pub fenced_alone : (nest : List Group) → nest ≡ [] → IsFenced nest
fenced_alone nest e = rw e (record {
  tame = λ h group is. cc;
  one_right = λ h k a b is. cc;
  one_left = λ h k a b is. cc;
  sides = λ h k a b is. cc;
})

pub shared_alone : (nest : List Group) (s : Sharing) → nest ≡ [] → s ≡ record { groups = 0; table = replicate (0 * 0) false; rows = []; pieces = [] } → IsSharedOf nest s
shared_alone nest s e is = rw e (record { sharing = shared_blank [] s 0 refl is; settled = λ h k a b is_a. cc })

one_alone : (m n : Graph) (w : List ℕ) → IsSharedOver [] m n w → IsShared m n w
one_alone m n w s = record { first = accepts_alone s.first; second = accepts_alone s.second }

pub word_alone : (nest : List Group) (m n : Graph) (w : List ℕ) → nest ≡ [] → IsSharedOver nest m n w → IsShared m n w
word_alone nest m n w e s = one_alone m n w (rw e at s)

pub word_over : (nest : List Group) (m n : Graph) (w : List ℕ) → IsShared m n w → IsSharedOver nest m n w
word_over nest m n w s = record { first = accepts_over nest s.first; second = accepts_over nest s.second }

lap_one : (m n : Graph) (x a y : List ℕ) → AreOverlapOver [] m n x a y → AreOverlap m n x a y
lap_one m n x a y o = record { some = o.some; short_front = accepts_alone o.short_front; long_front = accepts_alone o.long_front; short_rest = accepts_alone o.short_rest; long_rest = accepts_alone o.long_rest }

pub lap_alone : (nest : List Group) (m n : Graph) (x a y : List ℕ) → nest ≡ [] → AreOverlapOver nest m n x a y → AreOverlap m n x a y
lap_alone nest m n x a y e o = lap_one m n x a y (rw e at o)

pub lap_over : (nest : List Group) (m n : Graph) (x a y : List ℕ) → AreOverlap m n x a y → AreOverlapOver nest m n x a y
lap_over nest m n x a y o = record { some = o.some; short_front = accepts_over nest o.short_front; long_front = accepts_over nest o.long_front; short_rest = accepts_over nest o.short_rest; long_rest = accepts_over nest o.long_rest }

-- what holds of a word that was found, and what shows that there is none
pub ok_some : {X E : Type 0} (P Q : X → Type 0) (r : Result (Option X) E) → ((w : X) → P w → Q w) → IfOk r (λ o. IfSome o P) → IfOk r (λ o. IfSome o Q)
ok_some P Q (Ok (Some w)) to h = to w h
ok_some P Q (Ok None) to h = h
ok_some P Q (Err e) to h = h

pub ok_none : {X E : Type 0} (P Q : Type 0) (r : Result (Option X) E) → (P → Q) → IfOk r (λ o. IfNone o P) → IfOk r (λ o. IfNone o Q)
ok_none P Q (Ok (Some w)) to h = h
ok_none P Q (Ok None) to h = to h
ok_none P Q (Err e) to h = h
