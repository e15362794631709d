-- What closed sets show stays where bits of the table are taken away.
use Rattle.std.proofs.Common.{◌≡◌, ℕ, inl, inr}
use Rattle.xs_auto.specs.Nets.{Graph}
use Rattle.xs_meet.specs.Closed.{IsApart, Leads, AreApart, Marked}
use Rattle.xs_coarse.specs.Coarse.{Table, Net, MayCall, group_label, view}
use Rattle.xs_coarse.specs.Parts.{IsParted}

-- a view reads nothing of the table but its classes
view_part : {old new : Table} (n : Net) (s e : ℕ) → IsParted old new → view new n s e ≡ view old n s e
view_part {old} {new} n s e p =
    λ i. view (record { classes = p.classes i; groups = new.groups; bits = new.bits }) n s e

pub call_part : {old new : Table} (h k : ℕ) → IsParted old new → MayCall new h k → MayCall old h k
call_part {old} {new} h k p m = rw p.classes at (p.fewer (group_label new h) (group_label new k) m)

-- a smaller relation of groups leads to fewer pairs
leads_fewer : (R S : ℕ → ℕ → Type 0) (m n : Graph) (a b c d : ℕ) → ((h k : ℕ) → S h k → R h k) → Leads S m n a b c d → Leads R m n a b c d
leads_fewer R S m n a b c d to (inl x) = inl x
leads_fewer R S m n a b c d to (inr (inl x)) = inr (inl x)
leads_fewer R S m n a b c d to (inr (inr x)) =
    let y = x.2 in
    inr (inr (x.0, x.1, record { first = y.first; second = y.second; of_first = y.of_first; of_second = y.of_second; over_first = y.over_first; over_second = y.over_second; related = to x.0 x.1 y.related; to_first = y.to_first; to_second = y.to_second }))

pub apart_fewer : (R S : ℕ → ℕ → Type 0) (m n : Graph) (Z : ℕ → ℕ → Type 0) → ((h k : ℕ) → S h k → R h k) → IsApart R m n Z → IsApart S m n Z
apart_fewer R S m n Z to apart = record {
  starts = apart.starts;
  closed = λ a b c d z leads. apart.closed a b c d z (leads_fewer R S m n a b c d to leads);
  none = apart.none;
}

-- two nets that are apart stay apart
pub apart_part : {old new : Table} (m n : Net) (a b c d : ℕ) → IsParted old new → AreApart (MayCall old) (view old m a b) (view old n c d) → AreApart (MayCall new) (view new m a b) (view new n c d)
apart_part {old} {new} m n a b c d p apart = rw (view_part m a b p, view_part n c d p) (
  apart.0,
  apart_fewer (MayCall old) (MayCall new) (view old m a b) (view old n c d) (Marked apart.0) (λ h k. call_part h k p) apart.1,
)
