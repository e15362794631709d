-- Blocks are right and least by one relation as by another that relates the same groups.
use Rattle.std.proofs.Common.{◌≡◌, ℕ, List, Bool, inl, inr}
use Rattle.xs_auto.specs.Nets.{Graph}
use Rattle.xs_auto.specs.Nests.{Group}
use Rattle.xs_gram.specs.Grammar.{Grammar}
use Rattle.xs_meet.specs.Closed.{Drifts, Strides, Leads, Marked, IsApart, IsClear}
use Rattle.xs_cert_laws.specs.Blocks.{Block, of_groups, of_rules, of_cut, ShowsApart, ShowsClear, IsRight}
use Rattle.xs_cert_laws.specs.Exact.{IsLeast}

module _ (R Q : ℕ → ℕ → Type 0) (to : (h k : ℕ) → Q h k → R h k) where
  strides_same : {m n : Graph} {a b c d : ℕ} → Strides Q m n a b c d → Strides R m n a b c d
  strides_same (inl x) = inl x
  strides_same (inr x) = let r = x.2 in inr (x.0, x.1, record { first = r.first; second = r.second; of_first = r.of_first; of_second = r.of_second; over_first = r.over_first; over_second = r.over_second; related = to _ _ r.related; to_first = r.to_first; to_second = r.to_second })

  leads_same : {m n : Graph} {a b c d : ℕ} → Leads Q m n a b c d → Leads R m n a b c d
  leads_same (inl d) = inl d
  leads_same (inr s) = inr (strides_same s)

  pub apart_same : {m n : Graph} {Z : ℕ → ℕ → Type 0} → IsApart R m n Z → IsApart Q m n Z
  apart_same i = record { starts = i.starts; closed = λ a b c d z leads. i.closed a b c d z (leads_same leads); none = i.none }

  pub clear_same : {f e : Graph} {Z1 Z0 Z2 Z3 : ℕ → ℕ → Type 0} → IsClear R f e Z1 Z0 Z2 Z3 → IsClear Q f e Z1 Z0 Z2 Z3
  clear_same i = record {
    starts = i.starts;
    closed1 = λ a b c d z leads. i.closed1 a b c d z (leads_same leads);
    to0 = i.to0;
    drifts0 = i.drifts0;
    to2 = λ a b c d z leads. i.to2 a b c d z (strides_same leads);
    closed2 = λ a b c d z leads. i.closed2 a b c d z (leads_same leads);
    to3 = i.to3;
    closed3 = λ a b c d z leads. i.closed3 a b c d z (leads_same leads);
    none = i.none;
  }

  pub right_same : (g : Grammar) (nest : List Group) (b : Block) → IsRight g nest R b → IsRight g nest Q b
  right_same g nest (of_groups h k m n z) x = (x.0, record { set = x.1.set; apart = apart_same x.1.apart })
  right_same g nest (of_rules p q m n z) x = (x.0, record { set = x.1.set; apart = apart_same x.1.apart })
  right_same g nest (of_cut p c f e z1 z0 z2 z3) x = (x.0, record { set1 = x.1.set1; set0 = x.1.set0; set2 = x.1.set2; set3 = x.1.set3; clear = clear_same x.1.clear })

pub least_same : (R Q : ℕ → ℕ → Type 0) → ((h k : ℕ) → R h k → Q h k) → (b : Block) → IsLeast R b → IsLeast Q b
least_same R Q to (of_groups h k m n z) least = λ y apart. least y (apart_same Q R to apart)
least_same R Q to (of_rules p q m n z) least = λ y apart. least y (apart_same Q R to apart)
least_same R Q to (of_cut p c f e z1 z0 z2 z3) least = λ y1 y0 y2 y3 clear. least y1 y0 y2 y3 (clear_same Q R to clear)
