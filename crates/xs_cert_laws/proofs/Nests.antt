-- Nets, nests and blocks of a grammar with other terminals and ignorables, whose automata are linked alike.
use Rattle.std.proofs.Common.{ℕ, List}
use Rattle.xs_auto.specs.Nets.{Graph}
use Rattle.xs_auto.specs.Nests.{Group}
use Rattle.xs_gram.specs.declared.parts.GItem.{GItem}
use Rattle.xs_gram.specs.declared.parts.Terminal.{Terminal}
use Rattle.xs_gram.specs.declared.parts.Ignorable.{Ignorable}
use Rattle.xs_gram.specs.Grammar.{Grammar}
use Rattle.xs_gram.specs.Fences.{spread}
use Rattle.xs_loose.specs.Arcs.{read, pass, call}
use Rattle.xs_loose.specs.Nets.{IsNumbered, IsGroupOf, IsNestOf}
use Rattle.xs_cert_laws.specs.Blocks.{Block, of_groups, of_rules, of_cut, IsRight}
use Rattle.xs_cert_laws.specs.Certificates.{Half, Shares, IsHalf}
use Rattle.xs_cert_laws.specs.Blocks.{Head}
use Rattle.xs_sheet_laws.proofs.Other.{with_parts}
use Rattle.xs_sheet_laws.proofs.Weighed.{KeepsSizes, part_kept}
use Rattle.xs_cert_laws.proofs.Automata.{contained}
use Rattle.xs_cert_laws.proofs.Laying.{KeepsLinks, part_laid}

module _ (g : Grammar) (ts : List Terminal) (ks : List Ignorable) (keeps : KeepsLinks g (with_parts g ts ks)) (sizes : KeepsSizes g (with_parts g ts ks)) where
  numbered_kept : (p k : ℕ) (is : List GItem) (n : Graph) → IsNumbered g p k is n → IsNumbered (with_parts g ts ks) p k is n
  numbered_kept p k is n d =
      let laid = part_laid g ts ks keeps d.lays in record {
        arcs = laid.arcs;
        last = d.last;
        lays = laid.lays;
        start = d.start;
        finals = d.finals;
        edges = λ a e. (
          λ h. (contained laid.same (read a e.class e.to)).0 ((d.edges a e).0 h),
          λ h. (d.edges a e).1 ((contained laid.same (read a e.class e.to)).1 h),
        );
        moves = λ a b. (
          λ h. (contained laid.same (pass a b)).0 ((d.moves a b).0 h),
          λ h. (d.moves a b).1 ((contained laid.same (pass a b)).1 h),
        );
        calls = λ a c. (
          λ h. (contained laid.same (call a c.group c.to)).0 ((d.calls a c).0 h),
          λ h. (d.calls a c).1 ((contained laid.same (call a c.group c.to)).1 h),
        );
      }

  group_kept : (p k : ℕ) (group : Group) → IsGroupOf g p k group → IsGroupOf (with_parts g ts ks) p k group
  group_kept p k group d = record {
    rule = d.rule;
    inside = d.inside;
    partner = d.partner;
    at = d.at;
    content = numbered_kept p _ d.inside group.content d.content;
    weight = record { weight = d.weight.weight; weighs = part_kept g ts ks sizes d.weight.weighs; light = d.weight.light; states = d.weight.states };
  }

  nest_kept : (nest : List Group) → IsNestOf g nest → IsNestOf (with_parts g ts ks) nest
  nest_kept nest d = record {
    counted = d.counted;
    there = λ p k m l r inside rule at. let found = d.there p k m l r inside rule at in (found.0, found.1, group_kept p k found.0 found.2);
    only = λ h group is. let found = d.only h group is in (found.0, found.1, found.2, group_kept found.0 found.1 group found.3);
  }

  right_kept : (nest : List Group) (R : ℕ → ℕ → Type 0) (b : Block) → IsRight g nest R b → IsRight (with_parts g ts ks) nest R b
  right_kept nest R (of_groups h k m n z) right = right
  right_kept nest R (of_rules p q m n z) right =
      let nets = right.0 in (record { first = numbered_kept p 0 (spread g p) m nets.first; second = numbered_kept q 0 (spread g q) n nets.second }, right.1)
  right_kept nest R (of_cut p c f e z1 z0 z2 z3) right =
      let nets = right.0 in (
        record { start = nets.start; end = nets.end; at = nets.at; front = numbered_kept p nets.start _ f nets.front; rest = numbered_kept p c _ e nets.rest },
        right.1,
      )

  pub half_kept : (s : Half) (more : List Head) → IsHalf g s more → IsHalf (with_parts g ts ks) s more
  half_kept s more d = record {
    nest = nest_kept s.nest d.nest;
    shares = d.shares;
    order = d.order;
    right = λ b among. right_kept s.nest (Shares s.shares) b (d.right b among);
  }
