-- How the part of a net that is reached from a state is copied.
use Rattle.std.specs.Prelude.{◌≡◌, ℕ, suc, ◌<◌, List, length, get_or, slice_get, Some}
use Rattle.std.specs.List.{Contains}
use Rattle.xs_coarse.specs.declared.arc.Arc.{Arc}
use Rattle.xs_coarse.specs.Coarse.{Net, HasArc}
use Rattle.xs_coarse_net.specs.declared.fragment.Tracer.{Tracer}

-- a state that has a number is the one at its place in the order
pub record AreNamed (names order : List ℕ) : Type 0 where
  pub place : (x u : ℕ) → get_or names x 0 ≡ suc u → slice_get order u ≡ Some x
  pub name : (x u : ℕ) → slice_get order u ≡ Some x → get_or names x 0 ≡ suc u

-- states keep their numbers
pub record Reaches (old new : Tracer) : Type 0 where
  pub named : AreNamed old.names.items old.order.items → AreNamed new.names.items new.order.items
  pub long : length new.names.items ≡ length old.names.items
  pub kept : (x u : ℕ) → get_or old.names.items x 0 ≡ suc u → get_or new.names.items x 0 ≡ suc u
  pub order : (u x : ℕ) → slice_get old.order.items u ≡ Some x → slice_get new.order.items u ≡ Some x
  pub arcs : (x : Arc) → Contains old.arcs.items x → Contains new.arcs.items x

-- the arc, from a state with that number, is in the copy
pub record IsCopied (trace : Tracer) (from : ℕ) (x : Arc) : Type 0 where
  pub name : ℕ
  pub is : get_or trace.names.items x.to 0 ≡ suc name
  pub arc : Contains trace.arcs.items (record { from = from; label = x.label; to = suc name })

-- so are all arcs of the states that were reached first, as many as done
abbrev pub AreCopied : Net → Tracer → ℕ → Type 0
AreCopied whole trace done = (x u label y : ℕ) → get_or trace.names.items x 0 ≡ suc u → u < done → HasArc whole x label y → IsCopied trace (suc u) (record { from = x; label = label; to = y })
