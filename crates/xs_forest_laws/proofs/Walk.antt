-- Each step of the walk keeps what the walk ends with; what lies in the flat list stays there.
use Rattle.std.proofs.Common.{◌≡◌, ℕ, suc, List, ◌∷◌, ◌++◌, Some, None, refl, sym, ap, ◌∙◌}
use Rattle.std.specs.Prelude.{slice_range}
use Rattle.xs_class.proofs.Lists.{get_left}
use Rattle.xs_gram.specs.declared.parts.GItem.{GItem}
use Rattle.xs_gram.specs.Grammar.{Grammar}
use Rattle.xs_gram.specs.Derivations.{Parts, done, fixed, leaf, skip, sub}
use Rattle.xs_chart_laws.specs.Parts.{parts_then}
use Rattle.xs_forest.specs.declared.row.Alt.{Alt}
use Rattle.xs_forest_laws.specs.declared.span.What.TheVariants.{Whole, Front}
use Rattle.xs_forest_laws.specs.Forest.{Forest, IsRow, Unfolding, pick, word_part, last_part, read, FrontAlt}
use Rattle.xs_forest_laws.specs.Walk.{Tasks, visit, word, close, end_of_walk, Flat, node, leaf_at, skip_at, AreAt}
use Rattle.xs_forest_laws.proofs.Read.{read_front, read_whole}
use Rattle.xs_forest_laws.proofs.All.{then_done, then_assoc}

module _ (g : Grammar) (w : List ℕ) (f : Forest) where
  pub none_step : (u : Unfolding) (ts : Tasks) (ps : Parts) (around : List Parts) → end_of_walk g w f (visit None u ts) ps around ≡ end_of_walk g w f ts ps around
  none_step u ts ps around = ap (λ z. end_of_walk g w f ts z around) (then_done ps)

  pub whole_step : (r n i j : ℕ) (a : Alt) (l t : Unfolding) (ts : Tasks) (ps : Parts) (around : List Parts) → IsRow f r (Whole n) i j → end_of_walk g w f (visit (Some r) (pick a l t) ts) ps around ≡ end_of_walk g w f (visit a.left l (close a.rule ts)) done (ps ∷ around)
  whole_step r n i j a l t ts ps around row = ap (λ z. end_of_walk g w f ts (parts_then ps z) around) (read_whole g w f r n i j a l t row)

  front_step : (r p d i j m : ℕ) (item : GItem) (a : Alt) (l t : Unfolding) (ts : Tasks) (ps : Parts) (around : List Parts) → IsRow f r (Front p (suc d)) i j → FrontAlt g w f p d i j m item a → end_of_walk g w f (visit (Some r) (pick a l t) ts) ps around ≡ end_of_walk g w f (visit a.left l (word (last_part item (slice_range w m j) a.right (read g w f a.right t)) ts)) ps around
  front_step r p d i j m item a l t ts ps around row h =
      ap (λ z. end_of_walk g w f ts (parts_then ps z) around) (read_front g w f r p d i j m item a l t row h) ∙
      ap (λ z. end_of_walk g w f ts z around) (sym (then_assoc ps (read g w f a.left l) (last_part item (slice_range w m j) a.right (read g w f a.right t))))

  -- with a word, and with a nonterminal, at the end
  pub word_step : (r p d i j m : ℕ) (item : GItem) (a : Alt) (l t : Unfolding) (ts : Tasks) (ps : Parts) (around : List Parts) → IsRow f r (Front p (suc d)) i j → FrontAlt g w f p d i j m item a → a.right ≡ None → end_of_walk g w f (visit (Some r) (pick a l t) ts) ps around ≡ end_of_walk g w f (visit a.left l (word (word_part item (slice_range w m j)) ts)) ps around
  word_step r p d i j m item a l t ts ps around row h e =
      front_step r p d i j m item a l t ts ps around row h ∙
      ap (λ o. end_of_walk g w f (visit a.left l (word (last_part item (slice_range w m j) o (read g w f o t)) ts)) ps around) e

  pub non_step : (r p d i j m c : ℕ) (item : GItem) (a : Alt) (l t : Unfolding) (ts : Tasks) (ps : Parts) (around : List Parts) → IsRow f r (Front p (suc d)) i j → FrontAlt g w f p d i j m item a → a.right ≡ Some c → end_of_walk g w f (visit (Some r) (pick a l t) ts) ps around ≡ end_of_walk g w f (visit a.left l (visit (Some c) t ts)) ps around
  non_step r p d i j m c item a l t ts ps around row h e =
      front_step r p d i j m item a l t ts ps around row h ∙
      ap (λ o. end_of_walk g w f (visit a.left l (word (last_part item (slice_range w m j) o (read g w f o t)) ts)) ps around) e

module _ (w : List ℕ) where
  -- more flat parts after
  pub are_more : (out more : List Flat) (ps : Parts) (vs : List ℕ) → AreAt w out ps vs → AreAt w (out ++ more) ps vs
  are_more out more done vs h = h
  are_more out more (fixed u ps) vs h = are_more out more ps vs h
  are_more out more (leaf u ps) vs (v, i, j, us, e, at, is, h) = (v, i, j, us, e, get_left out more v (leaf_at i j) at, is, are_more out more ps us h)
  are_more out more (skip u ps) vs (v, i, j, us, e, at, is, h) = (v, i, j, us, e, get_left out more v (skip_at i j) at, is, are_more out more ps us h)
  are_more out more (sub q qs ps) vs (v, kids, us, e, at, hq, h) = (v, kids, us, e, get_left out more v (node q kids) at, are_more out more qs kids hq, are_more out more ps us h)

  -- parts and then parts
  pub are_then : (out : List Flat) (ps rs : Parts) (vs us : List ℕ) → AreAt w out ps vs → AreAt w out rs us → AreAt w out (parts_then ps rs) (vs ++ us)
  are_then out done rs vs us h k = rw h k
  are_then out (fixed u ps) rs vs us h k = are_then out ps rs vs us h k
  are_then out (leaf u ps) rs vs us (v, i, j, ws, e, at, is, h) k = (v, i, j, ws ++ us, rw e refl, at, is, are_then out ps rs ws us h k)
  are_then out (skip u ps) rs vs us (v, i, j, ws, e, at, is, h) k = (v, i, j, ws ++ us, rw e refl, at, is, are_then out ps rs ws us h k)
  are_then out (sub q qs ps) rs vs us (v, kids, ws, e, at, hq, h) k = (v, kids, ws ++ us, rw e refl, at, hq, are_then out ps rs ws us h k)
