-- Covers by one table of labels are covers by another with the same classes.
use Rattle.std.proofs.Common.{◌≡◌, ℕ, suc, ◌+◌, List, [], length, get_or, sym, ap, subst, arith}
use Rattle.std.specs.List.{All}
use Rattle.xs_class.specs.Classes.{Has}
use Rattle.xs_auto.specs.Nets.{Graph}
use Rattle.xs_auto.specs.Nests.{Group}
use Rattle.xs_gram.specs.declared.parts.GItem.{GItem}
use Rattle.xs_gram.specs.declared.parts.GItem.TheVariants.{Fixed, Term, Non, Skip}
use Rattle.xs_gram.specs.Grammar.{Grammar}
use Rattle.xs_loose.specs.declared.part.Part.{Part}
use Rattle.xs_loose.specs.Groups.{group_number}
use Rattle.xs_loose.specs.Parts.{part_items}
use Rattle.xs_coarse.specs.Coarse.{Table, Net, HasArc, view}
use Rattle.xs_coarse.specs.Covers.{CoversPart, CoversCut, CoversNon, CoversGroups}
use Rattle.xs_coarse_net.specs.declared.cover.Content.{Content}
use Rattle.xs_coarse_net.specs.declared.cover.Cover.{Cover}
use Rattle.xs_coarse_net.specs.declared.cover.Covers.{Covers}
use Rattle.xs_coarse_net.specs.declared.cover.Whole.{Whole}
use Rattle.xs_coarse_net.specs.Contents.{nest_of}
use Rattle.xs_coarse_net.specs.Covers.{IsCoverOf}
use Rattle.xs_coarse_net.specs.Going.{LabelReads, Goes, goes_none, goes_move, goes_read, LeafGoes}
use Rattle.xs_coarse_net.specs.Having.{IsCovers}
use Rattle.xs_coarse_net.specs.Stretches.{last_state}
use Rattle.xs_coarse_net.specs.Whole.{place_state, PlaceLaid, IsWhole}

module _ (old new : Table) (same : new.classes ≡ old.classes) where
  view_same : (n : Net) (s e : ℕ) → view new n s e ≡ view old n s e
  view_same n s e =
      λ i. view (record { classes = same i; groups = new.groups; bits = new.bits }) n s e

  nest_same : (contents : List Content) → nest_of new contents ≡ nest_of old contents
  nest_same contents =
      λ i. nest_of (record { classes = same i; groups = new.groups; bits = new.bits }) contents

  reads_same : {label s : ℕ} → LabelReads old label s → LabelReads new label s
  reads_same {label} {s} r = record {
    class = r.class;
    below = omega (arith, r.below, ap length same);
    is = r.is;
    has = subst (λ (classes : List (List (ℕ × ℕ))). Has (get_or classes r.class []) s) (sym same) r.has;
  }

  goes_same : {n : Net} {a b : ℕ} {w : List ℕ} → Goes old n a w b → Goes new n a w b
  goes_same goes_none = goes_none
  goes_same (goes_move x p) = goes_move x (goes_same p)
  goes_same (goes_read x r p) = goes_read x (reads_same r) (goes_same p)

  leaf_same : (g : Grammar) (n : Net) (i : GItem) (a b : ℕ) → LeafGoes g old n i a b → LeafGoes g new n i a b
  leaf_same g n (Fixed f) a b h = goes_same h
  leaf_same g n (Term i s) a b h = λ w word. goes_same (h w word)
  leaf_same g n (Non m s) a b h = absurd h
  leaf_same g n (Skip k) a b h = λ w word. goes_same (h w word)

  place_same : (g : Grammar) (n : Net) (p k : ℕ) → PlaceLaid g old n p k → PlaceLaid g new n p k
  place_same g n p k h = record {
    leaves = λ i at leaf. leaf_same g n i (place_state g p k) (place_state g p (suc k)) (h.leaves i at leaf);
    enters = h.enters;
    returns = h.returns;
    groups = λ m l r inside at. subst (λ (count : ℕ). HasArc n (place_state g p k) (suc (count + group_number g p k)) (place_state g p (suc m))) (ap length (sym same)) (h.groups m l r inside at);
  }

  whole_same : (g : Grammar) (w : Whole) → IsWhole g old w → IsWhole g new w
  whole_same g w h = record {
    within = h.within;
    uses = h.uses;
    renamed = h.renamed;
    laid = λ p low. record { places = λ k here. place_same g w.net p k ((h.laid p low).places k here); passes = (h.laid p low).passes };
  }

  pub cover_same : (g : Grammar) (part : Part) (c : Cover) → IsCoverOf g old part c → IsCoverOf g new part c
  cover_same g part c h =
      let is = sym (view_same c.net 0 c.last) in
      record {
        last = h.last;
        covers = subst (λ (v : Graph). CoversPart g v part.rule part.start (part_items g part) 0 c.last) is h.covers;
        cuts = subst (λ (v : Graph). All (λ o. CoversCut g v part.rule part.start o.place part.end o.state c.last) c.places.items) is h.cuts;
      }

  pub covers_same : (g : Grammar) (c : Covers) → IsCovers g old c → IsCovers g new c
  covers_same g c h = record {
    whole = whole_same g c.whole h.whole;
    leaves = record {
      terms = λ i n at w word. goes_same (h.leaves.terms i n at w word);
      skips = λ k n at w word. goes_same (h.leaves.skips k n at w word);
    };
    groups = subst (λ (nest : List Group). CoversGroups g nest) (sym (nest_same c.contents.items)) h.groups;
    fragments = λ non n at. subst (λ (v : Graph). CoversNon g v non 0 (last_state n)) (sym (view_same n 0 0)) (h.fragments non n at);
  }
