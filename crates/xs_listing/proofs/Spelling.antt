-- The derivation of a number, and that many first ones, written flat.
use Rattle.std.proofs.Common.{◌≡◌, inl, inr, ℕ, suc, ◌+◌, ◌<◌, List, [], ◌∷◌, ◌++◌, length, min, ltb, Option, Some, None, refl, sym, ◌∙◌, ap, arith, subst, length-append}
use Rattle.xs_gram.specs.Derivations.{done, sub, Derivation}
use Rattle.xs_forest.specs.Rows.{IsEarlier}
use Rattle.xs_forest_laws.specs.declared.span.SpanKey.{SpanKey}
use Rattle.xs_forest_laws.specs.declared.span.What.TheVariants.{Whole}
use Rattle.xs_forest_laws.specs.Forest.{key_of, alts_of, Unfolding, bare, pick, read, WholeAlt}
use Rattle.xs_forest_laws.specs.Number.{count_of, At, IsChosen, IsCounted}
use Rattle.xs_forest_laws.specs.Listing.{IsByNumber}
use Rattle.xs_forest_laws.specs.Laws.{IsRoot}
use Rattle.xs_forest_laws.proofs.Read.{read_whole}
use Rattle.xs_forest_laws.proofs.Counts.{left_within, at_chosen}
use Rattle.xs_forest_laws.proofs.Number.{contains_of}
use Rattle.xs_forest_laws.proofs.Listing.{listed}
use Rattle.xs_listing.specs.declared.count.Chosen.{Chosen}
use Rattle.xs_listing.specs.declared.spelt.SpeltPart.{SpeltPart}
use Rattle.xs_listing.specs.declared.spelt.SpeltPart.TheVariants.{Node}
use Rattle.xs_listing.specs.declared.spelt.Listing.{Listing}
use Rattle.xs_listing.specs.declared.write.Source.{Source}
use Rattle.xs_listing.specs.Spelt.{IsSpeltOf, AreSpeltOf, IsListingOf}
use Rattle.xs_listing.specs.Writing.{AreWritten, IsSource, HasChild}
use Rattle.xs_listing.specs.Numbered.{IsNumbered, IsSpeltBy, AreSpeltBy}
use Rattle.xs_listing.proofs.Children.{IsInside, children_earlier, children_inside}
use Rattle.xs_listing.proofs.Walking.{some_unfolding, order_push, flat_more, places_below}
use Rattle.xs_class.proofs.Lists.{get_push}

module _ (s : Source) (is : IsSource s) (root : ℕ) (row : IsRoot s.g.now s.doc.now s.forest.now root) where
  there : root < length s.forest.now
  there = row.0

  starts : (key_of s.forest.now root).start ≡ 0
  starts = ap (λ (k : SpanKey). k.start) row.1

  child_of : (o : Option ℕ) → IsEarlier o root → IsInside s.g.now s.doc.now s.forest.now is.right o → HasChild s o
  child_of None lt h = tt
  child_of (Some r) lt h = let le = there in (omega arith, h)

  module _ (k n : ℕ) (c : Chosen) (ch : IsChosen s.cap s.counts.now (alts_of s.forest.now root) k n c.left c.right c.alt) where
    -- the left child of the root's alternative
    pub left_there : HasChild s c.alt.left
    left_there =
        let e = starts in
        let inside = children_inside s.g.now s.doc.now s.forest.now is.right root n c.alt there ch.alt (omega arith) in
        child_of c.alt.left (children_earlier s.g.now s.doc.now s.forest.now is.right root n root c.alt there (omega arith) ch.alt).0 inside.0

    pub left_number : c.left < count_of s.counts.now c.alt.left
    left_number = left_within s.cap s.counts.now (alts_of s.forest.now root) k n c.left c.right c.alt ch

    by : WholeAlt s.g.now s.doc.now s.forest.now s.g.now.start 0 (length s.doc.now) c.alt.rule c.alt
    by = is.right.sound root (Whole s.g.now.start) 0 (length s.doc.now) c.alt row (contains_of (alts_of s.forest.now root) n c.alt ch.alt)

    -- and it has no right child
    right_at : At s.forest.now s.cap s.counts.now c.alt.right c.right bare
    right_at =
        let none : c.alt.right ≡ None = by.right_is in
        let lt : c.right < count_of s.counts.now None = subst (λ o. c.right < count_of s.counts.now o) none ch.within in
        let zero_is : c.right ≡ 0 = omega arith in
        subst (λ o. At s.forest.now s.cap s.counts.now o c.right bare) (sym none) zero_is

    -- the root's node is written after the parts of its left child
    pub spelt_by : (parts : List SpeltPart) (places : List ℕ) → ((u : Unfolding) → At s.forest.now s.cap s.counts.now c.alt.left c.left u → AreWritten s.doc.now (read s.g.now s.doc.now s.forest.now c.alt.left u) parts places) → IsSpeltBy s root k (parts ++ Node c.alt.rule places ∷ [])
    spelt_by parts places wr = record {
      derivation = record { rule = c.alt.rule; parts = read s.g.now s.doc.now s.forest.now c.alt.left l.0 };
      numbered = (pick c.alt l.0 bare, at_chosen s.forest.now s.cap s.counts.now root k n c.left c.right c.alt ch l.0 bare there l.1 right_at, read_whole s.g.now s.doc.now s.forest.now root s.g.now.start 0 (length s.doc.now) c.alt l.0 bare row);
      spelt_is = record {
        before = parts;
        kids = places;
        root_last = refl;
        kids_at = flat_more s.doc.now parts (Node c.alt.rule places) (read s.g.now s.doc.now s.forest.now c.alt.left l.0) places written.at;
        in_order = order_push s.doc.now parts (Node c.alt.rule places) written.in_order (places_below s.doc.now parts (read s.g.now s.doc.now s.forest.now c.alt.left l.0) places written.at);
      };
    }
      where
        l : (u : Unfolding) × At s.forest.now s.cap s.counts.now c.alt.left c.left u
        l = some_unfolding s is c.alt.left c.left left_there left_number

        written : AreWritten s.doc.now (read s.g.now s.doc.now s.forest.now c.alt.left l.0) parts places
        written = wr l.0 l.1

spelt_push : (w : List ℕ) (ss : List (List SpeltPart)) (ds : List Derivation) (t : List SpeltPart) (d : Derivation) → AreSpeltOf w ss ds → IsSpeltOf w t d → AreSpeltOf w (ss ++ t ∷ []) (ds ++ d ∷ [])
spelt_push w [] [] t d h k = (k, tt)
spelt_push w [] (e ∷ ds) t d h k = absurd h
spelt_push w (x ∷ ss) [] t d h k = absurd h
spelt_push w (x ∷ ss) (e ∷ ds) t d h k = (h.0, spelt_push w ss ds t d h.1 k)

pub none_spelt : (s : Source) (root : ℕ) → AreSpeltBy s root 0 []
none_spelt s root = record { derivations = []; long = refl; numbered = λ k d e. cc; spelt_are = tt }

-- one more
pub next_spelt : (s : Source) (root count : ℕ) (trees : List (List SpeltPart)) (spelt : List SpeltPart) → AreSpeltBy s root count trees → IsSpeltBy s root count spelt → AreSpeltBy s root (count + 1) (trees ++ spelt ∷ [])
next_spelt s root count trees spelt all one =
    let more = length-append all.derivations (one.derivation ∷ []) in
    let long = all.long in
    record {
      derivations = all.derivations ++ one.derivation ∷ [];
      long = omega arith;
      numbered = λ k d e. elim (get_push all.derivations one.derivation d k e) [
        | inl old ↦ all.numbered k d old
        | inr new ↦
            let same : count ≡ k = omega arith in
            subst (λ n. IsNumbered s root n d) same (subst (λ x. IsNumbered s root count x) new.1 one.numbered)
      ];
      spelt_are = spelt_push s.doc.now trees all.derivations spelt one.derivation all.spelt_are one.spelt_is;
    }

-- as many as there are and no more than max are a listing
pub listing_is : (s : Source) (root n : ℕ) (l : Listing) → AreSpeltBy s root n l.trees → IsSource s → (max : ℕ) → IsRoot s.g.now s.doc.now s.forest.now root → s.cap ≡ suc max → (count : ℕ) → count ≡ count_of s.counts.now (Some root) → n ≡ min max count → l.more ≡ ltb max count → IsListingOf s.g.now s.doc.now max l
listing_is s root n l all is max row cap count counts least more = record { derivations = all.derivations; listed = listed s.g.now s.doc.now s.forest.now is.right root row max s.counts.now all.derivations l.more by; spelt = all.spelt_are }
  where
    by : IsByNumber s.g.now s.doc.now s.forest.now root max s.counts.now all.derivations l.more
    by = record {
      counted = subst (λ n. IsCounted s.forest.now n s.counts.now) cap is.counted;
      long = all.long ∙ (least ∙ ap (min max) counts);
      each = λ k d e. subst (λ n. (u : Unfolding) × At s.forest.now n s.counts.now (Some root) k u × (read s.g.now s.doc.now s.forest.now (Some root) u ≡ sub d.rule d.parts done)) cap (all.numbered k d e);
      says = more ∙ ap (ltb max) counts;
    }
