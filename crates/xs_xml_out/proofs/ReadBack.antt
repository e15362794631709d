-- The law that XML is read back.
use Rattle.std.proofs.Common.{◌≡◌, ◌⊎◌, inl, inr, ℕ, ◌<◌, List, [], ◌∷◌, ◌++◌, length, append-nil, Some, true, refl, sym, ◌∙◌, subst}
use Rattle.xs_class.specs.Ordered.{IsOrdered}
use Rattle.xs_xml_laws.specs.Tables.{is_char, is_white}
use Rattle.xs_xml_laws.specs.Piece.{character, start_tag, empty_tag, end_tag, is_tag}
use Rattle.xs_xml_laws.specs.Legal.{ahead, inside, beyond, are_pieces, all_passed}
use Rattle.xs_xml_laws.specs.Reads.{Reads}
use Rattle.xs_xml_out.specs.Balanced.{Attribute, element_word, AreAttributes, IsAscending}
use Rattle.xs_xml_out.specs.Written.{name_at, xml_chars}
use Rattle.xs_xml_out.specs.Laws.{AreNames, IsReadBack}
use Rattle.xs_xml_out.proofs.Attributes.{tag_attributes}
use Rattle.xs_xml_out.proofs.Content.{IsSpelt}
use Rattle.xs_xml_out.proofs.Calm.{are_calm-append, calm_legal}
use Rattle.xs_xml_out.proofs.Ends.{written-line_feed, xml_chars-element_word}
use Rattle.xs_xml_out.proofs.Elements.{EndsTag, content_ends, tag_fits, end_passes, empty_spells, empty_all, full_spells, full_all, full_passes, full_each, spelt_content}
use Rattle.xs_class.proofs.Truth.{both_true}

line_feed_fits : are_pieces (character 10 ∷ []) ≡ true
unfolding is_char
line_feed_fits = refl

line_feed_passes : all_passed (Some beyond) (character 10 ∷ []) ≡ Some beyond
unfolding is_white
line_feed_passes = refl

module _ (names : List (List ℕ)) (ordered : IsOrdered names) (are_names : AreNames names) (k : ℕ) (as_ : List Attribute) (below : k < length names) (are : AreAttributes names as_) (ascend : IsAscending as_) where
  root_empty : Reads names (xml_chars names (element_word k as_ [] [])) (element_word k as_ [] [])
  root_empty =
      let tag = empty_tag (name_at names k) (tag_attributes names as_) [] in
      record {
        pieces = tag ∷ character 10 ∷ [];
        legal = calm_legal (xml_chars names (element_word k as_ [] [])) (tag ∷ character 10 ∷ []) [] beyond
            (sym (xml_chars-element_word names k as_ [] are) ∙ empty_spells names ordered are_names k as_ below are ascend [] (10 ∷ []) (10 ∷ []) (written-line_feed names))
            (both_true (is_tag (name_at names k) (tag_attributes names as_) []) (are_pieces (character 10 ∷ [])) (tag_fits names ordered are_names k as_ below are ascend) line_feed_fits)
            refl
            line_feed_passes;
        gives = sym (append-nil (element_word k as_ [] [])) ∙ sym (empty_all names ordered are_names k as_ below are ascend [] (character 10 ∷ []) ahead beyond [] refl refl);
      }

  root_full : (w : List ℕ) → IsSpelt names w → EndsTag names w → Reads names (xml_chars names (element_word k as_ w [])) (element_word k as_ w [])
  root_full w i ends =
      let start = start_tag (name_at names k) (tag_attributes names as_) [] in
      let end = end_tag (name_at names k) [] in
      record {
        pieces = start ∷ (i.pieces ++ end ∷ character 10 ∷ []);
        legal = calm_legal (xml_chars names (element_word k as_ w [])) (start ∷ (i.pieces ++ end ∷ character 10 ∷ [])) [] beyond
            (sym (xml_chars-element_word names k as_ w are) ∙ full_spells names ordered are_names k as_ below are ascend w [] (10 ∷ []) i.pieces (character 10 ∷ []) [] ends i.spells (written-line_feed names))
            (full_each names ordered are_names k as_ below are ascend i.pieces (character 10 ∷ []) i.each line_feed_fits)
            (are_calm-append i.pieces (end ∷ character 10 ∷ []) i.calm refl)
            (full_passes names ordered are_names k as_ below are ascend i.pieces (character 10 ∷ []) [] (Some beyond) (i.passes (name_at names k) []) line_feed_passes);
        gives = sym (append-nil (element_word k as_ w [])) ∙ sym (full_all names ordered are_names k as_ below are ascend w [] i.pieces (character 10 ∷ []) ahead (inside (name_at names k) []) beyond [] refl (end_passes names ordered are_names k as_ below are ascend []) (i.gives (name_at names k) []) refl);
      }

  root : (w : List ℕ) → IsSpelt names w → (w ≡ []) ⊎ EndsTag names w → Reads names (xml_chars names (element_word k as_ w [])) (element_word k as_ w [])
  root w i (inl none) = subst (λ (z : List ℕ). Reads names (xml_chars names (element_word k as_ z [])) (element_word k as_ z [])) (sym none) root_empty
  root w i (inr ends) = root_full w i ends

pub is_read_back : IsReadBack
is_read_back names word ordered are_names b = subst (λ (z : List ℕ). Reads names (xml_chars names z) z) (sym b.is) (root names ordered are_names b.name b.attributes b.is_named b.are_attributes b.is_ascending b.content (spelt_content names ordered are_names b.content b.is_content) (content_ends names b.content b.is_content))
