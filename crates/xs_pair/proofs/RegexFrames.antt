-- What stands round the part of a regex that is copied next.
use Rattle.std.proofs.Common.{◌≡◌, ◌++◌, refl, sym, subst, List, [], ◌∷◌}
use Rattle.xs_regex.specs.declared.regex.Regex.{Regex}
use Rattle.xs_regex.specs.declared.regex.Regex.TheVariants.{Then', Or', Star', Times'}
use Rattle.xs_pair.specs.Regexes.{IsCopyOf}
use Rattle.xs_pair.specs.declared.regex.Frame.{Frame}
use Rattle.xs_pair.specs.declared.regex.Frame.TheVariants.{First, One, Any, Counted}

-- the part that stands in a regex inside frames, the outermost first, which hold copies of what is before it
abbrev pub IsWithin : List Frame → Regex → Regex → Type 0
IsWithin [] r rest = r ≡ rest
IsWithin (First x ∷ fs) (Then' p a q b) rest = IsCopyOf a x × IsWithin fs b rest
IsWithin (First x ∷ fs) r rest = ⊥
IsWithin (One x ∷ fs) (Or' p a q b) rest = IsCopyOf a x × IsWithin fs b rest
IsWithin (One x ∷ fs) r rest = ⊥
IsWithin (Any ∷ fs) (Star' p a) rest = IsWithin fs a rest
IsWithin (Any ∷ fs) r rest = ⊥
IsWithin (Counted low high ∷ fs) (Times' p a least most) rest = IsWithin fs a rest × (low ≡ least) × (high ≡ most)
IsWithin (Counted low high ∷ fs) r rest = ⊥

-- the copy of the part inside the frames
abbrev pub IsCopyWithin : List Frame → Regex → Regex → Type 0
IsCopyWithin fs r copy = (rest : Regex) × IsWithin fs r rest × IsCopyOf rest copy

-- one frame more, the innermost
pub within_push : (fs : List Frame) (f : Frame) (r rest next : Regex) → IsWithin fs r rest → IsWithin (f ∷ []) rest next → IsWithin (fs ++ f ∷ []) r next
within_push [] f r rest next h k = subst (λ s. IsWithin (f ∷ []) s next) (sym h) k
within_push (First x ∷ fs) f (Then' p a q b) rest next h k = (h.0, within_push fs f b rest next h.1 k)
within_push (First x ∷ fs) f r rest next h k = absurd h
within_push (One x ∷ fs) f (Or' p a q b) rest next h k = (h.0, within_push fs f b rest next h.1 k)
within_push (One x ∷ fs) f r rest next h k = absurd h
within_push (Any ∷ fs) f (Star' p a) rest next h k = within_push fs f a rest next h k
within_push (Any ∷ fs) f r rest next h k = absurd h
within_push (Counted low high ∷ fs) f (Times' p a least most) rest next h k = (within_push fs f a rest next h.0 k, h.1, h.2)
within_push (Counted low high ∷ fs) f r rest next h k = absurd h

-- the innermost frame stands round the part, and the others round both
within_pop : (fs : List Frame) (f : Frame) (r next : Regex) → IsWithin (fs ++ f ∷ []) r next → (rest : Regex) × IsWithin fs r rest × IsWithin (f ∷ []) rest next
within_pop [] f r next h = (r, refl, h)
within_pop (First x ∷ fs) f (Then' p a q b) next h = let k = within_pop fs f b next h.1 in (k.0, (h.0, k.1), k.2)
within_pop (First x ∷ fs) f r next h = absurd h
within_pop (One x ∷ fs) f (Or' p a q b) next h = let k = within_pop fs f b next h.1 in (k.0, (h.0, k.1), k.2)
within_pop (One x ∷ fs) f r next h = absurd h
within_pop (Any ∷ fs) f (Star' p a) next h = within_pop fs f a next h
within_pop (Any ∷ fs) f r next h = absurd h
within_pop (Counted low high ∷ fs) f (Times' p a least most) next h = let k = within_pop fs f a next h.0 in (k.0, (k.1, h.1, h.2), k.2)
within_pop (Counted low high ∷ fs) f r next h = absurd h

-- a frame round the copy of its part is the copy of the whole
round_first : (x r rest copy : Regex) (s t : _) → IsWithin (First x ∷ []) r rest → IsCopyOf rest copy → IsCopyOf r (Then' s x t copy)
round_first x (Then' p a q b) rest copy s t h c = (h.0, subst (λ u. IsCopyOf u copy) (sym h.1) c)
round_first x r rest copy s t h c = absurd h

round_one : (x r rest copy : Regex) (s t : _) → IsWithin (One x ∷ []) r rest → IsCopyOf rest copy → IsCopyOf r (Or' s x t copy)
round_one x (Or' p a q b) rest copy s t h c = (h.0, subst (λ u. IsCopyOf u copy) (sym h.1) c)
round_one x r rest copy s t h c = absurd h

round_any : (r rest copy : Regex) (s : _) → IsWithin (Any ∷ []) r rest → IsCopyOf rest copy → IsCopyOf r (Star' s copy)
round_any (Star' p a) rest copy s h c = subst (λ u. IsCopyOf u copy) (sym h) c
round_any r rest copy s h c = absurd h

round_counted : (low high : _) (r rest copy : Regex) (s : _) → IsWithin (Counted low high ∷ []) r rest → IsCopyOf rest copy → IsCopyOf r (Times' s copy low high)
round_counted low high (Times' p a least most) rest copy s h c = (subst (λ u. IsCopyOf u copy) (sym h.0) c, h.1, h.2)
round_counted low high r rest copy s h c = absurd h

-- the part inside the frames but the innermost
last_frame : (before fs : List Frame) (last f : Frame) (r copy : Regex) → before ≡ fs ++ last ∷ [] → last ≡ f → (h : IsCopyWithin before r copy) → (rest : Regex) × IsWithin fs r rest × IsWithin (f ∷ []) rest h.0
last_frame before fs last f r copy added is h =
    within_pop fs f r h.0 (subst (λ g. IsWithin (fs ++ g ∷ []) r h.0) is (subst (λ gs. IsWithin gs r h.0) added h.1))

-- the innermost frame is put round the copy
pub copy_first : (before fs : List Frame) (last : Frame) (r x y copy inner : Regex) (s t : _) → before ≡ fs ++ last ∷ [] → last ≡ First x → y ≡ x → inner ≡ copy → IsCopyWithin before r copy → IsCopyWithin fs r (Then' s y t inner)
copy_first before fs last r x y copy inner s t added is one other h =
    let k = last_frame before fs last (First x) r copy added is h in
    rw (one, other) (k.0, k.1, round_first x k.0 h.0 copy s t k.2 h.2)

pub copy_one : (before fs : List Frame) (last : Frame) (r x y copy inner : Regex) (s t : _) → before ≡ fs ++ last ∷ [] → last ≡ One x → y ≡ x → inner ≡ copy → IsCopyWithin before r copy → IsCopyWithin fs r (Or' s y t inner)
copy_one before fs last r x y copy inner s t added is one other h =
    let k = last_frame before fs last (One x) r copy added is h in
    rw (one, other) (k.0, k.1, round_one x k.0 h.0 copy s t k.2 h.2)

pub copy_any : (before fs : List Frame) (last : Frame) (r copy inner : Regex) (s : _) → before ≡ fs ++ last ∷ [] → last ≡ Any → inner ≡ copy → IsCopyWithin before r copy → IsCopyWithin fs r (Star' s inner)
copy_any before fs last r copy inner s added is other h =
    let k = last_frame before fs last Any r copy added is h in
    rw other (k.0, k.1, round_any k.0 h.0 copy s k.2 h.2)

pub copy_counted : (low high : _) (before fs : List Frame) (last : Frame) (r copy inner : Regex) (s : _) → before ≡ fs ++ last ∷ [] → last ≡ Counted low high → inner ≡ copy → IsCopyWithin before r copy → IsCopyWithin fs r (Times' s inner low high)
copy_counted low high before fs last r copy inner s added is other h =
    let k = last_frame before fs last (Counted low high) r copy added is h in
    rw other (k.0, k.1, round_counted low high k.0 h.0 copy s k.2 h.2)
