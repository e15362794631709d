-- What moves say of a word is so of the automaton, and stays so when more rows come.
use Rattle.std.proofs.Common.{◌≡◌, ◌∙◌, ℕ, suc, ◌+◌, ◌*◌, ◌<◌, ◌≤◌, List, [], ◌∷◌, ◌++◌, length, map, get_or, Some, None, refl, sym, ap, inl, inr, arith, append_assoc, length-append}
use Rattle.std.proofs.Math.ListN.{get_or-append}
use Rattle.std.proofs.Math.Nat.{mul-le-mul_left}
use Rattle.std.proofs.lemmas.List.{append-nil}
use Rattle.std.specs.Prelude.{Contains, Option}
use Rattle.xs_regex.specs.declared.position.Position.{Position}
use Rattle.xs_regex.specs.Automaton.{Runs, begins, goes, Accepts}
use Rattle.xs_atoms.specs.declared.atoms.Atoms.{Atoms}
use Rattle.xs_atoms.specs.Alphabet.{atom_of}
use Rattle.xs_parse_table.specs.Moves.{stand, MayEnd, IsStep, cell_at, AreMoves, Says}

-- the word leads to where a run stands
abbrev LeadsTo : Position → Option (List ℕ) → List ℕ → Type 0
LeadsTo p None w = w ≡ []
LeadsTo p (Some set) w = (k : ℕ) → Contains set k → Runs p w k

led : (p : Position) (a : Atoms) (from : Option (List ℕ)) (u : List ℕ) (s : ℕ) (set : List ℕ) → LeadsTo p from u → IsStep p a from (atom_of a s) set → LeadsTo p (Some set) (u ++ s ∷ [])
led p a None u s set h step k c = let t = step k c in begins s t.0 (t.1 s refl) (ap (λ (x : List ℕ). x ++ s ∷ []) h)
led p a (Some before) u s set h step k c = let t = step k c in goes u t.0.0 s (h t.0.0 t.0.1) t.0.2 (t.1 s refl) refl

ended : (p : Position) (from : Option (List ℕ)) (u : List ℕ) → LeadsTo p from u → MayEnd p from → Accepts p u
ended p None u h e = inl (h, e)
ended p (Some set) u h e = inr (e.0, h e.0 e.1, e.2)

go : (p : Position) (a : Atoms) (cells : List ℕ) (start : ℕ) (m : AreMoves p a cells start) → ((s : ℕ) → atom_of a s < a.count) → (w : List ℕ) (i row : ℕ) (u : List ℕ) → i ≤ length m.sets → row ≡ start + i * suc a.count → LeadsTo p (stand m.sets i) u → Says cells a.count row (map (atom_of a) w) → Accepts p (u ++ w)
go p a cells start m below [] i row u l e led_to says =
    let none : u ++ [] ≡ u = append-nil u in
    rw none (ended p (stand m.sets i) u led_to (m.ends i l (ap (λ r. cell_at cells (r + a.count)) (sym e) ∙ says)))
go p a cells start m below (s ∷ w) i row u l e led_to says =
    let move = m.moves i (atom_of a s) l (below s) in
    let next : cell_at cells (row + atom_of a s) ≡ start + suc move.to * suc a.count = ap (λ r. cell_at cells (r + atom_of a s)) e ∙ move.leads in
    let longer : u ++ (s ∷ w) ≡ (u ++ s ∷ []) ++ w = sym (append_assoc u (s ∷ []) w) in
    rw longer (go p a cells start m below w (suc move.to) (cell_at cells (row + atom_of a s)) (u ++ s ∷ []) (omega (arith, move.below)) next (led p a (stand m.sets i) u s (get_or m.sets move.to []) led_to move.step) says)

pub moves_accept : (p : Position) (a : Atoms) (cells : List ℕ) (start : ℕ) → AreMoves p a cells start → ((s : ℕ) → atom_of a s < a.count) → (w : List ℕ) → Says cells a.count start (map (atom_of a) w) → Accepts p w
moves_accept p a cells start m below w says = go p a cells start m below w 0 start [] (omega arith) (omega arith) refl says

pub moves_stay : (p : Position) (a : Atoms) (cells more : List ℕ) (start : ℕ) → AreMoves p a cells start → AreMoves p a (cells ++ more) start
moves_stay p a cells more start m = record {
  sets = m.sets;
  within = omega (arith, m.within, length-append cells more);
  moves = λ i x l h.
      let old = m.moves i x l h in
      record { to = old.to; below = old.below; leads = kept i x l (omega arith) ∙ old.leads; step = old.step };
  ends = λ i l e. m.ends i l (sym (kept i a.count l (omega arith)) ∙ e);
}
  where
    kept : (i x : ℕ) → i ≤ length m.sets → x < suc a.count → cell_at (cells ++ more) (start + i * suc a.count + x) ≡ cell_at cells (start + i * suc a.count + x)
    kept i x l h = get_or-append cells more 0 (start + i * suc a.count + x) (inside i x l h)
      where
        inside : (i x : ℕ) → i ≤ length m.sets → x < suc a.count → start + i * suc a.count + x < length cells
        inside i x l h =
            let up : suc a.count * suc i ≤ suc a.count * suc (length m.sets) = mul-le-mul_left {m = suc i} {n = suc (length m.sets)} (suc a.count) (omega arith) in
            omega (arith, m.within, up)
