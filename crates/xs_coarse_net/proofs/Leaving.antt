-- Nets of terminals and ignorables: made one after another, laid in a net, and joined to one.
use Rattle.std.proofs.Common.{◌≡◌, ◌≢◌, inl, inr, ℕ, ◌+◌, ◌<◌, ◌≤◌, List, [], ◌∷◌, ◌++◌, length, take, get_or, slice_get, Some, refl, sym, subst, ◌∙◌, arith}
use Rattle.std.proofs.lemmas.Bool.{eq-eqb, ne_eqb}
use Rattle.std.proofs.lemmas.List.{take_more, take_all}
use Rattle.std.proofs.lemmas.Option.{none-some}
use Rattle.std.specs.List.{All, Contains}
use Rattle.xs_class.proofs.Lists.{first_in, get_push, one_longer}
use Rattle.xs_auto.specs.Nets.{Walks}
use Rattle.xs_coarse.specs.declared.arc.Arc.{Arc}
use Rattle.xs_coarse.specs.Coarse.{Table, Net, IsWithin, HasArc, joined, one_arc}
use Rattle.xs_coarse_net.specs.Going.{Goes, goes_none, goes_move, goes_read}
use Rattle.xs_coarse_net.specs.Joining.{Joins}
use Rattle.xs_coarse_net.specs.Leaves.{AreNetsOf}
use Rattle.xs_coarse_net.specs.Placing.{Placed, inner_state}
use Rattle.xs_coarse_net.specs.Stretches.{last_state, open_view}
use Rattle.xs_coarse_net.proofs.Covering.{joined_second}
use Rattle.xs_coarse_net.proofs.Extending.{joins_arc}
use Rattle.xs_coarse_net.proofs.Going.{goes_on, goes_as}
use Rattle.xs_coarse_net.proofs.Viewing.{goes_walks}

-- the nets of the numbers before one
pub record AreNetsBefore (IsWord : ℕ → List ℕ → Type 0) (t : Table) (i : ℕ) (nets : List Net) : Type 0 where
  pub long : length nets ≡ i
  pub each : AreNetsOf IsWord t nets

pub nets_none : (IsWord : ℕ → List ℕ → Type 0) (t : Table) → AreNetsBefore IsWord t 0 []
nets_none IsWord t = record { long = refl; each = λ i n e. absurd (none-some n e) }

pub nets_next : {IsWord : ℕ → List ℕ → Type 0} {t : Table} {i : ℕ} {nets : List Net} (n : Net) → AreNetsBefore IsWord t i nets → ((w : List ℕ) → IsWord i w → Goes t n 0 w (last_state n)) → AreNetsBefore IsWord t (i + 1) (nets ++ n ∷ [])
nets_next {IsWord} {t} {i} {nets} n before here = record {
  long = omega (arith, one_longer nets n, before.long);
  each = λ k m at. elim (get_push nets n m k at) [
    | inl e ↦ before.each k m e
    | inr e ↦ subst (λ (x : Net). (w : List ℕ) → IsWord k w → Goes t x 0 w (last_state x)) e.1 (subst (λ (j : ℕ). (w : List ℕ) → IsWord j w → Goes t n 0 w (last_state n)) (sym (e.0 ∙ before.long)) here)
  ];
}

-- a path is there too where each arc is, between other states
pub goes_moved : {t : Table} {m n : Net} (f : ℕ → ℕ) → ((x : Arc) → Contains m.arcs x → HasArc n (f x.from) x.label (f x.to)) → {a b : ℕ} {w : List ℕ} → Goes t m a w b → Goes t n (f a) w (f b)
goes_moved f arc goes_none = goes_none
goes_moved f arc (goes_move x p) = goes_move (arc _ x) (goes_moved f arc p)
goes_moved f arc (goes_read x r p) = goes_read (arc _ x) r (goes_moved f arc p)

last_inner : (last base from to : ℕ) → last ≢ 0 → inner_state last base from to last ≡ to
last_inner last base from to some = rw (ne_eqb last 0 some, eq-eqb last last refl) refl

-- a net that is laid from a state to another
pub laid_goes : (m n : Net) (last base from to : ℕ) → last ≢ 0 → last ≡ last_state m → ((x : Arc) → Contains m.arcs x → HasArc n (inner_state last base from to x.from) x.label (inner_state last base from to x.to)) → (t : Table) (w : List ℕ) → Goes t m 0 w (last_state m) → Goes t n from w to
laid_goes m n last base from to some is arc t w p =
    goes_as refl refl (last_inner last base from to some) (goes_moved (inner_state last base from to) arc (goes_as refl refl (sym is) p))

-- the same in a net where it stands
pub goes_placed : {t : Table} {m n : Net} {f : ℕ → ℕ} → Placed m n f → {a b : ℕ} {w : List ℕ} → Goes t m a w b → Goes t n (f a) w (f b)
goes_placed {f = f} h p = goes_moved f (λ x has. h.arc x.from x.label x.to has) p

pub placed_none : (n : Net) → All (IsWithin n.states) n.arcs → Placed n n (λ x. x)
placed_none n within = record { within = within; arc = λ x l y h. h }

pub placed_on : {m n o : Net} → Placed m n (λ x. x) → Placed n o (λ x. x) → Placed m o (λ x. x)
placed_on f g = record { within = g.within; arc = λ x l y h. g.arc x l y (f.arc x l y h) }

-- a net goes on by what it is joined with
pub joins_goes : (m n o : Net) → Joins m n o → (t : Table) (w : List ℕ) → Goes t n 0 w (last_state n) → Goes t o (last_state m) w (last_state o)
joins_goes m n o j t w p = at_joined o j.is j.within
  where
    at_joined : (o : Net) → o ≡ joined m n → All (IsWithin o.states) o.arcs → Goes t o (last_state m) w (last_state o)
    at_joined o is within =
        let inside = subst (λ (z : Net). All (IsWithin z.states) z.arcs) is within in
        let there = goes_placed (joined_second m n inside) p in
        let from : last_state m + 0 ≡ last_state m = omega arith in
        let to : last_state m + last_state n ≡ last_state (joined m n) = omega (arith, j.some, j.more) in
        subst (λ (z : Net). Goes t z (last_state m) w (last_state z)) (sym is) (goes_as from refl to there)

pub joins_walks : {t : Table} (m n o : Net) (w : List ℕ) → Joins m n o → Goes t n 0 w (last_state n) → Walks (open_view t o) (last_state m) w (last_state o)
joins_walks {t} m n o w j p = goes_walks 0 0 j.within (joins_goes m n o j t w p)

pub joins_step : (m o : Net) (l : ℕ) → Joins m (one_arc l) o → HasArc o (last_state m) l (last_state o)
joins_step m o l j = joins_arc m (one_arc l) o l j refl (first_in _ [])

-- one more symbol of a word
pub word_more : (t : Table) (old m n : Net) (w : List ℕ) (i : ℕ) → i < length w → Goes t m (last_state old) (take i w) (last_state m) → Placed m n (λ x. x) → Goes t n (last_state m) (get_or w i 0 ∷ []) (last_state n) → Goes t n (last_state old) (take (i + 1) w) (last_state n)
word_more t old m n w i low was placed here = goes_as refl (sym (take_more w i 0 low)) refl (goes_on (goes_placed placed was) here)

pub word_whole : (t : Table) (old n : Net) (w : List ℕ) (i : ℕ) → length w ≤ i → Goes t n (last_state old) (take i w) (last_state n) → Goes t n (last_state old) w (last_state n)
word_whole t old n w i end p = goes_as refl (take_all i w end) refl p
