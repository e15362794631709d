-- Paths that go on, and paths over a nest.
use Rattle.std.proofs.Common.{ℕ, List, [], ◌∷◌, ◌++◌, ap, ◌∙◌, append_assoc}
use Rattle.std.specs.List.{Contains}
use Rattle.xs_auto.specs.Nets.{Graph, moves_of, Walks, rests, passes, reads, Accepts}
use Rattle.xs_auto.specs.Nests.{Group, Crossing, stands, drifts, takes, enters, AcceptsNested}

-- a walk that goes on by an empty move
pub walks_pass : {n : Graph} {a b c : ℕ} {w : List ℕ} → Walks n a w b → Contains (moves_of n b) c → Walks n a w c
walks_pass rests m = passes m rests
walks_pass (passes k p) m = passes k (walks_pass p m)
walks_pass (reads e k h p) m = reads e k h (walks_pass p m)

-- a path over a nest that goes on by another
pub crosses_on : {nest : List Group} {n : Graph} {a b c : ℕ} {u v : List ℕ} → Crossing nest n a u b → Crossing nest n b v c → Crossing nest n a (u ++ v) c
crosses_on stands q = q
crosses_on (drifts m p) q = drifts m (crosses_on p q)
crosses_on (takes e m h p) q = takes e m h (crosses_on p q)
crosses_on {v = v} (enters {u = x} {v = y} k group call is s inside f p e) q = enters k group call is s inside f (crosses_on p q) (ap (λ w. w ++ v) e ∙ ap (λ w. group.left ∷ w) (append_assoc x (group.right ∷ y) v))

-- a walk is a path over each nest
pub walk_crosses : (nest : List Group) {n : Graph} {a b : ℕ} {w : List ℕ} → Walks n a w b → Crossing nest n a w b
walk_crosses nest rests = stands
walk_crosses nest (passes m p) = drifts m (walk_crosses nest p)
walk_crosses nest (reads e m h p) = takes e m h (walk_crosses nest p)

-- over no groups it is a walk
pub crosses_walk : {n : Graph} {a b : ℕ} {w : List ℕ} → Crossing [] n a w b → Walks n a w b
crosses_walk stands = rests
crosses_walk (drifts m p) = passes m (crosses_walk p)
crosses_walk (takes e m h p) = reads e m h (crosses_walk p)
crosses_walk (enters k group call is s inside f p e) = cc

pub accepts_over : (nest : List Group) {n : Graph} {w : List ℕ} → Accepts n w → AcceptsNested nest n w
accepts_over nest a = record { first = a.first; last = a.last; starts = a.starts; crosses = walk_crosses nest a.walks; final = a.final }

pub accepts_alone : {n : Graph} {w : List ℕ} → AcceptsNested [] n w → Accepts n w
accepts_alone a = record { first = a.first; last = a.last; starts = a.starts; walks = crosses_walk a.crosses; final = a.final }
