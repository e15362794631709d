use Rattle.std.proofs.Common.{ℕ, ◌≡◌, ◌<◌, true, sym, ◌∙◌, arith}
use Rattle.std.proofs.lemmas.Bool.{true≢false}
use Rattle.std.proofs.lemmas.Result.{IfOk-weaker}
use Rattle.xs_coarse.specs.Arcs.{Goes, IsFor}
use Rattle.xs_coarse.specs.Found.{Fits, IsMore, HasPair, pair}
use Rattle.xs_coarse.proofs.FoundLemmas.{begun, more_for}
use Rattle.xs_coarse.proofs.GrowthLemmas.{more_same, more_then, more_has}
use Rattle.xs_coarse.proofs.LayerLemmas.{LooksAt, looks_of, looks_on, shut_from}
use Rattle.xs_coarse.proofs.TailLemmas.{ends_apart}
use Rattle.xs_coarse.proofs.search.Search.ends_apart.Goals as goal
use Rattle.xs_coarse.proofs.search.Search.ends_apart.Goals.{then-one+in_ok-seed_firsts, else-one, then-other+in_ok-seed_seconds, else-other}

pub close-requires-clause-nets : goal.close-requires-clause-nets
close-requires-clause-nets c =
    let m = c.args.one.now.net in
    let n = c.args.other.now.net in
    let nets = begun m n c.begin.new.self c.len.result c.len-2.result c.in_ok-begin.field-0 c.if-not-branch.false c.in_ok-begin.ensures.ok (omega (arith, c.len.ensures.states)) (omega (arith, c.len-2.ensures.states)) in
    let visited = more_for m n c.begin.new.self c.visit.new.self nets c.visit.ensures.more in
    let first : IsFor m n c.if-one.self-inside.found = elim c.if-one.branch [
      | then-one+in_ok-seed_firsts w ↦ rw w.self-inside-is (more_for m n c.visit.new.self w.seed_firsts.new.self visited w.seed_firsts.ensures.more)
      | else-one w ↦ rw w.self-inside-is visited
    ] in
    elim c.if-other.branch [
      | then-other+in_ok-seed_seconds w ↦ rw w.self-inside-is (more_for m n c.if-one.self-inside.found w.seed_seconds.new.self first w.seed_seconds.ensures.more)
      | else-other w ↦ rw w.self-inside-is first
    ]

pub close-requires-clause-fits : goal.close-requires-clause-fits
close-requires-clause-fits c =
    let first : Fits c.if-one.self-inside.found = elim c.if-one.branch [
      | then-one+in_ok-seed_firsts w ↦ rw w.self-inside-is w.seed_firsts.ensures.more.fits
      | else-one w ↦ rw w.self-inside-is c.visit.ensures.more.fits
    ] in
    elim c.if-other.branch [
      | then-other+in_ok-seed_seconds w ↦ rw w.self-inside-is w.seed_seconds.ensures.more.fits
      | else-other w ↦ rw w.self-inside-is first
    ]

pub returns : goal.returns
returns c =
    let t = c.args.labels.now in
    let one = c.args.one.now in
    let other = c.args.other.now in
    let looks : LooksAt one.net.states other.net.states c.begin.new.self = rw (← c.len.ensures.states, ← c.len-2.ensures.states) (looks_of (c.in_ok-begin.ensures.ok c.if-not-branch.false)) in
    let visited = looks_on looks c.visit.ensures.more in
    let more1 : IsMore c.visit.new.self c.if-one.self-inside.found = elim c.if-one.branch [
      | then-one+in_ok-seed_firsts w ↦ rw w.self-inside-is w.seed_firsts.ensures.more
      | else-one w ↦ rw w.self-inside-is (more_same c.visit.new.self c.visit.ensures.more.fits)
    ] in
    let more2 : IsMore c.if-one.self-inside.found c.if-other.self-inside.found = elim c.if-other.branch [
      | then-other+in_ok-seed_seconds w ↦ rw w.self-inside-is w.seed_seconds.ensures.more
      | else-other w ↦ rw w.self-inside-is (more_same c.if-one.self-inside.found more1.fits)
    ] in
    let seeded = more_then (more_then c.visit.ensures.more more1) more2 in
    let firsts : one.has_front ≡ true → (k : ℕ) → k < other.net.states → HasPair c.if-one.self-inside.found.pairs.items 0 k = λ yes. elim c.if-one.branch [
      | then-one+in_ok-seed_firsts w ↦ rw w.self-inside-is (λ k low.
          let there = looks_on visited w.seed_firsts.ensures.more in
          w.in_ok-seed_firsts.ensures.ok k (omega arith) (omega (arith, low, w.len-then-one.ensures.states)) (omega (arith, there.height, c.len.ensures.some, c.len.ensures.states)) (omega (arith, low, there.width)))
      | else-one w ↦ absurd (true≢false (sym yes ∙ w.if-one.false))
    ] in
    let seconds : other.has_front ≡ true → (k : ℕ) → k < one.net.states → HasPair c.if-other.self-inside.found.pairs.items k 0 = λ yes. elim c.if-other.branch [
      | then-other+in_ok-seed_seconds w ↦ rw w.self-inside-is (λ k low.
          let there = looks_on (looks_on visited more1) w.seed_seconds.ensures.more in
          w.in_ok-seed_seconds.ensures.ok k (omega (arith, low, w.len-then-other.ensures.states)) (omega (arith, low, there.height)) (omega (arith, there.width, c.len-2.ensures.some, c.len-2.ensures.states)))
      | else-other w ↦ absurd (true≢false (sym yes ∙ w.if-other.false))
    ] in
    IfOk-weaker c.close.result _ _ (λ closed shut yes m n b e d f within_m within_n tail tail2.
    let starts = c.in_ok-visit.ensures.ok (omega (arith, visited.height, c.len.ensures.some, c.len.ensures.states)) (omega (arith, visited.width, c.len-2.ensures.some, c.len-2.ensures.states)) in
    ends_apart t m n e f b d one other c.close.new.self.pairs.items c.see_table.ensures within_m within_n tail tail2
    (more_has c.close.ensures.more 0 0 (more_has more2 0 0 (more_has more1 0 0 starts)))
    (λ front k low. more_has c.close.ensures.more 0 k (more_has more2 0 k (firsts front k low)))
    (λ front k low. more_has c.close.ensures.more k 0 (seconds front k low))
    (shut_from (Goes t one.net other.net) (pair one.last other.last) looks seeded c.close.ensures.more (rw c.new-end.ensures at (shut yes)))) c.close.ensures.ok
