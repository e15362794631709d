-- From one state of a forest that is made to a later one.
use Rattle.std.proofs.Common.{◌≡◌, ◌⊎◌, inl, inr, ℕ, ◌+◌, ◌<◌, length, sym, subst, ◌∙◌, Some, slice_get, get_or}
use Rattle.std.proofs.lemmas.Option.{slice_get_within, slice_get-get_or}
use Rattle.std.specs.BinaryHeap.{heap_items}
use Rattle.xs_gram.specs.Grammar.{Grammar}
use Rattle.xs_cover.specs.declared.picks.Picks.{Picks}
use Rattle.xs_cover.specs.declared.picks.Waiter.{Waiter}
use Rattle.xs_cover.specs.declared.prices.Prices.{Prices}
use Rattle.xs_cover.specs.Picks.{waiters_at, HaveGrown, IsDear, IsDearest, IsSet, IsSetIn, WaitsFor}
use Rattle.xs_cover.proofs.Holding.{set_on}
use Rattle.xs_cover.proofs.Making.{set_more}

pub grown_on : (a b c : Picks) → HaveGrown a b → HaveGrown b c → HaveGrown a c
grown_on a b c first second = record {
  prices = second.prices ∙ first.prices;
  waiting = λ n k w e. second.waiting n k w (first.waiting n k w e);
  ready = λ e has. second.ready e (first.ready e has);
}

pub dear_on : (g h : Grammar) (old new : Picks) (rule : ℕ) → HaveGrown old new → IsDear g h old rule → IsDear g h new rule
dear_on g h old new rule grown dear = subst (λ (p : Prices). IsDear g h (record new { prices = p }) rule) (sym grown.prices) dear

pub set_in_on : (g h : Grammar) (old new : Picks) (r : ℕ) → HaveGrown old new → IsSetIn g h old r → IsSetIn g h new r
set_in_on g h old new r grown set =
    let later : IsSet g h old.prices.terms.items old.prices.nons.items new.waiting.items (heap_items new.ready) r = set_on g h old.prices.terms.items old.prices.nons.items old.waiting.items new.waiting.items (heap_items old.ready) (heap_items new.ready) r grown.waiting grown.ready set in
    subst (λ (p : Prices). IsSet g h p.terms.items p.nons.items new.waiting.items (heap_items new.ready) r) (sym grown.prices) later

-- one more rule that waited is passed on
pub set_more_in : (g h : Grammar) (first old new : Picks) (non place r : ℕ) (w : Waiter) → HaveGrown old new → slice_get (waiters_at first.waiting.items non) place ≡ Some w → IsSetIn g h new w.rule → IsSetIn g h old r ⊎ WaitsFor first.waiting.items non place r → IsSetIn g h new r ⊎ WaitsFor first.waiting.items non (place + 1) r
set_more_in g h first old new non place r w grown at_place is set =
    set_more g h new.prices.terms.items new.prices.nons.items first.waiting.items old.waiting.items new.waiting.items (heap_items old.ready) (heap_items new.ready) non place r w grown.waiting grown.ready at_place is (by set)
  where
    by : IsSetIn g h old r ⊎ WaitsFor first.waiting.items non place r → IsSet g h new.prices.terms.items new.prices.nons.items old.waiting.items (heap_items old.ready) r ⊎ WaitsFor first.waiting.items non place r
    by (inr wait) = inr wait
    by (inl known) = inl (subst (λ (p : Prices). IsSet g h p.terms.items p.nons.items old.waiting.items (heap_items old.ready) r) (sym grown.prices) known)

no_waiter : Waiter
no_waiter = record { rule = 0; dot = 0 }

-- the list of those that wait goes on after what it had
pub still_there : (first now : Picks) (non place : ℕ) → HaveGrown first now → place < length (waiters_at first.waiting.items non) → place < length (waiters_at now.waiting.items non)
still_there first now non place grown less =
    let row = waiters_at first.waiting.items non in
    slice_get_within (waiters_at now.waiting.items non) place (get_or row place no_waiter) (grown.waiting non place (get_or row place no_waiter) (slice_get-get_or row place no_waiter less))

pub was_there : (first now : Picks) (non place : ℕ) (w : Waiter) → HaveGrown first now → place < length (waiters_at first.waiting.items non) → slice_get (waiters_at now.waiting.items non) place ≡ Some w → slice_get (waiters_at first.waiting.items non) place ≡ Some w
was_there first now non place w grown less e =
    let row = waiters_at first.waiting.items non in
    let old : slice_get row place ≡ Some (get_or row place no_waiter) = slice_get-get_or row place no_waiter less in
    old ∙ sym (grown.waiting non place (get_or row place no_waiter) old) ∙ e

pub dearest_on : (g : Grammar) (first now : Picks) (non : ℕ) → HaveGrown first now → IsDearest g first non → IsDearest g now non
dearest_on g first now non grown is = subst (λ (p : Prices). IsDearest g (record now { prices = p }) non) (sym grown.prices) (record { known = is.known; most = is.most })
