-- Partners at the front of bytes, one after another.
use Rattle.std.proofs.Common.{◌≡◌, ◌≢◌, ◌↔◌, ℕ, suc, ◌^◌, ◌<◌, ◌≤◌, false, List, [], ◌∷◌, ◌++◌, get_or, Some, None, decimal, refl, sym, ap, ◌∙◌, subst, arith, append_assoc}
use Rattle.std.specs.List.{All}
use Rattle.std.proofs.lemmas.List.Elements.{All-cons, All-nil, All-head, All-tail}
use Rattle.xs_class.proofs.Lists.{some_pair}
use Rattle.xs_closed.specs.Rows.{Ascends}
use Rattle.xs_cert_lines.specs.Numbers.{partner_at, begins_digit}
use Rattle.xs_cert_lines.specs.Reading.{listed, ArePartners, HasPartners}
use Rattle.xs_cert_lines.proofs.Numerals.{none_pair, partner_found, partner_read}

-- what comes after a partner begins with no digit
pub listed_ends : (bs rest : List ℕ) → begins_digit (listed bs ++ 10 ∷ rest) ≡ false
listed_ends [] rest = refl
listed_ends (b ∷ bs) rest = refl

-- the first of the partners is read
pub first_read : (first end : ℕ) (bytes : List ℕ) (b : ℕ) (bs rest : List ℕ) → end ≤ 2 ^ 32 → ArePartners first end bytes (b ∷ bs) rest → partner_at first end bytes ≡ Some (b, listed bs ++ 10 ∷ rest)
first_read first end bytes b bs rest small are =
    let below : b < end = All-head (λ c. c < end) b bs are.within in
    let read = partner_read first end b (listed bs ++ 10 ∷ rest) are.order.0 below (omega (arith, below, small)) (listed_ends bs rest) in
    ap (partner_at first end) (are.is ∙ ap (λ z. 32 ∷ z) (append_assoc (decimal b) (listed bs) (10 ∷ rest))) ∙ read

-- where no partner is read there are none
pub no_partners : (first end : ℕ) (bytes bs rest : List ℕ) → end ≤ 2 ^ 32 → partner_at first end bytes ≡ None → ArePartners first end bytes bs rest → ⊥
no_partners first end bytes [] rest small none are = are.some refl
no_partners first end bytes (b ∷ bs) rest small none are = none_pair (b, listed bs ++ 10 ∷ rest) (sym none ∙ first_read first end bytes b bs rest small are)

-- the one that is read is the first of them
pub record IsFirst (n : ℕ) (more : List ℕ) (first : ℕ) (bs rest : List ℕ) : Type 0 where
  pub others : List ℕ
  pub is : bs ≡ n ∷ others
  pub after : more ≡ listed others ++ 10 ∷ rest

pub first_is : (first end : ℕ) (bytes : List ℕ) (n : ℕ) (more bs rest : List ℕ) → end ≤ 2 ^ 32 → partner_at first end bytes ≡ Some (n, more) → ArePartners first end bytes bs rest → IsFirst n more first bs rest
first_is first end bytes n more [] rest small at are = absurd (are.some refl)
first_is first end bytes n more (b ∷ bs) rest small at are =
    let e = some_pair b n (listed bs ++ 10 ∷ rest) more (sym (first_read first end bytes b bs rest small are) ∙ at) in
    record { others = bs; is = ap (λ z. z ∷ bs) e.0; after = sym e.1 }

-- one partner and the line feed
pub last_partner : (first end : ℕ) (bytes : List ℕ) (n : ℕ) (rest : List ℕ) → partner_at first end bytes ≡ Some (n, 10 ∷ rest) → ArePartners first end bytes (n ∷ []) rest
last_partner first end bytes n rest at =
    let found = partner_found first end bytes n (10 ∷ rest) at in
    record {
      is = found.is ∙ ap (λ z. 32 ∷ z) (sym (append_assoc (decimal n) [] (10 ∷ rest)));
      some = λ e. cc;
      order = (found.order, tt);
      within = All-cons (λ c. c < end) n [] found.below (All-nil (λ c. c < end));
    }

-- one partner before others
pub more_partners : (first end : ℕ) (bytes : List ℕ) (n : ℕ) (more bs rest : List ℕ) → partner_at first end bytes ≡ Some (n, more) → ArePartners (suc n) end more bs rest → ArePartners first end bytes (n ∷ bs) rest
more_partners first end bytes n more bs rest at are =
    let found = partner_found first end bytes n more at in
    record {
      is = found.is ∙ ap (λ z. 32 ∷ (decimal n ++ z)) are.is ∙ ap (λ z. 32 ∷ z) (sym (append_assoc (decimal n) (listed bs) (10 ∷ rest)));
      some = λ e. cc;
      order = (found.order, are.order);
      within = All-cons (λ c. c < end) n bs found.below are.within;
    }

-- where no line feed comes next there are others
others_some : (more bs rest : List ℕ) → ((r : List ℕ) → more ≡ 10 ∷ r → ⊥) → more ≡ listed bs ++ 10 ∷ rest → bs ≢ []
others_some more [] rest other e none = other rest e
others_some more (b ∷ bs) rest other e none = cc

pub rest_partners : (first end : ℕ) (bytes : List ℕ) (n : ℕ) (more bs rest : List ℕ) → end ≤ 2 ^ 32 → partner_at first end bytes ≡ Some (n, more) → ((r : List ℕ) → more ≡ 10 ∷ r → ⊥) → ArePartners first end bytes bs rest → (others : List ℕ) × (bs ≡ n ∷ others) × ArePartners (suc n) end more others rest
rest_partners first end bytes n more bs rest small at other are =
    let f = first_is first end bytes n more bs rest small at are in
    let order : Ascends first (n ∷ f.others) = subst (Ascends first) f.is are.order in
    let within : All (λ c. c < end) (n ∷ f.others) = subst (All (λ c. c < end)) f.is are.within in
    (f.others, f.is, record { is = f.after; some = others_some more f.others rest other f.after; order = order.1; within = All-tail (λ c. c < end) n f.others within })

-- the same rests follow partners of the two
abbrev pub SameRests : ℕ → ℕ → List ℕ → ℕ → List ℕ → Type 0
SameRests end first bytes low more = (rest : List ℕ) → HasPartners low end more rest ↔ HasPartners first end bytes rest

pub last_skipped : (end first : ℕ) (bytes : List ℕ) (low : ℕ) (rest : List ℕ) (n : ℕ) (more after : List ℕ)
    → SameRests end first bytes low rest → Some (n, more) ≡ partner_at low end rest → more ≡ 10 ∷ after → HasPartners first end bytes after
last_skipped end first bytes low rest n more after same at feed =
    (same after).0 (record { partners = n ∷ []; are = last_partner low end rest n after (sym at ∙ ap (λ z. Some (n, z)) feed) })

pub next_skipped : (end first : ℕ) (bytes : List ℕ) (low : ℕ) (rest : List ℕ) (n : ℕ) (more : List ℕ)
    → end < 2 ^ 32 → SameRests end first bytes low rest → Some (n, more) ≡ partner_at low end rest → ((r : List ℕ) → more ≡ 10 ∷ r → ⊥) → SameRests end first bytes (suc n) more
next_skipped end first bytes low rest n more small same at none r = (
  (λ has. (same r).0 (record { partners = n ∷ has.partners; are = more_partners low end rest n more has.partners r (sym at) has.are })),
  (λ has. let old = (same r).1 has in let others = rest_partners low end rest n more old.partners r (omega (arith, small)) (sym at) none old.are in record { partners = others.0; are = others.2 }),
)

pub none_skipped : (end first : ℕ) (bytes : List ℕ) (low : ℕ) (rest : List ℕ)
    → end < 2 ^ 32 → SameRests end first bytes low rest → None ≡ partner_at low end rest → (r : List ℕ) → HasPartners first end bytes r → ⊥
none_skipped end first bytes low rest small same at r has =
    let old = (same r).1 has in no_partners low end rest old.partners r (omega (arith, small)) (sym at) old.are

-- a byte that is no line feed comes first
pub no_feed_first : (c : ℕ) (cs more : List ℕ) → more ≡ c ∷ cs → (c ≡ 10 → ⊥) → (r : List ℕ) → more ≡ 10 ∷ r → ⊥
no_feed_first c cs more is other r e = other (ap (λ (z : List ℕ). get_or z 0 0) (sym is ∙ e))
