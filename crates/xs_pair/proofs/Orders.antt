-- The order of the rules, and what is known of the rules before one.
use Rattle.std.proofs.Common.{◌≡◌, ◌⊎◌, ◌∙◌, ◌<◌, ◌≤◌, ◌+◌, inl, inr, ap, sym, refl, subst, ℕ, Some, None, arith}
use Rattle.std.specs.Prelude.{◌==◌, if◌then◌else◌}
use Rattle.std.specs.Prelude.{IfOk, Ok, Err}
use Rattle.std.specs.declared.option.Option.{Option}
use Rattle.std.specs.declared.result.Result.{Result}
use Rattle.xs_class.specs.declared.memory.Memory.{Memory}
use Rattle.std.proofs.lemmas.Bool.{cases_lt}
use Rattle.xs_sheet.specs.declared.sheet.Sheet.{Sheet}
use Rattle.xs_pair.specs.declared.ill.IllRule.{IllRule}
use Rattle.xs_pair.specs.declared.ill.IllRule.TheVariants.{Twice, Undefined, NoStart, NameOnce, Kind, AttrTwice, RootShape, EmptyClass, NotChar, Normal, Unproductive, Loop, FenceChar, FenceInside, FenceOpen}
use Rattle.xs_pair.specs.declared.outline.Outline.{Outline}
use Rattle.xs_pair.specs.Listing.{rules_of}
use Rattle.xs_pair.specs.Verdict.{order, NoneBefore, NoneFails, IsFirstLine, FailsAt, FailsAmong, tables_of, tables_in, IsOutlineOf}

rule_at : ℕ → IllRule
rule_at n = if n == 0 then Twice else (if n == 1 then Undefined else (if n == 2 then NoStart else (if n == 3 then NameOnce else (if n == 4 then Kind else (if n == 5 then AttrTwice else (if n == 6 then RootShape else (if n == 7 then EmptyClass else (if n == 8 then NotChar else (if n == 9 then Normal else (if n == 10 then Unproductive else (if n == 11 then Loop else (if n == 12 then FenceChar else (if n == 13 then FenceInside else FenceOpen)))))))))))))

at_order : (rule : IllRule) → rule_at (order rule) ≡ rule
unfolding rule_at
at_order Twice = refl
at_order rule = refl

-- a rule is known by its place in the order
pub same_order : (a b : IllRule) → order a ≡ order b → a ≡ b
same_order a b e = sym (at_order a) ∙ ap rule_at e ∙ at_order b

pub none_at_first : (Fails : IllRule → ℕ → Type 0) → NoneBefore Fails 0
none_at_first Fails rule line lt fails = omega arith

-- a rule that fails nowhere, after rules that fail nowhere
pub none_next : (Fails : IllRule → ℕ → Type 0) (r : IllRule) (place : ℕ) → place ≡ order r → NoneBefore Fails place → ((line : ℕ) → Fails r line → ⊥) → NoneBefore Fails (place + 1)
none_next Fails r place is before here rule line lt fails = by_case (cases_lt (order rule) place)
  where
    by_case : (order rule < place) ⊎ (place ≤ order rule) → ⊥
    by_case (inl low) = before rule line low fails
    by_case (inr high) = let same : rule ≡ r = same_order rule r (omega arith) in here line (subst (λ s. Fails s line) same fails)

-- none of the seven rules fails
pub none_fails : (s : Sheet) → NoneBefore (FailsAt s) 7 → NoneFails (FailsAt s)
none_fails s before Twice line fails = before Twice line (omega arith) fails
none_fails s before Undefined line fails = before Undefined line (omega arith) fails
none_fails s before NoStart line fails = before NoStart line (omega arith) fails
none_fails s before NameOnce line fails = before NameOnce line (omega arith) fails
none_fails s before Kind line fails = before Kind line (omega arith) fails
none_fails s before AttrTwice line fails = before AttrTwice line (omega arith) fails
none_fails s before RootShape line fails = before RootShape line (omega arith) fails
none_fails s before EmptyClass line fails = fails
none_fails s before NotChar line fails = fails
none_fails s before Normal line fails = fails
none_fails s before Unproductive line fails = fails
none_fails s before Loop line fails = fails
none_fails s before FenceChar line fails = fails
none_fails s before FenceInside line fails = fails
none_fails s before FenceOpen line fails = fails

-- the first line of what fails at the same lines
pub first_same : (A B : ℕ → Type 0) (o : Option ℕ) → ((line : ℕ) → A line → B line) → ((line : ℕ) → B line → A line) → IsFirstLine A o → IsFirstLine B o
first_same A B None forth back none = λ line fails. none line (back line fails)
first_same A B (Some least) forth back first = record { fails = forth least first.fails; least = λ line fails. first.least line (back line fails) }

pub same_tables : (s : Sheet) (o : Outline) → IsOutlineOf s o → tables_in o ≡ tables_of s
same_tables s o is = rw (is.units, is.terms, is.skips, is.start) refl

pub among_forth : (s : Sheet) (o : Outline) (rule : IllRule) → IsOutlineOf s o → (line : ℕ) → FailsAmong (tables_in o) o.rules.items rule line → FailsAmong (tables_of s) (rules_of s.units) rule line
among_forth s o rule is line fails = subst (λ t. FailsAmong t (rules_of s.units) rule line) (same_tables s o is) (subst (λ rs. FailsAmong (tables_in o) rs rule line) is.rules fails)

pub among_back : (s : Sheet) (o : Outline) (rule : IllRule) → IsOutlineOf s o → (line : ℕ) → FailsAmong (tables_of s) (rules_of s.units) rule line → FailsAmong (tables_in o) o.rules.items rule line
among_back s o rule is line fails = subst (λ rs. FailsAmong (tables_in o) rs rule line) (sym is.rules) (subst (λ t. FailsAmong t (rules_of s.units) rule line) (sym (same_tables s o is)) fails)

pub among_same : (s : Sheet) (o : Outline) (rule : IllRule) (p : Option ℕ) → IsOutlineOf s o → IsFirstLine (FailsAmong (tables_in o) o.rules.items rule) p → IsFirstLine (FailsAmong (tables_of s) (rules_of s.units) rule) p
among_same s o rule p is first = first_same (FailsAmong (tables_in o) o.rules.items rule) (FailsAmong (tables_of s) (rules_of s.units) rule) p (among_forth s o rule is) (among_back s o rule is) first

-- the first line at which one of the rules on productions fails
among_first : (s : Sheet) (o : Outline) (rule : IllRule) (res : Result (Option ℕ) Memory) → IsOutlineOf s o → IfOk res (IsFirstLine (FailsAmong (tables_in o) o.rules.items rule)) → IfOk res (IsFirstLine (FailsAmong (tables_of s) (rules_of s.units) rule))
among_first s o rule (Ok p) is first = among_same s o rule p is first
among_first s o rule (Err e) is first = first

among_is : (s : Sheet) (o : Outline) (rule kind : IllRule) (res : Result (Option ℕ) Memory) → (IfOk res (IsFirstLine (FailsAmong (tables_of s) (rules_of s.units) kind)) → IfOk res (IsFirstLine (FailsAt s kind))) → rule ≡ kind → IsOutlineOf s o → IfOk res (IsFirstLine (FailsAmong (tables_in o) o.rules.items rule)) → IfOk res (IsFirstLine (FailsAt s rule))
among_is s o rule kind res same is of first =
    subst (λ r. IfOk res (IsFirstLine (FailsAt s r))) (sym is)
    (same (among_first s o kind res of (subst (λ r. IfOk res (IsFirstLine (FailsAmong (tables_in o) o.rules.items r))) is first)))

pub among_ok : (s : Sheet) (o : Outline) (rule : IllRule) (res : Result (Option ℕ) Memory) → (rule ≡ Undefined) ⊎ ((rule ≡ NameOnce) ⊎ ((rule ≡ Kind) ⊎ ((rule ≡ AttrTwice) ⊎ (rule ≡ RootShape)))) → IsOutlineOf s o → IfOk res (IsFirstLine (FailsAmong (tables_in o) o.rules.items rule)) → IfOk res (IsFirstLine (FailsAt s rule))
among_ok s o rule res (inl is) of first = among_is s o rule Undefined res (λ h. h) is of first
among_ok s o rule res (inr (inl is)) of first = among_is s o rule NameOnce res (λ h. h) is of first
among_ok s o rule res (inr (inr (inl is))) of first = among_is s o rule Kind res (λ h. h) is of first
among_ok s o rule res (inr (inr (inr (inl is)))) of first = among_is s o rule AttrTwice res (λ h. h) is of first
among_ok s o rule res (inr (inr (inr (inr is)))) of first = among_is s o rule RootShape res (λ h. h) is of first
