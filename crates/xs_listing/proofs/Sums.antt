-- The sums of the first alternatives' counts.
use Rattle.std.proofs.Common.{◌≡◌, ℕ, zero, suc, ◌+◌, ◌-◌, ◌<◌, ◌≤◌, List, [], ◌∷◌, length, take, drop, get_or, arith, add-one, drop-cons, ◌*◌, ◌/◌, ◌%◌, min, refl, subst}
use Rattle.std.proofs.lemmas.Option.{slice_get-get_or}
use Rattle.xs_forest.specs.declared.row.Alt.{Alt}
use Rattle.xs_forest.specs.Rows.{AreEarlier}
use Rattle.xs_forest_laws.specs.Number.{count_of, alts_sum, alt_count, IsChosen}

suc_more : (cap : ℕ) (cs : List ℕ) (alts : List Alt) (i : ℕ) (d : Alt) → i < length alts → alts_sum cap cs (take (suc i) alts) ≡ alts_sum cap cs (take i alts) + alt_count cap cs (get_or alts i d)
suc_more cap cs [] i d h = absurd (omega arith)
suc_more cap cs (a ∷ alts) zero d h = omega arith
suc_more cap cs (a ∷ alts) (suc i) d h = omega (arith, suc_more cap cs alts i d (omega arith))

sum_more : (cap : ℕ) (cs : List ℕ) (alts : List Alt) (i : ℕ) (d : Alt) → i < length alts → alts_sum cap cs (take (i + 1) alts) ≡ alts_sum cap cs (take i alts) + alt_count cap cs (get_or alts i d)
sum_more cap cs alts i d h = rw add-one (suc_more cap cs alts i d h)

-- an alternative that a number does not lie in is passed
pub next : (cap : ℕ) (cs : List ℕ) (alts : List Alt) (i rest number n : ℕ) (d : Alt) (count : ℕ) → i < length alts → rest < alts_sum cap cs (drop i alts) → AreEarlier (drop i alts) n → number ≡ alts_sum cap cs (take i alts) + rest → count ≡ alt_count cap cs (get_or alts i d) → count ≤ rest → (rest - count < alts_sum cap cs (drop (i + 1) alts)) × AreEarlier (drop (i + 1) alts) n × (number ≡ alts_sum cap cs (take (i + 1) alts) + (rest - count))
next cap cs alts i rest number n d count lt ahead earlier after is le =
    let more = sum_more cap cs alts i d lt in
    let e : drop i alts ≡ get_or alts i d ∷ drop (i + 1) alts = rw add-one (drop-cons alts i d lt) in
    let ahead' : rest < alt_count cap cs (get_or alts i d) + alts_sum cap cs (drop (i + 1) alts) = rw e at ahead in
    let earlier' : AreEarlier (get_or alts i d ∷ drop (i + 1) alts) n = rw e at earlier in
    (omega arith, earlier'.2, omega arith)

product_zero : (l d : ℕ) → d ≡ 0 → l * d ≡ 0
product_zero l d e = rw e (omega arith)

some_width : (cap l d rest : ℕ) → rest < min cap (l * d) → 0 < d
some_width cap l zero rest lt = let e = product_zero l zero refl in absurd (omega arith)
some_width cap l (suc d) rest lt = omega arith

whole_again : (rest d : ℕ) → 0 < d → (rest / d) * d + rest % d ≡ rest
whole_again rest d lt = omega arith

-- the alternative in which a number lies, and its children's numbers
pub chosen_here : (cap : ℕ) (cs : List ℕ) (alts : List Alt) (i rest number : ℕ) (d : Alt) (count width : ℕ) → i < length alts → number ≡ alts_sum cap cs (take i alts) + rest → count ≡ alt_count cap cs (get_or alts i d) → width ≡ count_of cs (get_or alts i d).right → rest < count → IsChosen cap cs alts number i (rest / width) (rest % width) (get_or alts i d)
chosen_here cap cs alts i rest number d count width lt after is wide less =
    let a = get_or alts i d in
    let some : 0 < width = rw wide (some_width cap (count_of cs (get_or alts i d).left) (count_of cs (get_or alts i d).right) rest (omega arith)) in
    let again = whole_again rest width some in
    let under : rest % width < width = omega arith in
    record {
      alt = slice_get-get_or alts i d lt;
      within = subst (λ n. rest % width < n) wide under;
      both = subst (λ n. (rest / width) * n + rest % width < alt_count cap cs (get_or alts i d)) wide (omega arith);
      number = subst (λ n. number ≡ alts_sum cap cs (take i alts) + ((rest / width) * n + rest % width)) wide (omega arith);
    }
