-- How the check of a sheet by a certificate goes, by what its steps did.
use Rattle.std.proofs.Common.{◌≡◌, ◌≢◌, ◌∙◌, ℕ, ◌≤◌, List, length, Bool, true, false, true≢false, None, Some, inr, sym, refl, subst, ap, arith}
use Rattle.std.specs.Bool.{Decides}
use Rattle.std.specs.Str.{bytes_eq}
use Rattle.std.proofs.lemmas.Option.{same_Some}
use Rattle.std.proofs.lemmas.Slice.Eq.{bytes_eq-Decides}
use Rattle.xs_io.specs.Causes.{Rose}
use Rattle.xs_io.specs.Shown.{Files, Has, IsFile, IsLongFile, NameFailed}
use Rattle.xs_cert_laws.specs.Alike.{AreBuilt}
use Rattle.xs_pair.specs.Grammars.{Pair}
use Rattle.xs_pair.specs.Sound.{IsSoundPair}
use Rattle.xs_words.specs.Command.{Sheet as Named}
use Rattle.xs_talk.specs.declared.outcome.Outcome.{Outcome}
use Rattle.xs_talk.specs.declared.outcome.Outcome.TheVariants.{Heavy, CertFault, CertLong, CertBad}
use Rattle.xs_top.specs.Devices.{Shelves, shelves_of}
use Rattle.xs_top.specs.Sheets.{SpellsPair}
use Rattle.xs_top.specs.declared.stop.Stop.{Stop}
use Rattle.xs_top.specs.Stops.{StopsBy}
use Rattle.xs_top.specs.Certifying.{IsUncertain, IsUncertified, HasFile}
use Rattle.xs_top.proofs.Going.{stops_as}

-- the grammars of a sound pair are built
pub sound_is_built : (p : Pair) → IsSoundPair p → AreBuilt p
sound_is_built p sound = record { text = sound.text.built; xml = sound.xml.built }

-- where one name was read, no name's count fell
pub falls_nowhere : (before now : List ℕ → ℕ) (name : List ℕ) → before name ≤ now name → ((other : List ℕ) → other ≢ name → now other ≡ before other) → (other : List ℕ) → before other ≤ now other
falls_nowhere before now name later others other = by_case (bytes_eq other name) refl
  where
    decides : Decides (bytes_eq other name) (other ≡ name)
    decides = bytes_eq-Decides other name

    by_case : (same : Bool) → bytes_eq other name ≡ same → before other ≤ now other
    by_case true is = subst (λ (n : List ℕ). before n ≤ now n) (sym (decides.0 is)) later
    by_case false is =
        let still : now other ≡ before other = others other (λ e. true≢false (sym (decides.1 e) ∙ is)) in
        omega (arith, still)

-- a count that rose had risen since any time before
rose_since : (old mid now : ℕ) → old ≤ mid → Rose mid now → Rose old now
rose_since old mid now later rose = omega (arith, later, rose)

failed_since : (files files' : Files) (name : List ℕ) (old mid now own_old own_mid own_now : ℕ) → files' ≡ files → old ≤ mid → own_old ≤ own_mid → NameFailed files' name mid now own_mid own_now → NameFailed files name old now own_old own_now
failed_since files files' name old mid now own_old own_mid own_now same later own_later failed = record {
  shelf = rose_since old mid now later failed.shelf;
  own = λ has. rose_since own_old own_mid own_now own_later (failed.own (subst (λ (f : Files). Has f name) (sym same) has));
}

-- why the two grammars are not certified, told from any time before
module _ {H : Type 0} (files : H → Files) (faults : H → ℕ) (own : H → List ℕ → ℕ) (old mid now : H) (cert : List ℕ) (same : files mid ≡ files old) (later : faults old ≤ faults mid) (own_later : own old cert ≤ own mid cert) where
  pub uncertain_since : (p : Pair) (o : Outcome) → IsUncertain p (shelves_of files faults own mid now) cert o → IsUncertain p (shelves_of files faults own old now) cert o
  uncertain_since p (Heavy weight) why = why
  uncertain_since p CertFault (light, failed) = (light, failed_since (files old) (files mid) cert (faults old) (faults mid) (faults now) (own old cert) (own mid cert) (own now cert) same later own_later failed)
  uncertain_since p CertLong (light, long) = (light, subst (λ (f : Files). IsLongFile f cert 268435456) same long)
  uncertain_since p (CertBad line) (light, built, bytes, are, bad) = (light, built, bytes, subst (λ (f : Files). IsFile f cert bytes 268435456) same are, bad)
  uncertain_since p o why = absurd why

-- the two grammars are not certified
pub uncertain_stops : (shelf : Shelves) (sheet : Named) (cert : List ℕ) (p : Pair) → SpellsPair shelf.files sheet p → (stop : Stop) → StopsBy (IsUncertain p shelf cert) stop → StopsBy (IsUncertified shelf sheet cert) stop
uncertain_stops shelf sheet cert p spells stop stops = stops_as (λ o why. inr (p, spells, why)) stop stops

-- the bytes of the certificate, where they are known, are the only ones
pub file_only : (files : Files) (cert bytes other : List ℕ) → HasFile files cert bytes → IsFile files cert other 268435456 → other ≡ bytes
file_only None cert bytes other has are = absurd has
file_only (Some files) cert bytes other has are = same_Some other bytes (sym are.0 ∙ has.0)

pub file_short : (files : Files) (cert bytes : List ℕ) → HasFile files cert bytes → IsLongFile files cert 268435456 → ⊥
file_short None cert bytes has long = has
file_short (Some files) cert bytes has (other, is, long) =
    let same : length other ≡ length bytes = ap (λ (xs : List ℕ). length xs) (same_Some other bytes (sym is ∙ has.0)) in
    omega (arith, same, long, has.1)
