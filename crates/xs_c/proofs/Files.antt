-- A shelf in memory that was given a certificate and then a sheet has both.
use Rattle.std.proofs.Common.{◌≡◌, ◌∙◌, ℕ, List, Some, refl, subst, ap, arith}
use Rattle.std.specs.Prelude.{◌≢◌, codes, encode_utf8_all, get_or}
use Rattle.std.specs.Str.{chars}
use Rattle.std.proofs.lemmas.Str.{encodes-chars}
use Rattle.std.specs.declared.option.Option.{Option}
use Rattle.xs_io.specs.Causes.{Rose}
use Rattle.xs_io.specs.Puts.{Puts}

abbrev pub Shelf : Type 0
Shelf = List ℕ → Option (List ℕ)

-- the names of the two files
abbrev pub sheet_name : List ℕ
sheet_name = codes "sheet"

abbrev pub certificate_name : List ℕ
certificate_name = codes "certificate"

-- each as a text is its bytes
sheet_named : encode_utf8_all (chars sheet_name) ≡ sheet_name
unfolding lib.Utf8.encode
sheet_named = encodes-chars sheet_name (sheet_name, (refl, refl))

certificate_named : encode_utf8_all (chars certificate_name) ≡ certificate_name
unfolding lib.Utf8.encode
certificate_named = encodes-chars certificate_name (certificate_name, (refl, refl))

apart : certificate_name ≢ sheet_name
apart same = let first : 99 ≡ 115 = ap (λ (name : List ℕ). get_or name 0 0) same in omega (arith, first)

-- a file that was put has its bytes
put_is : (old new : Shelf) (name bytes wanted file : List ℕ) → Puts old new (encode_utf8_all name) bytes → encode_utf8_all name ≡ wanted → bytes ≡ file → new wanted ≡ Some file
put_is old new name bytes wanted file puts name_is bytes_are =
    subst (λ (n : List ℕ). new n ≡ Some file) name_is (puts.here ∙ ap (λ (b : List ℕ). Some b) bytes_are)

encoded : (name other : List ℕ) → name ≡ other → encode_utf8_all name ≡ encode_utf8_all other
encoded name other same = ap (λ (t : List ℕ). encode_utf8_all t) same

pub sheet_put : (old new : Shelf) (name bytes sheet : List ℕ) → Puts old new (encode_utf8_all name) bytes → name ≡ chars sheet_name → bytes ≡ sheet → new sheet_name ≡ Some sheet
sheet_put old new name bytes sheet puts name_is bytes_are = put_is old new name bytes sheet_name sheet puts (encoded name (chars sheet_name) name_is ∙ sheet_named) bytes_are

pub certificate_kept : (old new last : Shelf) (name bytes certificate other others : List ℕ) → Puts old new (encode_utf8_all name) bytes → name ≡ chars certificate_name → bytes ≡ certificate → Puts new last (encode_utf8_all other) others → other ≡ chars sheet_name
    → last certificate_name ≡ Some certificate
certificate_kept old new last name bytes certificate other others puts name_is bytes_are next other_is =
    next.others certificate_name (λ same. apart (same ∙ (encoded other (chars sheet_name) other_is ∙ sheet_named)))
    ∙ put_is old new name bytes certificate_name certificate puts (encoded name (chars certificate_name) name_is ∙ certificate_named) bytes_are

-- a count of 0 did not rise
pub still : Rose 0 0 → ⊥
still rose = omega (arith, rose)

pub some_is : (xs ys : List ℕ) → xs ≡ ys → Some xs ≡ Some ys
some_is xs ys is = ap (λ (b : List ℕ). Some b) is
