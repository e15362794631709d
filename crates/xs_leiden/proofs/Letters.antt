-- A letter between U+0080 and U+07FF has two bytes.
use Rattle.std.proofs.Common.{◌≡◌, ℕ, ◌+◌, ◌/◌, ◌%◌, [], ◌∷◌, true, false, refl}
use lib.Utf8.{encode}
use lib.Dec.{ltb}

pub two_bytes : (c : ℕ) → ltb c 128 ≡ false → ltb c 2048 ≡ true → encode c ≡ (192 + c / 64) ∷ (128 + c % 64) ∷ []
unfolding encode
two_bytes c more less = rw (more, less) refl
