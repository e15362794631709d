-- Maps of cells when they are made.
use Rattle.std.proofs.Common.{◌≡◌, ℕ, zero, suc, ◌<◌, Bool, false, List, [], ◌∷◌, length, get_or, replicate, refl, arith}
use Rattle.std.proofs.lemmas.List.{length-replicate}
use Rattle.xs_auto.specs.Marks.{HasMaps}
use Rattle.xs_auto.proofs.BitLemmas.{copy_at}

pub three_maps : (cells : ℕ) (a b c : List Bool) → a ≡ replicate cells false → b ≡ replicate cells false → c ≡ replicate cells false → HasMaps cells (a ∷ b ∷ c ∷ [])
three_maps cells a b c e f g = record { three = refl; each = each }
  where
    each : (m : ℕ) → m < 3 → length (get_or (a ∷ b ∷ c ∷ []) m []) ≡ cells
    each zero l = rw e (length-replicate cells false)
    each (suc zero) l = rw f (length-replicate cells false)
    each (suc (suc zero)) l = rw g (length-replicate cells false)
    each (suc (suc (suc m))) l = absurd (omega arith)

pub no_mark : (cells : ℕ) (a b c : List Bool) → a ≡ replicate cells false → b ≡ replicate cells false → c ≡ replicate cells false → (m cell : ℕ) → get_or (get_or (a ∷ b ∷ c ∷ []) m []) cell false ≡ false
no_mark cells a b c e f g zero cell = rw e (copy_at false cells cell)
no_mark cells a b c e f g (suc zero) cell = rw f (copy_at false cells cell)
no_mark cells a b c e f g (suc (suc zero)) cell = rw g (copy_at false cells cell)
no_mark cells a b c e f g (suc (suc (suc m))) cell = refl
