-- A reading times a circumference fits 64 bits.
use Rattle.std.proofs.Common.{ℕ, zero, suc, ◌*◌, ◌^◌, ◌<◌, ◌≤◌, ℤ, pos, negsuc, ◌*ℤ◌, neg_ℤ, arith, w32, w64, SFits}
use Rattle.std.proofs.lemmas.Nat.{mul-le}
use Rattle.std.proofs.lemmas.Int.{to_z-of_z}

negated_fits : (k : ℕ) → k ≤ 2 ^ 63 → SFits w64 (neg_ℤ (pos k))
negated_fits zero h = record { sfits = omega arith }
negated_fits (suc k) h = record { sfits = omega arith }

pub product_fits : (z : ℤ) (n : ℕ) → SFits w32 z → n < 2 ^ 32 → SFits w64 (z *ℤ pos n)
product_fits (pos a) n f h =
    let p : a ≤ 2147483647 = omega (arith, f.sfits) in
    let q : n ≤ 4294967295 = omega arith in
    record { sfits = omega (arith, mul-le a n 2147483647 4294967295 p q) }
product_fits (negsuc a) n f h =
    let p : suc a ≤ 2147483648 = omega (arith, f.sfits) in
    let q : n ≤ 4294967295 = omega arith in
    negated_fits (suc a * n) (omega (arith, mul-le (suc a) n 2147483648 4294967295 p q))

-- so the product is what is computed
pub ruleset products = (product_fits, to_z-of_z)
