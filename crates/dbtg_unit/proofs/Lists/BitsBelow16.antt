-- Bits of a set of numbers below 16.
use Rattle.std.proofs.Common.{◌≡◌, ℕ, ◌*◌, ◌<◌, ◌≤◌, ◌/◌, ◌^◌, arith}
use Rattle.std.proofs.lemmas.Nat.{div_below}
use Rattle.std.proofs.Math.Pow.{pow_mono}

-- no bit is set from 16 on
pub no_bit : (n s : ℕ) → n < 65536 → 16 ≤ s → n / 2 ^ s ≡ 0
no_bit n s h g =
    let power : 65536 ≤ 2 ^ s = pow_mono {i = 16} {j = s} g in
    let low : n < 1 * 2 ^ s = omega (arith, h, power) in
    let small : n / 2 ^ s < 1 = div_below n (2 ^ s) 1 (omega (arith, power)) low in
    omega arith
