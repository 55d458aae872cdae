-- The number of a group stays below 128 to the power of its operations.
use Prim.Native.Nat.{ℕ, ◌+◌, ◌*◌, ◌^◌, ◌≤◌, ◌<◌}
use native.Mathlib.Nat.{mul-le-mul_right, pow-suc}
use native.Mathlib.Numerals.{add-one}
use native.Mathlib.Omega.{arith}

pub number_next : (n c k : ℕ) → c < 128 → n < 128 ^ k → n + c * 128 ^ k < 128 ^ (k + 1)
number_next n c k hc hn =
    let p : c * 128 ^ k ≤ 127 * 128 ^ k = mul-le-mul_right (128 ^ k) (omega arith) in
    rw (add-one k, pow-suc 128 k) (omega arith)
