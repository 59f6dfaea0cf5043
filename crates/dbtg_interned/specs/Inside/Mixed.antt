-- By which number a node is hashed.
use Rattle.std.specs.Prelude.{ℕ, zero, suc, ◌+◌, ◌*◌, ◌%◌, ◌^◌, List, slice_index, bit_or, bit_xor}

-- one number from the first 2 * n numbers of a node
unfoldable pub mixed : List ℕ → ℕ → ℕ
mixed numbers zero = 0
mixed numbers (suc n) =
    bit_xor (mixed numbers n) (bit_or (slice_index numbers (2 * n)) (slice_index numbers (2 * n + 1) * 2 ^ 32 % 2 ^ 64)) * 0x9e37_79b9_7f4a_7c15 % 2 ^ 64
