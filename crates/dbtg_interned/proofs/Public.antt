-- The lemmas that other crates cite. All others are this crate's own, free to change.
use Rattle.std.proofs.Common.{◌≡◌, ◌∙◌, sym, ℕ, ◌≤◌, inl, inr, arith, length, replicate}
use Rattle.dbtg_interned.specs.Arrays.{AreArrays, Grows, IsArray, KeptArrays, elements, numbers_of, size}
use Rattle.dbtg_interned.proofs.Keeping as keeping
use Rattle.dbtg_interned.proofs.Places as places
-- lists that stay stand where they stood
pub use Rattle.dbtg_interned.proofs.Keeping.{stays_list}
-- lists keep themselves
pub use Rattle.dbtg_interned.proofs.Keeping.{keeps_refl}
-- what keeps lists that keep others keeps the others
pub use Rattle.dbtg_interned.proofs.Keeping.{keeps_trans}
-- arrays grow into themselves
pub use Rattle.dbtg_interned.proofs.Places.{grows_refl}

-- two arrays with the same elements have one number
pub equal_are_one : (s : KeptArrays) (a b : ℕ) → AreArrays s → IsArray s a → IsArray s b → elements s a ≡ elements s b → a ≡ b
equal_are_one s a b are p q h = places.one_array s a b are p q h

-- an array stays an array when others are made
pub stays_array : (old new : KeptArrays) (a : ℕ) → Grows old new → IsArray old a → IsArray new a
stays_array old new a g h = places.array_stays old new a g h

-- and it keeps its elements
pub stays_elements : (old new : KeptArrays) (a : ℕ) → Grows old new → IsArray old a → elements new a ≡ elements old a
stays_elements old new a g h = places.elements_stay old new a g h

-- growing twice is growing
pub grows_trans : (a b c : KeptArrays) → Grows a b → Grows b c → Grows a c
grows_trans a b c g h = record {
  nodes = keeping.keeps_trans a.nodes b.nodes c.nodes g.nodes h.nodes;
  size_is = h.size_is ∙ g.size_is;
  used = omega (arith, g.used, h.used);
  places = λ i. elim (h.places i) [
    | inl same ↦ elim (g.places i) [
      | inl old ↦ inl (same ∙ old)
      | inr given ↦ inr (given.0, omega (arith, given.1, same))
    ]
    | inr late ↦ elim (g.places i) [
      | inl old ↦ inr (sym old ∙ late.0, omega (arith, late.1, g.used))
      | inr given ↦ absurd (omega (arith, given.1, late.0))
    ]
  ];
}

-- the size stays
pub stays_size : (old new : KeptArrays) → Grows old new → size new ≡ size old
stays_size old new g = g.size_is

-- there are at most 2 ^ 24 elements
pub few_elements : (s : KeptArrays) → AreArrays s → size s ≤ 16777216
few_elements s are = omega (arith, are.few)

-- 0 is the number of an array
pub zeros_array : (s : KeptArrays) → AreArrays s → IsArray s 0
zeros_array s are = places.zeros_array s are.nodes

-- all its elements are 0
pub zeros_elements : (s : KeptArrays) → AreArrays s → elements s 0 ≡ replicate (size s) 0
zeros_elements s are = places.zeros_elements s are.nodes

-- an array has as many elements as the size says
pub elements_length : (s : KeptArrays) (a : ℕ) → AreArrays s → IsArray s a → length (elements s a) ≡ size s
elements_length s a are h = places.under_length s (numbers_of s.nodes a)
