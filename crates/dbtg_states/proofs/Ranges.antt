-- Lists over the numbers from 1 on, with one more number.
use Rattle.std.proofs.Common.{◌≡◌, ◌∙◌, sym, ap, ℕ, suc, ◌+◌, List, [], ◌∷◌, ◌++◌, map, arith, append-nil}
use Rattle.std.specs.List.{flat_map, range_with_len}
use Rattle.std.proofs.lemmas.List.{map-append}
use Rattle.std.proofs.lemmas.List.Concat.{flat_map-append}
use Rattle.dbtg_unit.proofs.Public.{range_more}

pub next_range : (k : ℕ) → range_with_len 1 (k + 1) ≡ range_with_len 1 k ++ (k + 1) ∷ []
next_range k =
    let e : k + 1 ≡ suc k = omega arith in
    ap (range_with_len 1) e ∙ range_more k 1 ∙ ap (λ m. range_with_len 1 k ++ m ∷ []) (omega arith)

-- a list, to which the result for one more number is appended
pub map_more_range : {Y : Type 0} (f : ℕ → Y) (k : ℕ) (old new : List Y) (y : Y) → old ≡ map f (range_with_len 1 k) → new ≡ old ++ y ∷ [] → y ≡ f (k + 1) → new ≡ map f (range_with_len 1 (k + 1))
map_more_range f k old new y e g h = g ∙ (λ i. e i ++ h i ∷ []) ∙ sym (ap (map f) (next_range k) ∙ map-append f (range_with_len 1 k) ((k + 1) ∷ []))

pub flat_more_range : {Y : Type 0} (f : ℕ → List Y) (k : ℕ) (old new : List Y) → old ≡ flat_map f (range_with_len 1 k) → new ≡ old ++ f (k + 1) → new ≡ flat_map f (range_with_len 1 (k + 1))
flat_more_range f k old new e g = g ∙ ap (λ l. l ++ f (k + 1)) e ∙ sym (ap (flat_map f) (next_range k) ∙ flat_map-append f (range_with_len 1 k) ((k + 1) ∷ []) ∙ ap (λ l. flat_map f (range_with_len 1 k) ++ l) (append-nil (f (k + 1))))
