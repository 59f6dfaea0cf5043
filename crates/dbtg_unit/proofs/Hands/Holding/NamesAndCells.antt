-- Names and cells side by side.
use Rattle.std.proofs.Common.{◌≡◌, refl, sym, ◌∙◌, ap, ℕ, suc, ◌+◌, ◌-◌, true, false, cond, List, [], ◌∷◌, ◌++◌, Some, None, length, inl, inr, arith}
use Rattle.std.specs.Prelude.{map, option_map, slice_get, slice_set, is_some}
use Rattle.std.specs.List.{position_from, zip}
use Rattle.std.proofs.lemmas.Bool.{cases_Bool}
use Rattle.std.proofs.lemmas.List.{length-append, length-map}
use Rattle.std.proofs.lemmas.Map.Made.{keys_of-zip}
use Rattle.std.proofs.lemmas.Option.{slice_get-map}
use Rattle.dbtg_cells.specs.declared.name.CellName.{CellName}
use Rattle.dbtg_cells.specs.declared.cell.Cell.{Cell}
use Rattle.dbtg_cells.specs.Names.{name_eq}
use Rattle.dbtg_unit.specs.Hands.Hands.{cell_of}
use Rattle.dbtg_unit.specs.Hands.Lends.{with_cell}
use Rattle.dbtg_unit.specs.Hands.Local.{holds}

abbrev pub tail_of : List Cell → List Cell
tail_of [] = []
tail_of (x ∷ xs) = xs

-- the cell of a name stands at place k, k places behind `base`
pub record StandsAt (c : CellName) (names : List CellName) (cells : List Cell) (base at : ℕ) : Type 0 where
  pub place : ℕ
  pub place_is : at ≡ base + place
  pub cell_is : cell_of c (zip names cells) ≡ slice_get cells place
  pub written : (w : Cell) → zip names (slice_set cells place w) ≡ with_cell c w (zip names cells)

here : (c n : CellName) (ns : List CellName) (cells : List Cell) (base at : ℕ) → name_eq c n ≡ true → at ≡ base → StandsAt c (n ∷ ns) cells base at
here c n ns [] base at same e = record { place = 0; place_is = omega arith; cell_is = refl; written = λ w. refl }
here c n ns (x ∷ xs) base at same e =
    record {
      place = 0;
      place_is = omega arith;
      cell_is = ap (λ b. cond b (Some x) (cell_of c (zip ns xs))) same;
      written = λ w. sym (ap (λ b. cond b ((n, w) ∷ zip ns xs) ((n, x) ∷ with_cell c w (zip ns xs))) same);
    }

further : (c n : CellName) (ns : List CellName) (x : Cell) (xs : List Cell) (base at : ℕ) → name_eq c n ≡ false → StandsAt c ns xs (base + 1) at → StandsAt c (n ∷ ns) (x ∷ xs) base at
further c n ns x xs base at other s =
    record {
      place = suc s.place;
      place_is = let e = s.place_is in omega arith;
      cell_is = ap (λ b. cond b (Some x) (cell_of c (zip ns xs))) other ∙ s.cell_is;
      written = λ w. ap (λ es. (n, x) ∷ es) (s.written w) ∙ sym (ap (λ b. cond b ((n, w) ∷ zip ns xs) ((n, x) ∷ with_cell c w (zip ns xs))) other);
    }

further_none : (c n : CellName) (ns : List CellName) (base at : ℕ) → StandsAt c ns [] (base + 1) at → StandsAt c (n ∷ ns) [] base at
further_none c n ns base at s = record { place = suc s.place; place_is = let e = s.place_is in omega arith; cell_is = refl; written = λ w. refl }

behind : (c n : CellName) (ns : List CellName) (cells : List Cell) (base at : ℕ) → name_eq c n ≡ false → StandsAt c ns (tail_of cells) (base + 1) at → StandsAt c (n ∷ ns) cells base at
behind c n ns [] base at other s = further_none c n ns base at s
behind c n ns (x ∷ xs) base at other s = further c n ns x xs base at other s

stands_from : (c : CellName) (names : List CellName) (cells : List Cell) (base at : ℕ) → position_from (name_eq c) base names ≡ Some at → StandsAt c names cells base at
stands_from c [] cells base at h = cc
stands_from c (n ∷ ns) cells base at h =
    elim (cases_Bool (name_eq c n)) [
      | inl same ↦
          let found : Some base ≡ Some at = sym (ap (λ b. cond b (Some base) (position_from (name_eq c) (base + 1) ns)) same) ∙ h in
          here c n ns cells base at same (cc)
      | inr other ↦
          let later : position_from (name_eq c) (base + 1) ns ≡ Some at = sym (ap (λ b. cond b (Some base) (position_from (name_eq c) (base + 1) ns)) other) ∙ h in
          behind c n ns cells base at other (stands_from c ns (tail_of cells) (base + 1) at later)
    ]

-- the cell of a name that is found, and its place written
pub found_cell : (c : CellName) (names : List CellName) (cells : List Cell) (at : ℕ) → position_from (name_eq c) 0 names ≡ Some at → cell_of c (zip names cells) ≡ slice_get cells at
found_cell c names cells at h =
    let s = stands_from c names cells 0 at h in
    let same : s.place ≡ at = let e = s.place_is in omega arith in
    s.cell_is ∙ ap (slice_get cells) same

pub written_cell : (c : CellName) (names : List CellName) (cells : List Cell) (at : ℕ) → position_from (name_eq c) 0 names ≡ Some at → (w : Cell) → zip names (slice_set cells at w) ≡ with_cell c w (zip names cells)
written_cell c names cells at h w =
    let s = stands_from c names cells 0 at h in
    let same : at ≡ s.place = let e = s.place_is in omega arith in
    ap (λ k. zip names (slice_set cells k w)) same ∙ s.written w

-- where no name is found there is no cell
nowhere_from : (c : CellName) (names : List CellName) (cells : List Cell) (base : ℕ) → position_from (name_eq c) base names ≡ None → cell_of c (zip names cells) ≡ None
nowhere_from c [] cells base h = refl
nowhere_from c (n ∷ ns) [] base h = refl
nowhere_from c (n ∷ ns) (x ∷ xs) base h =
    elim (cases_Bool (name_eq c n)) [
      | inl same ↦
          let found : Some base ≡ None = sym (ap (λ b. cond b (Some base) (position_from (name_eq c) (base + 1) ns)) same) ∙ h in
          cc
      | inr other ↦
          let later : position_from (name_eq c) (base + 1) ns ≡ None = sym (ap (λ b. cond b (Some base) (position_from (name_eq c) (base + 1) ns)) other) ∙ h in
          ap (λ b. cond b (Some x) (cell_of c (zip ns xs))) other ∙ nowhere_from c ns xs (base + 1) later
    ]

pub no_cell : (c : CellName) (names : List CellName) (cells : List Cell) → position_from (name_eq c) 0 names ≡ None → cell_of c (zip names cells) ≡ None
no_cell c names cells h = nowhere_from c names cells 0 h

zip_push : (ns : List CellName) (cs : List Cell) (n : CellName) (x : Cell) → length cs ≡ length ns → zip (ns ++ n ∷ []) (cs ++ x ∷ []) ≡ zip ns cs ++ (n, x) ∷ []
zip_push [] [] n x h = refl
zip_push [] (y ∷ ys) n x h = absurd (omega arith)
zip_push (m ∷ ms) [] n x h = absurd (omega arith)
zip_push (m ∷ ms) (y ∷ ys) n x h = ap (λ es. (m, y) ∷ es) (zip_push ms ys n x (omega arith))

-- one more name and cell
pub pushed : (ns ms : List CellName) (cs ds : List Cell) (n : CellName) (x : Cell) → length cs ≡ length ns → ms ≡ ns ++ n ∷ [] → ds ≡ cs ++ x ∷ [] → zip ms ds ≡ zip ns cs ++ (n, x) ∷ []
pushed ns ms cs ds n x h names cells = (λ i. zip (names i) (cells i)) ∙ zip_push ns cs n x h

-- the same from behind
pub popped : (ns ms : List CellName) (cs ds : List Cell) (n : CellName) (x : Cell) → length ds ≡ length ms → ms ≡ ns ++ n ∷ [] → ds ≡ cs ++ x ∷ [] → zip ms ds ≡ zip ns cs ++ (n, x) ∷ []
popped ns ms cs ds n x h names cells =
    let long : length cs ≡ length ns = omega (arith, h, ap length names, ap length cells, length-append ns (n ∷ []), length-append cs (x ∷ [])) in
    pushed ns ms cs ds n x long names cells

-- the cells are those beside the names
pub cells_beside : (ns : List CellName) (cs : List Cell) → length cs ≡ length ns → map (λ e. e.1) (zip ns cs) ≡ cs
cells_beside [] [] h = refl
cells_beside [] (y ∷ ys) h = absurd (omega arith)
cells_beside (m ∷ ms) [] h = absurd (omega arith)
cells_beside (m ∷ ms) (y ∷ ys) h = ap (λ l. y ∷ l) (cells_beside ms ys (omega arith))

-- a cell of a name is there where one is held
pub holds_there : (cells : List (CellName × Cell)) (c : CellName) → is_some (cell_of c cells) ≡ holds cells c
holds_there [] c = refl
holds_there (e ∷ es) c = elim (name_eq c e.0) as (λ b. is_some (cond b (Some e.1) (cell_of c es)) ≡ cond b true (holds es c)) [ true ↦ refl | false ↦ holds_there es c ]

-- the last name is that of the last cell
pub last_name : (names : List CellName) (cells : List Cell) → length cells ≡ length names
    → slice_get names (length names - 1) ≡ option_map (λ (e : CellName × Cell). e.0) (slice_get (zip names cells) (length (zip names cells) - 1))
last_name names cells same =
    let keys : map (λ (e : CellName × Cell). e.0) (zip names cells) ≡ names = keys_of-zip names cells same in
    sym (ap (λ ns. slice_get ns (length ns - 1)) keys)
    ∙ slice_get-map (λ (e : CellName × Cell). e.0) (zip names cells) (length (map (λ (e : CellName × Cell). e.0) (zip names cells)) - 1)
    ∙ ap (λ n. option_map (λ (e : CellName × Cell). e.0) (slice_get (zip names cells) (n - 1))) (length-map (zip names cells) (λ (e : CellName × Cell). e.0))
