-- Places in plain lists of members.
use Rattle.std.proofs.Common.{◌≡◌, ℕ, false, List, [], ◌∷◌, map, IsTrue}
use Rattle.std.specs.List.{list_any, position_or_len}
use Rattle.dbtg_cells.specs.declared.key.DbKey.{DbKey}
use Rattle.dbtg_cells.specs.Keys.{is_member}
use Rattle.dbtg_cells.specs.Members.{Entry, has_key}

-- the place of the key, or the length
abbrev pub place_of : DbKey → List Entry → ℕ
place_of k xs = position_or_len (has_key k) xs

abbrev pub HasMember : List Entry → DbKey → Type 0
HasMember xs k = IsTrue (list_any (has_key k) xs)

-- no key comes twice
abbrev pub OnceEach : List Entry → Type 0
OnceEach [] = Unit {0}
OnceEach (x ∷ l) = (is_member x.0 (map (λ e. e.0) l) ≡ false) × OnceEach l
