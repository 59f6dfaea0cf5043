-- Texts in columns.
use Rattle.std.specs.Prelude.{ℕ, ◌-◌, List, ◌++◌, length, replicate}

-- a text at the right end of a column, with spaces before it
unfoldable pub right : ℕ → ℕ → List ℕ → List ℕ
right fill width text = replicate (width - length text) fill ++ text

-- a text at the left end of a column, with spaces after it
unfoldable pub left : ℕ → List ℕ → List ℕ
left width text = text ++ replicate (width - length text) 32
