-- How far changes are told, and what is left to tell.
use Rattle.std.specs.Prelude.{ℕ, ◌+◌, ◌==◌, List, drop, if◌then◌else◌, map}
use Rattle.std.specs.Borrow.{Bor}
use Rattle.dbtg_page.specs.declared.changes.Kind.{Kind}
use Rattle.dbtg_page.specs.declared.changes.Kind.TheVariants.{Line, Word}
use Rattle.dbtg_page.specs.declared.changes.Told.{Told}
use Rattle.dbtg_page.specs.Json.{field}
use Rattle.dbtg_page.specs.Changes.{Edit, edits, name_by, ops, spaced, turned, word_ops}
use Rattle.dbtg_page.specs.Changes.Edit.{Stays}

-- these parts, and their names
abbrev pub texts : List (Bor (List ℕ)) → List (List ℕ)
texts parts = map (λ p. p.now) parts

abbrev pub names : Kind → List (Bor (List ℕ)) → List (List ℕ)
names kind parts = map (name_by kind) (texts parts)

-- how many stay since the last edit, and how many old parts are told, once this many have gone and the next one stays
abbrev pub behind_met : Told → ℕ → Told
behind_met told gone = record { stay = if gone == 0 then told.stay + 1 else 1; at = told.at + gone + 1 }

-- what is left to tell: of a list's parts, of words, and of lines
abbrev pub left : {X : Type 0} → Kind → (List ℕ → List ℕ → Edit X) → (List ℕ → List ℕ) → (X → List ℕ) → Told → List (Bor (List ℕ))
    → List (Bor (List ℕ)) → List ℕ
left kind turn wrap print told old new = ops wrap print told.stay (edits (name_by kind) turn (texts (drop told.at old)) (texts new))

unfoldable pub words_left : Told → List (Bor (List ℕ)) → List (Bor (List ℕ)) → List ℕ
words_left told old new = left Word (λ old new. Stays) spaced (λ x. absurd x) told old new

unfoldable pub lines_left : Told → List (Bor (List ℕ)) → List (Bor (List ℕ)) → List ℕ
lines_left told old new = left Line turned field (word_ops 0) told old new
