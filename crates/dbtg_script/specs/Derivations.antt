-- How the grammar derives a line: each word has a role, and is a name only where it can be no other word.
use Rattle.std.specs.Prelude.{◌≡◌, ℕ, Bool, true, false, List, ◌∷◌, ◌++◌, map}
use Rattle.dbtg_schema.specs.Texts.Forms.{labelled, Derives}
use Rattle.dbtg_script.specs.declared.role.Role.{Role}
use Rattle.dbtg_script.specs.declared.role.Role.TheVariants as role
use Rattle.dbtg_script.specs.Lines.{ends_in_text}
use Rattle.dbtg_script.specs.Tokens.{Token, tokens}
use Rattle.dbtg_script.specs.StatementGrammar.{Form, Labelled, fits, statement}

-- a word in this role is the name of something
abbrev pub is_name : Role → Bool
is_name role.AreaName = true
is_name role.Name = true
is_name role.RecordName = true
is_name role.TypeName = true
is_name role.SetName = true
is_name role.ItemName = true
is_name role.SuppressSet = true
is_name _ = false

-- after the words before it, the word can have this role: with some words after it, the form derives them all
abbrev pub CanStand : Form → List Labelled → Role → Token → Type 0
CanStand form before r t = (behind : List Labelled) × Derives fits form (before ++ labelled r t ∷ behind)

-- a word is a name only if it can be nothing but a name
abbrev pub TakesKeywords : Form → List Labelled → Type 0
TakesKeywords form ws =
    (before : List Labelled) (l : Labelled) (behind : List Labelled) (r : Role) → ws ≡ before ++ l ∷ behind → is_name l.role ≡ true → CanStand form before r l.word → is_name r ≡ true

-- a derivation of a line: each text literal is closed; its words, each with a role, are derived by the grammar of statements; a keyword
-- is taken where one can come
pub record Derivation (line : List ℕ) : Type 0 where
  pub closed : ends_in_text false line ≡ false
  pub words : List Labelled
  pub are_words : map (λ l. l.word) words ≡ tokens false line
  pub derives : Derives fits statement words
  pub keywords : TakesKeywords statement words
