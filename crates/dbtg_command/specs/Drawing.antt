-- What `draw` prints.
use Rattle.std.specs.Prelude.{ℕ, ◌≡◌, List, None}
use Rattle.dbtg_schema.specs.Texts.SchemaFaults.{refusal as schema_refusal}
use Rattle.dbtg_draw.specs.Dot.{dot_text}
use Rattle.dbtg_command.specs.declared.place.TextPlace.{TextPlace}
use Rattle.dbtg_command.specs.declared.place.TextPlace.TheVariants.{Schema}
use Rattle.dbtg_command.specs.Refusals.{schema_in}

-- the text of a schema is not refused, and this is the diagram of the schema
pub record IsDrawing (text : List ℕ) (out : List ℕ) : Type 0 where
  pub accepted : schema_refusal text ≡ None
  pub is_text : out ≡ dot_text (schema_in text)

-- what `draw` prints of a text that is held
abbrev pub DrawsHeld : (TextPlace → List ℕ → Type 0) → List ℕ → Type 0
DrawsHeld holds out = (text : List ℕ) × holds Schema text × IsDrawing text out
