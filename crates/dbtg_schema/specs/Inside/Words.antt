-- A word beside `Words` that private functions and lemmas use.
use Rattle.dbtg_schema.specs.declared.scanner.Word as code
use Rattle.dbtg_schema.specs.Texts.Words.{Word}

-- the spec-level view of a word: without its reference
abbrev pub view : code.Word → Word
view w = record { text = w.text.now; line = w.line }
