-- Answers that were read before: each stands beside the place of its entry.
use Rattle.std.specs.Prelude.{◌≡◌, ℕ, List, [], ◌∷◌, Option, Some, None, slice_get}
use Rattle.dbtg_schema.specs.Lists.{Lists}
use Rattle.dbtg_script.specs.declared.line_cache.Seen.{Seen}
use Rattle.dbtg_script.specs.LineCache.{IsCached}
use Rattle.dbtg_trace.specs.declared.traced.Traced.{Traced}
use Rattle.dbtg_trace.specs.Answers.{answer_in}
use Rattle.dbtg_trace.specs.Inside.Reading.{statements_in}

-- the entry at this place has the answer that these bytes say
abbrev pub IsSaid : Lists → List Traced → List ℕ → ℕ → Type 0
IsSaid schema ts answer at = (t : Traced) × (slice_get ts at ≡ Some t) × (answer_in schema answer ≡ Some t.said)

-- nothing is kept, or an answer that its entry has
abbrev pub IsSaidAt : Lists → List Traced → Option Seen → Type 0
IsSaidAt schema ts None = Unit {0}
IsSaidAt schema ts (Some s) = IsSaid schema ts s.line.now s.at

-- the same holds for each place
abbrev pub AreSaid : Lists → List Traced → List (Option Seen) → Type 0
AreSaid schema ts [] = Unit {0}
AreSaid schema ts (p ∷ ps) = IsSaidAt schema ts p × AreSaid schema ts ps

-- the script lines and the answers that are kept are those of entries that were read
pub record AreCached (schema : Lists) (ts : List Traced) (lines answers : List (Option Seen)) : Type 0 where
  pub cache : IsCached schema (statements_in ts) lines
  pub said : AreSaid schema ts answers
