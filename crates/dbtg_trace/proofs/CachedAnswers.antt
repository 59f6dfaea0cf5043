-- Answers that were read before are kept and found.
use Rattle.std.proofs.Common.{◌≡◌, ℕ, zero, suc, ◌<◌, List, [], ◌∷◌, ◌++◌, get_or, length, set, Option, Some, None, sym, ap, subst, ◌∙◌}
use Rattle.std.specs.Prelude.{slice_get}
use Rattle.std.proofs.lemmas.Option.{slice_get_within}
use Rattle.dbtg_schema.specs.Lists.{Lists}
use Rattle.dbtg_cells.proofs.Public.{get_behind}
use Rattle.dbtg_unit.proofs.Public.{slice_get_front}
use Rattle.dbtg_script.specs.declared.line_cache.Seen.{Seen}
use Rattle.dbtg_trace.specs.declared.traced.Traced.{Traced}
use Rattle.dbtg_trace.specs.Answers.{answer_in}
use Rattle.dbtg_trace.specs.Inside.AnswerCache.{AreSaid, IsSaid, IsSaidAt}

kept_at : (schema : Lists) (ts : List Traced) (ps : List (Option Seen)) (i : ℕ) → AreSaid schema ts ps → IsSaidAt schema ts (get_or ps i None)
kept_at schema ts [] i h = tt
kept_at schema ts (p ∷ ps) zero h = h.0
kept_at schema ts (p ∷ ps) (suc i) h = kept_at schema ts ps i h.1

pub kept_with : (schema : Lists) (ts : List Traced) (ps : List (Option Seen)) (i : ℕ) (p : Option Seen) → AreSaid schema ts ps → IsSaidAt schema ts p → AreSaid schema ts (set ps i p)
kept_with schema ts [] i p h g = tt
kept_with schema ts (q ∷ qs) zero p h g = (g, h.1)
kept_with schema ts (q ∷ qs) (suc i) p h g = (h.0, kept_with schema ts qs i p h.1 g)

pub found : (schema : Lists) (ts : List Traced) (ps : List (Option Seen)) (i : ℕ) (seen : Seen) (answer : List ℕ) → AreSaid schema ts ps → get_or ps i None ≡ Some seen → seen.line.now ≡ answer → IsSaid schema ts answer seen.at
found schema ts ps i seen answer h e same =
    let said : IsSaid schema ts seen.line.now seen.at = rw e at (kept_at schema ts ps i h) in
    subst (λ (line : List ℕ). IsSaid schema ts line seen.at) same said

-- it is still there when one more entry is read
still_there : (schema : Lists) (ts : List Traced) (t : Traced) (answer : List ℕ) (at : ℕ) → IsSaid schema ts answer at → IsSaid schema (ts ++ t ∷ []) answer at
still_there schema ts t answer at h = (h.0, slice_get_front ts (t ∷ []) at (slice_get_within ts at h.0 h.1) ∙ h.1, h.2)

pub still_said : (schema : Lists) (ts : List Traced) (t : Traced) (ps : List (Option Seen)) → AreSaid schema ts ps → AreSaid schema (ts ++ t ∷ []) ps
still_said schema ts t [] h = tt
still_said schema ts t (None ∷ ps) h = (tt, still_said schema ts t ps h.1)
still_said schema ts t (Some p ∷ ps) h = (still_there schema ts t p.line.now p.at h.0, still_said schema ts t ps h.1)

-- the answer of the next entry
pub said_next : (schema : Lists) (ts : List Traced) (t : Traced) (answer : List ℕ) → answer_in schema answer ≡ Some t.said → IsSaid schema (ts ++ t ∷ []) answer (length ts)
said_next schema ts t answer h = (t, get_behind ts t [], h)

-- an entry that is found has the answer
pub said_there : (schema : Lists) (ts : List Traced) (answer : List ℕ) (at : ℕ) (t : Traced) → IsSaid schema ts answer at → slice_get ts at ≡ Some t → answer_in schema answer ≡ Some t.said
said_there schema ts answer at t h e =
    let one : Some h.0 ≡ Some t = sym h.1 ∙ e in
    let same : h.0 ≡ t = cc in
    h.2 ∙ ap (λ (x : Traced). Some x.said) same
