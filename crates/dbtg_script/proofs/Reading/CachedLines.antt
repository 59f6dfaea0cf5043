-- Lines that were read before are kept, found and read again.
use Rattle.std.proofs.Common.{◌≡◌, ℕ, zero, suc, ◌<◌, Bool, true, false, not, ◌&&◌, List, [], ◌∷◌, ◌++◌, length, get_or, set, Option, Some, None, refl, sym, ap, ◌∙◌, arith}
use Rattle.std.specs.Prelude.{IfSome, nat_le, slice_get, if◌then◌else◌}
use Rattle.std.proofs.lemmas.Bool.Decides.{nat_tests}
use Rattle.std.proofs.lemmas.Option.{slice_get_within}
use Rattle.dbtg_schema.specs.Lists.{Lists}
use Rattle.dbtg_schema.specs.Lookups.{first}
use Rattle.dbtg_cells.proofs.Public.{get_behind}
use Rattle.dbtg_unit.specs.declared.limits.TheConstants.{MOST_STATEMENTS}
use Rattle.dbtg_unit.specs.declared.statement.Statement.{Statement}
use Rattle.dbtg_unit.proofs.Public.{slice_get_front}
use Rattle.dbtg_script.specs.declared.fault.Cause.{Cause}
use Rattle.dbtg_script.specs.declared.fault.Cause.TheVariants as cause
use Rattle.dbtg_script.specs.declared.line_cache.Seen.{Seen}
use Rattle.dbtg_script.specs.Lines.{is_allowed, is_statement}
use Rattle.dbtg_script.specs.StatementFaults.{statement_faults, when}
use Rattle.dbtg_script.specs.Statements.{line_statement, prepend}
use Rattle.dbtg_script.specs.Inside.LineCache.{Says}
use Rattle.dbtg_script.specs.LineCache.{IsCached, IsRead, IsReadAt}

-- KEPT AND FOUND

pub known_at : (schema : Lists) (ss : List Statement) (ps : List (Option Seen)) (i : ℕ) → IsCached schema ss ps → IsReadAt schema ss (get_or ps i None)
known_at schema ss [] i h = tt
known_at schema ss (p ∷ ps) zero h = h.0
known_at schema ss (p ∷ ps) (suc i) h = known_at schema ss ps i h.1

pub known_with : (schema : Lists) (ss : List Statement) (ps : List (Option Seen)) (i : ℕ) (p : Option Seen) → IsCached schema ss ps → IsReadAt schema ss p → IsCached schema ss (set ps i p)
known_with schema ss [] i p h g = tt
known_with schema ss (q ∷ qs) zero p h g = (g, h.1)
known_with schema ss (q ∷ qs) (suc i) p h g = (h.0, known_with schema ss qs i p h.1 g)

pub found : (schema : Lists) (ss : List Statement) (ps : List (Option Seen)) (i : ℕ) (seen : Seen) (line : List ℕ) (o : Option ℕ)
    → IsCached schema ss ps → get_or ps i None ≡ Some seen → IfSome o (λ at. at ≡ seen.at) → IfSome o (λ _. seen.line.now ≡ line) → IfSome o (λ at. IsRead schema ss line at)
found schema ss ps i seen line None h e at same = tt
found schema ss ps i seen line (Some n) h e at same =
    let read : IsRead schema ss seen.line.now seen.at = rw e at (known_at schema ss ps i h) in
    rw (at, ← same) read

pub at_index : {X : Type 0} (xs : List X) (i : ℕ) (x : X) → i < length xs → ((d : X) → x ≡ get_or xs i d) → slice_get xs i ≡ Some x
at_index [] i x h e = absurd (omega arith)
at_index (y ∷ ys) zero x h e = ap Some (sym (e x))
at_index (y ∷ ys) (suc i) x h e = at_index ys i x (omega arith) e

-- ONE STATEMENT MORE

holds_some : (schema : Lists) (line : List ℕ) → is_statement line ≡ true → (s : Statement) × (line_statement schema line ≡ Some s)
holds_some schema line h = some_where (is_statement line) _ h where
  some_where : (b : Bool) (x : Statement) → b ≡ true → (s : Statement) × ((if b then Some x else None) ≡ Some s)
  some_where true x e = (x, refl)
  some_where false x e = absurd cc

still_read : (schema : Lists) (ss : List Statement) (s : Statement) (line : List ℕ) (at : ℕ) → IsRead schema ss line at → IsRead schema (ss ++ s ∷ []) line at
still_read schema ss s line at h =
    let some = holds_some schema line h.holds_one in
    let within : at < length ss = slice_get_within ss at some.0 (h.said ∙ some.1) in
    record { holds_one = h.holds_one; faultless = h.faultless; said = slice_get_front ss (s ∷ []) at within ∙ h.said }

pub still_cached : (schema : Lists) (ss : List Statement) (s : Statement) (ps : List (Option Seen)) → IsCached schema ss ps → IsCached schema (ss ++ s ∷ []) ps
still_cached schema ss s [] h = tt
still_cached schema ss s (None ∷ ps) h = (tt, still_cached schema ss s ps h.1)
still_cached schema ss s (Some p ∷ ps) h = (still_read schema ss s p.line.now p.at h.0, still_cached schema ss s ps h.1)

-- A NEW LINE

roomy : (one full room other : Bool) (xs : List Cause) → one ≡ true → room ≡ false → first (when (one && full) cause.TooMuch ++ when other cause.LineNotAllowed ++ (if one then xs else [])) ≡ None
    → first (when (one && room) cause.TooMuch ++ when other cause.LineNotAllowed ++ (if one then xs else [])) ≡ None
roomy false full room other xs e f h = absurd cc
roomy true full true other xs e f h = absurd cc
roomy true true false other xs e f h = absurd cc
roomy true false false other xs e f h = h

holds : (b : Bool) (x s : Statement) → (if b then Some x else None) ≡ Some s → b ≡ true
holds true x s h = refl
holds false x s h = absurd cc

pub new_read : (schema : Lists) (ss : List Statement) (s : Statement) (line : List ℕ) → Says schema (length ss) line s → IsRead schema (ss ++ s ∷ []) line (length ss)
new_read schema ss s line h =
    let one = holds (is_statement line) _ s h.said in
    record {
      holds_one = one;
      faultless = λ count few.
          let room : nat_le MOST_STATEMENTS count ≡ false = grind (arith, nat_tests) in
          roomy (is_statement line) (nat_le MOST_STATEMENTS (length ss)) (nat_le MOST_STATEMENTS count) (not (is_allowed line)) (statement_faults schema line) one room h.faultless;
      said = get_behind ss s [] ∙ sym h.said;
    }

-- what a line says that was read
pub says_again : (schema : Lists) (ss : List Statement) (line : List ℕ) (at : ℕ) (s : Statement) → IsRead schema ss line at → length ss < MOST_STATEMENTS → slice_get ss at ≡ Some s → Says schema (length ss) line s
says_again schema ss line at s h few e = record { faultless = h.faultless (length ss) few; said = sym h.said ∙ e }

pub said_behind : (schema : Lists) (line : List ℕ) (ss : List Statement) (s : Statement) → line_statement schema line ≡ Some s → ss ++ s ∷ [] ≡ ss ++ prepend (line_statement schema line) []
said_behind schema line ss s h = rw h refl
