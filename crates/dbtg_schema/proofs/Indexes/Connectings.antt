-- The marked sets are those in which STORE connects a record of a type.
use Rattle.std.proofs.Common.{◌≡◌, ℕ, ◌<◌, ◌≤◌, Bool, false, List, length, sym, ap, ◌∙◌, inl, inr, arith}
use Rattle.std.specs.Prelude.{◌==◌, option_and_then}
use Rattle.std.specs.List.{find}
use Rattle.std.proofs.lemmas.Bool.{cases_lt}
use Rattle.std.proofs.lemmas.List.{get_or_past}
use Rattle.std.proofs.lemmas.Option.{slice_get_past}
use Rattle.dbtg_schema.specs.Lists.{Lists}
use Rattle.dbtg_schema.specs.Lookups.{some_and}
use Rattle.dbtg_schema.specs.Structure.{is_automatic}
use Rattle.dbtg_schema.specs.Erasing.{marked}
use Rattle.dbtg_schema.specs.Inside.Connecting.{connects_in, AreConnecting}

-- STORE connects no record in a set that is not there
none_there : (schema : Lists) (s t : ℕ) → length schema.sets ≤ s → connects_in schema s t ≡ false
none_there schema s t past =
    ap (λ o. some_and (λ m. is_automatic m.class) (option_and_then (λ set. find (λ member. member.rtype == t) set.members) o)) (slice_get_past schema.sets s past)

-- where the marks below sixteen are right, all are: there are no more sets
pub all_right : (schema : Lists) (t : ℕ) (marks : List Bool) → length schema.sets ≤ 16 → length marks ≡ 16 → ((s : ℕ) → s < 16 → marked marks s ≡ connects_in schema s t) → AreConnecting schema t marks
unfolding AreConnecting
all_right schema t marks few room below s =
    elim (cases_lt s 16) [ inl h ↦ below s h | inr h ↦ get_or_past marks s false (omega (arith, room, h)) ∙ sym (none_there schema s t (omega (arith, few, h))) ]

-- what one of the marks says
pub one_right : (schema : Lists) (t : ℕ) (marks : List Bool) (s : ℕ) → AreConnecting schema t marks → marked marks s ≡ connects_in schema s t
unfolding AreConnecting
one_right schema t marks s right = right s
