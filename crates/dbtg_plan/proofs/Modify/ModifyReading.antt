-- The checks of a MODIFY set by set, as the code makes them.
use Rattle.std.proofs.Common.{◌≡◌, sym, ◌∙◌, ap, ℕ, Bool, false, cond, ◌&&◌, List, ◌∷◌, ◌++◌, Option, Some, None, map}
use Rattle.std.specs.Prelude.{is_some}
use Rattle.std.specs.List.{list_any}
use Rattle.std.specs.Option.{option_or}
use Rattle.dbtg_schema.specs.Lists.{Lists}
use Rattle.dbtg_schema.specs.Lookups.{first_cause}
use Rattle.dbtg_schema.specs.Structure.{order_of, rekeyed_sets, set_numbers}
use Rattle.dbtg_cells.specs.declared.key.DbKey.{DbKey}
use Rattle.dbtg_cells.specs.declared.key.Value.{Value}
use Rattle.dbtg_unit.specs.declared.statement.Change.{Change}
use Rattle.dbtg_unit.specs.declared.unit.Cause.{Cause}
use Rattle.dbtg_unit.specs.declared.unit.Cause.TheVariants.{DuplicatesNotAllowed}
use Rattle.dbtg_unit.specs.declared.unit.Unit.{Unit}
use Rattle.dbtg_unit.specs.Database.Statements.Checks.{modify_checks, own_checks}
use Rattle.dbtg_unit.specs.Database.Statements.Conditions.{calc_taken, changed_items, names_calc, refuses_equal, sort_key_taken}
use Rattle.dbtg_unit.specs.Hands.Hands.{Hands}
use Rattle.dbtg_unit.specs.Hands.InHand.{in_hand, items_in}
use Rattle.dbtg_plan.specs.Inside.Modifying.{is_refused, is_rekeyed}
use Rattle.dbtg_plan.proofs.Store.SetSteps.{first_cause_append, or_second}
use Rattle.dbtg_plan.proofs.Modify.TwoTests.{any_filter, first_cause_any}

-- the checks set by set, as one
pub keys_refused : (schema : Lists) (hands : Hands) (changes : List Change) (k : DbKey) (items : List Value)
    → first_cause (map (λ s. (refuses_equal (order_of schema s) && sort_key_taken schema (in_hand hands) k items s, DuplicatesNotAllowed)) (rekeyed_sets schema k.rtype (map (λ c. c.item) changes)))
    ≡ cond (list_any (is_refused schema hands changes k items) (set_numbers schema)) (Some DuplicatesNotAllowed) None
keys_refused schema hands changes k items =
    let refused : ℕ → Bool = λ s. refuses_equal (order_of schema s) && sort_key_taken schema (in_hand hands) k items s in
    first_cause_any refused DuplicatesNotAllowed (rekeyed_sets schema k.rtype (map (λ c. c.item) changes))
    ∙ ap (λ b. cond b (Some DuplicatesNotAllowed) None) (any_filter refused (λ s. is_rekeyed schema changes k.rtype s) (set_numbers schema))

-- the cause of a record that is there and unchanged, and whose CALC items are not taken
pub key_cause : (schema : Lists) (hands : Hands) (unit : Unit) (changes : List Change) (k : DbKey) (items : List Value) → items ≡ changed_items changes (items_in hands k)
    → (own : Option Cause) → own ≡ first_cause (own_checks (in_hand hands) unit k) → is_some own ≡ false
    → (names_calc schema k.rtype changes && calc_taken schema (in_hand hands) k.rtype items (Some k)) ≡ false
    → (refused : Bool) → refused ≡ list_any (is_refused schema hands changes k items) (set_numbers schema)
    → cond refused (Some DuplicatesNotAllowed) None ≡ first_cause (modify_checks schema (in_hand hands) unit changes k)
key_cause schema hands unit changes k items is own own-is passes untaken refused refused-is =
    let view = in_hand hands in
    let rest : List Value → List (Bool × Cause) = λ its.
    (names_calc schema k.rtype changes && calc_taken schema view k.rtype its (Some k), DuplicatesNotAllowed)
    ∷ map (λ s. (refuses_equal (order_of schema s) && sort_key_taken schema view k its s, DuplicatesNotAllowed)) (rekeyed_sets schema k.rtype (map (λ c. c.item) changes)) in
    sym (sym (ap (λ its. first_cause (own_checks view unit k ++ rest its)) is)
    ∙ first_cause_append (own_checks view unit k) (rest items)
    ∙ ap (λ o. option_or o (first_cause (rest items))) (sym own-is) ∙ or_second own (first_cause (rest items)) passes
    ∙ (λ i. cond (untaken i) (Some DuplicatesNotAllowed) (keys_refused schema hands changes k items i))
    ∙ ap (λ b. cond b (Some DuplicatesNotAllowed) None) (sym refused-is))
