-- Units are printed one after another, each found by its number.
use Rattle.std.proofs.Common.{◌≡◌, ◌<◌, ◌+◌, ℕ, suc, List, [], ◌∷◌, ◌++◌, Option, Some, inl, inr, length, take, ap, sym, ◌∙◌, arith}
use Rattle.std.specs.Option.{option_to_list}
use Rattle.std.specs.List.{flat_map}
use Rattle.std.proofs.lemmas.List.{append-nil, flat_map_more, length-map, take_more}
use Rattle.std.proofs.lemmas.Option.{slice_get_cases}
use Rattle.dbtg_schema.specs.Lists.{Lists}
use Rattle.dbtg_unit.specs.declared.unit.Unit as unit
use Rattle.dbtg_script.specs.Printing.Texts.{unit_text, units_text}
use Rattle.dbtg_step.specs.Core.Core.{IsCore, state_now}
use Rattle.dbtg_step.specs.Core.Parts.{CoreParts}
use Rattle.dbtg_step.specs.Machine.SequentialDatabase.{unit_at}

module _ (schema : Lists) (units : List unit.Unit) (before number : ℕ) (is : number ≡ suc before) (within : before < length units) where
  pub printed_next : (text more : List ℕ) → text ≡ units_text schema (take before units) → more ≡ text ++ units_text schema (option_to_list (unit_at units number)) → more ≡ units_text schema (take (before + 1) units)
  unfolding unit_at
  printed_next text more so_far pushed = elim (slice_get_cases units before).1 [
    | inl found ↦
        let u = found.0 in
        let at : unit_at units number ≡ Some u = ap (unit_at units) is ∙ found.2 in
        let taken : take (before + 1) units ≡ take before units ++ u ∷ [] =
        take_more units before u within ∙ ap (λ (v : unit.Unit). take before units ++ v ∷ []) found.3 in
        pushed ∙ ap (λ (o : Option unit.Unit). text ++ units_text schema (option_to_list o)) at
        ∙ ap (λ (t : List ℕ). text ++ t) (append-nil (unit_text schema u))
        ∙ ap (λ (t : List ℕ). t ++ unit_text schema u) so_far ∙ flat_map_more (unit_text schema) [] (take before units) u
        ∙ ap (λ (us : List unit.Unit). flat_map (unit_text schema) us) (sym taken)
    | inr past ↦ absurd (omega (arith, past.0, within))
  ]

-- a core has as many units as the database to which its history leads
pub as_many : (core : CoreParts) → IsCore core → length (state_now core).units ≡ length core.runners
as_many core is = sym (ap length is.units) ∙ length-map core.runners (λ r. r.unit)
