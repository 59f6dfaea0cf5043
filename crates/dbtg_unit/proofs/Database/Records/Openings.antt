-- What there is at the beginning: the opening units are units of the schema.
use Rattle.std.proofs.Common.{◌≡◌, refl, ap, ℕ, zero, suc, Bool, true, ◌&&◌, ◌==◌, None, length}
use Rattle.std.specs.Prelude.{replicate}
use Rattle.std.proofs.lemmas.List.{length-replicate}
use Rattle.dbtg_schema.specs.Lists.{Lists}
use Rattle.dbtg_schema.specs.Lookups.{at}
use Rattle.dbtg_unit.specs.Database.State.Belongs.{IsUnitOf, IsWithin, is_key_of, is_place_in, is_number, owner_within}
use Rattle.dbtg_unit.specs.Database.Statements.Fits.{if_named}
use Rattle.dbtg_unit.specs.Database.State.Units.{opening_unit}

-- every entry is null
pub nothing_at : {X : Type 0} → (n i : ℕ) → at {X = X} (replicate n None) i ≡ None
nothing_at zero i = refl
nothing_at (suc n) zero = refl
nothing_at (suc n) (suc i) = nothing_at n i

null_passes : {X : Type 0} → (test : X → Bool) (n i : ℕ) → if_named test (at (replicate n None) i) ≡ true
null_passes test n i = ap (if_named test) (nothing_at n i)

pub opening_unit_of_schema : (schema : Lists) (number : ℕ) → IsUnitOf schema (opening_unit schema number)
opening_unit_of_schema schema number =
    record {
      every_type = length-replicate (length schema.types) None;
      every_area = length-replicate (length schema.areas) None;
      every_set = length-replicate (length schema.sets) None;
      every_mode = length-replicate (length schema.areas) None;
      run_unit = refl;
      of_types = λ t. null_passes (λ k. k.rtype == t) (length schema.types) t;
      of_areas = null_passes (is_key_of schema) (length schema.areas);
      of_sets = λ s. null_passes (is_place_in schema s) (length schema.sets) s;
      kept_keys = refl;
      kept_order = refl;
    }

pub opening_unit_within : (schema : Lists) (capacity number : ℕ) → IsWithin capacity (opening_unit schema number)
opening_unit_within schema capacity number =
    record {
      run_unit = refl;
      types = null_passes (λ k. is_number capacity k.number) (length schema.types);
      areas = null_passes (λ k. is_number capacity k.number) (length schema.areas);
      sets = null_passes (λ place. owner_within capacity place.owner && if_named (λ k. is_number capacity k.number) place.at) (length schema.sets);
      kept = refl;
    }
