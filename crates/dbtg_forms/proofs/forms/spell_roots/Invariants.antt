use Rattle.std.proofs.Common.{◌≡◌, Some, map, slice_get}
use Rattle.std.specs.Prelude.{filter}
use Rattle.std.specs.List.{range_with_len}
use Rattle.dbtg_interned.specs.Kept.{IsContents, Keeps}
use Rattle.dbtg_forms.specs.Forms.{is_root, spelling}
use Rattle.dbtg_forms.proofs.forms.spell_roots.Given as goal

abbrev pub invariant-loop-place : goal.invariant-loop-place
invariant-loop-place l = record {
  sound : IsContents l.spellings;
  keeps : Keeps l.initial.spellings l.spellings;
  numbers : map (slice_get l.spellings) l.numbers.items ≡ map Some (map (spelling l.graph) (filter (is_root l.graph) (range_with_len 0 l.place)));
}
