use Rattle.std.proofs.Common.{◌≡◌, ℕ, ◌<◌, length}
use Rattle.dbtg_schema.specs.Inside.Erasing.{marked_in, leads_to, touches}
use Rattle.dbtg_schema.proofs.erasing.ways_of.Given as goal

abbrev pub invariant-loop-t : goal.invariant-loop-t
invariant-loop-t l = record {
  room : length l.leads ≡ 16;
  other_room : length l.touched ≡ 16;
  leads_made : (x y : ℕ) → x < l.t → y < length l.schema.types → marked_in l.leads x y ≡ leads_to l.schema x y;
  touched_made : (x a : ℕ) → x < l.t → a < 8 → marked_in l.touched x a ≡ touches l.schema x a;
}
