use Rattle.std.proofs.Common.{◌≡◌, ◌++◌, drop, map}
use Rattle.std.specs.List.{flat_map}
use Rattle.dbtg_explain.specs.InProgram.{name_with}
use Rattle.dbtg_explain.proofs.program_word.push_types_with.Given as goal

abbrev pub invariant-loop-rtype : goal.invariant-loop-rtype
invariant-loop-rtype l =
    map (λ name. name.now) l.names.items ++ flat_map (name_with l.item) (drop l.rtype-index l.types) ≡ map (λ name. name.now) l.initial.names.items ++ flat_map (name_with l.item) l.types
