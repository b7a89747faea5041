use Rattle.std.proofs.Common.{◌≡◌, ◌++◌, map, drop}
use Rattle.std.specs.List.{AllByRecursion}
use Rattle.bicep_program.specs.Program.{program_file}
use Rattle.bicep_typing.specs.Names.{listed}
use Rattle.resolved_program.specs.Faults.{first_in, first_from}
use Rattle.resolved_program.specs.View.{file_view}
use Rattle.bicep_types.specs.Program.{symbol_types_by, IsSettledBy, type_place_by}
use Rattle.bicep_types.proofs.files.all_symbol_types.Given as goal

-- the rest goes on from what is listed, and decides
abbrev pub invariant-loop-number : goal.invariant-loop-number
invariant-loop-number l =
    record {
      types :
          map listed l.all.items
          ++ map (symbol_types_by (map listed l.outputs)) (map file_view (drop l.number l.resolved))
          ≡ map (symbol_types_by (map listed l.outputs)) (map file_view l.resolved);
      settled :
          AllByRecursion (IsSettledBy (map listed l.outputs)) (map file_view (drop l.number l.resolved))
          → AllByRecursion (IsSettledBy (map listed l.outputs)) (map file_view l.resolved);
      place :
          first_in (type_place_by (map program_file l.files) (map listed l.outputs)) (map file_view l.resolved)
          ≡ first_from (type_place_by (map program_file l.files) (map listed l.outputs)) l.number
          (map file_view (drop l.number l.resolved));
    }
