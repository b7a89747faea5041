use Rattle.std.proofs.Common.{map, sym, ap, ◌∙◌}
use Rattle.bicep_symbols.specs.Entries.{symbol_of}
use Rattle.bicep_declared.specs.View.{declared_tree}
use Rattle.resolved_program.specs.declared.resolved.ResolvedFile.{ResolvedFile}
use Rattle.declared_table.specs.Seen.{file_in}
use Rattle.declared_entries.proofs.entries.up_of.Goals as goal

pub returns : goal.returns
returns c =
    let same = c.file-file.ensures in
    c.parent_of.ensures (file_in c.args.table.now) record {
      symbols = ap (map symbol_of)
          (sym (c.as_slice.ensures.value ∙ ap (λ (r : ResolvedFile). r.entries.items) same));
      declarations = ap (map declared_tree)
          (sym (c.as_slice-2.ensures.value ∙ ap (λ (r : ResolvedFile). r.declared.declarations.items) same));
    }
