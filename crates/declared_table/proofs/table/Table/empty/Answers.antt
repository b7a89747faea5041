use Rattle.std.proofs.Common.{[], List, Option, ℕ, map, ap, sym, subst, rules}
use Rattle.bicep_symbols.specs.Entries.{symbol_of}
use Rattle.declared_types.specs.View.{declared_tree}
use Rattle.kept_parts.specs.Declared.{whole}
use Rattle.declared_table.specs.Seen.{file_of, files_of}
use Rattle.declared_table.specs.Entries.{AreEntries}
use Rattle.declared_table.specs.declared.entry.Entry.{Entry}
use Rattle.declared_table.proofs.EntryLemmas.{no_entries}
use Rattle.declared_table.proofs.table.Table.empty.Goals as goal

pub invariant_of-result : goal.invariant_of-result
invariant_of-result c =
    let file = file_of c.args.file.now c.args.marks.now in
    let b = whole file (files_of c.args.files.now) in
    record {
      paired = c.requires.paired;
      types = c.in_ok-types.ensures file record {
        symbols = ap (map symbol_of) (sym c.as_slice.ensures.value);
        declarations = ap (map declared_tree) (sym c.as_slice-2.ensures.value);
      };
      entries = subst (λ (es : List Entry). AreEntries file b c.in_ok-places.places.items es) (sym c.new.ensures.items)
          (subst (λ (ps : List (Option ℕ)). AreEntries file b ps [])
          (sym (c.in_ok-places.ensures.items_if_clones_equal (search rules)))
          (no_entries file b c.len-count.result));
    }
