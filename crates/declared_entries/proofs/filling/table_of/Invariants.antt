use Rattle.std.proofs.Common.{◌≡◌, ℕ, length, true}
use Rattle.depend_graph.specs.Orders.{IsAmong}
use Rattle.declared_table.specs.Seen.{is_known}
use Rattle.declared_entries.proofs.filling.table_of.Given as goal

-- the symbols before this place of the order are in the table
abbrev pub invariant-loop-node : goal.invariant-loop-node
invariant-loop-node l = record {
  files : l.table.0 ≡ (l.file, l.files);
  marks : l.table.1.0 ≡ l.marks;
  count : length l.table.1.1 ≡ length l.file.entries.items;
  known : (m : ℕ) → IsAmong l.order l.node-index m → is_known l.table m ≡ true;
}
