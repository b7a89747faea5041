-- The machine reads what the grammar spells, and nothing else.
use Rattle.std.proofs.Common.{ℕ, subst, sym}
use Rattle.bicep_tree.specs.Tree.{FileTree}
use Rattle.bicep_machine.specs.Spelled.{IsKept, SpelledIsRead, ReadIsSpelled}
use Rattle.bicep_machine.proofs.Keeping.{keep_file, file_stands}
use Rattle.bicep_machine.proofs.CompleteFile.{parsed_complete}
use Rattle.bicep_machine.proofs.Sound.{parsed_sound}

is_kept : (most : ℕ) (f : FileTree) → IsKept most f (keep_file most f)
is_kept most f = record { whole = (file_stands most f).whole; deep = (file_stands most f).deep }

pub spelled_is_read : SpelledIsRead
spelled_is_read most f ts low h = (keep_file most f, parsed_complete most low f ts h, is_kept most f)

pub read_is_spelled : ReadIsSpelled
read_is_spelled most ts k h =
    let s = parsed_sound most ts k h in
    (s.file, s.text, subst (λ x. IsKept most s.file x) (sym s.kept_is) (is_kept most s.file))
