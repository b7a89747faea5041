use Rattle.std.proofs.Common.{◌≡◌, true, false, sym, subst}
use Rattle.std.specs.Str.{IsUtf8}
use Rattle.function_prints.proofs.TextLemmas.{is_text}
use Rattle.function_prints.proofs.printed.json_text.Goals as goal

pub unreachable-requires : goal.unreachable-requires
unreachable-requires c =
    let no : false ≡ true =
    c.in-Err.ensures.succeeds
    (subst IsUtf8 (sym c.into_vec.ensures) (is_text c.in_ok-bytes.bytes _ c.in_ok-bytes.ensures.reads_back)) in
    cc
