use Rattle.std.proofs.Common.{◌≡◌, ◌++◌, drop, string_bytes, encode_utf8_all}
use Rattle.lock_rules.specs.Spaced.{after_spaces}
use Rattle.command_refusals.proofs.listing.add_paths.Given as goal

abbrev pub invariant-loop-path : goal.invariant-loop-path
invariant-loop-path l =
    string_bytes l.text ++ encode_utf8_all (after_spaces (drop l.path-index l.paths))
    ≡ string_bytes l.initial.text ++ encode_utf8_all (after_spaces l.paths)
