use Rattle.std.proofs.Common.{◌≡◌, ◌++◌, drop, string_bytes, encode_utf8_all}
use Rattle.lock_rules.specs.Spaced.{after_spaces}
use Rattle.command_refusals.proofs.listing.add_names.Given as goal

abbrev pub invariant-loop-name : goal.invariant-loop-name
invariant-loop-name l =
    string_bytes l.text ++ encode_utf8_all (after_spaces (drop l.name-index l.names))
    ≡ string_bytes l.initial.text ++ encode_utf8_all (after_spaces l.names)
