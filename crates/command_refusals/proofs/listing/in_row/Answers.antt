use Rattle.std.proofs.Common.{◌≡◌, ◌∙◌, ◌++◌, ℕ, List, ap, subst, string_bytes, encode_utf8_all}
use Rattle.std.specs.Prelude.{IfOk}
use Rattle.std.proofs.lemmas.List.{take_rest}
use Rattle.lock_rules.specs.Spaced.{after_spaces}
use Rattle.lock_rules.proofs.SpacedLemmas.{spaced_split, spaced_none}
use Rattle.command_refusals.proofs.listing.in_row.Goals as goal

pub returns-in-Some : goal.returns-in-Some
returns-in-Some c =
    let P : List ℕ → Type 0 = λ w. IfOk c.from_first.result (λ t. string_bytes t ≡ encode_utf8_all w) in
    let found = c.in-Some.ensures.lookup in
    let first = c.in-Some.first.now in
    subst P (ap (λ ns. first ++ after_spaces ns) (take_rest c.args.names.now 1)
    ∙ spaced_split c.args.names.now first found.0 found.1) c.from_first.ensures

pub returns-in-None : goal.returns-in-None
returns-in-None c =
    c.new.ensures.bytes ∙ ap encode_utf8_all (spaced_none c.args.names.now c.in-None.ensures.lookup.0)
