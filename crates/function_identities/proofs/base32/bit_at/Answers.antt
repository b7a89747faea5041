use Rattle.std.proofs.Common.{◌∙◌, ◌/◌, ◌%◌, ◌-◌, ◌^◌, ℕ, ap, sym}
use Rattle.std.proofs.lemmas.Bool.{ltb-true, ltb-false}
use Rattle.std.proofs.lemmas.List.{get_or_default}
use Rattle.function_identities.proofs.BitLemmas.{bit, no_bit}
use Rattle.function_identities.proofs.base32.bit_at.Goals as goal

pub returns-in-Some-clause-value : goal.returns-in-Some-clause-value
returns-in-Some-clause-value c =
    let found = c.in-Some.ensures.lookup in
    let within = ltb-true _ _ (sym found.0) in
    ap (λ (byte : ℕ). byte / 2 ^ (7 - c.args.place % 8) % 2) (found.1
    ∙ get_or_default c.args.bytes.now (c.args.place / 8) _ 0 within) ∙ bit c.args.bytes.now c.args.place

pub returns-in-None-clause-value : goal.returns-in-None-clause-value
returns-in-None-clause-value c =
    sym (no_bit c.args.bytes.now c.args.place (ltb-false _ _ (sym c.in-None.ensures.lookup.0)))
