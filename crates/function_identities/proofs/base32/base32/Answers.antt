use Rattle.std.proofs.Common.{◌<◌, ◌≤◌, ◌∙◌, length, ap, arith}
use Rattle.function_identities.specs.Base32.{bits_of, symbol_of}
use Rattle.function_identities.proofs.BitLemmas.{length-bits, symbols_more, symbols_end}
use Rattle.function_identities.proofs.base32.base32.Goals as goal

pub loop-place-preserved : goal.loop-place-preserved
loop-place-preserved c =
    let bits = bits_of c.args.bytes.now in
    let within : c.loop-place.place < length bits =
    omega (arith, length-bits c.args.bytes.now, c.loop-place-test.true) in
    symbols_more c.loop-place.symbols.items c.push.new.self.items bits _ c.loop-place.place c.symbol_of.result within
    (c.symbol_of.ensures ∙ ap symbol_of c.group_at.ensures.value) c.in_ok-push.ensures.items
    c.loop-place.invariant

pub returns : goal.returns
returns c =
    let bits = bits_of c.args.bytes.now in
    let past : length bits ≤ c.loop-place.place =
    omega (arith, length-bits c.args.bytes.now, c.loop-place-test.false) in
    symbols_end c.loop-place.symbols.items bits _ c.loop-place.place past c.loop-place.invariant
