use Rattle.std.proofs.Common.{◌≡◌, ◌+◌, length, ap, sym, subst, ◌∙◌, arith}
use Rattle.std.proofs.lemmas.List.{length-map}
use Rattle.foundation.proofs.Lists.{length_more}
use Rattle.bicep_symbols.specs.Entries.{symbol_of}
use Rattle.bicep_meaning.specs.Files.{type_within}
use Rattle.declared_types.specs.Types.{AreTypesFrom}
use Rattle.declared_types.proofs.TypeLemmas.{types_push}
use Rattle.declared_types.proofs.resources.types_of.Goals as goal

pub loop-number-preserved : goal.loop-number-preserved
loop-number-preserved c =
    let all = c.loop-number.all.items in
    let t = c.in_ok-type_within.field-0 in
    let count = c.loop-number.invariant.1 in (
      (λ f h.
          let symbols : length c.args.entries.now ≡ length f.symbols =
          sym (ap length h.symbols ∙ length-map c.args.entries.now symbol_of) in
          let number : c.loop-number.number ≡ 0 + length all = omega (arith, count) in
          subst (AreTypesFrom f 0) (sym c.in_ok-push.ensures.items)
          (types_push f 0 all t (c.loop-number.invariant.0 f h)
          (c.in_ok-type_within.ensures f h ∙ (λ i. type_within f (symbols i) (number i))))),
      ap length c.in_ok-push.ensures.items ∙ length_more all t ∙ ap (λ n. n + 1) count,
    )
