use Rattle.std.proofs.Common.{◌≡◌, ℕ, length, subst, arith}
use Rattle.httparse.specs.Spans.{RequestExceeds}
use Rattle.http_heads.proofs.FrontLemmas.{few_fields}
use Rattle.http_heads.proofs.parse.read_long_head.Goals as goal

pub unreachable-requires : goal.unreachable-requires
unreachable-requires c =
    let P : ℕ → Type 0 = λ n. RequestExceeds n c.args.bytes.now in
    let room : length c.deref_mut.result.now ≡ 5462 =
    omega (arith, c.deref_mut.ensures.len, c.in_ok-many.ensures.len) in
    few_fields c.args.bytes.now c.requires (subst P room c.in-None.ensures.full)
