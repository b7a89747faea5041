use Rattle.std.proofs.Common.{ℕ, List, length, ap, arith, subst}
use Rattle.std.proofs.lemmas.List.{length-take}
use Rattle.http_heads.specs.Fronts.{IsFront}
use Rattle.deploy_http.proofs.front.look_now.Goals as goal

pub read_head-requires : goal.read_head-requires
read_head-requires c = omega (arith, length-take 16384 c.args.bytes.now, ap length c.window-start.ensures)

pub look_at-requires-clause-front : goal.look_at-requires-clause-front
look_at-requires-clause-front c =
    let P : List ℕ → Type 0 = λ s. IsFront s c.in-Ok.front in
    subst P c.window-start.ensures c.in-Ok.ensures
