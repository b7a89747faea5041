use Rattle.std.proofs.Common.{rules, lit<}
use Rattle.std.proofs.lemmas.Iterator.Search.{any_from_yields_List}
use Rattle.std.proofs.lemmas.Iterator.Splits.{YieldsList-from_str_split}
use Rattle.http_routes.specs.Targets.{is_api_version}
use Rattle.http_routes.proofs.query.has_api_version.Goals as goal

pub returns : goal.returns
returns c =
    any_from_yields_List is_api_version _ _ _ c.any.ensures.ran
    (YieldsList-from_str_split 38 c.args.query.now (lit< tt) c.split.ensures.text c.split.ensures.has_more
    c.split.ensures.pattern) (λ x b q k. search rules)
