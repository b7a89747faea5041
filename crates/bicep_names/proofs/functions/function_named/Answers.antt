use Rattle.bicep_names.proofs.FunctionLemmas.{reserved_none, row_named}
use Rattle.bicep_names.proofs.functions.function_named.Goals as goal

pub returns-then-is_reserved : goal.returns-then-is_reserved
returns-then-is_reserved c = reserved_none c.args.name.now _ c.as_str.ensures.characters c.if-is_reserved.ensures

pub returns : goal.returns
returns c =
    row_named c.args.name.now _ _ _ c.as_str.ensures.characters c.as_str-2.ensures.characters c.if-is_reserved.ensures
    c.of.ensures.row c.of.ensures.named
