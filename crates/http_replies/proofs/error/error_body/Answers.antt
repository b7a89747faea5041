use Rattle.std.proofs.Common.{chars}
use Rattle.http_replies.proofs.ErrorLemmas.{told_are, told_nest, error_is}
use Rattle.http_replies.proofs.error.error_body.Goals as goal

pub with_value-requires : goal.with_value-requires
with_value-requires c =
    told_nest (chars c.args.code.now) (chars c.args.message.now) c.in_ok-told.told
    (told_are (chars c.args.code.now) (chars c.args.message.now) _ _ _ c.new.ensures c.in_ok-coded.ensures
    c.in_ok-told.ensures)

pub returns : goal.returns
returns c =
    error_is (chars c.args.code.now) (chars c.args.message.now) _ _ _ c.new-2.ensures
    (told_are (chars c.args.code.now) (chars c.args.message.now) _ _ _ c.new.ensures c.in_ok-coded.ensures
    c.in_ok-told.ensures) c.in_ok-members.ensures
