use Rattle.std.proofs.Common.{drop}
use Rattle.tag_holders.specs.Holders.{classes_in}
use Rattle.tag_holders.proofs.HolderLemmas.{TagsLeft}
use Rattle.tag_holders.proofs.holders.note_tags.Given as goal

abbrev pub invariant-loop-tag : goal.invariant-loop-tag
invariant-loop-tag l =
    TagsLeft (classes_in l.classes) l.holders l.initial.holders l.number (drop l.tag-index l.tags) l.tags
