use Rattle.std.proofs.Common.{◌≡◌, ◌+◌, ◌∙◌, sym, subst, length, map, drop}
use Rattle.std.specs.List.{AllByRecursion}
use Rattle.std.proofs.lemmas.List.{length-map}
use Rattle.bicep_tree.specs.View.{file_of}
use Rattle.module_links.specs.Links.{entry_names, Adds, AreLinked}
use Rattle.bicep_program.specs.Sources.{folder_of, IsReadAs}
use Rattle.bicep_program.specs.Program.{module_paths, program_file}
use Rattle.bicep_program.specs.Refused.{TreeCounts}
use Rattle.bicep_program.specs.Loading.{IsNoted, HasCome}
use Rattle.bicep_program.proofs.FileLemmas.{on_ok, none_of}
use Rattle.bicep_program.proofs.LoadLemmas.{come_next}
use Rattle.bicep_program.proofs.EndLemmas.{Step, here_as, drop_as, reached_at, last_noted, too_many_from, too_many_step}
use Rattle.bicep_program.proofs.loading.load_next.Goals as goal

pub returns-in-Err-clause-fault : goal.returns-in-Err-clause-fault
returns-in-Err-clause-fault g c = λ main come.
    c.in-Err.ensures.fault main
    (subst (AllByRecursion (IsNoted (folder_of g.T.Tree.tells_files (g.T.Tree.file c.args.tree.now)) main))
    (sym c.as_slice.ensures.value) come.noted)

pub returns-in-Ok-Some-clause-come : goal.returns-in-Ok-Some-clause-come
returns-in-Ok-Some-clause-come g c =
    on_ok c.push_file.result (λ e main come.
    subst (HasCome (folder_of g.T.Tree.tells_files (g.T.Tree.file c.args.tree.now)) main
    c.link_file.new.entries.items) (sym e)
    (come_next (folder_of g.T.Tree.tells_files (g.T.Tree.file c.args.tree.now)) main
    c.args.entries.now.items c.link_file.new.entries.items (map program_file c.args.files.now.items) c.in-Ok.read.0
    (file_of c.in-Ok.read.1.items) c.in-Ok-Some.modules.items come (rw length-map c.requires.next)
    (here_as c.args.entries.now.items c.as_slice.result.now c.len-number.result
    (length (map program_file c.args.files.now.items)) c.in-Ok.read.0 c.as_slice.ensures.value
    (c.len-number.ensures ∙ c.args.files.now.ok.0 ∙ sym (length-map c.args.files.now.items program_file))
    c.in-Ok.ensures.named)
    c.in-Ok.ensures.read
    (subst (λ xs. Adds c.in-Ok.read.0 (module_paths (file_of xs)) c.args.entries.now.items
    c.link_file.new.entries.items) c.as_slice-2.ensures.value c.in-Ok-Some.ensures.adds)
    (subst (λ xs. AreLinked (entry_names c.link_file.new.entries.items) c.in-Ok.read.0 (module_paths (file_of xs))
    c.in-Ok-Some.modules.items) c.as_slice-2.ensures.value
    (rw c.in-Ok-Some.field-0-is at c.in-Ok-Some.ensures.linked)))) c.push_file.ensures.added

pub returns-in-Ok-None-clause-fault : goal.returns-in-Ok-None-clause-fault
returns-in-Ok-None-clause-fault g c = rw c.refuse.ensures (λ main come.
    let n : c.len-number.result ≡ length (map program_file c.args.files.now.items) =
    c.len-number.ensures ∙ c.args.files.now.ok.0 ∙ sym (length-map c.args.files.now.items program_file) in
    let after = drop_as c.len-number.result (length (map program_file c.args.files.now.items)) c.deref.result.now
    c.link_file.new.entries.items n c.deref.ensures.value in
    let step : Step (folder_of g.T.Tree.tells_files (g.T.Tree.file c.args.tree.now)) main
    c.args.entries.now.items c.link_file.new.entries.items (map program_file c.args.files.now.items) c.in-Ok.read.0
    (file_of c.in-Ok.read.1.items) = record {
      come = come;
      here = (here_as c.args.entries.now.items c.as_slice.result.now c.len-number.result
          (length (map program_file c.args.files.now.items)) c.in-Ok.read.0 c.as_slice.ensures.value
          (c.len-number.ensures ∙ c.args.files.now.ok.0 ∙ sym (length-map c.args.files.now.items program_file))
          c.in-Ok.ensures.named);
      read = c.in-Ok.ensures.read;
      adds = (subst (λ xs. Adds c.in-Ok.read.0 (module_paths (file_of xs)) c.args.entries.now.items
          c.link_file.new.entries.items) c.as_slice-2.ensures.value c.in-Ok-None.ensures.adds);
    } in
    too_many_step g.T.Tree.tells_files (g.T.Tree.file c.args.tree.now) (g.T.Tree.file c.read_next.new.tree) main
    (drop (c.len-number.result + 1) c.deref.result.now) c.too_many_after.result c.in-Ok.ensures.stays
    (c.too_many_after.ensures.fault main)
    (last_noted (folder_of g.T.Tree.tells_files (g.T.Tree.file c.args.tree.now)) main
    c.args.entries.now.items c.link_file.new.entries.items (drop (c.len-number.result + 1) c.deref.result.now)
    (map program_file c.args.files.now.items) c.in-Ok.read.0 (file_of c.in-Ok.read.1.items) step after)
    (λ there. too_many_from (folder_of g.T.Tree.tells_files (g.T.Tree.file c.args.tree.now)) main
    c.args.entries.now.items c.link_file.new.entries.items (drop (c.len-number.result + 1) c.deref.result.now)
    (map program_file c.args.files.now.items) c.in-Ok.read.0 (file_of c.in-Ok.read.1.items) step
    (rw length-map c.requires.next)
    (none_of (length c.link_file.new.entries.items ≡ 66) c.in-Ok-None.field-0 c.in-Ok-None.field-0-is
    c.in-Ok-None.ensures.full) after there))

pub returns-in-Err-link_file-clause-fault : goal.returns-in-Err-link_file-clause-fault
returns-in-Err-link_file-clause-fault g c = rw c.refuse-in-Err-link_file.ensures (λ main come.
    c.in-Err-link_file.ensures.fault (folder_of g.T.Tree.tells_files (g.T.Tree.file c.args.tree.now)) main
    (reached_at (folder_of g.T.Tree.tells_files (g.T.Tree.file c.args.tree.now)) main
    c.args.entries.now.items (length (map program_file c.args.files.now.items)) c.in-Ok.read.0 come.noted
    (here_as c.args.entries.now.items c.as_slice.result.now c.len-number.result
    (length (map program_file c.args.files.now.items)) c.in-Ok.read.0 c.as_slice.ensures.value
    (c.len-number.ensures ∙ c.args.files.now.ok.0 ∙ sym (length-map c.args.files.now.items program_file))
    c.in-Ok.ensures.named))
    (subst (λ xs. IsReadAs (folder_of g.T.Tree.tells_files (g.T.Tree.file c.args.tree.now)) c.in-Ok.read.0
    (file_of xs)) (sym c.as_slice-2.ensures.value) c.in-Ok.ensures.read))

pub returns-in-Err-link_file-clause-count : goal.returns-in-Err-link_file-clause-count
returns-in-Err-link_file-clause-count g c = rw c.refuse-in-Err-link_file.ensures
    (subst (λ n. TreeCounts (g.T.Tree.faults c.args.tree.now) n c.in-Err-link_file.fault)
    (sym c.in-Ok.ensures.uncounted) (c.in-Err-link_file.ensures.count (g.T.Tree.faults c.args.tree.now)))
