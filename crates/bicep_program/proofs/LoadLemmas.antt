-- How loading goes on from file to file.
use Rattle.std.proofs.Common.{◌≡◌, ℕ, suc, zero, ◌+◌, ◌<◌, ◌≤◌, List, [], ◌∷◌, ◌++◌, length, take}
use Rattle.std.proofs.Common.{Some}
use Rattle.std.proofs.Common.{None, refl, sym, ◌∙◌, ap, subst, arith, inl, inr, length-append}
use Rattle.std.proofs.Common.{Result, Ok, Err}
use Rattle.std.specs.Prelude.{slice_get, bytes_eq, IfOk}
use Rattle.std.specs.declared.vec.Vec.{Vec}
use Rattle.std.specs.declared.alloc.Global.{Global}
use Rattle.std.specs.List.{AllByRecursion, IsDistinct}
use Rattle.std.proofs.lemmas.List.{map-append}
use Rattle.bicep_tree.specs.Tree.{FileTree}
use Rattle.module_links.specs.declared.entry.Entry.{Entry}
use Rattle.module_links.specs.Paths.{file_at}
use Rattle.module_links.specs.Links.{entry_names, AreLinked, Adds, IsNamedBy}
use Rattle.module_links.proofs.LinkLemmas.{get_grown, linked_grown, all_append}
use Rattle.bicep_program.specs.Sources.{Folder, IsReadAs, Lacks}
use Rattle.bicep_program.specs.Program.{ProgramFile, names_of, module_paths, IsReached, begun, further}
use Rattle.bicep_program.specs.Refused.{HasFault, IsWritten, IsMissing}
use Rattle.bicep_program.specs.Loading.{IsNoted, IsMissingAt, HasCome}
use Rattle.bicep_program.specs.declared.fault.LoadFault.{LoadFault}
use Rattle.bicep_program.specs.declared.fault.LoadFault.TheVariants as fault
use Rattle.module_links.proofs.StepLemmas.{entry_names-append}

-- a file that was named was reached
pub entry_reached : (folder : Folder) (main : List ℕ) (e : Entry) → IsNoted folder main e → IsReached folder main e.name
entry_reached folder main e (inl m) = begun m.found
entry_reached folder main e (inr n) = further n.written.reached (record {
  tree = n.written.tree;
  read = n.written.read;
  path = e.path;
  written = n.written.written;
  found = n.found;
})

-- it is missing where the folder lacks it
pub entry_missing : (folder : Folder) (main : List ℕ) (e : Entry) (f : LoadFault) → IsNoted folder main e
    → Lacks folder e.name → IsMissingAt e.by e.path f → HasFault folder main f
entry_missing folder main e (fault.ModuleMissing file path) (inl m) lacks h = inl (record {
  file_is = h.0 ∙ m.by_is;
  path_is = h.1 ∙ m.path_is;
  nowhere = inr (e.name, m.found, lacks);
})
entry_missing folder main e (fault.ModuleMissing file path) (inr n) lacks h =
    inr (subst (λ x. IsMissing folder main x path) (sym h.0)
    (subst (λ y. IsMissing folder main e.by y) (sym h.1) (n.written, inr (e.name, n.found, lacks))))
entry_missing folder main e fault.OutOfMemory n lacks h = tt
entry_missing folder main e (fault.ModuleCycle c) n lacks h = absurd h
entry_missing folder main e fault.TooManyFiles n lacks h = absurd h
entry_missing folder main e fault.ReadFault n lacks h = absurd h
entry_missing folder main e (fault.TooLarge x) n lacks h = absurd h
entry_missing folder main e (fault.NotText x) n lacks h = absurd h
entry_missing folder main e (fault.Lex x y) n lacks h = absurd h
entry_missing folder main e (fault.Parse x y) n lacks h = absurd h

-- the entries that a file's modules add
pub named_noted : (folder : Folder) (main name : List ℕ) (t : FileTree) (es : List Entry) → IsReached folder main name
    → IsReadAs folder name t → AllByRecursion (IsNamedBy name (module_paths t)) es
    → AllByRecursion (IsNoted folder main) es
named_noted folder main name t [] reached read h = tt
named_noted folder main name t (e ∷ es) reached read h = (
  inr (record {
    written = subst (λ x. IsWritten folder main x e.path) (sym h.0.by_is) (record {
      reached = reached;
      tree = t;
      read = read;
      written = h.0.written;
    });
    found = ap (λ x. file_at x e.path) h.0.by_is ∙ h.0.found;
  }),
  named_noted folder main name t es reached read h.1,
)

-- an element after the first ones
pub take_one_more : {A : Type 0} (xs : List A) (k : ℕ) (x : A) → slice_get xs k ≡ Some x
    → take k xs ++ x ∷ [] ≡ take (suc k) xs
take_one_more [] k x h = cc
take_one_more (y ∷ xs) zero x h = let e : y ≡ x = cc in rw e refl
take_one_more (y ∷ xs) (suc k) x h = ap (λ zs. y ∷ zs) (take_one_more xs k x h)

pub take_grown : {A : Type 0} (xs ys : List A) (k : ℕ) → k ≤ length xs → take k (xs ++ ys) ≡ take k xs
take_grown xs ys zero h = refl
take_grown [] ys (suc k) h = absurd (omega arith)
take_grown (x ∷ xs) ys (suc k) h = ap (λ zs. x ∷ zs) (take_grown xs ys k (omega arith))

pub map_each : {A : Type 0} (P Q : A → Type 0) (xs : List A) → ((x : A) → P x → Q x) → AllByRecursion P xs
    → AllByRecursion Q xs
map_each P Q [] f h = tt
map_each P Q (x ∷ xs) f h = (f x h.0, map_each P Q xs f h.1)

pub at_place : {A : Type 0} (P : A → Type 0) (xs : List A) (k : ℕ) (x : A) → slice_get xs k ≡ Some x
    → AllByRecursion P xs → P x
at_place P [] k x e h = absurd (cc)
at_place P (y ∷ xs) zero x e h = let s : y ≡ x = cc in subst P s h.0
at_place P (y ∷ xs) (suc k) x e h = at_place P xs k x e h.1

pub names_of-append : (xs ys : List ProgramFile) → names_of (xs ++ ys) ≡ names_of xs ++ names_of ys
names_of-append xs ys = map-append (λ f. f.name) xs ys

pub length-entry_names : (xs : List Entry) → length (entry_names xs) ≡ length xs
length-entry_names [] = refl
length-entry_names (x ∷ xs) = ap suc (length-entry_names xs)

-- one file more was read and linked
pub come_next : (folder : Folder) (main : List ℕ) (old new : List Entry) (files : List ProgramFile) (name : List ℕ)
    (t : FileTree) (ks : List ℕ) → HasCome folder main old files → length files < length old
    → slice_get (entry_names old) (length files) ≡ Some name → IsReadAs folder name t
    → Adds name (module_paths t) old new → AreLinked (entry_names new) name (module_paths t) ks
    → HasCome folder main new (files ++ record { name = name; tree = t; modules = ks } ∷ [])
come_next folder main old new files name t ks come more here read adds links =
    subst (λ es. HasCome folder main es (files ++ file ∷ [])) (sym adds.new_is) (record {
      some = rw length-append (omega (arith, come.some));
      noted = all_append (IsNoted folder main) old adds.more come.noted
          (named_noted folder main name t adds.more reached read adds.named);
      once = subst (λ es. IsDistinct bytes_eq (entry_names es)) adds.new_is (adds.once come.once);
      first = rw (entry_names-append old adds.more)
          (get_grown (entry_names old) (entry_names adds.more) 0 (rw length-entry_names (omega arith)) ∙ come.first);
      passed = names_of-append files (file ∷ [])
          ∙ ap (λ ns. ns ++ name ∷ []) come.passed
          ∙ take_one_more (entry_names old) (length files) name here
          ∙ sym (take_grown (entry_names old) (entry_names adds.more) (suc (length files))
          (rw length-entry_names (omega arith)))
          ∙ ap (λ ns. take (suc (length files)) ns) (sym (entry_names-append old adds.more))
          ∙ ap (λ k. take k (entry_names (old ++ adds.more))) (sym size);
      read = all_append (λ f. IsReadAs folder f.name f.tree) files (file ∷ []) come.read (read, tt);
      linked = all_append (λ f. AreLinked (entry_names (old ++ adds.more)) f.name (module_paths f.tree) f.modules)
          files (file ∷ [])
          (map_each (λ f. AreLinked (entry_names old) f.name (module_paths f.tree) f.modules)
          (λ f. AreLinked (entry_names (old ++ adds.more)) f.name (module_paths f.tree) f.modules) files
          (λ f h. rw (entry_names-append old adds.more)
          (linked_grown (entry_names old) (entry_names adds.more) f.name (module_paths f.tree) f.modules h))
          come.linked)
          (subst (λ es. AreLinked (entry_names es) name (module_paths t) ks) adds.new_is links, tt);
    })
  where
    file : ProgramFile
    file = record { name = name; tree = t; modules = ks }

    size : length (files ++ file ∷ []) ≡ suc (length files)
    size = rw length-append (omega arith)

    reached : IsReached folder main name
    reached = by_entry old (length files) here come.noted
      where
        by_entry : (es : List Entry) (k : ℕ) → slice_get (entry_names es) k ≡ Some name
            → AllByRecursion (IsNoted folder main) es → IsReached folder main name
        by_entry [] k e h = absurd (cc)
        by_entry (x ∷ es) zero e h = let s : x.name ≡ name =
            cc in subst (IsReached folder main) s (entry_reached folder main x h.0)
        by_entry (x ∷ es) (suc k) e h = by_entry es k e h.1

-- the main file was named
pub begun_come : (folder : Folder) (main given name : List ℕ) (es : List Entry) → file_at [] main ≡ Some name
    → given ≡ main → es ≡ record { name = name; by = given; path = given } ∷ [] → HasCome folder main es []
unfolding IsDistinct
begun_come folder main given name es found same e = subst (λ ys. HasCome folder main ys []) (sym e) (record {
  some = omega arith;
  noted = (inl (record { by_is = same; path_is = same; found = found }), tt);
  once = (tt, tt);
  first = sym found;
  passed = refl;
  read = tt;
  linked = tt;
})

-- and it is the first entry
pub begun_ok : {E : Type 0} (r : Result (Vec Entry Global) E) (main given name : List ℕ)
    → file_at [] main ≡ Some name → given ≡ main
    → IfOk r (λ es. es.items ≡ record { name = name; by = given; path = given } ∷ [])
    → IfOk r (λ es. (folder : Folder) → HasCome folder main es.items [])
begun_ok (Ok es) main given name found same e = λ folder. begun_come folder main given name es.items found same e
begun_ok (Err x) main given name found same e = tt

-- the main file is missing
pub main_missing : (folder : Folder) (main given : List ℕ) (f : LoadFault) → file_at [] main ≡ None → given ≡ main
    → IsMissingAt given given f → HasFault folder main f
main_missing folder main given (fault.ModuleMissing file path) none same h = inl (record {
  file_is = h.0 ∙ same;
  path_is = h.1 ∙ same;
  nowhere = inl none;
})
main_missing folder main given fault.OutOfMemory none same h = tt
main_missing folder main given (fault.ModuleCycle c) none same h = absurd h
main_missing folder main given fault.TooManyFiles none same h = absurd h
main_missing folder main given fault.ReadFault none same h = absurd h
main_missing folder main given (fault.TooLarge x) none same h = absurd h
main_missing folder main given (fault.NotText x) none same h = absurd h
main_missing folder main given (fault.Lex x y) none same h = absurd h
main_missing folder main given (fault.Parse x y) none same h = absurd h
