-- How loading ends: with a program, a circle, or too many files.
use Rattle.std.proofs.Common.{◌≡◌, ℕ, suc, zero, ◌+◌, ◌<◌, ◌≤◌, List, [], ◌∷◌, ◌++◌, length, map, take, drop, Some}
use Rattle.std.proofs.Common.{refl}
use Rattle.std.proofs.Common.{sym, ◌∙◌, ap, subst, arith, get_or, add-one}
use Rattle.std.proofs.Common.{Bool, Option, Result, Ok, Err}
use Rattle.std.specs.Prelude.{slice_get, bytes_eq, Contains, IfOk, IfErr, OnOk}
use Rattle.std.specs.List.{AllByRecursion, IsDistinct}
use Rattle.bicep_tree.specs.Tree.{FileTree}
use Rattle.module_links.specs.declared.entry.Entry.{Entry}
use Rattle.module_links.specs.Paths.{file_at}
use Rattle.module_links.specs.Links.{entry_names, AreLinked, Adds}
use Rattle.bicep_program.specs.Circles.{IsCircle, Chain, Links}
use Rattle.module_links.proofs.LinkLemmas.{all_append}
use Rattle.bicep_program.specs.Sources.{Folder, folder_of, IsReadAs, Has}
use Rattle.bicep_program.specs.Program.{ProgramFile, names_of, links_of, module_paths, IsReached, Names, IsProgram}
use Rattle.bicep_program.specs.Program.{files_of}
use Rattle.bicep_program.specs.declared.file.Program.{Program}
use Rattle.bicep_program.specs.Refused.{HasFault, AreTooMany, IsModuleCircle}
use Rattle.bicep_program.specs.Loading.{IsNoted, HasCome}
use Rattle.bicep_program.specs.Graphs.{name_at, IsCircleOf, AreWithin}
use Rattle.bicep_program.specs.declared.fault.LoadFault.{LoadFault}
use Rattle.bicep_program.specs.declared.fault.LoadFault.TheVariants as fault
use Rattle.bicep_program.proofs.LoadLemmas.{entry_reached, named_noted, take_one_more, take_grown}
use Rattle.bicep_program.proofs.LoadLemmas.{length-entry_names, at_place}
use Rattle.module_links.proofs.StepLemmas.{entry_names-append}

all_map : {A B : Type 0} (f : A → B) (P : B → Type 0) (xs : List A) → AllByRecursion (λ x. P (f x)) xs
    → AllByRecursion P (map f xs)
all_map f P [] h = tt
all_map f P (x ∷ xs) h = (h.0, all_map f P xs h.1)

all_of_map : {A B : Type 0} (f : A → B) (P : B → Type 0) (xs : List A) → AllByRecursion P (map f xs)
    → AllByRecursion (λ x. P (f x)) xs
all_of_map f P [] h = tt
all_of_map f P (x ∷ xs) h = (h.0, all_of_map f P xs h.1)

take_length : {A : Type 0} (xs : List A) → take (length xs) xs ≡ xs
take_length [] = refl
take_length (x ∷ xs) = ap (λ ys. x ∷ ys) (take_length xs)

take_whole : {A : Type 0} (xs : List A) (n : ℕ) → n ≡ length xs → take n xs ≡ xs
take_whole xs n e = ap (λ k. take k xs) e ∙ take_length xs

-- all that was named was read
same_names : (folder : Folder) (main : List ℕ) (entries : List Entry) (files : List ProgramFile)
    → HasCome folder main entries files → length files ≡ length entries → names_of files ≡ entry_names entries
same_names folder main entries files come e =
    come.passed ∙ take_whole (entry_names entries) (length files) (e ∙ sym (length-entry_names entries))

all_reached : (folder : Folder) (main : List ℕ) (entries : List Entry) → AllByRecursion (IsNoted folder main) entries
    → AllByRecursion (IsReached folder main) (entry_names entries)
all_reached folder main [] h = tt
all_reached folder main (e ∷ entries) h = (entry_reached folder main e h.0, all_reached folder main entries h.1)

files_reached : (folder : Folder) (main : List ℕ) (entries : List Entry) (files : List ProgramFile)
    → HasCome folder main entries files → length files ≡ length entries
    → AllByRecursion (λ file. IsReached folder main file.name) files
files_reached folder main entries files come e =
    all_of_map (λ file. file.name) (IsReached folder main) files
    (subst (AllByRecursion (IsReached folder main)) (sym (same_names folder main entries files come e))
    (all_reached folder main entries come.noted))

files_linked : (folder : Folder) (main : List ℕ) (entries : List Entry) (files : List ProgramFile)
    → HasCome folder main entries files → length files ≡ length entries
    → AllByRecursion (λ file. AreLinked (names_of files) file.name (module_paths file.tree) file.modules) files
files_linked folder main entries files come e =
    subst (λ ns. AllByRecursion (λ file. AreLinked ns file.name (module_paths file.tree) file.modules) files)
    (sym (same_names folder main entries files come e)) come.linked

-- a program
pub program_from : (folder : Folder) (main : List ℕ) (entries : List Entry) (files : List ProgramFile)
    → HasCome folder main entries files → length files ≡ length entries → length files ≤ 65
    → ((circle : List ℕ) → IsCircle (Links (links_of files)) circle → ⊥) → IsProgram folder main files
program_from folder main entries files come e few free = record {
  first = ap (λ ns. slice_get ns 0) (same_names folder main entries files come e) ∙ come.first;
  some = omega (arith, e, come.some);
  few = few;
  once = subst (IsDistinct bytes_eq) (sym (same_names folder main entries files come e)) come.once;
  reached = files_reached folder main entries files come e;
  read = come.read;
  linked = files_linked folder main entries files come e;
  circle_free = free;
}

get_some : (ns : List (List ℕ)) (k : ℕ) → k < length ns → slice_get ns k ≡ Some (get_or ns k [])
get_some [] k h = absurd (omega arith)
get_some (n ∷ ns) zero h = refl
get_some (n ∷ ns) (suc k) h = get_some ns k (omega arith)

-- a path of a module whose number is this
record LinkPath (ns : List (List ℕ)) (file : List ℕ) (paths : List (List ℕ)) (j : ℕ) : Type 0 where
  path : List ℕ
  written : Contains paths path
  found : file_at file path ≡ Some (get_or ns j [])

link_path : (ns : List (List ℕ)) (file : List ℕ) (paths : List (List ℕ)) (ks : List ℕ) (j : ℕ)
    → map (slice_get ns) ks ≡ map (file_at file) paths → AllByRecursion (λ k. k < length ns) ks → Contains ks j
    → LinkPath ns file paths j
link_path ns file paths [] j e h (i, within, here) = absurd (omega (arith, within))
link_path ns file [] (k ∷ ks) j e h c = absurd (cc)
link_path ns file (p ∷ paths) (k ∷ ks) j e h (zero, within, here) =
    let s : file_at file p ≡ slice_get ns k = cc in
    let t : k ≡ j = here in record {
      path = p;
      written = (0, omega arith, refl);
      found = s ∙ get_some ns k h.0 ∙ ap (λ x. Some (get_or ns x [])) t;
    }
link_path ns file (p ∷ paths) (k ∷ ks) j e h (suc i, within, here) =
    let s : map (slice_get ns) ks ≡ map (file_at file) paths = cc in
    let r = link_path ns file paths ks j s h.1 (i, omega arith, here) in record {
      path = r.path;
      written = (suc r.written.0, omega (arith, r.written.1), r.written.2);
      found = r.found;
    }

-- a link is a module that names a file
link_names : (folder : Folder) (ns : List (List ℕ)) (files : List ProgramFile)
    → AllByRecursion (λ file. IsReadAs folder file.name file.tree) files
    → AllByRecursion (λ file. AreLinked ns file.name (module_paths file.tree) file.modules) files → (k j : ℕ)
    → Links (links_of files) k j → Names folder (get_or (names_of files) k []) (get_or ns j [])
link_names folder ns [] r l k j (i, within, here) = absurd (omega (arith, within))
link_names folder ns (f ∷ files) r l zero j c =
    let p = link_path ns f.name (module_paths f.tree) f.modules j l.0.files l.0.within c in record {
      tree = f.tree;
      read = r.0;
      path = p.path;
      written = p.written;
      found = p.found;
    }
link_names folder ns (f ∷ files) r l (suc k) j c = link_names folder ns files r.1 l.1 k j c

chain_names : (folder : Folder) (files : List ProgramFile)
    → AllByRecursion (λ file. IsReadAs folder file.name file.tree) files
    → AllByRecursion (λ file. AreLinked (names_of files) file.name (module_paths file.tree) file.modules) files
    → (ks : List ℕ) (end : ℕ) → Chain (Links (links_of files)) ks end
    → Chain (Names folder) (map (name_at files) ks) (name_at files end)
chain_names folder files r l [] end h = h
chain_names folder files r l (k ∷ []) end h = link_names folder (names_of files) files r l k end h
chain_names folder files r l (k ∷ j ∷ ks) end h =
    (link_names folder (names_of files) files r l k j h.0, chain_names folder files r l (j ∷ ks) end h.1)

circle_names : (folder : Folder) (files : List ProgramFile)
    → AllByRecursion (λ file. IsReadAs folder file.name file.tree) files
    → AllByRecursion (λ file. AreLinked (names_of files) file.name (module_paths file.tree) file.modules) files
    → (ks : List ℕ) → IsCircle (Links (links_of files)) ks → IsCircle (Names folder) (map (name_at files) ks)
circle_names folder files r l [] h = h
circle_names folder files r l (k ∷ ks) h = chain_names folder files r l (k ∷ ks) k h

place_reached : (folder : Folder) (main : List ℕ) (files : List ProgramFile)
    → AllByRecursion (λ file. IsReached folder main file.name) files → (k : ℕ) → k < length files
    → IsReached folder main (name_at files k)
place_reached folder main [] h k w = absurd (omega arith)
place_reached folder main (f ∷ files) h zero w = h.0
place_reached folder main (f ∷ files) h (suc k) w = place_reached folder main files h.1 k (omega arith)

places_reached : (folder : Folder) (main : List ℕ) (files : List ProgramFile)
    → AllByRecursion (λ file. IsReached folder main file.name) files → (ks : List ℕ)
    → AllByRecursion (λ k. k < length files) ks → AllByRecursion (IsReached folder main) (map (name_at files) ks)
places_reached folder main files h [] w = tt
places_reached folder main files h (k ∷ ks) w =
    (place_reached folder main files h k w.0, places_reached folder main files h ks w.1)

-- a circle
pub circle_from : (folder : Folder) (main : List ℕ) (entries : List Entry) (files : List ProgramFile) (f : LoadFault)
    → HasCome folder main entries files → length files ≡ length entries → IsCircleOf files f → HasFault folder main f
circle_from folder main entries files (fault.ModuleCycle names) come e h =
    subst (IsModuleCircle folder main) (sym h.names_are) (record {
      reached = places_reached folder main files (files_reached folder main entries files come e) h.numbers h.within;
      closed = circle_names folder files come.read (files_linked folder main entries files come e) h.numbers h.circle;
    })
circle_from folder main entries files fault.OutOfMemory come e h = tt
circle_from folder main entries files (fault.ModuleMissing x y) come e h = absurd h
circle_from folder main entries files fault.TooManyFiles come e h = absurd h
circle_from folder main entries files fault.ReadFault come e h = absurd h
circle_from folder main entries files (fault.TooLarge x) come e h = absurd h
circle_from folder main entries files (fault.NotText x) come e h = absurd h
circle_from folder main entries files (fault.Lex x y) come e h = absurd h
circle_from folder main entries files (fault.Parse x y) come e h = absurd h

-- the numbers of modules are those of files
pub numbers_within : (ns : List (List ℕ)) (files : List ProgramFile)
    → AllByRecursion (λ file. AreLinked ns file.name (module_paths file.tree) file.modules) files
    → AreWithin (length ns) (links_of files)
numbers_within ns [] h = tt
numbers_within ns (f ∷ files) h = (h.0.within, numbers_within ns files h.1)

has_read : (folder : Folder) (files : List ProgramFile)
    → AllByRecursion (λ file. IsReadAs folder file.name file.tree) files
    → AllByRecursion (Has folder) (names_of files)
has_read folder [] h = tt
has_read folder (f ∷ files) h = ((λ t. (h.0.bytes, h.0.held t)), has_read folder files h.1)

split_at : {A : Type 0} (P : A → Type 0) (n : ℕ) (xs : List A) → AllByRecursion P (take n xs)
    → AllByRecursion P (drop n xs) → AllByRecursion P xs
split_at P zero xs h k = k
split_at P (suc n) [] h k = tt
split_at P (suc n) (x ∷ xs) h k = (h.0, split_at P n xs h.1 k)

map-drop : {A B : Type 0} (f : A → B) (n : ℕ) (xs : List A) → map f (drop n xs) ≡ drop n (map f xs)
map-drop f zero xs = refl
map-drop f (suc n) [] = refl
map-drop f (suc n) (x ∷ xs) = map-drop f n xs

all_drop : {A : Type 0} (P : A → Type 0) (n : ℕ) (xs : List A) → AllByRecursion P xs → AllByRecursion P (drop n xs)
all_drop P zero xs h = h
all_drop P (suc n) [] h = tt
all_drop P (suc n) (x ∷ xs) h = all_drop P n xs h.1

-- the file at a place among the entries was reached
pub reached_at : (folder : Folder) (main : List ℕ) (entries : List Entry) (k : ℕ) (name : List ℕ)
    → AllByRecursion (IsNoted folder main) entries → slice_get (entry_names entries) k ≡ Some name
    → IsReached folder main name
reached_at folder main entries k name noted here =
    at_place (IsReached folder main) (entry_names entries) k name here (all_reached folder main entries noted)

-- what a step went on from: files that were read, the next of the entries, its file, and what was added
pub record Step (folder : Folder) (main : List ℕ) (old new : List Entry) (files : List ProgramFile) (name : List ℕ)
    (t : FileTree) : Type 0 where
  pub come : HasCome folder main old files
  pub here : slice_get (entry_names old) (length files) ≡ Some name
  pub read : IsReadAs folder name t
  pub adds : Adds name (module_paths t) old new

pub step_reached : (folder : Folder) (main : List ℕ) (old new : List Entry) (files : List ProgramFile) (name : List ℕ)
    (t : FileTree) → Step folder main old new files name t → IsReached folder main name
step_reached folder main old new files name t s =
    reached_at folder main old (length files) name s.come.noted s.here

step_noted : (folder : Folder) (main : List ℕ) (old new : List Entry) (files : List ProgramFile) (name : List ℕ)
    (t : FileTree) → Step folder main old new files name t → AllByRecursion (IsNoted folder main) new
step_noted folder main old new files name t s =
    subst (AllByRecursion (IsNoted folder main)) (sym s.adds.new_is)
    (all_append (IsNoted folder main) old s.adds.more s.come.noted
    (named_noted folder main name t s.adds.more (step_reached folder main old new files name t s) s.read s.adds.named))

-- the entries after this file say where they were named
pub last_noted : (folder : Folder) (main : List ℕ) (old new last : List Entry) (files : List ProgramFile)
    (name : List ℕ) (t : FileTree) → Step folder main old new files name t → last ≡ drop (length files + 1) new
    → AllByRecursion (IsNoted folder main) last
last_noted folder main old new last files name t s e =
    subst (AllByRecursion (IsNoted folder main)) (sym e)
    (all_drop (IsNoted folder main) (length files + 1) new (step_noted folder main old new files name t s))

-- too many files
pub too_many_from : (folder : Folder) (main : List ℕ) (old new last : List Entry) (files : List ProgramFile)
    (name : List ℕ) (t : FileTree) → Step folder main old new files name t → length files < length old
    → length new ≡ 66 → last ≡ drop (length files + 1) new → AllByRecursion (Has folder) (entry_names last)
    → AreTooMany folder main
too_many_from folder main old new last files name t s more size e there = record {
  names = entry_names new;
  count = length-entry_names new ∙ size;
  once = s.adds.once s.come.once;
  reached = all_reached folder main new (step_noted folder main old new files name t s);
  there = split_at (Has folder) (length files + 1) (entry_names new)
      (subst (AllByRecursion (Has folder)) firsts
      (all_append (Has folder) (names_of files) (name ∷ []) (has_read folder files s.come.read)
      ((λ tells. (s.read.bytes, s.read.held tells)), tt)))
      (subst (AllByRecursion (Has folder)) (map-drop (λ x. x.name) (length files + 1) new)
      (subst (λ es. AllByRecursion (Has folder) (entry_names es)) e there));
}
  where
    names_are : entry_names new ≡ entry_names old ++ entry_names s.adds.more
    names_are = ap entry_names s.adds.new_is ∙ entry_names-append old s.adds.more

    firsts : names_of files ++ name ∷ [] ≡ take (length files + 1) (entry_names new)
    firsts = ap (λ ns. ns ++ name ∷ []) s.come.passed
        ∙ take_one_more (entry_names old) (length files) name s.here
        ∙ sym (take_grown (entry_names old) (entry_names s.adds.more) (suc (length files))
        (rw length-entry_names (omega arith)))
        ∙ ap (λ ns. take (suc (length files)) ns) (sym names_are)
        ∙ ap (λ k. take k (entry_names new)) (sym (add-one (length files)))

pub all_within : (folder : Folder) (main : List ℕ) (entries : List Entry) (files : List ProgramFile)
    → HasCome folder main entries files → length files ≡ length entries → AreWithin (length files) (links_of files)
all_within folder main entries files come e =
    subst (λ n. AreWithin n (links_of files)) (length-entry_names entries ∙ sym e)
    (numbers_within (entry_names entries) files come.linked)

-- what is told after the tree was read is told of the tree before
pub too_many_step : (tells : Bool) (before now : List ℕ → Option (List ℕ)) (main : List ℕ) (last : List Entry)
    (f : LoadFault) → now ≡ before
    → (AllByRecursion (IsNoted (folder_of tells now) main) last
    → (AllByRecursion (Has (folder_of tells now)) (entry_names last)
    → HasFault (folder_of tells now) main fault.TooManyFiles)
    → HasFault (folder_of tells now) main f)
    → AllByRecursion (IsNoted (folder_of tells before) main) last
    → (AllByRecursion (Has (folder_of tells before)) (entry_names last)
    → HasFault (folder_of tells before) main fault.TooManyFiles)
    → HasFault (folder_of tells before) main f
too_many_step tells before now main last f e h =
    subst (λ file. AllByRecursion (IsNoted (folder_of tells file) main) last
    → (AllByRecursion (Has (folder_of tells file)) (entry_names last)
    → HasFault (folder_of tells file) main fault.TooManyFiles)
    → HasFault (folder_of tells file) main f) e h

pub here_as : (old es : List Entry) (k n : ℕ) (name : List ℕ) → es ≡ old → k ≡ n
    → slice_get (entry_names es) k ≡ Some name → slice_get (entry_names old) n ≡ Some name
here_as old es k n name e f h = (λ i. slice_get (entry_names (sym e i)) (sym f i)) ∙ h

pub drop_as : (n k : ℕ) (xs ys : List Entry) → n ≡ k → xs ≡ ys → drop (n + 1) xs ≡ drop (k + 1) ys
drop_as n k xs ys e f = λ i. drop (e i + 1) (f i)

-- a program, or a circle
pub program_ok : {E : Type 0} (r : Result Program E) (folder : Folder) (main : List ℕ) (entries : List Entry)
    (files : List ProgramFile) → HasCome folder main entries files → length files ≡ length entries → length files ≤ 65
    → IfOk r (λ p. files_of p ≡ files) → OnOk r ((circle : List ℕ) → IsCircle (Links (links_of files)) circle → ⊥)
    → IfOk r (λ p. IsProgram folder main (files_of p))
program_ok (Ok p) folder main entries files come e few h free =
    subst (IsProgram folder main) (sym h) (program_from folder main entries files come e few free)
program_ok (Err x) folder main entries files come e few h free = tt

pub circle_err : {A : Type 0} (r : Result A LoadFault) (folder : Folder) (main : List ℕ) (entries : List Entry)
    (files : List ProgramFile) → HasCome folder main entries files → length files ≡ length entries
    → IfErr r (IsCircleOf files) → IfErr r (HasFault folder main)
circle_err (Ok x) folder main entries files come e h = tt
circle_err (Err f) folder main entries files come e h = circle_from folder main entries files f come e h
