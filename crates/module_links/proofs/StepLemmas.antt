-- How linking goes on from path to path.
use Rattle.std.proofs.Common.{◌≡◌, ℕ, zero, suc, ◌+◌, ◌<◌, List, [], ◌∷◌, ◌++◌, length, map, Some, Bor, refl, sym, ◌∙◌}
use Rattle.std.proofs.Common.{ap, subst, arith, take, get_or, append_assoc, add-one}
use Rattle.std.specs.Prelude.{slice_get, bytes_eq, Contains}
use Rattle.std.specs.List.{AllByRecursion, IsDistinct}
use Rattle.std.proofs.lemmas.List.{map-append}
use Rattle.module_links.specs.Paths.{file_at}
use Rattle.module_links.specs.Links.{entry_names, IsNew, AreLinked, IsNamedBy, Adds, IsUnlinked}
use Rattle.module_links.specs.Linking.{LinksTo}
use Rattle.module_links.specs.declared.entry.Entry.{Entry}
use Rattle.module_links.specs.declared.links.LinkFault.{LinkFault}
use Rattle.module_links.specs.declared.links.LinkFault.TheVariants as fault
use Rattle.module_links.proofs.LinkLemmas.{all_append, linked_grown, linked_more, distinct_more}

-- the name of an entry
pub entry_name : (es : List Entry) (k : ℕ) (e : Entry) → k < length es → e ≡ get_or es k e
    → slice_get (entry_names es) k ≡ Some e.name
entry_name [] k e h s = absurd (omega arith)
entry_name (x ∷ es) zero e h s = ap (λ y. Some y.name) (sym s)
entry_name (x ∷ es) (suc k) e h s = entry_name es k e (omega arith) s

pub entry_names-append : (xs ys : List Entry) → entry_names (xs ++ ys) ≡ entry_names xs ++ entry_names ys
entry_names-append xs ys = map-append (λ e. e.name) xs ys

pub length-entry_names : (es : List Entry) → length (entry_names es) ≡ length es
length-entry_names [] = refl
length-entry_names (e ∷ es) = ap suc (length-entry_names es)

append-none : {A : Type 0} (xs : List A) → xs ≡ xs ++ []
append-none [] = refl
append-none (x ∷ xs) = ap (λ ys. x ∷ ys) (append-none xs)

-- no file was added
pub adds_none : (file : List ℕ) (paths : List (List ℕ)) (es : List Entry) → Adds file paths es es
adds_none file paths es = record { more = []; new_is = append-none es; named = tt; once = λ h. h }

-- a file was added that was not named before
pub adds_one : (file path name : List ℕ) (old new : List Entry) → file_at file path ≡ Some name
    → IsNew (entry_names old) name → new ≡ old ++ record { name = name; by = file; path = path } ∷ []
    → Adds file (path ∷ []) old new
adds_one file path name old new found fresh e = record {
  more = record { name = name; by = file; path = path } ∷ [];
  new_is = e;
  named = (record { by_is = refl; written = (0, omega arith, refl); found = found }, tt);
  once =
      λ h. subst (λ es. IsDistinct bytes_eq (entry_names es)) (sym e)
      (subst (IsDistinct bytes_eq) (sym (entry_names-append old (record { name = name; by = file; path = path } ∷ [])))
      (distinct_more (entry_names old) name h fresh));
}

-- its number
pub number_of_added : (file path name : List ℕ) (old new : List Entry) → file_at file path ≡ Some name
    → new ≡ old ++ record { name = name; by = file; path = path } ∷ []
    → LinksTo (entry_names new) file path (length old)
number_of_added file path name old new found e =
    subst (λ es. LinksTo (entry_names es) file path (length old)) (sym e) (place old)
  where
    entry : Entry
    entry = record { name = name; by = file; path = path }

    place : (es : List Entry) → LinksTo (entry_names (es ++ entry ∷ [])) file path (length es)
    place [] = (omega arith, sym found)
    place (x ∷ es) = let h = place es in (omega (arith, h.0), h.1)

pub path_in : (ps : List (Bor (List ℕ))) (i : ℕ) (p : Bor (List ℕ)) → i < length ps → p ≡ get_or ps i p
    → Contains (map (λ (x : Bor (List ℕ)). x.now) ps) p.now
path_in [] i p h e = absurd (omega arith)
path_in (x ∷ ps) zero p h e = (0, omega arith, ap (λ y. y.now) (sym e))
path_in (x ∷ ps) (suc i) p h e = let c = path_in ps i p (omega arith) e in (suc c.0, omega (arith, c.1), c.2)

pub paths_taken : (ps : List (Bor (List ℕ))) (i : ℕ) (p : Bor (List ℕ)) → i < length ps → p ≡ get_or ps i p
    → map (λ (x : Bor (List ℕ)). x.now) (take (i + 1) ps) ≡ map (λ (x : Bor (List ℕ)). x.now) (take i ps) ++ p.now ∷ []
paths_taken [] i p h e = absurd (omega arith)
paths_taken (x ∷ ps) zero p h e = ap (λ (y : Bor (List ℕ)). y.now ∷ []) (sym e)
paths_taken (x ∷ ps) (suc i) p h e =
    rw add-one (ap (λ ys. x.now ∷ ys) (rw add-one at (paths_taken ps i p (omega arith) e)))

-- links of paths that are these, by numbers that are these
pub linked_as : (names : List (List ℕ)) (file : List ℕ) (ps qs : List (List ℕ)) (ks ls : List ℕ) → ps ≡ qs → ks ≡ ls
    → AreLinked names file qs ls → AreLinked names file ps ks
linked_as names file ps qs ks ls e f h = record {
  files = ap (map (slice_get names)) f ∙ h.files ∙ sym (ap (map (file_at file)) e);
  within = subst (AllByRecursion (λ k. k < length names)) (sym f) h.within;
}

-- one path after those that were linked
pub link_next : (file path : List ℕ) (done : List (List ℕ)) (old new : List Entry) (ks : List ℕ) (k : ℕ)
    → AreLinked (entry_names old) file done ks → Adds file (path ∷ []) old new → LinksTo (entry_names new) file path k
    → AreLinked (entry_names new) file (done ++ path ∷ []) (ks ++ k ∷ [])
link_next file path done old new ks k h adds link =
    linked_more (entry_names new) file path done ks k
    (subst (λ ns. AreLinked ns file done ks) (sym (ap entry_names adds.new_is ∙ entry_names-append old adds.more))
    (linked_grown (entry_names old) (entry_names adds.more) file done ks h))
    link.0 link.1

named_by_any : (file path : List ℕ) (all : List (List ℕ)) (es : List Entry) → Contains all path
    → AllByRecursion (IsNamedBy file (path ∷ [])) es → AllByRecursion (IsNamedBy file all) es
named_by_any file path all [] here h = tt
named_by_any file path all (e ∷ es) here h = (
  record {
    by_is = h.0.by_is;
    written = subst (Contains all) (only e.path h.0.written) here;
    found = h.0.found;
  },
  named_by_any file path all es here h.1,
)
  where
    only : (p : List ℕ) → Contains (path ∷ []) p → path ≡ p
    only p (zero, within, same) = same
    only p (suc k, within, same) = absurd (omega (arith, within))

-- further files were added
pub adds_more : (file path : List ℕ) (all : List (List ℕ)) (first old new : List Entry) → Contains all path
    → Adds file all first old → Adds file (path ∷ []) old new → Adds file all first new
adds_more file path all first old new here a b = record {
  more = a.more ++ b.more;
  new_is = b.new_is ∙ ap (λ es. es ++ b.more) a.new_is ∙ append_assoc first a.more b.more;
  named = all_append (IsNamedBy file all) a.more b.more a.named (named_by_any file path all b.more here b.named);
  once = λ h. b.once (a.once h);
}

-- a path that names no file is one of all
pub unlinked_any : (file path : List ℕ) (all : List (List ℕ)) (f : LinkFault) → Contains all path
    → IsUnlinked file (path ∷ []) f → IsUnlinked file all f
unlinked_any file path all (fault.Nowhere p) here h = (subst (Contains all) (only h.0) here, h.1)
  where
    only : Contains (path ∷ []) p → path ≡ p
    only (zero, within, same) = same
    only (suc k, within, same) = absurd (omega (arith, within))
unlinked_any file path all fault.OutOfMemory here h = tt
