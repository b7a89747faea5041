-- The files of a program by their numbers.
use Rattle.std.proofs.Common.{◌≡◌, ℕ, zero, suc, ◌+◌, ◌<◌, List, [], ◌∷◌, ◌++◌, length, map, take, get_or, refl, sym}
use Rattle.std.proofs.Common.{◌∙◌}
use Rattle.std.proofs.Common.{ap, subst, arith, add-one, Option, Some, None, Result, Ok, Err}
use Rattle.std.specs.Prelude.{IfOk, IfSome, IfNone, OnOk}
use Rattle.std.specs.declared.vec.Vec.{Vec}
use Rattle.std.specs.declared.alloc.Global.{Global}
use Rattle.std.specs.List.{AllByRecursion}
use Rattle.bicep_program.specs.declared.file.SourceFile.{SourceFile}
use Rattle.bicep_program.specs.Program.{program_file, links_of}
use Rattle.bicep_program.specs.Circles.{IsCircle, Links}
use Rattle.bicep_program.specs.Graphs.{AreWithin, name_at, with_links, unlinked}
use Rattle.bicep_program.proofs.GraphLemmas.{graph_of_lists, circle_to, circle_from, circle_within}
use Rattle.depend_graph.specs.Shape.{Shape}
use Rattle.depend_graph.specs.Shape as graph

-- the modules of a file
pub within_at : (n : ℕ) (fs : List SourceFile) (i : ℕ) (f : SourceFile) → i < length fs → f ≡ get_or fs i f
    → AreWithin n (links_of (map program_file fs)) → AllByRecursion (λ k. k < n) f.modules.items
within_at n [] i f h e w = absurd (omega arith)
within_at n (x ∷ fs) zero f h e w = subst (λ y. AllByRecursion (λ k. k < n) y.modules.items) (sym e) w.0
within_at n (x ∷ fs) (suc i) f h e w = within_at n fs i f (omega arith) e w.1

-- the name of a file
pub name_of_file : (fs : List SourceFile) (k : ℕ) (f : SourceFile) → k < length fs → f ≡ get_or fs k f
    → name_at (map program_file fs) k ≡ f.name
name_of_file [] k f h e = absurd (omega arith)
name_of_file (x ∷ fs) zero f h e = ap (λ y. y.name) (sym e)
name_of_file (x ∷ fs) (suc k) f h e = name_of_file fs k f (omega arith) e

pub map_one_more : {B : Type 0} (f : ℕ → B) (ns : List ℕ) (i : ℕ) → i < length ns
    → map f (take (i + 1) ns) ≡ map f (take i ns) ++ f (get_or ns i 0) ∷ []
map_one_more f [] i h = absurd (omega arith)
map_one_more f (n ∷ ns) zero h = refl
map_one_more f (n ∷ ns) (suc i) h =
    rw add-one (ap (λ ys. f n ∷ ys) (rw add-one at (map_one_more f ns i (omega arith))))

-- an element of a list of numbers, all of which are within a bound
pub bound_at : (n : ℕ) (ks : List ℕ) (i : ℕ) → i < length ks → AllByRecursion (λ k. k < n) ks → get_or ks i 0 < n
bound_at n [] i h w = absurd (omega arith)
bound_at n (k ∷ ks) zero h w = w.0
bound_at n (k ∷ ks) (suc i) h w = bound_at n ks i (omega arith) w.1

pub length-links : (fs : List SourceFile) → length (links_of (map program_file fs)) ≡ length fs
length-links [] = refl
length-links (x ∷ fs) = ap suc (length-links fs)

-- the graph is that of the files
pub graph_is : (fs : List SourceFile) (g : Shape)
    → g ≡ with_links (unlinked (length fs)) 0 (links_of (map program_file fs))
    → g ≡ graph_of_lists (links_of (map program_file fs))
unfolding graph_of_lists
graph_is fs g h =
    h ∙ ap (λ n. with_links (unlinked n) 0 (links_of (map program_file fs))) (sym (length-links fs))

-- a circle of the graph, or none
pub circle_found : {E : Type 0} (r : Result (Option (Vec ℕ Global)) E) (g : Shape) (lists : List (List ℕ))
    → g ≡ graph_of_lists lists → IfOk r (λ o. IfSome o (λ c. graph.IsCircle g c.items))
    → IfOk r (λ o. IfSome o (λ c. IsCircle (Links lists) c.items))
circle_found (Ok (Some c)) g lists e h =
    circle_from lists c.items (subst (λ s. graph.IsCircle s c.items) e h)
circle_found (Ok None) g lists e h = h
circle_found (Err x) g lists e h = h

pub circle_none : {E : Type 0} (r : Result (Option (Vec ℕ Global)) E) (g : Shape) (lists : List (List ℕ))
    → g ≡ graph_of_lists lists → IfOk r (λ o. IfNone o ((xs : List ℕ) → graph.IsCircle g xs → ⊥))
    → IfOk r (λ o. IfNone o ((xs : List ℕ) → IsCircle (Links lists) xs → ⊥))
circle_none (Ok (Some c)) g lists e h = h
circle_none (Ok None) g lists e h = λ xs c. h xs (subst (λ s. graph.IsCircle s xs) (sym e) (circle_to lists xs c))
circle_none (Err x) g lists e h = h

-- the names of one file more
pub names_next : (fs : List SourceFile) (ns : List ℕ) (i : ℕ) (f : SourceFile) (names new : List (List ℕ))
    (name : List ℕ) → i < length ns → AllByRecursion (λ k. k < length fs) ns → f ≡ get_or fs (get_or ns i 0) f
    → name ≡ f.name → names ≡ map (name_at (map program_file fs)) (take i ns) → new ≡ names ++ name ∷ []
    → new ≡ map (name_at (map program_file fs)) (take (i + 1) ns)
names_next fs ns i f names new name h w here named e g =
    g ∙ ap (λ n. names ++ n ∷ []) (named ∙ sym (name_of_file fs (get_or ns i 0) f (bound_at (length fs) ns i h w) here))
    ∙ ap (λ xs. xs ++ name_at (map program_file fs) (get_or ns i 0) ∷ []) e
    ∙ sym (map_one_more (name_at (map program_file fs)) ns i h)

pub on_ok : {T E P Q : Type 0} (r : Result T E) → (P → Q) → OnOk r P → OnOk r Q
on_ok (Ok x) f h = f h
on_ok (Err e) f h = tt

pub none_of : {A : Type 0} (P : Type 0) (o : Option A) → o ≡ None → IfNone o P → P
none_of P None e h = h
none_of P (Some x) e h = absurd (cc)

pub some_of : {A : Type 0} (P : A → Type 0) (o : Option A) (x : A) → o ≡ Some x → IfSome o P → P x
some_of P (Some y) x e h = let s : y ≡ x = cc in subst P s h
some_of P None x e h = absurd (cc)

-- all numbers of a circle of files are those of files
pub circle_in : (fs gs : List SourceFile) (cs ds : List ℕ) → gs ≡ fs → ds ≡ cs
    → AreWithin (length fs) (links_of (map program_file fs)) → IsCircle (Links (links_of (map program_file fs))) cs
    → AllByRecursion (λ k. k < length gs) ds
circle_in fs gs cs ds e f w h =
    subst (λ xs. AllByRecursion (λ k. k < length xs) ds) (sym e)
    (subst (AllByRecursion (λ k. k < length fs)) (sym f)
    (circle_within (length fs) (links_of (map program_file fs)) cs w h))

pub circle_as : (fs gs : List SourceFile) (cs ds : List ℕ) → gs ≡ fs → ds ≡ cs
    → IsCircle (Links (links_of (map program_file fs))) cs → IsCircle (Links (links_of (map program_file gs))) ds
circle_as fs gs cs ds e f h =
    subst (λ xs. IsCircle (Links (links_of (map program_file xs))) ds) (sym e)
    (subst (IsCircle (Links (links_of (map program_file fs)))) (sym f) h)
